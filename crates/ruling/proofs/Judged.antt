-- The rulings over what the judge is shown are those of the rules, of every house of which it is shown.
-- Assumes nothing.
use Prim.Native.Nat.{ℕ, zero, suc, ◌+◌, ◌*◌, ◌%◌, ◌<◌}
use native.Mathlib.Omega.{arith}
use native.Mathlib.Nat.{add-zero, zero-add, mod-lt, mod-eq_of_lt}
use mathlib.Core.Path.{◌≡◌, refl, sym, ap, ◌∙◌}
use mathlib.Core.Logic.{◌≢◌, inl, inr}
use mathlib.Core.Bool.{Bool, true, false, cond, ◌&&◌, ◌||◌}
use mathlib.Core.List.{List, [], ◌∷◌, ◌++◌}
use lib.ListN.{length, drop, get_or, replicate, length-replicate}
use lib.Seq.{get_or-append-add}
use lib.Dec.{eqb, leb}
use borrow.Author.Tests.{eq-eqb, ne_eqb, leb-false}
use Rattle.std.specs.Prelude.{Option, Some, None}
use Rattle.house.specs.declared.House.{House}
use Rattle.house.specs.declared.Item.{Item}
use Rattle.house.specs.declared.Mark.TheVariants.{Write}
use Rattle.house.specs.declared.Place.{Place}
use Rattle.house.specs.declared.Refusal.{Refusal}
use Rattle.house.specs.declared.Refusal.TheVariants.{NoOperation, NoLevel, UnusedSet, Unknown, Crowded, Ticketless}
use Rattle.house.specs.declared.Request.{Request}
use Rattle.house.specs.declared.Rule.TheVariants.{A}
use Rattle.house.specs.Search.{scan, any, find, find_first, on_round, find_round, if_found, nobody}
use Rattle.house.specs.Cell.{holds}
use Rattle.house.specs.House.{blank, vacant, item_at, pending_at, place_at, next_at, free_at, has_ticket, seek, vacancy}
use Rattle.house.specs.Rules.{begin, certify, ◌does◌, asker, no_operation, no_level, unused_set, uses_item, hinders, wants, holder_on, conflict, holder, reasons}
use Rattle.house.proofs.Unfolding.{tests}
use Rattle.house.proofs.Operations.{operation_of, is_begin, is_read, is_write, is_certify, is_commit, is_abort, is_ask}
use Rattle.std.proofs.lemmas.Bool.{cases_Bool, or_right}
use Rattle.house.proofs.Tests.{same}
use Rattle.house.proofs.Checks.{there, level_there}
use Rattle.house.proofs.Searches.{any_find, none_found, scan_same, scan_first}
use Rattle.house.proofs.Holders.{conflict_on, conflict_never}
use Rattle.house.proofs.Places.{seek_at}
use Rattle.house.specs.declared.Answer.TheVariants.{Ticket}
use Rattle.ruling.specs.declared.Case.{Case}
use Rattle.ruling.specs.declared.Change.TheVariants.{Begin}
use Rattle.ruling.specs.declared.Ruling.{Ruling}
use Rattle.ruling.specs.declared.Ruling.TheVariants.{Refuse, Wait, Grant}
use Rattle.ruling.specs.declared.View.{View}
use Rattle.ruling.specs.Ruling.{chain, granted, ruled}
use Rattle.ruling.specs.Judged.{Shown, Judged, found, lowest_holder, waits_at, certify_holder, begin_ruled, read_ruled, write_ruled, certify_ruled, commit_ruled, known_ruled}

abbrev past_refusals : House → Request → Ruling
past_refusals h q = if_found (holder h q) Wait (granted h q)

-- A search over the 32 from b on is one over the eight, moved

abbrev moved : ℕ → Option ℕ → Option ℕ
moved b (Some k) = Some (b + k)
moved b None = None

from_j : (f g : ℕ → Bool) (b j n : ℕ) → ((k : ℕ) → k < j + n → f (b + k) ≡ g k) → find f (b + j) n ≡ moved b (find g j n)
unfolding scan
from_j f g b j zero e = refl
from_j f g b j (suc n) e =
    let s : suc (b + j) ≡ b + suc j = omega arith in
    let here = e j (omega arith) in
    elim (cases_Bool (g j)) [
      | inl y ↦ rw (here, y)
      | inr y ↦ rw (here, y, s) (from_j f g b (suc j) n (λ k h. e k (omega arith)))
    ]

find_moved : (f g : ℕ → Bool) (b n : ℕ) → ((k : ℕ) → k < n → f (b + k) ≡ g k) → find f b n ≡ moved b (find g 0 n)
find_moved f g b n e = rw (add-zero b) at (from_j f g b 0 n (λ k h. e k (omega arith)))

-- and so is a round
round_moved : (f g : ℕ → Bool) (b n start : ℕ) → ((k : ℕ) → k < n → f (b + k) ≡ g k) → find_round f b n start ≡ moved b (find_round g 0 n start)
round_moved f g b n start e =
    let all = on_round b n start in
    let eight = on_round 0 n start in
    let tests = scan_same (λ k. f (all k)) (λ k. g (eight k)) (λ k r. Some k) None 0 n (λ k a h. e _ (mod-lt (start + k) (omega arith)) ∙ rw (zero-add ((start + k) % n))) in
    rw (scan_first (λ k. f (all k)) (λ k. Some (all k)) None 0 n, scan_first (λ k. g (eight k)) (λ k. Some (eight k)) None 0 n, tests) (places (find (λ k. g (eight k)) 0 n))
  where
    places : (who : Option ℕ) → if_found who (λ k. Some (on_round b n start k)) None ≡ moved b (if_found who (λ k. Some (on_round 0 n start k)) None)
    places (Some k) = rw (zero-add ((start + k) % n))
    places None = refl

-- Of those that have w, whom the first that finds somebody finds: the lowest that has somebody, and whoever that is
first_some : (w : ℕ → Bool) (f : ℕ → ℕ → Bool) (k n : ℕ) → find_first (λ i. cond (w i) (find (f i) 0 32) None) k n ≡ if_found (find (λ i. w i && any (f i) 0 32) k n) (λ i. find (f i) 0 32) None
unfolding scan
first_some w f k zero = refl
first_some w f k (suc n) =
    elim (cases_Bool (w k)) [
      | inl y ↦ elim (cases_Bool (any (f k) 0 32)) [
        | inl e ↦ let p = any_find (f k) 0 32 e in rw (y, e, p.1)
        | inr e ↦ rw (y, e, none_found (f k) 0 32 e) (first_some w f (suc k) n)
      ]
      | inr y ↦ rw y (first_some w f (suc k) n)
    ]

-- the case of the transaction at place `me`
abbrev made : ℕ → List ℕ → Item → ℕ → Place → Request → ℕ → Case
made count order x v s q me = record { request = q; count = count; order = order; row = x; pending = v; me = me; seat = s }

-- THE RULING OVER WHAT IS SHOWN: the checks that look at the request alone, and then a begin, or the operation of the transaction found

abbrev request_checks : Request → List (Refusal × Bool)
request_checks q = (NoOperation, no_operation q) ∷ (NoLevel, no_level q) ∷ (UnusedSet, unused_set q) ∷ []

abbrev operation_ruled : View → List ℕ → Request → Ruling
operation_ruled v cells q =
    let begin' = begin_ruled (vacancy v.eight 0) v.ticket q.level in
    let others = if_found (seek v.eight 0 q.ticket) (λ k. known_ruled (found v q k) cells) (Refuse Unknown) in
    cond (q does begin) begin' others

unfoldable pub shown_ruled : View → List ℕ → Request → Ruling
shown_ruled v cells q = chain (request_checks q) (operation_ruled v cells q)

-- WHAT IS RULED, over the house, past the checks of the request alone

granted_begin : (free : Option ℕ) (t l : ℕ) → let all = moved (l * 8) free in
    cond (nobody all) (Refuse Crowded) (cond (eqb t 0) (Refuse Ticketless) (if_found all (λ me. Grant (Ticket t) (Begin l me)) (Refuse Crowded))) ≡ begin_ruled free t l
unfolding begin_ruled
granted_begin (Some k) t l = refl
granted_begin None t l = refl

module _ (h : House) (q : Request) where
  -- the checks of the request alone have passed: the rest of the chain decides
  abbrev rest : Ruling
  rest = chain (drop (length (request_checks q)) (reasons h q)) (past_refusals h q)

  undelayed : (who : Option ℕ) → q.operation ≡ begin → if_found who (conflict h.cells q) None ≡ None
  undelayed (Some me) o = conflict_never h.cells q me (rw o) (rw o)
  undelayed None o = refl

  begin_ruled_lem : q.operation ≡ begin → (free : Option ℕ) → vacancy h.places q.level ≡ moved (q.level * 8) free → rest ≡ begin_ruled free (next_at h.next q.level) q.level
  unfolding tests granted
  begin_ruled_lem o free e = rw (undelayed (asker h q) o, o, e) (granted_begin free (next_at h.next q.level) q.level)

  unknown_ruled : q.operation ≢ begin → asker h q ≡ None → rest ≡ Refuse Unknown
  unfolding tests
  unknown_ruled o e = rw (ne_eqb q.operation 0 o, e)

  module _ (me : ℕ) (at : asker h q ≡ Some me) where
    abbrev case : Case
    case = made h.count h.order (item_at h.items q.item) (pending_at h.pending q.item) (place_at h.places me) q me

    abbrev lacks : Bool
    lacks = leb h.count q.item || leb 64 q.item

    -- a read or a write asks for a lock on its item, where that is there; a certify on what it has written; any other for none
    on_item_lem : uses_item q ≡ true → lacks ≡ false → conflict h.cells q me ≡ lowest_holder h.cells q.operation me q.item
    on_item_lem u e = conflict_on h.cells q me u (there h.count q.item e).1

    on_written : q.operation ≡ certify → conflict h.cells q me ≡ certify_holder h.cells me
    unfolding conflict holder_on wants waits_at
    on_written o = simp o (first_some (holds h.cells Write me) (hinders h.cells certify me) 0 64)

    on_none : uses_item q ≡ false → q does certify ≡ false → conflict h.cells q me ≡ None
    on_none = conflict_never h.cells q me

    known_ruled_lem : no_operation q ≡ false → q.operation ≢ begin → rest ≡ known_ruled case h.cells
    unfolding tests granted known_ruled read_ruled write_ruled certify_ruled commit_ruled
    known_ruled_lem n b = elim (operation_of q n) [
      | is_begin o ↦ absurd (b o)
      | is_read o ↦ elim (cases_Bool lacks) [ inl e ↦ simp (at, o, e) | inr e ↦ simp (at, on_item_lem (rw o) e, o) ]
      | is_write o ↦ elim (cases_Bool lacks) [ inl e ↦ simp (at, o, e) | inr e ↦ simp (at, on_item_lem (rw o) e, o) ]
      | is_certify o ↦ simp (at, on_written o, o)
      | is_commit o ↦ simp (at, on_none (rw o) (rw o), o)
      | is_abort o ↦ simp (at, on_none (rw o) (rw o), o)
      | is_ask o ↦ simp (at, on_none (rw o) (rw o), o)
    ]

-- The row and the pending value of an item that the house has not are not looked at

module _ (q : Request) (me : ℕ) where
  row_unseen : (count v v' : ℕ) (order : List ℕ) (x x' : Item) (s : Place) (cells : List ℕ) → leb 64 q.item ≡ true → known_ruled (made count order x v s q me) cells ≡ known_ruled (made count order x' v' s q me) cells
  unfolding known_ruled read_ruled write_ruled certify_ruled commit_ruled
  row_unseen count v v' order x x' s cells e = let none : (leb count q.item || leb 64 q.item) ≡ true = or_right (leb count q.item) _ e in rw none

  case_same : {count count' v v' : ℕ} {x x' : Item} {s s' : Place} {order order' cells cells' : List ℕ}
      → count ≡ count' → order ≡ order' → (q.item < 64 → x ≡ x') → (q.item < 64 → v ≡ v') → s ≡ s' → cells ≡ cells'
      → known_ruled (made count order x v s q me) cells ≡ known_ruled (made count' order' x' v' s' q me) cells'
  case_same c o r p e k =
      rw (c, o, e, k)
      (elim (cases_Bool (leb 64 q.item)) [
        | inl n ↦ row_unseen _ _ _ _ _ _ _ _ n
        | inr b ↦ let a = leb-false 64 q.item b in rw (r a, p a)
      ])

-- The one is the other, for every house of which that is shown

-- past a test that fails, only the rest counts
unless : {A : Type 0} (t : Bool) (a x y : A) → (t ≡ false → x ≡ y) → cond t a x ≡ cond t a y
unless true a x y e = refl
unless false a x y e = e refl

module _ (v : View) (cells : List ℕ) (q : Request) (h : House) (k : Shown h q v cells) where
  module _ (known : no_operation q ≡ false) (low : no_level q ≡ false) where
    abbrev level : q.level < 4
    level = level_there q low

    seek_eight : asker h q ≡ moved (q.level * 8) (seek v.eight 0 q.ticket)
    unfolding seek has_ticket free_at
    seek_eight = round_moved (has_ticket h.places q.ticket) (has_ticket v.eight q.ticket) (q.level * 8) 8 q.ticket (λ n b. rw (k.places level n b))

    vacancy_eight : vacancy h.places q.level ≡ moved (q.level * 8) (vacancy v.eight 0)
    unfolding vacancy free_at
    vacancy_eight = find_moved _ _ (q.level * 8) 8 (λ n b. rw (k.places level n b))

    others_shown : q.operation ≢ begin → (who : Option ℕ) → seek v.eight 0 q.ticket ≡ who → rest h q ≡ if_found who (λ n. known_ruled (found v q n) cells) (Refuse Unknown)
    others_shown o None e = unknown_ruled h q o (seek_eight ∙ rw e)
    others_shown o (Some n) e =
        let b = (seek_at v.eight 0 q.ticket n (omega arith) e).within.level in
        let me = q.level * 8 + n in
        known_ruled_lem h q me (seek_eight ∙ rw e) known o ∙ case_same q me k.count k.order k.row k.pending (k.places level n (omega arith)) k.cells

    rest_shown : rest h q ≡ operation_ruled v cells q
    rest_shown = elim (same q.operation begin) [
      | inl o ↦ rw (eq-eqb _ _ o) (begin_ruled_lem h q o (vacancy v.eight 0) vacancy_eight ∙ rw (k.ticket level))
      | inr o ↦ rw (ne_eqb _ _ o) (others_shown o _ refl)
    ]

  ruled_shown : ruled h q ≡ shown_ruled v cells q
  unfolding tests ruled shown_ruled
  ruled_shown =
      unless (no_operation q) _ _ _ (λ a. unless (no_level q) _ _ _ (λ b. unless (unused_set q) _ _ _ (λ c. rest_shown a b)))

pub judged : (v : View) (cells : List ℕ) (q : Request) (r : Ruling) → r ≡ shown_ruled v cells q → Judged v cells q r
unfolding Judged
judged v cells q r e h k = e ∙ sym (ruled_shown v cells q h k)

-- Some house shows what the judge is shown, whatever that is; so `Judged` settles the ruling

after : {A : Type 0} (n k : ℕ) (d : A) (l : List A) → get_or (replicate n d ++ l) (n + k) d ≡ get_or l k d
after n k d l = rw (length-replicate n d) at (get_or-append-add (replicate n d) l k d)

module _ (v : View) (cells : List ℕ) (q : Request) where
  some : House
  some =
      record {
        count = v.count;
        order = v.order;
        rule = A;
        items = replicate q.item blank ++ v.row ∷ [];
        pending = replicate q.item 0 ++ v.pending ∷ [];
        places = replicate (q.level * 8) vacant ++ v.eight;
        next = replicate q.level 0 ++ v.ticket ∷ [];
        cells = cells;
      }

  witness : Shown some q v cells
  unfolding some
  witness =
      record {
        count = refl;
        order = refl;
        places = λ b k c. after (q.level * 8) k vacant v.eight;
        ticket = λ b. rw (add-zero q.level) at (after q.level 0 0 (v.ticket ∷ []));
        row = λ b. rw (add-zero q.item) at (after q.item 0 blank (v.row ∷ []));
        pending = λ b. rw (add-zero q.item) at (after q.item 0 0 (v.pending ∷ []));
        cells = refl;
      }

  pub judged_settles : (r r' : Ruling) → Judged v cells q r → Judged v cells q r' → r ≡ r'
  unfolding Judged
  judged_settles r r' a b = a _ witness ∙ sym (b _ witness)

-- What a function that has the house shows of it. A level or an item that the house has not is shown as another; the judge
-- looks at neither

abbrev pub eight_of : List Place → ℕ → List Place
eight_of all b = place_at all b ∷ place_at all (b + 1) ∷ place_at all (b + 2) ∷ place_at all (b + 3) ∷ place_at all (b + 4) ∷ place_at all (b + 5) ∷ place_at all (b + 6) ∷ place_at all (b + 7) ∷ []

pub eight_at : (all : List Place) (b k : ℕ) → k < 8 → place_at all (b + k) ≡ place_at (eight_of all b) k
eight_at all b zero h = rw (add-zero b)
eight_at all b (suc zero) h = refl
eight_at all b (suc (suc zero)) h = refl
eight_at all b (suc (suc (suc zero))) h = refl
eight_at all b (suc (suc (suc (suc zero)))) h = refl
eight_at all b (suc (suc (suc (suc (suc zero))))) h = refl
eight_at all b (suc (suc (suc (suc (suc (suc zero)))))) h = refl
eight_at all b (suc (suc (suc (suc (suc (suc (suc zero))))))) h = refl
eight_at all b (suc (suc (suc (suc (suc (suc (suc (suc k)))))))) h = absurd (omega arith)

abbrev pub view_of : House → Request → View
view_of h q =
    let l = q.level % 4 in
    let i = q.item % 64 in
    record { count = h.count; order = h.order; eight = eight_of h.places (l * 8); ticket = next_at h.next l; row = item_at h.items i; pending = pending_at h.pending i }

pub shows : (h : House) (q : Request) → Shown h q (view_of h q) h.cells
shows h q =
    record {
      count = refl;
      order = refl;
      places = λ b k c. eight_at h.places (q.level * 8) k c ∙ ap (λ l. place_at (eight_of h.places (l * 8)) k) (sym (mod-eq_of_lt b));
      ticket = λ b. ap (next_at h.next) (sym (mod-eq_of_lt b));
      row = λ b. ap (item_at h.items) (sym (mod-eq_of_lt b));
      pending = λ b. ap (pending_at h.pending) (sym (mod-eq_of_lt b));
      cells = refl;
    }
