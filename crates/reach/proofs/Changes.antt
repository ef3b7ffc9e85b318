-- What each operation's change leaves to the others (`.._frame`) and has of its own (`.._own`), operation by operation.
-- Assumes nothing.
use Prim.Native.Nat.{ℕ, ◌+◌, ◌<◌}
use native.Mathlib.Omega.{arith}
use mathlib.Core.Path.{◌≡◌, refl, sym, ap, ◌∙◌}
use mathlib.Core.Logic.{◌≢◌, ◌⊎◌, inl, inr}
use mathlib.Core.Bool.{Bool, true, false, ◌&&◌, ◌||◌, not, cond}
use mathlib.Core.List.{List}
use lib.ListN.{length}
use lib.Dec.{eqb, ltb}
use borrow.Author.Tests.{eq-eqb, ne_eqb}
use Rattle.house.specs.declared.House.{House}
use Rattle.house.specs.declared.Mark.{Mark}
use Rattle.house.specs.declared.Mark.TheVariants.{Read, Write, Certify, Signalled}
use Rattle.house.specs.declared.Rule.{Rule}
use Rattle.house.specs.declared.Rule.TheVariants.{A, B}
use Rattle.house.specs.declared.Standing.TheVariants.{Active}
use Rattle.house.specs.Cell.{has, marked, unmarked, cell_at, holds}
use Rattle.house.specs.House.{fixed, Sizes, above, level_of, item_at, pending_at, place_at, next_at, is_free}
use Rattle.house.specs.Rules.{certify, commit, ticket_after, begun, read_by, written_by, wrote, signals_at, signalled_cell, signalled, converted_cell, certified_by, dropped_pending, cleared_cell, left, committed_item, committed_by, aborted_by}
use Rattle.std.proofs.lemmas.Bool.{cases_Bool, false_from_ne_true, and_parts, or_left, or_right}
use Rattle.house.proofs.Tests.{same, clash}
use Rattle.house.proofs.Levels.{above_itself, above_intro}
use Rattle.house.proofs.Cells.{alike, has_marked, has_unmarked, has_with_mark}
use Rattle.house.proofs.Effects.{begun_sizes, begun_place, begun_next, read_sizes, written_sizes, signalled_long, signalled_cell_lem, certified_sizes, certified_place, certified_cell, left_sizes, left_pending, left_place, left_cell, committed_sizes, committed_item_lem, begun_place_other, begun_next_other, read_cell_other, written_cell_other, written_pending_other, certified_place_other, left_place_other, begun_fixed, read_fixed, written_fixed, certified_fixed, committed_fixed}
use Rattle.reach.specs.Kept.{Issued}
use Rattle.reach.proofs.Law.{held, held_write, held_neither, Law, clear_has, unheld, Spared, spared_same, Frame, Own, clear_own}
use Rattle.reach.proofs.Turns.{MayBegin, MayRead, MayWrite, MayCertify}

-- an active transaction has no certify lock
pub uncertified : {h : House} {me : ℕ} → Law h → me < 32 → (place_at h.places me).standing ≡ Active → (i : ℕ) → i < 64 → has Certify (cell_at h.cells me i) ≡ false
uncertified {h} {me} L m active i a = false_from_ne_true _ (λ e. clash ((L.cells me i m a).certifying e) (rw active))

-- BEGIN

-- the ticket after n is the next larger, or there is none
pub after_cases : (n : ℕ) → (ticket_after n ≡ n + 1) ⊎ (ticket_after n ≡ 0)
unfolding ticket_after
after_cases n = elim (cases_Bool (ltb n 4294967295)) [ inl e ↦ inl (rw e) | inr e ↦ inr (rw e) ]

module _ {h : House} {l me : ℕ} (L : Law h) (K : MayBegin h l me) where
  pub begin_clear : (i : ℕ) → i < 64 → cell_at (begun h l me).cells me i ≡ 0
  unfolding begun
  begin_clear i a = (L.cells me i K.place a).idle K.empty

  still_issued : (k t : ℕ) → Issued h k t → Issued (begun h l me) k t
  unfolding Issued
  still_issued k t x =
      elim (same k l) [
        | inl e ↦
            rw (e, begun_next L.sizes l me K.level)
            (λ z. let y : t < next_at h.next l = (rw e at x) K.ticket in elim (after_cases (next_at h.next l)) [ inl g ↦ omega arith | inr g ↦ absurd (z g) ])
        | inr n ↦ rw (begun_next_other h l me k n) x
      ]

  pub begin_frame : Frame h (begun h l me) me
  unfolding begun
  begin_frame =
      record {
        fixed = begun_fixed h l me;
        sizes = begun_sizes L.sizes l me;
        place = λ p b n. begun_place_other h l me p n;
        cell = λ p i b a n. spared_same refl;
        item = λ p i b a n x. (refl, refl);
        row = λ p i b a n x y. refl;
        issued = still_issued;
      }

  -- the ticket that it gives
  pub now_issued : Issued (begun h l me) l (next_at h.next l)
  unfolding Issued
  now_issued = rw (begun_next L.sizes l me K.level) (λ z. elim (after_cases (next_at h.next l)) [ inl g ↦ omega arith | inr g ↦ absurd (z g) ])

  pub begin_own : Own h (begun h l me) me
  unfolding Issued
  begin_own =
      clear_own begin_clear
      (λ p b n o x k t.
      let u : (place_at h.places p).ticket < next_at h.next l = (rw (k ∙ K.placed) at (L.issued p b x)) K.ticket in
      let w : (place_at h.places p).ticket ≡ next_at h.next l = rw (begun_place L.sizes l me K.place) at t in
      omega arith)
      (λ o. rw (begun_place L.sizes l me K.place, K.placed) now_issued)

-- READ

module _ {h : House} {me i : ℕ} (L : Law h) (K : MayRead h me i) where
  pub read_mine : (n : Mark) (j : ℕ) → j < 64 → has n (cell_at (read_by h me i).cells me j) ≡ (alike n Read && eqb j i || has n (cell_at h.cells me j))
  unfolding read_by
  read_mine n j a = has_with_mark h.cells L.sizes.cells n Read me i j K.place K.row a

  pub read_held : (j : ℕ) → j < 64 → held (cell_at (read_by h me i).cells me j) ≡ held (cell_at h.cells me j)
  unfolding held
  read_held j a = rw (read_mine Write j a, read_mine Certify j a)

  pub read_frame : Frame h (read_by h me i) me
  unfolding read_by Issued
  read_frame =
      record {
        fixed = read_fixed h me i;
        sizes = read_sizes L.sizes me i;
        place = λ p b n. refl;
        cell = λ p j b a n. spared_same (read_cell_other h me i p j K.row a (λ e. absurd (n e)));
        item = λ p j b a n x. (refl, refl);
        row = λ p j b a n x y. refl;
        issued = λ l t x. x;
      }

  pub read_own : Own h (read_by h me i) me
  unfolding read_by Issued
  read_own =
      let m = K.place in
      record {
        cells = λ j a.
            let k = L.cells me j m a in
            record {
              idle = λ f. clash f (rw K.active);
              writing = λ w. k.writing (sym (read_mine Write j a) ∙ w);
              certifying = λ w. k.certifying (sym (read_mine Certify j a) ∙ w);
              below = λ r. elim (same j i) [ inl e ↦ rw e K.may | inr n ↦ k.below (rw (read_mine Read j a, ne_eqb j i n) at r) ];
              heard = λ x. read_mine Read j a ∙ or_right (eqb j i) _ (k.heard (sym (read_mine Signalled j a) ∙ x));
              owned = λ g. k.owned (sym (read_held j a) ∙ g);
              room = λ g. k.room (sym (read_held j a) ∙ g);
            };
        sole = λ p j b a n g. unheld L p me j b m a n (sym (read_held j a) ∙ g);
        warns = λ p j b a n c r. clash (sym (read_mine Certify j a) ∙ c) (uncertified L m K.active j a);
        warned = λ p j b a n c r.
            elim (same j i) [
              | inl e ↦ clash c (rw e (K.uncontested p b n))
              | inr d ↦
                  let w = L.warned p me j b m a (λ e. n (sym e)) c (rw (read_mine Read j a, ne_eqb j i d) at r) in
                  record { higher = w.higher; signal = λ r. read_mine Signalled j a ∙ w.signal r }
            ];
        apart = λ p b n o x l t. n (L.apart p me b m x o l t);
        issued = λ o. L.issued me m o;
      }

-- WRITE

module _ {h : House} {me i v : ℕ} (L : Law h) (K : MayWrite h me i v) where
  pub write_mine : (n : Mark) (j : ℕ) → j < 64 → has n (cell_at (written_by h me i v).cells me j) ≡ (alike n Write && eqb j i || has n (cell_at h.cells me j))
  unfolding written_by
  write_mine n j a = has_with_mark h.cells L.sizes.cells n Write me i j K.place K.row a

  pub write_held : (j : ℕ) → j < 64 → j ≢ i → held (cell_at (written_by h me i v).cells me j) ≡ held (cell_at h.cells me j)
  unfolding held
  write_held j a n = rw (write_mine Write j a, write_mine Certify j a, ne_eqb j i n)

  pub write_holds : held (cell_at (written_by h me i v).cells me i) ≡ true
  write_holds = held_write _ (write_mine Write i K.row ∙ rw (eq-eqb i i refl))

  pub write_frame : Frame h (written_by h me i v) me
  unfolding written_by Issued
  write_frame =
      record {
        fixed = written_fixed h me i v;
        sizes = written_sizes L.sizes me i v;
        place = λ p b n. refl;
        cell = λ p j b a n. spared_same (written_cell_other h me i v p j K.row a (λ e. absurd (n e)));
        item = λ p j b a n x. (refl, elim (same j i) [ inl e ↦ clash x (rw e (K.uncontested p b n)) | inr d ↦ written_pending_other h me i v j d ]);
        row = λ p j b a n x y. refl;
        issued = λ l t x. x;
      }

  pub write_own : Own h (written_by h me i v) me
  unfolding written_by Issued
  write_own =
      let m = K.place in
      record {
        cells = λ j a.
            let k = L.cells me j m a in
            record {
              idle = λ f. clash f (rw K.active);
              writing = λ w. rw K.active;
              certifying = λ w. k.certifying (sym (write_mine Certify j a) ∙ w);
              below = λ r. k.below (sym (write_mine Read j a) ∙ r);
              heard = λ x. write_mine Read j a ∙ k.heard (sym (write_mine Signalled j a) ∙ x);
              owned = λ g. elim (same j i) [ inl e ↦ rw e K.mine | inr n ↦ k.owned (sym (write_held j a n) ∙ g) ];
              room = λ g. elim (same j i) [ inl e ↦ rw e K.room | inr n ↦ k.room (sym (write_held j a n) ∙ g) ];
            };
        sole = λ p j b a n g. elim (same j i) [ inl e ↦ rw e (K.uncontested p b n) | inr d ↦ unheld L p me j b m a n (sym (write_held j a d) ∙ g) ];
        warns = λ p j b a n c r. clash (sym (write_mine Certify j a) ∙ c) (uncertified L m K.active j a);
        warned = λ p j b a n c r.
            let w = L.warned p me j b m a (λ e. n (sym e)) c (sym (write_mine Read j a) ∙ r) in
            record { higher = w.higher; signal = λ r. write_mine Signalled j a ∙ w.signal r };
        apart = λ p b n o x l t. n (L.apart p me b m x o l t);
        issued = λ o. L.issued me m o;
      }

-- SIGNALS

pub either : (rule : Rule) → (rule ≡ A) ⊎ (rule ≡ B)
either A = inl refl
either B = inr refl

-- given, a signal marks the cell
signal_given : (gives : Bool) (order cells : List ℕ) (me p i c : ℕ) → gives ≡ true → wrote cells me i ≡ true → above order (level_of p) (level_of me) ≡ true → has Read c ≡ true → signalled_cell gives order cells me p i c ≡ marked Signalled c
unfolding signalled_cell
signal_given gives order cells me p i c g w u r = rw (g, w, u, r)

spared_signal : (c : ℕ) → has Read c ≡ true → Spared c (marked Signalled c)
spared_signal c r =
    record {
      clear = λ z. clash r (clear_has Read c z);
      reading = has_marked Read Signalled c;
      writing = has_marked Write Signalled c;
      certifying = has_marked Certify Signalled c;
      signal = λ s. has_marked Signalled Signalled c;
      heard = λ s. inr r;
    }

-- operation n of the transaction at `me` gives signals, and one to the cell of place p and item i
pub record Signal (h : House) (n me p i : ℕ) : Type 0 where
  pub gives : eqb (signals_at h.rule) n ≡ true
  pub wrote : wrote h.cells me i ≡ true
  pub higher : above h.order (level_of p) (level_of me) ≡ true
  pub read : has Read (cell_at h.cells p i) ≡ true

module _ {h : House} (z : Sizes h) (n me p i : ℕ) (b : p < 32) (a : i < 64) where
  -- to each such cell
  pub signal_reaches : Signal h n me p i → has Signalled (cell_at (signalled n h me) p i) ≡ true
  signal_reaches S =
      let c = cell_at h.cells p i in
      rw (signalled_cell_lem z n me p i b a, signal_given _ h.order h.cells me p i c S.gives S.wrote S.higher S.read) (has_marked Signalled Signalled c)

  -- and every other stays as it was
  signal_cases : (cell_at (signalled n h me) p i ≡ cell_at h.cells p i) ⊎ (Signal h n me p i × (cell_at (signalled n h me) p i ≡ marked Signalled (cell_at h.cells p i)))
  unfolding signalled_cell
  signal_cases =
      let gives = eqb (signals_at h.rule) n in
      let mine = gives && wrote h.cells me i in
      let up = above h.order (level_of p) (level_of me) in
      let same = signalled_cell_lem z n me p i b a in
      elim (cases_Bool (mine && up && has Read (cell_at h.cells p i))) [
        | inl y ↦
            let k = and_parts (mine && up) _ y in
            let l = and_parts mine up k.0 in
            let g = and_parts gives _ l.0 in
            inr (record { gives = g.0; wrote = g.1; higher = l.1; read = k.1 }, same ∙ rw y)
        | inr y ↦ inl (same ∙ rw y)
      ]

  pub signal_spared : Spared (cell_at h.cells p i) (cell_at (signalled n h me) p i)
  signal_spared = elim signal_cases [ inl e ↦ spared_same e | inr k ↦ rw k.1 (spared_signal _ k.0.read) ]

  pub signal_only : has Signalled (cell_at h.cells p i) ≡ false → has Signalled (cell_at (signalled n h me) p i) ≡ true → Signal h n me p i
  signal_only none s = elim signal_cases [ inl e ↦ clash s (ap (has Signalled) e ∙ none) | inr k ↦ k.0 ]

  pub signal_passes : above h.order (level_of p) (level_of me) ≡ false → cell_at (signalled n h me) p i ≡ cell_at h.cells p i
  signal_passes u = elim signal_cases [ inl e ↦ e | inr k ↦ clash k.0.higher u ]

-- nobody is above himself
pub signal_mine : {h : House} → Sizes h → (n me i : ℕ) → me < 32 → i < 64 → cell_at (signalled n h me) me i ≡ cell_at h.cells me i
signal_mine {h} z n me i m a = signal_passes z n me me i m a (above_itself h.order (level_of me))

-- CERTIFY

module _ {h : House} (z : Sizes h) (me : ℕ) where
  -- what is not mine is as the signals left it
  pub certify_other : (p i : ℕ) → p < 32 → i < 64 → p ≢ me → cell_at (certified_by h me).cells p i ≡ cell_at (signalled certify h me) p i
  unfolding converted_cell
  certify_other p i b a n = certified_cell z me p i b a ∙ rw (ne_eqb p me n)

  -- and mine is converted
  pub certify_converts : (i : ℕ) → me < 32 → i < 64 → let c = cell_at h.cells me i in cell_at (certified_by h me).cells me i ≡ cond (has Write c) (marked Certify (unmarked Write c)) c
  unfolding converted_cell
  certify_converts i m a = certified_cell z me me i m a ∙ rw (eq-eqb me me refl, signal_mine z certify me i m a)

module _ {h : House} {me : ℕ} (L : Law h) (K : MayCertify h me) where
  pub certify_frame : Frame h (certified_by h me) me
  unfolding certified_by Issued
  certify_frame =
      record {
        fixed = certified_fixed h me;
        sizes = certified_sizes L.sizes me;
        place = λ p b n. certified_place_other h me p n;
        cell = λ p i b a n. rw (certify_other L.sizes me p i b a n) (signal_spared L.sizes certify me p i b a);
        item = λ p i b a n x. (refl, refl);
        row = λ p i b a n x y. refl;
        issued = λ l t x. x;
      }

  -- my own cell, after it
  pub certify_mine : (n : Mark) (i : ℕ) → i < 64 → has n (cell_at (certified_by h me).cells me i) ≡ cond (has Write (cell_at h.cells me i)) (alike n Certify || not (alike n Write) && has n (cell_at h.cells me i)) (has n (cell_at h.cells me i))
  certify_mine n i a =
      let c = cell_at h.cells me i in
      rw (certify_converts L.sizes me i K.place a)
      (elim (cases_Bool (has Write c)) [ inl w ↦ rw (w, has_marked n Certify (unmarked Write c), has_unmarked n Write c) | inr w ↦ rw w ])

  pub certify_held : (i : ℕ) → i < 64 → held (cell_at (certified_by h me).cells me i) ≡ held (cell_at h.cells me i)
  unfolding held
  certify_held i a = rw (certify_mine Write i a, certify_mine Certify i a) (elim (cases_Bool (has Write (cell_at h.cells me i))) [ inl w ↦ rw w | inr w ↦ rw w ])

  pub certify_read : (i : ℕ) → i < 64 → has Read (cell_at (certified_by h me).cells me i) ≡ has Read (cell_at h.cells me i)
  certify_read i a = rw (certify_mine Read i a) (elim (cases_Bool (has Write (cell_at h.cells me i))) [ inl w ↦ rw w | inr w ↦ rw w ])

  pub certify_signalled : (i : ℕ) → i < 64 → has Signalled (cell_at (certified_by h me).cells me i) ≡ has Signalled (cell_at h.cells me i)
  certify_signalled i a = rw (certify_mine Signalled i a) (elim (cases_Bool (has Write (cell_at h.cells me i))) [ inl w ↦ rw w | inr w ↦ rw w ])

  certify_writes : (i : ℕ) → i < 64 → has Write (cell_at (certified_by h me).cells me i) ≡ false
  certify_writes i a = rw (certify_mine Write i a) (elim (cases_Bool (has Write (cell_at h.cells me i))) [ inl w ↦ rw w | inr w ↦ rw w ])

  -- what I have certified, I had written
  certify_certifies : (i : ℕ) → i < 64 → has Certify (cell_at (certified_by h me).cells me i) ≡ has Write (cell_at h.cells me i)
  certify_certifies i a =
      rw (certify_mine Certify i a)
      (elim (cases_Bool (has Write (cell_at h.cells me i))) [ inl w ↦ rw w | inr w ↦ rw w (uncertified L K.place K.active i a) ])

  -- a reader of what I wrote, at another place, is above me: the read rule puts it at my level or above, and my peers have no
  -- read lock
  reader_above : (p i : ℕ) → p < 32 → i < 64 → p ≢ me → has Write (cell_at h.cells me i) ≡ true → has Read (cell_at h.cells p i) ≡ true → above h.order (level_of p) (level_of me) ≡ true
  reader_above p i b a n w r =
      let mine = (L.cells me i K.place a).owned (held_write _ w) in
      above_intro h.order (level_of p) (level_of me) (rw mine at ((L.cells p i b a).below r)) (λ e. clash r (K.unread p i a n e w))

  pub certify_own : Own h (certified_by h me) me
  unfolding certified_by wrote holds
  certify_own =
      let m = K.place in
      record {
        cells = λ i a.
            let k = L.cells me i m a in
            rw (certified_place L.sizes me m)
            (record {
              idle = λ f. clash f refl;
              writing = λ w. clash w (certify_writes i a);
              certifying = λ c. refl;
              below = λ r. k.below (sym (certify_read i a) ∙ r);
              heard = λ x. certify_read i a ∙ k.heard (sym (certify_signalled i a) ∙ x);
              owned = λ g. k.owned (sym (certify_held i a) ∙ g);
              room = λ g. k.room (sym (certify_held i a) ∙ g);
            });
        sole = λ p i b a n g. unheld L p me i b m a n (sym (certify_held i a) ∙ g);
        warns = λ p i b a n c r.
            let w = sym (certify_certifies i a) ∙ c in
            let up = reader_above p i b a n w r in
            record {
              higher = up;
              signal = λ e. rw (certify_other L.sizes me p i b a n) (signal_reaches L.sizes certify me p i b a (record { gives = rw e; wrote = or_left (has Write (cell_at h.cells me i)) _ w; higher = up; read = r }));
            };
        warned = λ p i b a n c r.
            let w = L.warned p me i b m a (λ e. n (sym e)) c (sym (certify_read i a) ∙ r) in
            record { higher = w.higher; signal = λ e. certify_signalled i a ∙ w.signal e };
        apart = λ p b n o x l t. n (L.apart p me b m x (rw K.active) l (t ∙ rw (certified_place L.sizes me m)));
        issued = λ o. rw (certified_place L.sizes me m) (certify_frame.issued _ _ (L.issued me m (rw K.active)));
      }

-- COMMIT AND ABORT: the place is left, with such cells

module _ {h : House} (z : Sizes h) (cells : List ℕ) (me : ℕ) where
  pub freed : me < 32 → is_free (place_at (left cells h me).places me).standing ≡ true
  freed m = rw (left_place z cells me m)

  -- what I have written is pending no more; what I have not stays
  pub left_dropped : (i : ℕ) → i < 64 → held (cell_at h.cells me i) ≡ true → pending_at (left cells h me).pending i ≡ 0
  unfolding dropped_pending wrote holds held
  left_dropped i a y = left_pending z cells me i a ∙ rw y

  pub left_stays : (i : ℕ) → i < 64 → held (cell_at h.cells me i) ≡ false → pending_at (left cells h me).pending i ≡ pending_at h.pending i
  unfolding dropped_pending wrote holds held
  left_stays i a y = left_pending z cells me i a ∙ rw y

  module _ (long : length cells ≡ 2048) where
    pub left_other : (p i : ℕ) → p < 32 → i < 64 → p ≢ me → cell_at (left cells h me).cells p i ≡ cell_at cells p i
    unfolding cleared_cell
    left_other p i b a n = left_cell z cells me long p i b a ∙ rw (ne_eqb p me n)

    pub left_mine : (i : ℕ) → me < 32 → i < 64 → cell_at (left cells h me).cells me i ≡ 0
    unfolding cleared_cell
    left_mine i m a = left_cell z cells me long me i m a ∙ rw (eq-eqb me me refl)

module _ {h : House} {me : ℕ} (L : Law h) (m : me < 32) where
  -- where the others are at most signalled
  left_frame : (cells : List ℕ) → length cells ≡ 2048 → ((p i : ℕ) → p < 32 → i < 64 → Spared (cell_at h.cells p i) (cell_at cells p i)) → Frame h (left cells h me) me
  unfolding left fixed Issued
  left_frame cells long told =
      record {
        fixed = refl;
        sizes = left_sizes L.sizes cells me long;
        place = λ p b n. left_place_other h cells me p n;
        cell = λ p i b a n. rw (left_other L.sizes cells me long p i b a n) (told p i b a);
        item = λ p i b a n x. (refl, left_stays L.sizes cells me i a (unheld L me p i m b a (λ e. n (sym e)) x));
        row = λ p i b a n x y. refl;
        issued = λ l t x. x;
      }

  left_own : (cells : List ℕ) → length cells ≡ 2048 → Own h (left cells h me) me
  left_own cells long =
      let free = freed L.sizes cells me m in
      clear_own (λ i a. left_mine L.sizes cells me long i m a) (λ p b n o x l t. clash free o) (λ o. clash free o)

  pub abort_frame : Frame h (aborted_by h me) me
  abort_frame = left_frame h.cells L.sizes.cells (λ p i b a. spared_same refl)

  pub abort_own : Own h (aborted_by h me) me
  abort_own = left_own h.cells L.sizes.cells

  -- a commit is an abort, but for the signals and the rows that I hold certify on
  pub committed_row : (i : ℕ) → i < 64 → has Certify (cell_at h.cells me i) ≡ false → item_at (committed_by h me).items i ≡ item_at h.items i
  unfolding committed_item holds
  committed_row i a c = committed_item_lem L.sizes me i a ∙ rw c

  -- what another has read and I have certified is signalled after it: since the certify, or now
  commit_signals : (p i : ℕ) → p < 32 → i < 64 → p ≢ me → has Certify (cell_at h.cells me i) ≡ true → has Read (cell_at h.cells p i) ≡ true → has Signalled (cell_at (signalled commit h me) p i) ≡ true
  unfolding wrote holds
  commit_signals p i b a n c r =
      let w = L.warned me p i m b a n c r in
      elim (either h.rule) [
        | inl e ↦ (signal_spared L.sizes commit me p i b a).signal (w.signal e)
        | inr e ↦ signal_reaches L.sizes commit me p i b a (record { gives = rw e; wrote = or_right (has Write (cell_at h.cells me i)) _ c; higher = w.higher; read = r })
      ]

  -- so the row of a read that is not signalled stays
  read_row : (p i : ℕ) → p < 32 → i < 64 → p ≢ me → has Read (cell_at h.cells p i) ≡ true → has Signalled (cell_at (signalled commit h me) p i) ≡ false → item_at (committed_by h me).items i ≡ item_at h.items i
  read_row p i b a n r s = elim (cases_Bool (has Certify (cell_at h.cells me i))) [ inl c ↦ clash (commit_signals p i b a n c r) s | inr c ↦ committed_row i a c ]

  pub commit_frame : Frame h (committed_by h me) me
  unfolding Issued
  commit_frame =
      let cells = signalled commit h me in
      let long = signalled_long L.sizes commit me in
      let F = left_frame cells long (signal_spared L.sizes commit me) in
      record {
        fixed = committed_fixed h me;
        sizes = committed_sizes L.sizes me;
        place = F.place;
        cell = F.cell;
        item = λ p i b a n x. (committed_row i a (held_neither _ (unheld L me p i m b a (λ e. n (sym e)) x)).1, (F.item p i b a n x).1);
        row = λ p i b a n x y. read_row p i b a n x (rw (left_other L.sizes cells me long p i b a n) at y);
        issued = F.issued;
      }

  pub commit_own : Own h (committed_by h me) me
  commit_own =
      let cells = signalled commit h me in
      let free = freed L.sizes cells me m in
      clear_own (λ i a. left_mine L.sizes cells me (signalled_long L.sizes commit me) i m a) (λ p b n o x l t. clash free o) (λ o. clash free o)
