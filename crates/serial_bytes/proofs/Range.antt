-- Every number that the desk answers fits its bytes on the wire.
-- Assumes nothing.
use Prim.Native.Nat.{ℕ, zero, suc, ◌<◌, ◌≤◌}
use native.Mathlib.Omega.{arith}
use mathlib.Core.Path.{◌≡◌, refl}
use mathlib.Core.Logic.{◌≢◌, inl, inr}
use mathlib.Core.Bool.{Bool}
use mathlib.Core.List.{List, []}
use lib.ListN.{length, get_or}
use lib.Dec.{ltb}
use borrow.Author.Tests.{ltb-true}
use Rattle.std.specs.Prelude.{Option, Some, None}
use Rattle.house.specs.declared.House.{House}
use Rattle.house.specs.declared.Item.{Item}
use Rattle.house.specs.declared.Mark.TheVariants.{Write, Certify, Signalled}
use Rattle.house.specs.declared.Outcome.{Outcome}
use Rattle.house.specs.declared.Request.{Request}
use Rattle.house.specs.declared.Rule.{Rule}
use Rattle.house.specs.declared.Rule.TheVariants.{A}
use Rattle.house.specs.Search.{scan, count, if_found}
use Rattle.house.specs.Cell.{holds, first_signalled, count_signalled}
use Rattle.house.specs.House.{Sizes, item_at, pending_at, place_at, next_at}
use Rattle.house.specs.Rules.{commit, ticket_after, grown, begun, read_by, read_answer, read_for, written_by, wrote, signalled, certified_by, dropped_pending, left, committed_item, committed_by, ask_answer, said, replied, stepped}
use Rattle.house.specs.Order.{old_chain}
use Rattle.house.specs.Opening.{opened, opening}
use Rattle.std.proofs.lemmas.Bool.{cases_Bool}
use Rattle.house.proofs.Tests.{same}
use Rattle.house.proofs.Searches.{find_below}
use Rattle.house.proofs.Holders.{holder_at}
use Rattle.house.proofs.Levels.{old_chain_long}
use Rattle.house.proofs.Openings.{opened_sizes, opened_item, opened_pending, opened_place, opened_next}
use Rattle.house.proofs.Effects.{begun_sizes, begun_next, begun_next_other, begun_place, begun_place_other, signalled_long, certified_place, certified_place_other, left_place, left_place_other, read_sizes, written_sizes, written_pending, written_pending_other, certified_sizes, left_sizes, left_pending, committed_sizes, committed_item_lem}
use Rattle.wire.specs.Wire.{request_at}
use Rattle.wire.specs.RoundTrip.{FitRequest, FitReply}
use Rattle.reach.proofs.Turns.{Turn, turn, refused, waits, begins, reads, writes, certifies, commits, aborts, asks}
use Rattle.reach.proofs.Opened.{opening_cases}

pub record FitItem (x : Item) : Type 0 where
  pub value : x.value < 4294967296
  pub version : x.version < 4294967296

pub record Fits (h : House) : Type 0 where
  pub sizes : Sizes h
  pub items : (i : ℕ) → i < 64 → FitItem (item_at h.items i)
  pub pending : (i : ℕ) → i < 64 → pending_at h.pending i < 4294967296
  pub tickets : (p : ℕ) → p < 32 → (place_at h.places p).ticket < 4294967296
  pub next : (l : ℕ) → l < 4 → next_at h.next l < 4294967296

-- Numbers that grow

after_fits : (t : ℕ) → ticket_after t < 4294967296
unfolding ticket_after
after_fits t = elim (cases_Bool (ltb t 4294967295)) [ inl y ↦ rw y (omega (arith, ltb-true t 4294967295 y)) | inr n ↦ rw n (omega arith) ]

grown_fits : (v : ℕ) → v < 4294967296 → grown v < 4294967296
unfolding grown
grown_fits v b = elim (cases_Bool (ltb v 4294967295)) [ inl y ↦ rw y (omega (arith, ltb-true v 4294967295 y)) | inr n ↦ rw n b ]

count_fits : (f : ℕ → Bool) (k n : ℕ) → count f k n ≤ n
unfolding scan
count_fits f k zero = omega arith
count_fits f k (suc n) =
    let r = count_fits f (suc k) n in
    elim (cases_Bool (f k)) [ inl y ↦ rw y (omega arith) | inr y ↦ rw y (omega arith) ]

-- What becomes of an item at a commit, and of a pending value at either end

item_fits : (cells pending : List ℕ) (me i : ℕ) (x : Item) → pending_at pending i < 4294967296 → FitItem x → FitItem (committed_item cells pending me i x)
unfolding committed_item
item_fits cells pending me i x v f =
    elim (cases_Bool (holds cells Certify me i)) [
      | inl y ↦ rw y (record { value = v; version = grown_fits x.version f.version })
      | inr n ↦ rw n f
    ]

dropped_fits : (cells : List ℕ) (me i v : ℕ) → v < 4294967296 → dropped_pending cells me i v < 4294967296
unfolding dropped_pending
dropped_fits cells me i v b = elim (cases_Bool (wrote cells me i)) [ inl y ↦ rw y (omega arith) | inr n ↦ rw n b ]

module _ {h : House} (f : Fits h) where
  -- one place changed
  tickets_fit : (h' : House) (me : ℕ) → (place_at h'.places me).ticket < 4294967296 → ((p : ℕ) → p ≢ me → place_at h'.places p ≡ place_at h.places p) → (p : ℕ) → p < 32 → (place_at h'.places p).ticket < 4294967296
  tickets_fit h' me t others p b = elim (same p me) [ inl e ↦ rw e t | inr n ↦ rw (others p n) (f.tickets p b) ]

  begun_fits : (l me : ℕ) → l < 4 → me < 32 → Fits (begun h l me)
  unfolding begun
  begun_fits l me b m =
      record {
        sizes = begun_sizes f.sizes l me;
        items = f.items;
        pending = f.pending;
        tickets = tickets_fit (begun h l me) me (rw (begun_place f.sizes l me m) (f.next l b)) (begun_place_other h l me);
        next = λ k c. elim (same k l) [ inl e ↦ rw (e, begun_next f.sizes l me b) (after_fits (next_at h.next l)) | inr n ↦ rw (begun_next_other h l me k n) (f.next k c) ];
      }

  read_fits : (me i : ℕ) → Fits (read_by h me i)
  unfolding read_by
  read_fits me i = record { sizes = read_sizes f.sizes me i; items = f.items; pending = f.pending; tickets = f.tickets; next = f.next }

  written_fits : (me i v : ℕ) → i < 64 → v < 4294967296 → Fits (written_by h me i v)
  unfolding written_by
  written_fits me i v a b =
      record {
        sizes = written_sizes f.sizes me i v;
        items = f.items;
        pending = λ j c. elim (same j i) [ inl e ↦ rw (e, written_pending f.sizes me i v a) b | inr n ↦ rw (written_pending_other h me i v j n) (f.pending j c) ];
        tickets = f.tickets;
        next = f.next;
      }

  certified_fits : (me : ℕ) → me < 32 → Fits (certified_by h me)
  unfolding certified_by
  certified_fits me m =
      record {
        sizes = certified_sizes f.sizes me;
        items = f.items;
        pending = f.pending;
        tickets = tickets_fit (certified_by h me) me (rw (certified_place f.sizes me m) (f.tickets me m)) (certified_place_other h me);
        next = f.next;
      }

  left_fits : (cells : List ℕ) → length cells ≡ 2048 → (me : ℕ) → me < 32 → Fits (left cells h me)
  unfolding left
  left_fits cells long me m =
      record {
        sizes = left_sizes f.sizes cells me long;
        items = f.items;
        pending = λ i a. rw (left_pending f.sizes cells me i a) (dropped_fits h.cells me i _ (f.pending i a));
        tickets = tickets_fit (left cells h me) me (rw (left_place f.sizes cells me m) (omega arith)) (left_place_other h cells me);
        next = f.next;
      }

  committed_fits : (me : ℕ) → me < 32 → Fits (committed_by h me)
  committed_fits me m =
      let g = left_fits (signalled commit h me) (signalled_long f.sizes commit me) me m in
      record {
        sizes = committed_sizes f.sizes me;
        items = λ i a. rw (committed_item_lem f.sizes me i a) (item_fits h.cells h.pending me i (item_at h.items i) (f.pending i a) (f.items i a));
        pending = g.pending;
        tickets = g.tickets;
        next = g.next;
      }

-- What is answered

first_fits : (cells : List ℕ) (me : ℕ) (who : Option ℕ) → first_signalled cells me ≡ who → if_found who (λ i. i) 0 < 65536
unfolding first_signalled
first_fits cells me (Some p) e = let b = find_below (holds cells Signalled me) 0 64 p e in omega arith
first_fits cells me None e = omega arith

-- one request more
module _ {h : House} (f : Fits h) (q : Request) (k : FitRequest q) where
  abbrev Both : Outcome → Type 0
  Both o = Fits o.house × FitReply o.reply

  plain : (n : ℕ) → FitReply (said q n q.item q.ticket 0 0)
  plain n = record { item = k.item; ticket = k.ticket; value = omega arith; version = omega arith }

  read_answer_lem : (me : ℕ) → q.item < 64 → FitReply (replied q (read_for h me q.item))
  unfolding read_answer
  read_answer_lem me a =
      let x = f.items q.item a in
      elim (cases_Bool (holds h.cells Write me q.item)) [
        | inl y ↦ rw y (record { item = k.item; ticket = k.ticket; value = f.pending q.item a; version = grown_fits _ x.version })
        | inr n ↦ rw n (record { item = k.item; ticket = k.ticket; value = x.value; version = x.version })
      ]

  turn_fits : (o : Outcome) → Turn h q o → Both o
  unfolding ask_answer count_signalled
  turn_fits o (refused n) = (f, plain _)
  turn_fits o (waits p z e) = let b = (holder_at h q p e).2.place in (f, record { item = k.item; ticket = k.ticket; value = f.tickets p b; version = omega arith })
  turn_fits o (begins me z m) = (begun_fits f q.level me m.level m.place, record { item = k.item; ticket = f.next q.level m.level; value = omega arith; version = omega arith })
  turn_fits o (reads me z s m) = (read_fits f me q.item, read_answer_lem me m.row)
  turn_fits o (writes me z s m) = (written_fits f me q.item q.value m.row k.value, plain 0)
  turn_fits o (certifies me z s m) = (certified_fits f me m.place, plain 0)
  turn_fits o (commits me z s m) = (committed_fits f me m.place, plain 0)
  turn_fits o (aborts me z s) = (left_fits f h.cells f.sizes.cells me s.seated.within.place, plain 0)
  turn_fits o (asks me z s) = (f, record { item = first_fits h.cells me _ refl; ticket = k.ticket; value = omega (arith, count_fits (holds h.cells Signalled me) 0 64); version = omega arith })

pub step_fits : {h : House} → Fits h → (q : Request) → FitRequest q → Fits (stepped h q).house × FitReply (stepped h q).reply
step_fits {h} f q k = turn_fits f q k (stepped h q) (turn h q)

-- Where it starts, and what is asked

pub opening_fits : (levels order : List ℕ) (rule : Rule) → Fits (opening levels order rule).house
opening_fits levels order rule = opening_cases Fits levels order rule (λ P O. opened_fits levels order rule P.whole) (opened_fits [] old_chain A old_chain_long)
  where
    opened_fits : (l o : List ℕ) (r : Rule) → length o ≡ 16 → Fits (opened l o r)
    opened_fits l o r z =
        record {
          sizes = opened_sizes l o r z;
          items = λ i a. rw (opened_item l o r i a) (record { value = omega arith; version = omega arith });
          pending = λ i a. rw (opened_pending l o r i a) (omega arith);
          tickets = λ p b. rw (opened_place l o r p b) (omega arith);
          next = λ k b. rw (opened_next l o r k b) (omega arith);
        }

pub request_fits : (b : List ℕ) → ((k : ℕ) → get_or b k 0 < 256) → FitRequest (request_at b 0)
unfolding request_at
request_fits b s =
    record {
      item = omega (arith, s 2, s 3);
      ticket = omega (arith, s 4, s 5, s 6, s 7);
      value = omega (arith, s 8, s 9, s 10, s 11);
    }
