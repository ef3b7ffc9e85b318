-- What a house still has of the work of an open transaction: its writes, as the items that it holds with their pending values,
-- and for each read the lock, under which the committed pair is the one that was answered unless the cell is signalled.
-- Assumes nothing.
use Prim.Native.Nat.{ℕ, suc, ◌+◌, ◌<◌}
use native.Mathlib.Omega.{arith}
use native.Mathlib.Nat.{zero-add, add-zero, suc-add, add-suc}
use mathlib.Core.Path.{◌≡◌, refl, sym, ap₂, ◌∙◌}
use mathlib.Core.Logic.{◌≢◌, inl, inr}
use mathlib.Core.Bool.{true, false, cond}
use mathlib.Core.List.{List, [], ◌∷◌, map}
use lib.ListN.{length, get_or, get_or-map}
use lib.Dec.{eqb}
use borrow.Author.Tests.{eq-eqb, ne_eqb, lt-ltb}
use Rattle.house.specs.declared.Answer.TheVariants.{Done}
use Rattle.house.specs.declared.House.{House}
use Rattle.house.specs.declared.Item.{Item}
use Rattle.house.specs.declared.Mark.TheVariants.{Read, Write, Certify, Signalled}
use Rattle.house.specs.declared.Request.{Request}
use Rattle.house.specs.Search.{map_from}
use Rattle.house.specs.Cell.{has, cell_at, holds, is_signalled}
use Rattle.house.specs.House.{blank, item_at, pending_at}
use Rattle.house.specs.Rules.{read, write, grown, begun, read_by, read_answer, read_for, written_by, certified_by, left, committed_item, committed_by, aborted_by, replied}
use Rattle.std.proofs.lemmas.Bool.{cases_Bool, false_from_ne_true}
use Rattle.house.proofs.Tests.{same, clash}
use Rattle.house.proofs.Holders.{unsignalled}
use Rattle.house.proofs.Effects.{written_pending, written_pending_other}
use Rattle.reach.proofs.Law.{held, held_write, held_certify, Law, Frame, clear_held, held_kept}
use Rattle.reach.proofs.Turns.{MayBegin, MayRead, MayWrite, MayCertify, MayCommit}
use Rattle.reach.proofs.Changes.{uncertified, begin_clear, read_mine, read_held, write_mine, write_held, write_holds, certify_held, certify_read, certify_signalled}
use Rattle.serial.specs.Demand.{Event, wrote, Row, row, table, answer}
use Rattle.serial.proofs.Past.{Past, shown, alone, Repeats}

-- the answer to a read of the transaction at p, which had done `own` before
pub record Vouched (h : House) (p : ℕ) (own : Past) (e : Event) : Type 0 where
  pub item : e.0.item < 64
  pub locked : has Read (cell_at h.cells p e.0.item) ≡ true
  pub stands : has Signalled (cell_at h.cells p e.0.item) ≡ false → shown own e.0.item (row (item_at h.items e.0.item)) ≡ answer e

abbrev pub Vouches : House → ℕ → Past → Type 0
Vouches h p [] = Unit {0}
Vouches h p (e ∷ own) = (wrote e ≡ false → Vouched h p own e) × Vouches h p own

-- all that the transaction at p has done
pub record Told (h : House) (p : ℕ) (own : Past) : Type 0 where
  pub writes : (i : ℕ) → i < 64 → (r : Row) → shown own i r ≡ cond (held (cell_at h.cells p i)) (pending_at h.pending i, r.1 + 1) r
  pub reads : Vouches h p own

-- THE OTHERS: what is told of a transaction stays so when another one changes the house

module _ {h h' : House} {me : ℕ} (L : Law h) (F : Frame h h' me) (p : ℕ) (b : p < 32) (n : p ≢ me) where
  vouches_kept : (own : Past) → Vouches h p own → Vouches h' p own
  vouches_kept [] v = tt
  vouches_kept (e ∷ own) v = (
    (λ r.
        let k = v.0 r in
        let s = F.cell p e.0.item b k.item n in
        record {
          item = k.item;
          locked = s.reading ∙ k.locked;
          stands = λ f.
              rw (F.row p e.0.item b k.item n k.locked f)
              (elim (cases_Bool (has Signalled (cell_at h.cells p e.0.item))) [ inl g ↦ clash (s.signal g) f | inr g ↦ k.stands g ]);
        }),
    vouches_kept own v.1,
  )

  pub told_kept : (own : Past) → Told h p own → Told h' p own
  told_kept own k =
      record {
        writes = λ i a r.
            k.writes i a r
            ∙ elim (cases_Bool (held (cell_at h.cells p i))) [ inl g ↦ rw (held_kept L F p i b a n, (F.item p i b a n g).1) | inr g ↦ rw (held_kept L F p i b a n, g) ];
        reads = vouches_kept own k.reads;
      }

-- ITS OWN: where it loses no read lock and no committed pair changes
vouches_mine : (h h' : House) (me : ℕ)
    → ((i : ℕ) → i < 64 → has Read (cell_at h.cells me i) ≡ true → has Read (cell_at h'.cells me i) ≡ true)
    → ((i : ℕ) → i < 64 → has Signalled (cell_at h'.cells me i) ≡ has Signalled (cell_at h.cells me i))
    → ((i : ℕ) → i < 64 → row (item_at h'.items i) ≡ row (item_at h.items i))
    → (own : Past)
    → Vouches h me own
    → Vouches h' me own
vouches_mine h h' me r s w [] v = tt
vouches_mine h h' me r s w (e ∷ own) v = (
  (λ o.
      let k = v.0 o in
      record {
        item = k.item;
        locked = r _ k.item k.locked;
        stands = λ f. rw (w e.0.item k.item) (k.stands (sym (s _ k.item) ∙ f));
      }),
  vouches_mine h h' me r s w own v.1,
)

-- Begin: nothing is done yet
pub begin_told : {h : House} {l me : ℕ} → Law h → MayBegin h l me → Told (begun h l me) me []
unfolding shown
begin_told L K = record { writes = λ i a r. rw (clear_held _ (begin_clear L K i a)); reads = tt }

-- Read
module _ {h : House} {me : ℕ} (L : Law h) (q : Request) (op : q.operation ≡ read) (K : MayRead h me q.item) (own : Past) (k : Told h me own) where
  -- what is answered is what the transaction alone would read
  read_answer_lem : shown own q.item (row (item_at h.items q.item)) ≡ answer (q, replied q (read_for h me q.item))
  unfolding held holds read_answer grown
  read_answer_lem =
      let x = item_at h.items q.item in
      k.writes q.item K.row (row x)
      ∙ elim (cases_Bool (has Write (cell_at h.cells me q.item))) [
        | inl w ↦ rw (w, lt-ltb x.version 4294967295 ((L.cells me q.item K.place K.row).room (held_write _ w)))
        | inr w ↦ rw (w, uncertified L K.place K.active q.item K.row)
      ]

  pub read_told : Told (read_by h me q.item) me ((q, replied q (read_for h me q.item)) ∷ own)
  unfolding read_by shown
  read_told =
      record {
        writes = λ j a r. rw (op, read_held L K j a) (k.writes j a r);
        reads = (
          (λ o.
              record {
                item = K.row;
                locked = read_mine L K Read q.item K.row ∙ rw (eq-eqb q.item q.item refl);
                stands = λ s. read_answer_lem;
              }),
          vouches_mine h (read_by h me q.item) me
              (λ j a r. read_mine L K Read j a ∙ elim (cases_Bool (eqb j q.item)) [ inl e ↦ rw e | inr e ↦ rw e r ])
              (λ j a. read_mine L K Signalled j a) (λ j a. refl) own k.reads,
        );
      }

-- Write
module _ {h : House} {me : ℕ} (L : Law h) (q : Request) (op : q.operation ≡ write) (K : MayWrite h me q.item q.value) (own : Past) (k : Told h me own) where
  write_shown : (j : ℕ) → j < 64 → (r : Row) → shown ((q, replied q Done) ∷ own) j r ≡ cond (held (cell_at (written_by h me q.item q.value).cells me j)) (pending_at (written_by h me q.item q.value).pending j, r.1 + 1) r
  unfolding shown
  write_shown j a r =
      rw op
      (elim (same j q.item) [
        | inl d ↦ rw (d, eq-eqb q.item q.item refl, write_holds L K, written_pending L.sizes me q.item q.value K.row)
        | inr n ↦ rw (ne_eqb q.item j (λ d. n (sym d)), write_held L K j a n, written_pending_other h me q.item q.value j n) (k.writes j a r)
      ])

  pub write_told : Told (written_by h me q.item q.value) me ((q, replied q Done) ∷ own)
  unfolding written_by
  write_told =
      record {
        writes = write_shown;
        reads = (
          (λ o. clash (rw op) o),
          vouches_mine h (written_by h me q.item q.value) me (λ j a r. write_mine L K Read j a ∙ r) (λ j a. write_mine L K Signalled j a) (λ j a. refl) own k.reads,
        );
      }

-- Certify
module _ {h : House} {me : ℕ} (L : Law h) (K : MayCertify h me) (own : Past) (k : Told h me own) where
  pub certify_told : Told (certified_by h me) me own
  unfolding certified_by
  certify_told =
      record {
        writes = λ i a r. k.writes i a r ∙ rw (certify_held L K i a);
        reads = vouches_mine h (certified_by h me) me (λ i a r. certify_read L K i a ∙ r) (certify_signalled L K) (λ i a. refl) own k.reads;
      }

-- THE TABLE of committed pairs: a commit changes it as the transaction alone does, all else leaves it

pub begin_table : (h : House) (l me : ℕ) → table (begun h l me) ≡ table h
unfolding begun
begin_table h l me = refl

pub read_table : (h : House) (me i : ℕ) → table (read_by h me i) ≡ table h
unfolding read_by
read_table h me i = refl

pub write_table : (h : House) (me i v : ℕ) → table (written_by h me i v) ≡ table h
unfolding written_by
write_table h me i v = refl

pub certify_table : (h : House) (me : ℕ) → table (certified_by h me) ≡ table h
unfolding certified_by
certify_table h me = refl

pub abort_table : (h : House) (me : ℕ) → table (aborted_by h me) ≡ table h
unfolding left
abort_table h me = refl

-- a change of each item, seen in the table
map_map_from : (k : ℕ) (f : ℕ → Item → Item) (g : ℕ → Row → Row) (l : List Item) → ((i : ℕ) → i < length l → row (f (k + i) (get_or l i blank)) ≡ g (k + i) (row (get_or l i blank))) → map row (map_from k f l) ≡ map_from k g (map row l)
unfolding map_from
map_map_from k f g [] e = refl
map_map_from k f g (x ∷ l) e = ap₂ ◌∷◌ (rw add-zero at (e 0 (omega arith))) (map_map_from (suc k) f g l (λ i a. rw (suc-add k i, ← add-suc k i) (e (suc i) (omega arith))))

module _ {h : House} {me : ℕ} (L : Law h) (K : MayCommit h me) (own : Past) (k : Told h me own) where
  -- committed, an item shows what the transaction alone shows at its end
  committed_shown : (i : ℕ) → i < 64 → row (committed_item h.cells h.pending me i (item_at h.items i)) ≡ shown own i (row (item_at h.items i))
  unfolding committed_item holds held grown
  committed_shown i a =
      let x = item_at h.items i in
      let c = cell_at h.cells me i in
      let none : has Write c ≡ false = false_from_ne_true _ (λ w. clash ((L.cells me i K.place a).writing w) (rw K.certified)) in
      elim (cases_Bool (has Certify c)) [
        | inl y ↦ simp (y, lt-ltb x.version 4294967295 ((L.cells me i K.place a).room (held_certify _ y))) (sym (k.writes i a (row x) ∙ rw (none, y)))
        | inr y ↦ rw y (sym (k.writes i a (row x) ∙ rw (none, y)))
      ]

  pub commit_table : table (committed_by h me) ≡ alone own (table h)
  unfolding alone
  commit_table = map_map_from 0 (committed_item h.cells h.pending me) (shown own) h.items (λ i a. rw zero-add (committed_shown i (let n = L.sizes.items in omega arith)))

-- at a commit no cell is signalled, so every read comes out the same
repeats : (h : House) (me : ℕ) → is_signalled h.cells me ≡ false → (own : Past) → Vouches h me own → Repeats (table h) own
repeats h me s [] v = tt
repeats h me s (e ∷ own) v = (
  (λ r.
      let k = v.0 r in
      rw (get_or-map row h.items e.0.item blank) (k.stands (unsignalled h.cells me s e.0.item k.item))),
  repeats h me s own v.1,
)

pub commit_repeats : {h : House} {me : ℕ} → MayCommit h me → (own : Past) → Told h me own → Repeats (table h) own
commit_repeats {h} {me} K own k = repeats h me K.unsignalled own k.reads
