-- A commit puts what is pending, which is a sheet; nothing else changes a row. So a 0 is what the opening put there.
-- Assumes nothing.
use Prim.Native.Nat.{ℕ, ◌<◌}
use native.Mathlib.Omega.{arith}
use mathlib.Core.Path.{◌≡◌, refl, sym, ◌∙◌}
use mathlib.Core.Logic.{◌≢◌, ◌⊎◌, inl, inr}
use mathlib.Core.List.{List, [], ◌∷◌}
use lib.Dec.{eqb, ltb}
use borrow.Author.Tests.{ne_eqb, ltb-false}
use Rattle.house.specs.declared.House.{House}
use Rattle.house.specs.declared.Item.{Item}
use Rattle.house.specs.declared.Mark.TheVariants.{Write, Certify}
use Rattle.house.specs.declared.Outcome.{Outcome}
use Rattle.house.specs.declared.Request.{Request}
use Rattle.house.specs.declared.Rule.{Rule}
use Rattle.house.specs.Cell.{holds}
use Rattle.house.specs.House.{item_at}
use Rattle.house.specs.Rules.{grown, begun, read_by, written_by, wrote, certified_by, left, committed_item, committed_by, stepped}
use Rattle.house.specs.Order.{old_chain}
use Rattle.house.specs.Opening.{opened}
use Rattle.house.specs.Run.{finally}
use Rattle.std.proofs.lemmas.Bool.{cases_Bool, or_right}
use Rattle.house.proofs.Effects.{committed_item_lem}
use Rattle.house.proofs.Openings.{opened_item}
use Rattle.reach.specs.Kept.{Kept}
use Rattle.reach.specs.Sheets.{NoBlankPut, ZeroUnsaved}
use Rattle.reach.proofs.Turns.{Turn, refused, waits, begins, reads, writes, certifies, commits, aborts, asks, turn}
use Rattle.reach.proofs.Kept.{step_keeps}
use Rattle.reach.proofs.Opened.{opening_cases, opening_has, reachable_has}

-- the row x' is x as it was, or saved: it has a sheet, and a version
abbrev Saved : Item → Item → Type 0
Saved x x' = (x' ≡ x) ⊎ ((x'.value ≢ 0) × (x'.version ≢ 0))

grown_counts : (v : ℕ) → grown v ≢ 0
unfolding grown
grown_counts v = elim (cases_Bool (ltb v 4294967295)) [ inl e ↦ rw e (λ z. omega arith) | inr e ↦ rw e (λ z. omega (arith, ltb-false v 4294967295 e)) ]

commit_saves : {h : House} → Kept h → (me i : ℕ) → me < 32 → i < 64 → Saved (item_at h.items i) (item_at (committed_by h me).items i)
unfolding committed_item wrote
commit_saves {h} K me i m a =
    rw (committed_item_lem K.sizes me i a)
    (elim (cases_Bool (holds h.cells Certify me i)) [
      | inl c ↦ rw c (inr (K.drawn me i m a (or_right (holds h.cells Write me i) _ c), grown_counts _))
      | inr c ↦ rw c (inl refl)
    ])

turn_saves : {h : House} {q : Request} {o : Outcome} → Kept h → (i : ℕ) → i < 64 → Turn h q o → Saved (item_at h.items i) (item_at o.house.items i)
unfolding begun read_by written_by certified_by left
turn_saves K i a (refused n) = inl refl
turn_saves K i a (waits p z e) = inl refl
turn_saves K i a (begins me o M) = inl refl
turn_saves K i a (reads me o A M) = inl refl
turn_saves K i a (writes me o A M) = inl refl
turn_saves K i a (certifies me o A M) = inl refl
turn_saves K i a (commits me o A M) = commit_saves K me i M.place a
turn_saves K i a (aborts me o A) = inl refl
turn_saves K i a (asks me o A) = inl refl

pub no_blank_put : NoBlankPut
no_blank_put h R q i a = elim (turn_saves (reachable_has h R) i a (turn h q)) [ inl e ↦ inl e | inr s ↦ inr s.0 ]

-- a row holds 0 exactly as long as nobody has saved it
abbrev Unsaved : Item → Type 0
Unsaved x = eqb x.value 0 ≡ eqb x.version 0

saved_unsaved : {x x' : Item} → Unsaved x → Saved x x' → Unsaved x'
saved_unsaved u (inl e) = rw e u
saved_unsaved u (inr s) = ne_eqb _ 0 s.0 ∙ sym (ne_eqb _ 0 s.1)

finally_unsaved : {h : House} → Kept h → (i : ℕ) → i < 64 → Unsaved (item_at h.items i) → (qs : List Request) → Unsaved (item_at (finally h qs).items i)
unfolding finally
finally_unsaved K i a u [] = u
finally_unsaved {h = h} K i a u (q ∷ qs) = finally_unsaved {h = (stepped h q).house} (step_keeps h K q) i a (saved_unsaved u (turn_saves K i a (turn h q))) qs

opened_unsaved : (levels table : List ℕ) (rule : Rule) (i : ℕ) → i < 64 → Unsaved (item_at (opened levels table rule).items i)
opened_unsaved levels table rule i a = rw (opened_item levels table rule i a)

pub zero_unsaved : ZeroUnsaved
zero_unsaved h R i a =
    let first = opening_cases (λ h. Unsaved (item_at h.items i)) R.levels R.table R.rule (λ P O. opened_unsaved R.levels R.table R.rule i a) (opened_unsaved [] old_chain _ i a) in
    rw (← R.comes) (finally_unsaved (opening_has R.levels R.table R.rule) i a first R.requests)
