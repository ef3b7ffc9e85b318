-- Demand 3 over the past, the newest event first: the form in which it is proved, event by event.
-- Assumes nothing.
use Prim.Native.Nat.{ℕ, ◌+◌}
use mathlib.Core.Path.{◌≡◌}
use mathlib.Core.Logic.{inl, inr}
use mathlib.Core.Bool.{Bool, true, false, ◌&&◌, ◌||◌, not, cond}
use mathlib.Core.List.{List, [], ◌∷◌}
use lib.ListN.{get_or}
use lib.Dec.{eqb}
use borrow.Author.Tests.{eqb-true}
use Rattle.house.specs.Search.{map_from}
use Rattle.house.specs.Rules.{read, write, commit}
use Rattle.house.specs.Run.{done, Name}
use Rattle.std.proofs.lemmas.Bool.{cases_Bool, false_from_ne_true, and_parts}
use Rattle.house.proofs.Tests.{clash}
use Rattle.serial.specs.Demand.{Event, wrote, name, doing, Row, Table, answer}

abbrev pub Past : Type 0
Past = List Event

-- a transaction's done reads and writes
unfoldable pub doings : Name → Past → Past
doings n [] = []
doings n (e ∷ past) = cond (doing n e) (e ∷ doings n past) (doings n past)

-- what a transaction that has done `own`, alone, reads at item i, where the table has r. At its end the table has the same
unfoldable pub shown : Past → ℕ → Row → Row
shown [] i r = r
shown (e ∷ own) i r = cond (wrote e && eqb e.0.item i) (e.0.value, r.1 + 1) (shown own i r)

unfoldable pub alone : Past → Table → Table
alone own t = map_from 0 (shown own) t

-- each read of it, run alone on this table, gives what the desk answered
abbrev pub Repeats : Table → Past → Type 0
Repeats t [] = Unit {0}
Repeats t (e ∷ own) = (wrote e ≡ false → shown own e.0.item (get_or t e.0.item (0, 0)) ≡ answer e) × Repeats t own

-- the table after the committed transactions of the past, one after another in the order of their commits
unfoldable pub serial : Table → Past → Table
serial t [] = t
serial t (e ∷ past) =
    let u = serial t past in
    cond (done e commit) (alone (doings (name e) past) u) u

-- each of them, in its turn, repeats its reads
abbrev pub Serial : Table → Past → Type 0
Serial t [] = Unit {0}
Serial t (e ∷ past) = (done e commit ≡ true → Repeats (serial t past) (doings (name e) past)) × Serial t past

-- One event more

module _ (n : Name) (e : Event) (past : Past) where
  pub doings_skip : doing n e ≡ false → doings n (e ∷ past) ≡ doings n past
  unfolding doings
  doings_skip x = rw x

  pub doings_take : doing n e ≡ true → doings n (e ∷ past) ≡ e ∷ doings n past
  unfolding doings
  doings_take x = rw x

module _ (t : Table) (e : Event) (past : Past) where
  pub serial_skip : done e commit ≡ false → serial t (e ∷ past) ≡ serial t past
  unfolding serial
  serial_skip x = rw x

  pub serial_take : done e commit ≡ true → serial t (e ∷ past) ≡ alone (doings (name e) past) (serial t past)
  unfolding serial
  serial_take x = rw x

-- a read or write that was done is its own transaction's
doing_name : (n : Name) (e : Event) → doing n e ≡ true → (e.0.level ≡ n.0) × (e.0.ticket ≡ n.1)
unfolding doing
doing_name n e x =
    let k = and_parts (eqb e.0.level n.0 && eqb e.0.ticket n.1) _ x in
    let m = and_parts (eqb e.0.level n.0) _ k.0 in
    (eqb-true _ _ m.0, eqb-true _ _ m.1)

pub doing_other : (n : Name) (e : Event) → (e.0.level ≡ n.0 → e.0.ticket ≡ n.1 → ⊥) → doing n e ≡ false
doing_other n e d = false_from_ne_true _ (λ x. let k = doing_name n e x in d k.0 k.1)

-- other operations, and refusals, are neither
unfoldable pub quiet : Event → Bool
quiet e = not (done e read || done e write)

pub doing_quiet : (n : Name) (e : Event) → quiet e ≡ true → doing n e ≡ false
unfolding quiet doing
doing_quiet n e z =
    elim (cases_Bool (done e read || done e write)) [
      | inl x ↦ clash z (rw x)
      | inr x ↦ rw x (elim (cases_Bool (eqb e.0.level n.0 && eqb e.0.ticket n.1)) [ inl y ↦ rw y | inr y ↦ rw y ])
    ]
