-- A dialogue at its stage.
-- Assumes nothing.
use Prim.Native.Nat.{ℕ}
use native.Mathlib.Omega.{arith}
use mathlib.Core.Path.{◌≡◌, refl}
use mathlib.Core.Logic.{inl, inr}
use mathlib.Core.List.{List}
use lib.Dec.{eqb}
use Rattle.house.specs.declared.House.{House}
use Rattle.house.specs.Opening.{number_of}
use Rattle.std.proofs.lemmas.Bool.{cases_Bool}
use Rattle.dialogue.specs.declared.Fed.{Fed}
use Rattle.dialogue.specs.declared.Dialogue.{Dialogue}
use Rattle.dialogue.specs.declared.Stage.{Stage}
use Rattle.dialogue.specs.declared.Stage.TheVariants.{Waiting, Open, Refused}
use Rattle.dialogue.specs.Dialogue.{decided, header, at_stage, waits, drops, serves, opens, fed, opening_of}
use Rattle.dialogue.proofs.Serving.{Within, serves_within}

-- code that goes by the stage is in the branch of that stage: with `followed`, a proof goes through `fed` as the code does
pub at_waiting : {A : Type 0} (r : A) (s : Stage) (w o x : A) → s ≡ Waiting → r ≡ w → r ≡ at_stage s w o x
at_waiting r s w o x e p = rw e p

pub at_open : {A : Type 0} (r : A) (s : Stage) (w o x : A) → s ≡ Open → r ≡ o → r ≡ at_stage s w o x
at_open r s w o x e p = rw e p

pub at_refused : {A : Type 0} (r : A) (s : Stage) (n : ℕ) (w o x : A) → s ≡ Refused n → r ≡ x → r ≡ at_stage s w o x
at_refused r s n w o x e p = rw e p

pub ruleset staged = (at_waiting, at_open, at_refused)

-- the stage that a dialogue is at, whatever else it has
pub data At (s : Stage) : Type 0 where
  waiting : s ≡ Waiting → At s
  opened : s ≡ Open → At s
  refused : (n : ℕ) → s ≡ Refused n → At s

pub at_stage_lem : (s : Stage) → At s
at_stage_lem Waiting = waiting refl
at_stage_lem Open = opened refl
at_stage_lem (Refused n) = refused n refl

-- what holds however bytes are taken, holds of all that are fed
pub fed_cases : (P : Fed × List ℕ → Type 0) (s : Dialogue) (b room : List ℕ) → ((g : House) (k : ℕ) → P (serves g k b room)) → ((t : Dialogue) → P (drops t b room)) → ((t : Dialogue) → P (waits t room)) → P (fed s b room)
unfolding fed opens
fed_cases P s b room serving dropping waited =
    elim (at_stage_lem s.stage) [
      | waiting w ↦ rw w
          (elim (cases_Bool (decided b)) [
            | inl y ↦ rw y
                (elim (cases_Bool (eqb (number_of (opening_of b)) 0)) [
                  | inl z ↦ rw z (serving (opening_of b).house (header b))
                  | inr z ↦ rw z (dropping _)
                ])
            | inr n ↦ rw n (waited _)
          ])
      | opened o ↦ rw o (serving s.house 0)
      | refused n r ↦ rw r (dropping _)
    ]

pub fed_within : (s : Dialogue) (b room : List ℕ) → Within room (fed s b room)
fed_within s b room = fed_cases (Within room) s b room (serves_within b room) (λ t. (refl, omega arith)) (λ t. (refl, omega arith))
