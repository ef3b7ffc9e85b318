-- CR 3 over a whole dialogue: an input whose requests are struck has the same opening, and asks the requests that stay.
-- Assumes nothing.
use Prim.Native.Nat.{ℕ, ◌≤◌, ◌<◌}
use native.Mathlib.Omega.{arith}
use mathlib.Core.Path.{◌≡◌, refl, ap}
use mathlib.Core.Logic.{inl, inr}
use mathlib.Core.List.{List, [], append-nil}
use lib.ListN.{length, drop_of_length-le}
use lib.Seq.{take_all}
use lib.Dec.{eqb}
use borrow.Author.Tests.{eqb-true}
use Rattle.house.specs.declared.Rule.TheVariants.{A}
use Rattle.house.specs.Opening.{number_of}
use Rattle.house.specs.Run.{finally}
use Rattle.std.proofs.lemmas.Bool.{cases_Bool}
use Rattle.desk.specs.Turn.{requests}
use Rattle.dialogue.specs.Dialogue.{levels, table, header, opening_of}
use Rattle.dialogue.specs.Pieces.{run_of, past_opening, programmed, joined}
use Rattle.dialogue.specs.Rounds.{brought}
use Rattle.dialogue.proofs.Laws.{came, opened_there}
use Rattle.dialogue.proofs.Pieces.{opening_stays, past_stays, in_pieces}
use Rattle.dialogue.proofs.Rounds.{as_programmed}
use Rattle.quiet.specs.Quiet.{struck}
use Rattle.quiet_bytes.specs.Struck.{of_others, struck_bytes}
use Rattle.quiet_bytes.specs.Program.{order_in, struck_input, replied_to, OverInput, OverPieces, OverRounds}
use Rattle.quiet_bytes.proofs.Struck.{struck_ask, over_requests}

-- THE OPENING

module _ (k : ℕ) (input : List ℕ) where
  struck_past : header input ≤ length input → past_opening (struck_input k input) ≡ struck_bytes (order_in input) k (past_opening input)
  unfolding struck_input
  struck_past come = past_stays input (struck_bytes (order_in input) k (past_opening input)) come

  -- nothing is struck from an input that ends before it
  nothing_struck : length input < header input → struck_input k input ≡ input
  unfolding struck_input struck_bytes of_others requests
  nothing_struck short = rw (take_all (header input) input (omega arith), drop_of_length-le input {i = header input} (omega arith)) (append-nil input)

  struck_opening : opening_of (struck_input k input) ≡ opening_of input
  unfolding struck_input
  struck_opening = elim (came input) [ inl come ↦ opening_stays input (struck_bytes (order_in input) k (past_opening input)) come | inr short ↦ ap opening_of (nothing_struck short) ]

-- THE THEOREMS

pub over_input : OverInput
unfolding programmed replied_to run_of of_others finally struck
over_input k b input =
    let o = opening_of input in
    elim (cases_Bool (eqb (number_of o) 0)) [
      | inl z ↦ rw (struck_opening k input, z, struck_past k input (opened_there input (eqb-true (number_of o) 0 z)), struck_ask (order_in input) k (past_opening input))
          (over_requests k b (levels input) (table input) A _)
      | inr z ↦ rw (struck_opening k input, z) (record { told = refl; afterwards = (over_requests k b (levels input) (table input) A []).afterwards })
    ]

pub over_pieces : OverPieces
over_pieces k b ps qs r r' e = rw (in_pieces ps r, in_pieces qs r', e) (over_input k b (joined ps))

pub over_rounds : OverRounds
over_rounds k b buffer room r rs rd buffer' room' r' rs' rd' e =
    rw (as_programmed buffer room r rs rd, as_programmed buffer' room' r' rs' rd', e) (over_input k b (brought rs))
