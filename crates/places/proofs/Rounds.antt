-- The round that `lookup` makes over the eight places.
-- Assumes nothing.
use Rattle.std.proofs.Common.{ℕ, ◌+◌, ◌-◌, ◌%◌, ◌≤◌, ◌≡◌, ◌≢◌, sym, ◌∙◌, Bool, ◌&&◌, not, List, arith}
use native.Mathlib.Nat.{zero-add, mod-add-mod}
use denote.Enum.Bare.{sameb}
use lib.Dec.{eqb}
use borrow.Author.Tests.{ne_eqb}
use Rattle.house.proofs.Places.{same_free}
use Rattle.std.proofs.Math.Bool.{and_comm, and-true}
use Rattle.house.specs.contracts.Standing as Standing
use Rattle.house.specs.declared.Place.{Place}
use Rattle.house.specs.declared.Standing.TheVariants.{Free}
use Rattle.std.specs.Prelude.{Option, Some, None}
use Rattle.house.specs.House.{place_at, is_free, free_at, has_ticket}
use Rattle.house.specs.Search.{scan, on_round}

-- whether the place that the round comes to after k others has the ticket
abbrev pub has_at : List Place → ℕ → ℕ → Bool
has_at eight ticket k = has_ticket eight ticket (on_round 0 8 ticket k)

abbrev pub found_at : ℕ → ℕ → Option ℕ → Option ℕ
found_at ticket k r = Some (on_round 0 8 ticket k)

pub comes_to : (ticket k : ℕ) → (ticket % 8 + k) % 8 ≡ on_round 0 8 ticket k
comes_to ticket k = mod-add-mod ticket 8 k ∙ sym (zero-add ((ticket + k) % 8))

-- the code's test there is that of the rules: a ticket other than 0 is not told from 0 again
pub met : (eight : List Place) (ticket k : ℕ) (taken : Bool) → ticket ≢ 0
    → taken ≡ not (sameb Standing.the_type (place_at eight ((ticket % 8 + k) % 8)).standing Free)
    → (eqb (place_at eight ((ticket % 8 + k) % 8)).ticket ticket && taken) ≡ has_at eight ticket k
unfolding has_ticket free_at
met eight ticket k taken n e =
    let seat = place_at eight (on_round 0 8 ticket k) in
    let same = eqb seat.ticket ticket in
    let held = not (is_free seat.standing) in
    rw (e, same_free, comes_to ticket k, ne_eqb ticket 0 n) (and_comm same held ∙ sym (and-true (held && same)))

-- nobody is left where the round has been made
pub made : (eight : List Place) (ticket k : ℕ) → 8 ≤ k → scan (has_at eight ticket) (found_at ticket) None k (8 - k) ≡ None
unfolding scan
made eight ticket k h = let e : 8 - k ≡ 0 = omega arith in rw e
