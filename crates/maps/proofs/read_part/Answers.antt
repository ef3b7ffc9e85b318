-- After k rounds the first k pieces read the first k items; so the turn is asked for the whole part (`one_part`).
use native.Mathlib.Omega.{arith}
use mathlib.Core.Path.{◌≡◌, refl, ap, ◌∙◌}
use mathlib.Core.List.{map}
use lib.ListN.{length, take}
use lib.Seq.{take_all}
use Rattle.desk.specs.Turn.{requests}
use Rattle.maps.specs.Sent.{Numbers}
use Rattle.maps.proofs.Parts.{one_part}
use Rattle.maps.proofs.Sent.{asked_for, asked_are}
use Rattle.maps.proofs.read_part.Goals as goal

pub returns : goal.returns
returns c =
    let part = c.args.part.now in
    let fit : Numbers c.args.ticket part = record { ticket_fits = c.ranges.ticket.fits; items_fit = λ k. (c.type_inv.part k).fits } in
    let over : length part ≡ c.loop-k.k = omega arith in
    let so : take (length part) c.loop-k.asked ≡ map (asked_for c.args.level c.args.ticket) part = rw (over, c.loop-k.invariant.1, take_all c.loop-k.k part (omega arith)) refl in
    one_part _ _ part _ _ _ (rw c.as_flattened.ensures.len (omega (arith, c.loop-k.invariant.0, c.requires)))
    (ap (requests (length part)) c.as_flattened.ensures.value ∙ asked_are _ _ part fit c.loop-k.asked so) _ _ c.turn_in_place.ensures
