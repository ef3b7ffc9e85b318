-- The signals given and the cells converted are those of the rules, since the house has all the cells that are swept.
use native.Mathlib.Nat.{mod-eq_of_lt}
use Rattle.house.proofs.Effects.{signalled_long}
use Rattle.house.specs.Rules.{certify, converted_cell, certified_by}
use Rattle.sweeps.proofs.Whole.{swept_whole, given_whole}
use Rattle.perform.proofs.certify.Goals as goal

pub returns : goal.returns
unfolding certified_by
returns c =
    let z = c.sizes.ensures in
    let me = c.args.me in
    rw (c.certified.ensures, c.convert_cells.ensures, c.signal_readers.ensures, c.gives_at-gives.ensures, mod-eq_of_lt c.requires, given_whole _ z certify me, swept_whole (converted_cell me) _ (signalled_long z certify me))
