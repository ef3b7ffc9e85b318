-- Items, then pending values, cells and place are those of the rules (`ended_house`).
use native.Mathlib.Nat.{mod-eq_of_lt}
use Rattle.house.proofs.Branches.{went, passed}
use Rattle.house.specs.House.{with_items, with_pending}
use Rattle.sweeps.proofs.Whole.{ended_house}
use Rattle.perform.proofs.end.Goals as goal
use Rattle.perform.proofs.end.Goals.{then-saves, else-saves, then-claimed, else-claimed}

pub returns : goal.returns
returns c =
    let items = with_items c.args.h.now in
    let pending = with_pending c.if-saves.h in
    rw (c.clear_cells.ensures, c.signal_readers.ensures, c.left_free.ensures)
    (ended_house c.args.h.now c.if-saves.h c.if-claimed.h c.sizes.ensures _ _ (mod-eq_of_lt c.requires) c.args.commits _ _ c.has_claimed-claimed.ensures
    (elim c.if-saves.branch [ then-saves w ↦ search (went items) | else-saves w ↦ search (passed items) ])
    (elim c.if-claimed.branch [ then-claimed w ↦ search (went pending) | else-claimed w ↦ search (passed pending) ])
    c.gives_at.ensures)
