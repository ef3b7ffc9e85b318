use mathlib.Core.Path.{◌≡◌}
use lib.ListN.{take, drop}
use Rattle.std.specs.Slice.Iter.{chunks_rest, chunks_size}
use Rattle.maps.proofs.Parts.{ReadTo}
use Rattle.maps.proofs.read_map.Given as goal

abbrev pub invariant-loop-part : goal.invariant-loop-part
invariant-loop-part l =
    (goal.iterator-loop-part).can_next l.part-iterator × (goal.iterator-loop-part).is_finite l.part-iterator
    × (chunks_size l.part-iterator ≡ 64) × (chunks_rest l.part-iterator ≡ drop l.n (take l.count l.items))
    × ReadTo l.level l.ticket (take l.count l.items) l.fn.h l.initial.replies l.replies l.h l.n
