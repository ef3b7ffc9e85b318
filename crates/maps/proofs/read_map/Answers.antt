-- After some parts the first n items are read (`ReadTo`); a round is one part more, and where the parts end the map has ended (`Parts`).
use Prim.Native.Nat.{◌*◌, ◌≤◌}
use native.Mathlib.Omega.{arith}
use mathlib.Core.Path.{◌≡◌, refl, sym, ap, ◌∙◌}
use mathlib.Core.List.{◌++◌}
use lib.ListN.{length, take, drop, length-take}
use borrow.Author.Rules.{rules}
use Rattle.std.specs.Slice.Iter.{chunks_rest, chunks_size}
use Rattle.house.specs.Run.{finally, replies}
use Rattle.desk.specs.Turn.{wired}
use Rattle.maps.proofs.Parts.{behind_is, part_read, all_read}
use Rattle.maps.proofs.read_map.Goals as goal

pub loop-part-init : goal.loop-part-init
unfolding finally replies wired
loop-part-init c =
    let gives = c.into_iter-part-iterator.ensures.into_iter_gives in
    let size : chunks_size c.into_iter-part-iterator.result ≡ 64 = rw gives c.chunks-part-items.ensures.size in
    let rest : chunks_rest c.into_iter-part-iterator.result ≡ take c.min-count.result c.args.items.now = rw gives c.chunks-part-items.ensures.rest in
    (omega arith, tt, size, rest, record { listed = omega arith; placed = omega arith; same = refl; housed = refl; written = refl })

pub loop-part-preserved : goal.loop-part-preserved
loop-part-preserved c =
    let i = c.loop-part.invariant in
    let taken = c.in-Some.ensures.steps in
    let n = c.loop-part.n in
    let first = take c.min-count.result c.args.items.now in
    let part = c.in-Some.part.now in
    let size : chunks_size c.next.new.self ≡ 64 = taken.0 ∙ i.2 in
    let next : drop n first ≡ part ++ chunks_rest c.next.new.self = sym i.3 ∙ taken.1.0 in
    let places : length first * 16 ≤ length c.args.replies.now = rw (length-take c.min-count.result c.args.items.now) (omega arith) in
    (omega arith, tt, size, behind_is i.4 part _ next places, part_read i.4 part _ next places c.read_part-served.ensures.0 c.read_part-served.ensures.1 refl (search rules))

pub returns : goal.returns
returns c = let i = c.loop-part.invariant in all_read _ _ c.args.items.now {count = c.min-count.result} (search rules) (search rules) i.4 (ap length (sym i.3) ∙ c.in-None.ensures.steps.1.0)
