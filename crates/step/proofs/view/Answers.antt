-- What is shown of the house is the view that the rules know (`view_of`): the places of a level are an eight of all.
use Prim.Native.Nat.{ℕ, ◌+◌, ◌*◌, ◌/◌, ◌%◌, ◌<◌, ◌≤◌}
use native.Mathlib.Omega.{arith}
use mathlib.Core.Path.{◌≡◌, refl, ap, ◌∙◌}
use mathlib.Core.List.{List, []}
use lib.ListN.{length, get_or, take, drop, length-take, length-drop}
use lib.Seq.{get_or-take, get_or-drop, ext_get_or}
use borrow.Author.Rules.{rules}
use Rattle.house.proofs.Lists.{length_mapped}
use Rattle.house.specs.House.{vacant, item_at, pending_at, next_at}
use Rattle.house.specs.declared.House.{House}
use Rattle.house.specs.declared.Place.{Place}
use Rattle.house.specs.declared.Request.{Request}
use Rattle.ruling.specs.Judged.{Shown}
use Rattle.ruling.specs.declared.View.{View}
use Rattle.ruling.proofs.Judged.{eight_of, eight_at, view_of, shows}
use Rattle.std.specs.Simd.{first_chunks}
use Rattle.step.proofs.Chunks.{piece}
use Rattle.step.proofs.view.Goals as goal

-- a piece of eight is the eight places of its level
eight_taken : (many : ℕ) (all : List Place) (l m : ℕ) → l ≡ m → l < many → l * 8 + 8 ≤ length all → get_or (first_chunks 8 many all) l [] ≡ eight_of all (m * 8)
eight_taken many all l m same h long =
    let taken = take 8 (drop (l * 8) all) in
    let full : length taken ≡ 8 = rw (length-take 8 (drop (l * 8) all), length-drop (l * 8) all) (omega arith) in
    piece 8 many all l h
    ∙ ext_get_or vacant taken (eight_of all (l * 8)) full
    (λ k j. let b : k < 8 = omega (arith, full) in get_or-take 8 (drop (l * 8) all) k vacant b ∙ get_or-drop (l * 8) all k vacant ∙ eight_at all (l * 8) k b)
    ∙ ap (λ n. eight_of all (n * 8)) same

-- what shows the same parts as the view is shown
shown : (h : House) (q : Request) (v : View) → v.count ≡ h.count → v.order ≡ h.order → v.eight ≡ eight_of h.places (q.level % 4 * 8) → v.ticket ≡ next_at h.next (q.level % 4)
    → v.row ≡ item_at h.items (q.item % 64) → v.pending ≡ pending_at h.pending (q.item % 64) → Shown h q v h.cells
shown h q v c o e t r p =
    let same : record { count = v.count; order = v.order; eight = v.eight; ticket = v.ticket; row = v.row; pending = v.pending } ≡ view_of h q = rw (c, o, e, t, r, p) refl in
    rw same (shows h q)

pub returns : goal.returns
returns c =
    let level = c.from-level.ensures in
    let item = c.from-item.ensures in
    let places = c.args.h.now.places in
    let long : length places ≡ 32 = search (rules, length_mapped) in
    let many = c.as_chunks.ensures.front in
    shown c.args.h.now c.args.q _ refl refl (rw many (eight_taken (length places / 8) places _ (c.args.q.level % 4) (omega arith) (omega arith) (omega arith))) (rw level) (rw item) (rw item)
