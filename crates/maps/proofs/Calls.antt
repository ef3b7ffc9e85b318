-- Turns and maps, in any order, are a list of requests.
-- Assumes nothing.
use Prim.Native.Nat.{ℕ, ◌*◌}
use native.Mathlib.Omega.{arith}
use mathlib.Core.Path.{◌≡◌, refl, sym, ap, ◌∙◌}
use mathlib.Core.List.{List, [], ◌∷◌, ◌++◌}
use lib.ListN.{length, take, drop, length-map}
use lib.Seq.{length-take-le, take_at}
use Rattle.house.specs.declared.House.{House}
use Rattle.house.specs.Run.{finally, replies}
use Rattle.house.proofs.Runs.{finally_append}
use Rattle.desk.specs.Turn.{wired, share, turned, answered}
use Rattle.desk.proofs.Laws.{length_requests, length_replied, replied_append}
use Rattle.maps.specs.Map.{read_of, handled, mapped, filled}
use Rattle.maps.specs.Calls.{Call, by_turn, by_map, asked, reported, told, asked_by, told_by, after_calls, CallsAreRequests}

-- ONE CALL: its count is that of its requests, its house the one after them, and its bytes begin with their replies

counts : (h : House) (c : Call) → (reported h c).count ≡ length (asked c)
unfolding turned mapped handled
counts h (by_turn input room most) = sym (length_requests (share most input room) input)
counts h (by_map level ticket items room) =
    let n = handled items room in
    sym (length-map (take n items) (read_of level ticket) ∙ length-take-le n items (omega arith))

pub houses : (h : House) (c : Call) → (reported h c).house ≡ finally h (asked c)
unfolding turned mapped
houses h (by_turn input room most) = refl
houses h (by_map level ticket items room) = refl

pub past : Call → List ℕ
past (by_turn input room most) = drop (share most input room * 16) room
past (by_map level ticket items room) = drop (handled items room * 16) room

pub tells : (h : House) (c : Call) → told h c ≡ wired (replies h (asked c)) ++ past c
unfolding answered filled past
tells h (by_turn input room most) = refl
tells h (by_map level ticket items room) = refl

-- ALL CALLS

pub calls_are_requests : CallsAreRequests
unfolding asked_by told_by after_calls finally replies wired
calls_are_requests h [] = (refl, refl)
calls_are_requests h (c ∷ cs) =
    let qs = asked c in
    let replied = wired (replies h qs) in
    let first : take ((reported h c).count * 16) (told h c) ≡ replied = rw (tells h c) (take_at replied (past c) ((reported h c).count * 16) (length_replied h qs ∙ ap (λ k. k * 16) (sym (counts h c)))) in
    let rest = calls_are_requests (finally h qs) cs in (
      rw (first, houses h c, rest.0) (sym (replied_append h qs (asked_by cs))),
      rw (houses h c, rest.1) (sym (finally_append h qs (asked_by cs))),
    )
