-- Two turns, one after the other, are one turn on the whole.
-- Assumes nothing.
use Prim.Native.Nat.{ℕ, zero, suc, ◌+◌, ◌-◌, ◌*◌, ◌/◌, ◌<◌, ◌≤◌, min}
use native.Mathlib.Omega.{arith}
use mathlib.Core.Path.{◌≡◌, refl, sym, ap, ap₂, ◌∙◌}
use mathlib.Core.List.{List, ◌∷◌, ◌++◌, append_assoc}
use lib.ListN.{length, get_or, take, drop, length-append, length-drop, take-append-drop, get_or-append}
use lib.Seq.{length-take-le, take_at, drop_at, drop-drop, drop-append-le}
use Rattle.house.specs.declared.House.{House}
use Rattle.house.specs.declared.Request.{Request}
use Rattle.house.specs.Run.{finally, replies}
use Rattle.house.proofs.Runs.{finally_append}
use Rattle.wire.specs.Wire.{request_at}
use Rattle.desk.specs.Turn.{requests, wired, share, housed, written, turned, answered}
use Rattle.desk.specs.TwoTurns.{GoesOn, InParts}
use Rattle.desk.proofs.Laws.{requests_add, length_requests, length_replied, replied_append}

-- what is left for the second turn
left12 : (x c : ℕ) → (x - c * 12) / 12 ≡ x / 12 - c
left12 x c = omega arith

pub left16 : (x c : ℕ) → (x - c * 16) / 16 ≡ x / 16 - c
left16 x c = omega arith

least_less : (x y c : ℕ) → min (x - c) (y - c) ≡ min x y - c
least_less x y c = omega arith

least_add : (a b x : ℕ) → min a x + min b (x - min a x) ≡ min (a + b) x
least_add a b x = omega arith

shares : (a b : ℕ) (input room : List ℕ) → share a input room + share b (drop (share a input room * 12) input) (drop (share a input room * 16) room) ≡ share (a + b) input room
unfolding share
shares a b input room =
    let x : ℕ = min (length input / 12) (length room / 16) in
    let c : ℕ = min a x in
    rw (length-drop (c * 12) input, length-drop (c * 16) room, left12 (length input) c, left16 (length room) c, least_less (length input / 12) (length room / 16) c)
    (least_add a b x)

-- Requests were answered into lent bytes, n of them: what is written stays, what is past it is lent on, and others are answered there
module _ (h : House) (qs : List Request) (n : ℕ) (many : length qs ≡ n) (room : List ℕ) where
  long : length (wired (replies h qs)) ≡ n * 16
  long = length_replied h qs ∙ ap (λ k. k * 16) many

  pub stays : take (n * 16) (wired (replies h qs) ++ drop (n * 16) room) ≡ wired (replies h qs)
  stays = take_at (wired (replies h qs)) (drop (n * 16) room) (n * 16) long

  pub lent : drop (n * 16) (wired (replies h qs) ++ drop (n * 16) room) ≡ drop (n * 16) room
  lent = drop_at (wired (replies h qs)) (drop (n * 16) room) (n * 16) long

  pub written_on : (rs : List Request) (m : ℕ) → wired (replies h (qs ++ rs)) ++ drop ((n + m) * 16) room ≡ wired (replies h qs) ++ (wired (replies (finally h qs) rs) ++ drop (m * 16) (drop (n * 16) room))
  written_on rs m =
      let e : (n + m) * 16 ≡ n * 16 + m * 16 = omega arith in
      rw (replied_append h qs rs, drop-drop (m * 16) (n * 16) room, e) (append_assoc (wired (replies h qs)) _ _)

module _ (h : House) (input room : List ℕ) (n m : ℕ) where
  housed_add : housed (n + m) h input ≡ housed m (housed n h input) (drop (n * 12) input)
  housed_add = rw (requests_add n m input) (finally_append h (requests n input) (requests m (drop (n * 12) input)))

  written_add : written (n + m) h input room ≡ wired (replies h (requests n input)) ++ written m (housed n h input) (drop (n * 12) input) (drop (n * 16) room)
  written_add = rw (requests_add n m input) (written_on h (requests n input) n (length_requests n input) room (requests m (drop (n * 12) input)) m)

pub goes_on : GoesOn
unfolding turned answered
goes_on h input room a b =
    let n = share a input room in
    let m = share b (drop (n * 12) input) (drop (n * 16) room) in
    rw (stays h (requests n input) n (length_requests n input) room, lent h (requests n input) n (length_requests n input) room, sym (shares a b input room), housed_add h input room n m, written_add h input room n m)

-- what comes after k whole requests does not touch them

request_at_append : (part rest : List ℕ) → 12 ≤ length part → request_at (part ++ rest) 0 ≡ request_at part 0
unfolding request_at
request_at_append part rest long =
    let at : (k : ℕ) → k < 12 → get_or (part ++ rest) k 0 ≡ get_or part k 0 = λ k l. get_or-append part rest 0 k (omega arith) in
    rw (at 0 (omega arith), at 1 (omega arith), at 2 (omega arith), at 3 (omega arith), at 4 (omega arith), at 5 (omega arith), at 6 (omega arith), at 7 (omega arith), at 8 (omega arith), at 9 (omega arith), at 10 (omega arith), at 11 (omega arith))

pub requests_append : (k : ℕ) (part rest : List ℕ) → k * 12 ≤ length part → requests k (part ++ rest) ≡ requests k part
unfolding requests
requests_append zero part rest long = refl
requests_append (suc k) part rest long =
    rw (drop-append-le 12 part rest (omega arith))
    (ap₂ ◌∷◌ (request_at_append part rest (omega arith)) (requests_append k (drop 12 part) rest (rw (length-drop 12 part) (omega arith))))

pub requests_front : (k : ℕ) (b rest : List ℕ) → k * 12 ≤ length b → requests k (take (k * 12) b ++ rest) ≡ requests k b
requests_front k b rest long =
    let front = take (k * 12) b in
    let whole : k * 12 ≤ length front = rw (length-take-le (k * 12) b long) (omega arith) in
    requests_append k front rest whole ∙ sym (rw (take-append-drop (k * 12) b) at (requests_append k front (drop (k * 12) b) whole))

pub in_parts : InParts
unfolding turned answered share
in_parts h part rest room k a b long may fits =
    let here : share a part room ≡ k = rw long (omega arith) in
    let all : share k (part ++ rest) room ≡ k = rw (length-append part rest, long) (omega arith) in
    let same : requests k (part ++ rest) ≡ requests k part = requests_append k part rest (omega arith) in
    let g = goes_on h (part ++ rest) room k b in
    rw here (rw (all, same, drop_at part rest (k * 12) long) at g)
