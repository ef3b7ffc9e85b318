-- Laws of bytes that are struck: of requests, and of the replies to them.
-- Assumes nothing.
use Prim.Native.Nat.{ℕ, zero, suc, ◌+◌, ◌-◌, ◌/◌, ◌≤◌, ◌<◌}
use native.Mathlib.Omega.{arith}
use mathlib.Core.Path.{◌≡◌, refl, ap, ◌∙◌}
use mathlib.Core.Logic.{inl, inr}
use mathlib.Core.List.{List, [], ◌∷◌, ◌++◌}
use lib.ListN.{length, take, drop, length-append, length-take, length-drop}
use lib.Seq.{length-take-le, drop_at}
use Rattle.house.specs.declared.House.{House}
use Rattle.house.specs.declared.Request.{Request}
use Rattle.house.specs.declared.Rule.{Rule}
use Rattle.house.specs.Rules.{stepped}
use Rattle.house.specs.Opening.{opening}
use Rattle.house.specs.Run.{finally, replies, trace}
use Rattle.std.proofs.lemmas.Bool.{cases_Bool}
use Rattle.wire.specs.Wire.{request_at, reply_bytes}
use Rattle.desk.specs.Turn.{requests, whole_requests, wired}
use Rattle.desk.proofs.Laws.{requests_add}
use Rattle.desk.proofs.TwoTurns.{requests_front}
use Rattle.quiet.specs.Alike.{stays}
use Rattle.quiet.specs.Quiet.{struck, to_others}
use Rattle.quiet.proofs.Quiet.{no_marking}
use Rattle.quiet_bytes.specs.Struck.{of_others, struck_bytes, UnnoticedIn}

-- REQUESTS

pub struck_append : (order : List ℕ) (k : ℕ) (qs rs : List Request) → struck order k (qs ++ rs) ≡ struck order k qs ++ struck order k rs
unfolding struck
struck_append order k [] rs = refl
struck_append order k (q ∷ qs) rs = elim (cases_Bool (stays order k q)) [ inl y ↦ rw y (ap (λ l. q ∷ l) (struck_append order k qs rs)) | inr n ↦ rw n (struck_append order k qs rs) ]

-- no more bytes are left than there were
others_short : (order : List ℕ) (k w : ℕ) (qs : List Request) (b : List ℕ) → length (of_others order k w qs b) ≤ length b
unfolding of_others
others_short order k w [] b = omega arith
others_short order k w (q ∷ qs) b =
    let rest = of_others order k w qs (drop w b) in
    let short : length rest ≤ length b - w = rw (length-drop w b) at (others_short order k w qs (drop w b)) in
    elim (cases_Bool (stays order k q)) [ inl y ↦ rw (y, length-append (take w b) rest, length-take w b) (omega arith) | inr n ↦ rw n (omega arith) ]

pub struck_short : (order : List ℕ) (k : ℕ) (b : List ℕ) → length (struck_bytes order k b) ≤ length b
unfolding struck_bytes
struck_short order k b = others_short order k 12 (whole_requests b) b

-- a request before others
first_stays : (b rest : List ℕ) → 12 ≤ length b → whole_requests (take 12 b ++ rest) ≡ request_at b 0 ∷ whole_requests rest
unfolding requests
first_stays b rest l =
    let long = length-take-le 12 b l in
    let m = length rest / 12 in
    let e : length (take 12 b ++ rest) / 12 ≡ 1 + m = rw (length-append (take 12 b) rest, long) (omega arith) in
    rw e (requests_add 1 m (take 12 b ++ rest) ∙ rw (drop_at (take 12 b) rest 12 long) (ap (λ l. l ++ requests m rest) (requests_front 1 b rest l)))

-- the whole requests of what is left are those that stay
others_ask : (order : List ℕ) (k n : ℕ) (b : List ℕ) → length b / 12 ≡ n → whole_requests (of_others order k 12 (requests n b) b) ≡ struck order k (requests n b)
unfolding of_others struck requests
others_ask order k zero b e = rw e
others_ask order k (suc n) b e =
    let rest = of_others order k 12 (requests n (drop 12 b)) (drop 12 b) in
    let less = others_ask order k n (drop 12 b) (rw (length-drop 12 b) (omega arith)) in
    elim (cases_Bool (stays order k (request_at b 0))) [ inl y ↦ rw y (first_stays b rest (omega arith) ∙ ap (λ l. request_at b 0 ∷ l) less) | inr f ↦ rw f less ]

pub struck_ask : (order : List ℕ) (k : ℕ) (b : List ℕ) → whole_requests (struck_bytes order k b) ≡ struck order k (whole_requests b)
unfolding struck_bytes
struck_ask order k b = others_ask order k (length b / 12) b refl

-- REPLIES

others_told : (order : List ℕ) (k : ℕ) (h : House) (qs : List Request) → of_others order k 16 qs (wired (replies h qs)) ≡ wired (to_others order k (trace h qs))
unfolding of_others wired replies to_others trace reply_bytes
others_told order k h [] = refl
others_told order k h (q ∷ qs) =
    let r = (stepped h q).reply in
    let less = others_told order k (stepped h q).house qs in
    elim (cases_Bool (stays order k q)) [ inl y ↦ rw y (ap (λ l. reply_bytes r ++ l) less) | inr f ↦ rw f less ]

-- THE THEOREM, of requests and their replies' bytes

pub over_requests : (k : ℕ) → k < 4 → (levels table : List ℕ) (rule : Rule) (qs : List Request)
    → let h = (opening levels table rule).house in
    UnnoticedIn h.order k qs (wired (replies h qs), finally h qs) (wired (replies h (struck h.order k qs)), finally h (struck h.order k qs))
over_requests k b levels table rule qs =
    let h = (opening levels table rule).house in
    let u = no_marking k b levels table rule qs in
    record { told = others_told h.order k h qs ∙ ap wired u.told; afterwards = u.afterwards }
