-- Laws of a turn: the bytes of a request and of a reply, one request more, and the end.
-- Assumes nothing.
use Prim.Native.Nat.{ℕ, zero, suc, ◌+◌, ◌*◌, ◌/◌, ◌<◌, ◌≤◌, min}
use native.Mathlib.Nat.{add-zero, zero-add, add_assoc}
use native.Mathlib.Omega.{arith}
use mathlib.Core.Path.{◌≡◌, refl, sym, ap, ap₂, ◌∙◌}
use mathlib.Core.List.{List, [], ◌∷◌, ◌++◌, append_assoc}
use lib.ListN.{length, get_or, take, drop, length-append, length-drop}
use lib.Seq.{get_or-take, get_or-drop, drop-drop, take_at, paste, drop-append-add}
use Rattle.std.specs.Simd.{first_chunks}
use Rattle.house.specs.declared.House.{House}
use Rattle.house.specs.declared.Outcome.{Outcome}
use Rattle.house.specs.declared.Reply.{Reply}
use Rattle.house.specs.declared.Request.{Request}
use Rattle.house.specs.Rules.{stepped}
use Rattle.house.specs.Run.{finally, replies}
use Rattle.house.proofs.Runs.{finally_append, replies_append}
use Rattle.step.proofs.Chunks.{piece}
use Rattle.wire.specs.Wire.{request_at, reply_bytes}
use Rattle.desk.specs.Turn.{requests, wired, share, written, housed, turned, answered}

-- a request is where its bytes are
pub request_at_drop : (b : List ℕ) (m o : ℕ) → request_at (drop m b) o ≡ request_at b (m + o)
unfolding request_at
request_at_drop b m o = simp (get_or-drop, add_assoc)

request_at_take : (b : List ℕ) → request_at (take 12 b) 0 ≡ request_at b 0
unfolding request_at
request_at_take b =
    let at : (k : ℕ) → k < 12 → get_or (take 12 b) k 0 ≡ get_or b k 0 = λ k l. get_or-take 12 b k 0 l in
    rw (at 0 (omega arith), at 1 (omega arith), at 2 (omega arith), at 3 (omega arith), at 4 (omega arith), at 5 (omega arith), at 6 (omega arith), at 7 (omega arith), at 8 (omega arith), at 9 (omega arith), at 10 (omega arith), at 11 (omega arith))

-- and the n-th piece of twelve bytes is the request there
pub request_in : (b : List ℕ) (pieces : List (List ℕ)) → pieces ≡ first_chunks 12 (length b / 12) b → (n : ℕ) → n < length b / 12 → (q : Request) → q ≡ request_at (get_or pieces n []) 0 → q ≡ request_at b (n * 12)
request_in b pieces cut n h q e =
    e
    ∙ rw (cut, piece 12 (length b / 12) b n h)
    (request_at_take (drop (n * 12) b) ∙ request_at_drop b (n * 12) 0 ∙ rw (add-zero (n * 12)))

-- requests in two parts
pub requests_add : (n m : ℕ) (b : List ℕ) → requests (n + m) b ≡ requests n b ++ requests m (drop (n * 12) b)
unfolding requests
requests_add zero m b = rw (zero-add m)
requests_add (suc n) m b =
    let e : suc n + m ≡ suc (n + m) = omega arith in
    let f : 12 + n * 12 ≡ suc n * 12 = omega arith in
    rw e (ap (λ l. request_at b 0 ∷ l) (requests_add n m (drop 12 b) ∙ rw (drop-drop (n * 12) 12 b, f)))

-- the last of n + 1
pub requests_last : (n : ℕ) (b : List ℕ) → requests (n + 1) b ≡ requests n b ++ (request_at b (n * 12) ∷ [])
unfolding requests
requests_last n b = requests_add n 1 b ∙ rw (request_at_drop b (n * 12) 0, add-zero (n * 12))

-- how long replies are
pub length_reply_bytes : (r : Reply) → length (reply_bytes r) ≡ 16
unfolding reply_bytes
length_reply_bytes r = refl

-- the replies to any requests
pub length_replied : (h : House) (qs : List Request) → length (wired (replies h qs)) ≡ length qs * 16
unfolding wired replies
length_replied h [] = refl
length_replied h (q ∷ qs) =
    let o = stepped h q in
    length-append (reply_bytes o.reply) (wired (replies o.house qs))
    ∙ rw (length_reply_bytes o.reply, length_replied o.house qs) (omega arith)

wired_append : (rs ss : List Reply) → wired (rs ++ ss) ≡ wired rs ++ wired ss
unfolding wired
wired_append [] ss = refl
wired_append (r ∷ rs) ss = ap (λ l. reply_bytes r ++ l) (wired_append rs ss) ∙ sym (append_assoc (reply_bytes r) (wired rs) (wired ss))

pub replied_append : (h : House) (qs rs : List Request) → wired (replies h (qs ++ rs)) ≡ wired (replies h qs) ++ wired (replies (finally h qs) rs)
replied_append h qs rs = ap wired (replies_append h qs rs) ∙ wired_append (replies h qs) (replies (finally h qs) rs)

-- and to n of these bytes
pub length_requests : (n : ℕ) (b : List ℕ) → length (requests n b) ≡ n
unfolding requests
length_requests zero b = refl
length_requests (suc n) b = ap suc (length_requests n (drop 12 b))

pub length_wired : (h : House) (n : ℕ) (b : List ℕ) → length (wired (replies h (requests n b))) ≡ n * 16
length_wired h n b = length_replied h (requests n b) ∙ rw (length_requests n b)

-- One request more: the n-th is read, and its step is taken
module _ (h₀ : House) (input : List ℕ) (n : ℕ) (h : House) (q : Request) (o : Outcome) (is : o ≡ stepped h q) (so : h ≡ housed n h₀ input) (read : q ≡ request_at input (n * 12)) where
  abbrev nth : Request
  nth = request_at input (n * 12)

  stepping : o ≡ stepped (housed n h₀ input) nth
  stepping = is ∙ ap₂ stepped so read

  pub housed_more : (g : House) → g ≡ o.house → g ≡ housed (n + 1) h₀ input
  unfolding finally
  housed_more g e = e ∙ ap (λ x. x.house) stepping ∙ sym (rw (requests_last n input) (finally_append h₀ (requests n input) (nth ∷ [])))

  pub written_more : (room out now : List ℕ) → out ≡ written n h₀ input room → now ≡ paste out (n * 16) (reply_bytes o.reply) 16 → now ≡ written (n + 1) h₀ input room
  unfolding replies wired reply_bytes
  written_more room out now w p =
      let W = wired (replies h₀ (requests n input)) in
      let D = drop (n * 16) room in
      let long : length W ≡ n * 16 = length_wired h₀ n input in
      let past : drop (n * 16 + 16) (W ++ D) ≡ drop (n * 16 + 16) room = (rw long at (drop-append-add W D 16)) ∙ drop-drop 16 (n * 16) room in
      let e : (n + 1) * 16 ≡ n * 16 + 16 = omega arith in
      p
      ∙ rw (w, stepping)
      (rw (take_at W D (n * 16) long, past, requests_last n input, replied_append h₀ (requests n input) (nth ∷ []), e))

-- a turn has ended where as many are served as the count says
module _ (h₀ : House) (input room : List ℕ) (most pieces few count n : ℕ) (p : pieces ≡ length input / 12) (f : few ≡ min most pieces) (c : count ≡ min few (length room / 16)) (within : n ≤ count) (past : count ≤ n) where
  served : n ≡ share most input room
  unfolding share
  served = omega arith

  pub turned_at : (h : House) → h ≡ housed n h₀ input → record { house = h; count = count } ≡ turned h₀ input room most
  unfolding turned
  turned_at h s = let e : count ≡ n = omega arith in rw (s, e, served)

  pub answered_at : (out : List ℕ) → out ≡ written n h₀ input room → out ≡ answered h₀ input room most
  unfolding answered
  answered_at out w = w ∙ rw served

-- a turn has the bytes of its requests, and room for its replies
pub share_fits : (most : ℕ) (input room : List ℕ) → (share most input room * 12 ≤ length input) × (share most input room * 16 ≤ length room)
unfolding share
share_fits most input room = (omega arith, omega arith)

pub length_answered : (h : House) (input room : List ℕ) (most : ℕ) → length (answered h input room most) ≡ length room
unfolding answered
length_answered h input room most =
    let n = share most input room in
    length-append (wired (replies h (requests n input))) (drop (n * 16) room)
    ∙ rw (length_wired h n input, length-drop (n * 16) room) (omega (arith, share_fits most input room))

-- the house of a turn keeps what each step keeps
pub finally_keeps : (P : House → Type 0) → ((h : House) → P h → (q : Request) → P (stepped h q).house) → (h : House) → P h → (qs : List Request) → P (finally h qs)
unfolding finally
finally_keeps P k h z [] = z
finally_keeps P k h z (q ∷ qs) = finally_keeps P k (stepped h q).house (k h z q) qs
