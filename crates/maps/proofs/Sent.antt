-- A map is the same as its single reads, sent over the wire.
-- Assumes nothing.
use Prim.Native.Nat.{ℕ, zero, suc, ◌*◌, ◌≤◌}
use native.Mathlib.Omega.{arith}
use mathlib.Core.Path.{◌≡◌, refl, sym, ap, ap₂, ◌∙◌}
use mathlib.Core.List.{List, [], ◌∷◌, ◌++◌, map}
use lib.ListN.{length, take, drop, length-append, take-append-drop}
use lib.Seq.{take_all}
use Rattle.std.specs.List.{flat_map}
use Rattle.std.proofs.lemmas.List.Concat.{flat_map-append}
use Rattle.house.specs.declared.Request.{Request}
use Rattle.wire.specs.RoundTrip.{FitRequest}
use Rattle.wire.specs.Wire.{request_at, request_bytes}
use Rattle.wire.proofs.RoundTrip.{request_read_back}
use Rattle.desk.proofs.TwoTurns.{requests_append}
use Rattle.desk.specs.Turn.{requests, share, turned, answered}
use Rattle.maps.specs.Map.{read_of, reads, handled, mapped, filled}
use Rattle.maps.specs.Sent.{sent, Numbers, SameAsSent}

-- the first of a list, and the rest
pub first_fits : (level : ℕ) {ticket i : ℕ} {items : List ℕ} → Numbers ticket (i ∷ items) → FitRequest (read_of level ticket i)
first_fits level f = record { item = f.items_fit 0; ticket = f.ticket_fits; value = omega arith }

pub rest_fit : {ticket i : ℕ} {items : List ℕ} → Numbers ticket (i ∷ items) → Numbers ticket items
rest_fit f = record { ticket_fits = f.ticket_fits; items_fit = λ k. f.items_fit (suc k) }

-- a request before others
request_first : (q : Request) (rest : List ℕ) → FitRequest q → request_at (request_bytes q ++ rest) 0 ≡ q
unfolding request_at request_bytes
request_first q rest f = request_read_back q f

drop_request : (q : Request) (rest : List ℕ) → drop 12 (request_bytes q ++ rest) ≡ rest
unfolding request_bytes
drop_request q rest = refl

length_request : (q : Request) → length (request_bytes q) ≡ 12
unfolding request_bytes
length_request q = refl

length_sent : (level ticket : ℕ) (items : List ℕ) → length (sent level ticket items) ≡ length items * 12
unfolding sent
length_sent level ticket [] = refl
length_sent level ticket (i ∷ items) =
    let q = read_of level ticket i in
    length-append (request_bytes q) (sent level ticket items) ∙ rw (length_request q, length_sent level ticket items) (omega arith)

requests_sent : (level ticket : ℕ) (items : List ℕ) (n : ℕ) → Numbers ticket items → n ≤ length items → requests n (sent level ticket items) ≡ reads level ticket (take n items)
unfolding requests sent
requests_sent level ticket items zero f l = refl
requests_sent level ticket [] (suc n) f l = absurd (omega arith)
requests_sent level ticket (i ∷ items) (suc n) f l =
    let q = read_of level ticket i in
    let rest = sent level ticket items in
    rw (drop_request q rest) (ap₂ ◌∷◌ (request_first q rest (first_fits level f)) (requests_sent level ticket items n (rest_fit f) (omega arith)))

-- The reads of these items are the first of the pieces: so they are the first requests of the bytes of all

abbrev pub asked_for : ℕ → ℕ → ℕ → List ℕ
asked_for level ticket item = request_bytes (read_of level ticket item)

sent_is : (level ticket : ℕ) (items : List ℕ) → flat_map (λ x. x) (map (asked_for level ticket) items) ≡ sent level ticket items
unfolding sent
sent_is level ticket [] = refl
sent_is level ticket (i ∷ items) = ap (λ l. asked_for level ticket i ++ l) (sent_is level ticket items)

pub asked_are : (level ticket : ℕ) (items : List ℕ) → Numbers ticket items → (pieces : List (List ℕ)) → take (length items) pieces ≡ map (asked_for level ticket) items → requests (length items) (flat_map (λ x. x) pieces) ≡ reads level ticket items
asked_are level ticket items f pieces e =
    let n = length items in
    let S = sent level ticket items in
    let parts : flat_map (λ x. x) pieces ≡ S ++ flat_map (λ x. x) (drop n pieces) =
    ap (flat_map (λ x. x)) (sym (take-append-drop n pieces)) ∙ flat_map-append (λ x. x) (take n pieces) (drop n pieces)
    ∙ ap (λ l. l ++ flat_map (λ x. x) (drop n pieces)) (ap (flat_map (λ x. x)) e ∙ sent_is level ticket items) in
    ap (requests n) parts ∙ requests_append n S _ (rw (length_sent level ticket items) (omega arith)) ∙ requests_sent level ticket items n f (omega arith) ∙ ap (reads level ticket) (take_all n items (omega arith))

pub same_as_sent : SameAsSent
unfolding turned answered share mapped filled handled
same_as_sent h level ticket items room f =
    let n = handled items room in
    let e : share (length items) (sent level ticket items) room ≡ n = rw (length_sent level ticket items) (omega arith) in
    let r = requests_sent level ticket items n f (omega arith) in
    (rw (e, r), rw (e, r))
