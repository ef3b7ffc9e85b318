-- CR 3 over calls: with what is struck they ask the requests that stay.
-- Assumes nothing.
use Prim.Native.Nat.{ℕ, ◌/◌}
use native.Mathlib.Omega.{arith}
use mathlib.Core.Path.{◌≡◌, refl, sym, ap, ap₂, ◌∙◌}
use mathlib.Core.Logic.{inl, inr}
use mathlib.Core.Bool.{true, false}
use mathlib.Core.List.{List, [], ◌∷◌, ◌++◌, map}
use lib.ListN.{length, take}
use lib.Seq.{take-nil}
use Rattle.house.specs.Opening.{opening}
use Rattle.std.proofs.lemmas.Bool.{cases_Bool}
use Rattle.desk.specs.Turn.{share}
use Rattle.maps.specs.Map.{read_of, reads, handled}
use Rattle.maps.specs.Calls.{Call, by_turn, by_map, asked, asked_by}
use Rattle.maps.proofs.Calls.{calls_are_requests}
use Rattle.quiet.specs.Alike.{covers}
use Rattle.quiet.specs.Quiet.{struck}
use Rattle.quiet_bytes.specs.Struck.{struck_bytes}
use Rattle.quiet_bytes.specs.Calls.{struck_call, Suffices, AllSuffice, OverCalls}
use Rattle.quiet_bytes.proofs.Struck.{struck_append, struck_short, struck_ask, over_requests}

-- ONE CALL

-- the reads of a map stay, or none does
module _ (order : List ℕ) (k level ticket : ℕ) where
  all_stay : covers order k level ≡ true → (items : List ℕ) → struck order k (reads level ticket items) ≡ reads level ticket items
  unfolding struck
  all_stay y [] = refl
  all_stay y (i ∷ items) = rw y (ap (λ l. read_of level ticket i ∷ l) (all_stay y items))

  none_stays : covers order k level ≡ false → (items : List ℕ) → struck order k (reads level ticket items) ≡ []
  unfolding struck
  none_stays n [] = refl
  none_stays n (i ∷ items) = rw n (none_stays n items)

struck_asks : (order : List ℕ) (k : ℕ) (c : Call) → Suffices c → asked (struck_call order k c) ≡ struck order k (asked c)
unfolding share
struck_asks order k (by_turn input room most) s =
    let short = struck_short order k input in
    let all : share most input room ≡ length input / 12 = omega arith in
    let less : share most (struck_bytes order k input) room ≡ length (struck_bytes order k input) / 12 = omega arith in
    rw (all, less) (struck_ask order k input)
struck_asks order k (by_map level ticket items room) s =
    elim (cases_Bool (covers order k level)) [
      | inl y ↦ rw y (sym (all_stay order k level ticket y (take (handled items room) items)))
      | inr n ↦ rw (n, take-nil (handled [] room)) (sym (none_stays order k level ticket n (take (handled items room) items)))
    ]

-- ALL CALLS

all_ask : (order : List ℕ) (k : ℕ) (cs : List Call) → AllSuffice cs → asked_by (map (struck_call order k) cs) ≡ struck order k (asked_by cs)
unfolding asked_by struck AllSuffice
all_ask order k [] s = refl
all_ask order k (c ∷ cs) s = ap₂ ◌++◌ (struck_asks order k c s.0) (all_ask order k cs s.1) ∙ sym (struck_append order k (asked c) (asked_by cs))

pub over_calls : OverCalls
over_calls k b levels order rule cs s =
    let h = (opening levels order rule).house in
    let ds = map (struck_call h.order k) cs in
    rw ((calls_are_requests h cs).0, (calls_are_requests h cs).1, (calls_are_requests h ds).0, (calls_are_requests h ds).1, all_ask h.order k cs s)
    (over_requests k b levels order rule (asked_by cs))
