-- Laws of bytes that are served.
-- Assumes nothing.
use Prim.Native.Nat.{ℕ, ◌+◌, ◌-◌, ◌*◌, ◌^◌, ◌≤◌, ◌<◌}
use native.Mathlib.Omega.{arith}
use mathlib.Core.Path.{◌≡◌}
use mathlib.Core.List.{List}
use lib.ListN.{length, take, drop, length-take, length-drop}
use lib.Seq.{take_all}
use mir.Syntax.{w64}
use mir.Val.{Fits}
use Rattle.house.specs.declared.House.{House}
use Rattle.desk.specs.declared.Served.{Served}
use Rattle.desk.specs.Turn.{turned, answered}
use Rattle.desk.proofs.Laws.{share_fits, length_answered}
use Rattle.dialogue.specs.declared.Fed.{Fed}
use Rattle.dialogue.specs.declared.Stage.TheVariants.{Open}
use Rattle.dialogue.specs.Dialogue.{serves}

-- a turn on bytes past the first k uses and writes no more than there is, so that it can be counted
module _ (h : House) (n k most : ℕ) (b room : List ℕ) (t : Served) (turns : t ≡ turned h (take n (drop k b)) room most) where
  within : (t.count * 12 ≤ length b - k) × (t.count * 16 ≤ length room)
  unfolding turned
  within =
      let input = take n (drop k b) in
      let f = share_fits most input room in
      rw turns (omega (arith, f.0, length-take n (drop k b), length-drop k b), f.1)

  pub counted_used : length b < 2 ^ 64 → Fits w64 (t.count * 12)
  counted_used l = omega (arith, within)

  pub counted_past : k ≤ length b → length b < 2 ^ 64 → Fits w64 (k + t.count * 12)
  counted_past p l = omega (arith, within)

  pub counted_written : length room < 2 ^ 64 → Fits w64 (t.count * 16)
  counted_written l = omega (arith, within)

-- and with all of them it is what is served
module _ (h : House) (k : ℕ) (b room : List ℕ) where
  abbrev lent : List ℕ
  lent = take (length b - k) (drop k b)

  pub serves_is : (t : Served) (out : List ℕ) → (t ≡ turned h lent room (length b)) × (out ≡ answered h lent room (length b)) → (record { dialogue = record { stage = Open; house = t.house }; used = k + t.count * 12; written = t.count * 16 }, out) ≡ serves h k b room
  unfolding serves
  serves_is t out e =
      let all = rw (take_all (length b - k) (drop k b) (rw (length-drop k b) (omega arith))) at e in
      rw (all.0, all.1)

-- the reply bytes are as many as were lent, and those that were written are among them
abbrev pub Within : List ℕ → Fed × List ℕ → Type 0
Within room f = (length f.1 ≡ length room) × (f.0.written ≤ length f.1)

pub serves_within : (b room : List ℕ) (h : House) (k : ℕ) → Within room (serves h k b room)
unfolding serves turned
serves_within b room h k =
    let same = length_answered h (drop k b) room (length b) in
    (same, rw same (share_fits (length b) (drop k b) room).1)
