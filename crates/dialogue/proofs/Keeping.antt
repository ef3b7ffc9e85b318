-- Laws of the bytes that are moved to the front.
-- Assumes nothing.
use Prim.Native.Nat.{ℕ, ◌+◌, ◌-◌, ◌^◌, ◌<◌, min}
use native.Mathlib.Nat.{zero-add}
use native.Mathlib.Omega.{arith}
use mathlib.Core.Path.{◌≡◌, refl, sym, ap, ◌∙◌}
use mathlib.Core.List.{List, ◌++◌, append_assoc}
use lib.ListN.{length, take, drop, length-drop}
use lib.Seq.{take-length, take_at}
use Rattle.std.specs.List.{copy_within}
use Rattle.std.proofs.lemmas.List.{take_min, drop_min}
use Rattle.dialogue.specs.declared.Fed.{Fed}
use Rattle.dialogue.specs.declared.Dialogue.{Dialogue}
use Rattle.dialogue.specs.Dialogue.{fed, kept, heard}

-- what is kept stands at the front
pub front_kept : (used : ℕ) (b rest : List ℕ) → take (length (drop used b)) (kept used b ++ rest) ≡ drop used b
unfolding kept
front_kept used b rest = rw (append_assoc (drop used b) (drop (length (drop used b)) b) rest) (take_at (drop used b) _ (length (drop used b)) refl)

-- those that were not used are moved to the front
pub kept_is : (b : List ℕ) (used u n : ℕ) (out : List ℕ) → u ≡ min used (length b) → n ≡ length b - u → out ≡ copy_within b u (length b) 0 → (n ≡ length (drop used b)) × (out ≡ kept used b)
unfolding kept
kept_is b used u n out e many moved =
    let past : drop u b ≡ drop used b = rw e (drop_min used b) in
    let left : length b - u ≡ length (drop used b) = sym (length-drop u b) ∙ ap length past in
    (many ∙ left, moved ∙ rw (left, past, zero-add (length (drop used b)), take-length (drop used b)))

-- a round is what was fed of the filled part, and what of it is kept
module _ (s : Dialogue) (b : List ℕ) (have got : ℕ) (room : List ℕ) (sum end : ℕ) (summed : sum ≡ min (have + got) (2 ^ 64 - 1)) (filled : end ≡ min sum (length b)) (fits : length b < 2 ^ 64) where
  pub heard_is : (f : Fed) (out : List ℕ) → (f, out) ≡ fed s (take end b) room → (left : ℕ) (first : List ℕ) → (left ≡ length (drop f.used (take end b))) × (first ≡ kept f.used (take end b)) → (record { dialogue = f.dialogue; have = left; written = f.written }, first ++ drop end b, out) ≡ heard s b have got room
  unfolding heard
  heard_is f out e left first k =
      let all : end ≡ min (have + got) (length b) = omega (arith, summed, filled) in
      rw (sym (take_min (have + got) b), sym (drop_min (have + got) b), sym all, sym e, k.0, k.1)
