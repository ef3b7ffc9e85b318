-- The buffer after a read into all but its first bytes.
-- Assumes nothing.
use Rattle.std.proofs.Common.{ℕ, ◌-◌, ◌<◌, ◌≡◌, List, [], ◌++◌, length, take, drop, append-nil, drop_of_length-le, ap, ◌∙◌, arith}
use Rattle.std.proofs.Math.ListN.{length-append, length-take, length-drop}
use Rattle.dialogue.specs.declared.Dialogue.{Dialogue}
use Rattle.dialogue.specs.declared.Heard.{Heard}
use Rattle.dialogue.specs.Dialogue.{heard}

module _ (buffer part : List ℕ) (have size : ℕ) (long : length buffer ≡ size) where
  -- nothing stands behind the part that was lent
  all_behind : take have buffer ++ (part ++ drop (size - have) (drop have buffer)) ≡ take have buffer ++ part
  all_behind =
      let none : drop (size - have) (drop have buffer) ≡ [] = drop_of_length-le (drop have buffer) {i = size - have} (rw (length-drop have buffer) (omega arith)) in
      rw none (ap (λ l. take have buffer ++ l) (append-nil part))

  pub heard_behind : (s : Dialogue) (got : ℕ) (room : List ℕ) (x : Heard × List ℕ × List ℕ) → x ≡ heard s (take have buffer ++ (part ++ drop (size - have) (drop have buffer))) have got room → x ≡ heard s (take have buffer ++ part) have got room
  heard_behind s got room x e = e ∙ ap (λ b. heard s b have got room) all_behind

  -- and the part is as long as it was
  pub as_long : have < length buffer → length part ≡ length (take (size - have) (drop have buffer)) → length (take have buffer ++ part) ≡ length buffer
  as_long b e =
      let l = simp (length-take, length-drop) at e in
      rw (length-append (take have buffer) part, length-take have buffer) (omega arith)
