-- A list taken as pieces of n elements, as the places of the levels lie in a house, and requests among bytes.
-- Assumes nothing.
use Prim.Native.Nat.{ℕ, zero, suc, ◌*◌, ◌<◌}
use native.Mathlib.Nat.{add_comm, zero-mul, suc-mul}
use native.Mathlib.Omega.{arith}
use mathlib.Core.Path.{◌≡◌, sym, ap, ◌∙◌}
use mathlib.Core.List.{List, []}
use lib.ListN.{get_or, take, drop}
use lib.Seq.{drop-drop}
use Rattle.std.specs.Simd.{first_chunks}

-- the l-th piece
pub piece : {A : Type 0} (n k : ℕ) (all : List A) (l : ℕ) → l < k → get_or (first_chunks n k all) l [] ≡ take n (drop (l * n) all)
piece n zero all l h = absurd (omega arith)
piece n (suc k) all zero h = rw (zero-mul n)
piece n (suc k) all (suc l) h = piece n k (drop n all) l (omega arith) ∙ ap (take n) (drop-drop (l * n) n all ∙ ap (λ m. drop m all) (add_comm n (l * n) ∙ sym (suc-mul l n)))
