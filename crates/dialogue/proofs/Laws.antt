-- Laws of an opening's bytes.
-- Assumes nothing.
use Prim.Native.Nat.{ℕ, ◌+◌, ◌≤◌, ◌<◌}
use native.Mathlib.Omega.{arith}
use mathlib.Core.Path.{◌≡◌, refl, sym, ap, ◌∙◌}
use mathlib.Core.Logic.{◌⊎◌, inl, inr}
use mathlib.Core.Bool.{true, false, ◌&&◌, ◌||◌}
use mathlib.Core.List.{List, []}
use lib.ListN.{length, drop, length-take, length-drop}
use lib.Dec.{eqb, ltb, leb}
use borrow.Author.Tests.{leb-true, leb-false, ltb-false, ne_eqb}
use Rattle.std.specs.Prelude.{Some, None}
use Rattle.house.specs.declared.Misfit.{Misfit}
use Rattle.house.specs.declared.Opening.{Opening}
use Rattle.house.specs.Checks.{number_or_0}
use Rattle.house.specs.declared.Rule.TheVariants.{A}
use Rattle.house.proofs.Openings.{misfit_numbered}
use Rattle.house.specs.Opening.{wrong_count, wrong_length, wrong_table, misfit_number, number_of, opening}
use Rattle.std.proofs.lemmas.Bool.{cases_Bool, or_left, or_right, or_parts, not_from_false}
use Rattle.dialogue.specs.declared.Fed.{Fed}
use Rattle.dialogue.specs.declared.Stage.TheVariants.{Refused}
use Rattle.dialogue.specs.Dialogue.{announced, header, levels, table, opening_of, decided, drops, serves, opens}

-- no levels are refused, and with them whatever is of a wrong length
pub no_levels : number_of (opening [] [] A) ≡ 13
unfolding opening wrong_count
no_levels = refl

misfit : (l t : List ℕ) → (wrong_length l || wrong_table t) ≡ true → opening l t A ≡ opening [] [] A
unfolding opening wrong_count
misfit l t e = rw e

-- all of an opening came, or it is cut short: then it is refused so
pub came : (b : List ℕ) → (header b ≤ length b) ⊎ (length b < header b)
came b = elim (cases_Bool (leb (header b) (length b))) [ inl y ↦ inl (leb-true _ _ y) | inr n ↦ inr (leb-false _ _ n) ]

pub cut_short : (b : List ℕ) → length b < header b → opening_of b ≡ opening [] [] A
unfolding wrong_table
cut_short b s =
    let rest = drop (announced b + 1) b in
    misfit (levels b) (table b) (or_right (wrong_length (levels b)) _ (not_from_false _ (ne_eqb (length (table b)) 16 (λ e. omega (arith, length-take 16 rest, length-drop (announced b + 1) b)))))

-- and one whose number is wrong_count, whether it came or not
pub none_hoped : (b : List ℕ) → wrong_count (announced b) ≡ true → opening_of b ≡ opening [] [] A
unfolding wrong_count
none_hoped b y =
    elim (came b) [
      | inl come ↦
          let all : length (levels b) ≡ announced b = rw (length-take (announced b) (drop 1 b), length-drop 1 b) (omega arith) in
          misfit (levels b) (table b) (or_left (wrong_length (levels b)) _ (rw all y))
      | inr short ↦ cut_short b short
    ]

-- what is opened came
pub opened_there : (b : List ℕ) → number_of (opening_of b) ≡ 0 → header b ≤ length b
opened_there b o = elim (came b) [ inl come ↦ come | inr short ↦ absurd (omega (arith, rw (cut_short b short) at o, no_levels)) ]

-- of what is not decided more is to come, and it is little
pub undecided : (b : List ℕ) → decided b ≡ false → (length b < header b) × (length b ≤ 80)
unfolding decided wrong_count
undecided b n =
    let u = or_parts (leb (header b) (length b)) (ltb 0 (length b) && wrong_count (announced b)) n in
    let short = leb-false (header b) (length b) u.0 in
    elim (cases_Bool (ltb 0 (length b))) [
      | inl some ↦ (short, omega (arith, short, ltb-false 64 (announced b) (or_parts (eqb (announced b) 0) (ltb 64 (announced b)) (rw some at u.1)).1))
      | inr none ↦ (short, omega (arith, ltb-false 0 (length b) none))
    ]

-- of the number n that came first, what is opened where bytes are missing, and what is made of the bytes past it
module _ (b : List ℕ) (n : ℕ) (first : n ≡ announced b) (o : Opening) where
  pub front_short : length b < n + 17 → o ≡ opening [] [] A → o ≡ opening_of b
  front_short s e = e ∙ sym (cut_short b (rw first at s))

  module _ (opened : o ≡ opening_of b) (fits : o.misfit ≡ None) where
    zero : number_of (opening_of b) ≡ 0
    zero = rw opened at (ap (number_or_0 misfit_number) fits)

    pub opened_past : n + 17 ≤ length b
    opened_past = rw first (opened_there b zero)

    pub opens_open : (x : Fed × List ℕ) (room : List ℕ) → x ≡ serves o.house (n + 17) b room → x ≡ opens b room
    unfolding opens
    opens_open x room s = s ∙ rw (sym opened, fits, first)

-- an opening that is refused
pub opens_refused : (b room : List ℕ) (o : Opening) (m : Misfit) (n : ℕ) → o ≡ opening_of b → o.misfit ≡ Some m → n ≡ misfit_number m → drops (record { stage = Refused n; house = o.house }) b room ≡ opens b room
unfolding opens
opens_refused b room o m n opened z e = rw (sym opened, z, ne_eqb (misfit_number m) 0 (misfit_numbered m), e)
