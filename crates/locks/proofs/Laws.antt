-- Laws for `search`: each scan in the words of the search that it spares, from what a call promises and which way its test went.
-- Assumes nothing.
use Prim.Native.Nat.{ℕ, ◌+◌, ◌-◌, ◌*◌, ◌/◌, ◌%◌, ◌<◌}
use native.Mathlib.Omega.{arith}
use native.Mathlib.Nat.{mod-eq_of_lt}
use mathlib.Core.Path.{◌≡◌, refl, sym, ◌∙◌}
use mathlib.Core.Logic.{inl, inr}
use mathlib.Core.Bool.{Bool, true, false, not, ◌||◌, ◌&&◌}
use mathlib.Core.List.{List}
use lib.Dec.{eqb}
use borrow.Author.Tests.{eq-eqb, eqb-true, not-true}
use mir.Syntax.{w16}
use mir.Val.{Fits}
use Rattle.std.specs.Option.{unwrap_or}
use Rattle.std.proofs.lemmas.Bool.{cases_Bool, false_from_ne_true, and_parts, and_from}
use Rattle.house.proofs.Tests.{clash}
use Rattle.house.proofs.Searches.{any_none, any_some, any_at, find_below, none_found, scan_same}
use Rattle.house.specs.declared.Answer.TheVariants.{Signals}
use Rattle.std.specs.Prelude.{Option, Some, None}
use Rattle.house.specs.declared.Mark.{Mark}
use Rattle.house.specs.declared.Mark.TheVariants.{Read, Write, Certify, Signalled}
use Rattle.house.specs.Cell.{has, cell_at, holds, another_holds, first_signalled}
use Rattle.house.specs.Rules.{read, write, certify, another_claims, peer_reads, hinders}
use Rattle.house.specs.Search.{any, find, if_found}
use Rattle.locks.specs.Others.{other}
use Rattle.ruling.specs.Judged.{lowest_holder, waits_at}

-- a mark looked for in a cell that a call gave
pub seen : (m : Mark) (cells : List ℕ) (p i c : ℕ) (b : Bool) → b ≡ has m c → c ≡ cell_at cells p i → b ≡ holds cells m p i
unfolding holds
seen m cells p i c b e f = e ∙ rw f

-- who hinders a read, and a write, is another whose cell has a mark
module _ (cells : List ℕ) (me i : ℕ) where
  pub read_others : (r : Option ℕ) → r ≡ find (other (has Certify) cells me i) 0 32 → r ≡ lowest_holder cells read me i
  unfolding hinders another_holds holds
  read_others r e = e

  pub write_others : (r : Option ℕ) → r ≡ find (other (λ c. has Write c || has Certify c) cells me i) 0 32 → r ≡ lowest_holder cells write me i
  unfolding hinders another_claims another_holds holds
  write_others r e = e ∙ scan_same _ _ _ _ 0 32 (λ p a b. spread (not (eqb p me)) (has Write (cell_at cells p i)) (has Certify (cell_at cells p i)))
    where
      spread : (n a b : Bool) → (n && (a || b)) ≡ (n && a || n && b)
      spread true a b = refl
      spread false a b = refl

  -- who hinders a certify reads, at the level of `me`; the item was found, so it is below 64
  pub certify_others : (r : Option ℕ) (a : Option ℕ) (f : ℕ → Bool) → a ≡ find f 0 64 → a ≡ Some i
      → r ≡ find (λ p. eqb (p / 8) (me / 8) && another_holds cells Read me (i % 64) p) 0 32 → r ≡ lowest_holder cells certify me i
  unfolding hinders peer_reads
  certify_others r a f e p s = rw (mod-eq_of_lt {n = i} (find_below f 0 64 i (sym e ∙ p))) at s

-- those of a level are the eight
pub peers : (cells : List ℕ) (me i : ℕ) → me < 32 → (r : Bool) → r ≡ any (another_holds cells Read me i) (me / 8 * 8) (me / 8 * 8 + 8 - me / 8 * 8) → r ≡ any (hinders cells certify me i) 0 32
unfolding hinders peer_reads
peers cells me i a r s =
    let eight = another_holds cells Read me i in
    let n : me / 8 * 8 + 8 - me / 8 * 8 ≡ 8 = omega arith in
    rw n at s
    ∙ elim (cases_Bool (any eight (me / 8 * 8) 8)) [
      | inl y ↦ let w = any_some eight (me / 8 * 8) 8 y in y ∙ sym (any_at (hinders cells certify me i) 0 32 w.0 (omega arith) (omega arith) (and_from _ _ (eq-eqb (w.0 / 8) (me / 8) (omega arith)) w.3))
      | inr n ↦ n ∙ sym (false_from_ne_true _ (λ y.
          let w = any_some (hinders cells certify me i) 0 32 y in
          let k = and_parts (eqb (w.0 / 8) (me / 8)) (eight w.0) w.3 in
          let level = eqb-true (w.0 / 8) (me / 8) k.0 in
          clash k.1 (any_none eight (me / 8 * 8) 8 n w.0 (omega arith) (omega arith))))
    ]

-- "With nothing written it is done at once."
pub nothing_written : (cells : List ℕ) (me : ℕ) (b : Bool) → b ≡ any (holds cells Write me) 0 64 → not b ≡ true → None ≡ find (waits_at cells me) 0 64
unfolding waits_at
nothing_written cells me b e n =
    let none : any (holds cells Write me) 0 64 ≡ false = sym e ∙ not-true b n in
    sym (none_found (waits_at cells me) 0 64 (scan_same _ _ _ _ 0 64 (λ i c d. rw (any_none (holds cells Write me) 0 64 none i c d)) ∙ none))

-- where a scan has said no nobody is found
pub none_holds : (g : ℕ → Bool) (b : Bool) → b ≡ any g 0 32 → b ≡ false → None ≡ find g 0 32
none_holds g b s n = sym (none_found g 0 32 (sym s ∙ n))

-- an ask is told of an item, which is one of the 64, and of no more than there are
module _ (cells : List ℕ) (me : ℕ) where
  lowest_fits : (a : Option ℕ) → a ≡ first_signalled cells me → unwrap_or a 0 < 64
  unfolding first_signalled
  lowest_fits (Some i) e = omega (arith, find_below (holds cells Signalled me) 0 64 i (sym e))
  lowest_fits None e = omega arith

  pub lowest_is : (n : ℕ) (a : Option ℕ) → n ≡ unwrap_or a 0 → a ≡ first_signalled cells me → n ≡ if_found (first_signalled cells me) (λ i. i) 0
  lowest_is n (Some i) s e = rw (s, ← e)
  lowest_is n None s e = rw (s, ← e)

  pub item_fits : (n : ℕ) (a : Option ℕ) → n ≡ unwrap_or a 0 → a ≡ first_signalled cells me → Fits w16 n
  item_fits n a s e = omega (arith, lowest_fits a e)

pub signals : (i j n m : ℕ) → i ≡ j → n ≡ m → Signals i n ≡ Signals j m
signals i j n m p q = rw (p, q)
