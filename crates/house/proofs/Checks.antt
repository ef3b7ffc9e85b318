-- What the number of a request says: which check is the first that applies, and of one that no refusal meets where its
-- transaction stands.
-- Assumes nothing.
use Rattle.std.proofs.Math.Bool.{and-false}
use Prim.Native.Nat.{ℕ, ◌<◌}
use native.Mathlib.Omega.{arith}
use mathlib.Core.Path.{◌≡◌, refl, sym, ap, ◌∙◌}
use mathlib.Core.Logic.{◌≢◌, inl, inr}
use mathlib.Core.Bool.{Bool, true, false, ◌&&◌, ◌||◌, not, cond}
use mathlib.Core.List.{List, [], ◌∷◌, ◌++◌, map}
use lib.Dec.{eqb, leb}
use borrow.Author.Tests.{eq-eqb, ne_eqb, eqb-true, eqb-false, ltb-false, leb-false, not-true}
use Rattle.std.specs.Prelude.{Option, Some, None, is_none}
use Rattle.house.specs.declared.House.{House}
use Rattle.house.specs.declared.Request.{Request}
use Rattle.house.specs.Search.{nobody, any_of, distinct}
use Rattle.house.specs.Checks.{foremost, first_of, by_number, number_or_0, some_applies, test_of, before}
use Rattle.house.specs.House.{dominates, item_at}
use Rattle.house.specs.Rules.{read, write, ◌does◌, asker, no_level, uses_item, unused_set, unknown, no_item, forbidden, blank_sheet, stopped, untimely, worn_out, crowded, ticketless, delayed, refusals, checks, verdict}
use Rattle.std.proofs.lemmas.Bool.{cases_Bool, and_parts, or_parts, or_left, or_right, not-false, not_from_false}
use Rattle.house.proofs.Tests.{clash, and_right_false, or_elim}
use Rattle.house.proofs.Operations.{OperationOf, operation_of}

-- LISTS OF CHECKS

-- names give the numbers that they have: the first that applies, and whether one does
module _ {A : Type 0} (number : A → ℕ) where
  pub first_numbered : (l : List (A × Bool)) → number_or_0 number (first_of l) ≡ foremost (by_number number l)
  first_numbered [] = refl
  first_numbered (x ∷ xs) = elim (cases_Bool x.1) [ inl y ↦ rw y | inr y ↦ rw y (first_numbered xs) ]

  pub none_numbered : ((a : A) → number a ≢ 0) → (l : List (A × Bool)) → is_none (first_of l) ≡ eqb (foremost (by_number number l)) 0
  none_numbered some [] = refl
  none_numbered some (x ∷ xs) = elim (cases_Bool x.1) [ inl y ↦ rw (y, ne_eqb (number x.0) 0 (some x.0)) | inr y ↦ rw y (none_numbered some xs) ]

-- none has the number 0
abbrev pub numbered : List (ℕ × Bool) → Bool
numbered [] = true
numbered (x ∷ xs) = not (eqb x.0 0) && numbered xs

-- where the first that applies has the number 0, none does
pub none_applies : (l : List (ℕ × Bool)) → numbered l ≡ true → foremost l ≡ 0 → some_applies l ≡ false
none_applies [] n e = refl
none_applies (x ∷ xs) n e =
    let k = and_parts (not (eqb x.0 0)) (numbered xs) n in
    elim (cases_Bool x.1) [
      | inl b ↦ clash k.0 (ap not (eq-eqb x.0 0 (rw b at e)))
      | inr b ↦ rw b (none_applies xs k.1 (rw b at e))
    ]

pub none_given : (l : List (ℕ × Bool)) → some_applies l ≡ false → foremost l ≡ 0
none_given [] e = refl
none_given (x ∷ xs) e = let k = or_parts x.1 (some_applies xs) e in rw k.0 (none_given xs k.1)

-- and no test of the list holds, whichever number it has
pub test_fails : (l : List (ℕ × Bool)) → some_applies l ≡ false → (n : ℕ) → test_of n l ≡ false
test_fails [] e n = refl
test_fails (x ∷ xs) e n =
    let k = or_parts x.1 (some_applies xs) e in
    elim (cases_Bool (eqb x.0 n)) [ inl y ↦ rw y k.0 | inr y ↦ rw y (test_fails xs k.1 n) ]

-- the number n is there; two checks have one number
abbrev has : ℕ → List (ℕ × Bool) → Bool
has n = any_of (λ x. eqb x.0 n)

abbrev pub same_number : ℕ × Bool → ℕ × Bool → Bool
same_number x y = eqb y.0 x.0

not_given : (l : List (ℕ × Bool)) (n : ℕ) → n ≢ 0 → has n l ≡ false → eqb (foremost l) n ≡ false
not_given [] n z e = ne_eqb 0 n (λ q. z (sym q))
not_given (x ∷ xs) n z e =
    let k = or_parts (eqb x.0 n) (has n xs) e in
    elim (cases_Bool x.1) [ inl y ↦ rw y k.0 | inr y ↦ rw y (not_given xs n z k.1) ]

-- n is given exactly when its test holds and none before it does
pub first_given : (l : List (ℕ × Bool)) → distinct same_number l ≡ true → (n : ℕ) → n ≢ 0 → eqb (foremost l) n ≡ (test_of n l && not (some_applies (before n l)))
first_given [] d n z = ne_eqb 0 n (λ q. z (sym q))
first_given (x ∷ xs) d n z =
    let k = and_parts (not (has x.0 xs)) (distinct same_number xs) d in
    elim (cases_Bool (eqb x.0 n)) [
      | inl e ↦ elim (cases_Bool x.1) [
        | inl y ↦ rw (e, y) e
        | inr y ↦ rw (e, y) (not_given xs n z (ap (λ m. has m xs) (sym (eqb-true x.0 n e)) ∙ not-true _ k.0))
      ]
      | inr e ↦ elim (cases_Bool x.1) [ inl y ↦ rw (e, y) (e ∙ sym (and-false (test_of n xs))) | inr y ↦ rw (e, y) (first_given xs k.1 n z) ]
    ]

-- the first check of a list that applies has one of its numbers
pub foremost_stands : (l : List (ℕ × Bool)) → any_of (eqb (foremost l)) (0 ∷ map (λ x. x.0) l) ≡ true
foremost_stands [] = refl
foremost_stands (x ∷ xs) = either x.1 x.0 (foremost xs) (map (λ y. y.0) xs) (foremost_stands xs)
  where
    either : (b : Bool) (n m : ℕ) (ns : List ℕ) → any_of (eqb m) (0 ∷ ns) ≡ true → any_of (eqb (cond b n m)) (0 ∷ n ∷ ns) ≡ true
    either true n m ns e = or_right (eqb n 0) (any_of (eqb n) (n ∷ ns)) (or_left (eqb n n) (any_of (eqb n) ns) (eq-eqb n n refl))
    either false n m ns e =
        let rest = any_of (eqb m) ns in
        or_elim (eqb m 0) rest e (or_left (eqb m 0) (eqb m n || rest)) (λ k. or_right (eqb m 0) (eqb m n || rest) (or_right (eqb m n) rest k))

-- of two lists, the second is asked where none of the first applies
pub foremost_append : (l r : List (ℕ × Bool)) → numbered l ≡ true → foremost (l ++ r) ≡ cond (eqb (foremost l) 0) (foremost r) (foremost l)
foremost_append [] r m = refl
foremost_append (x ∷ xs) r m =
    let k = and_parts (not (eqb x.0 0)) (numbered xs) m in
    elim (cases_Bool x.1) [ inl y ↦ rw (y, not-true (eqb x.0 0) k.0) | inr y ↦ rw y (foremost_append xs r k.1) ]

-- a number that stands in one list of two, first the other: only then
pub given_last : (l : List (ℕ × Bool)) (n : ℕ) (b : Bool) → n ≢ 0 → numbered l ≡ true → has n l ≡ false → eqb (foremost (l ++ ((n, b) ∷ []))) n ≡ (eqb (foremost l) 0 && b)
given_last l n b z m d =
    rw (foremost_append l ((n, b) ∷ []) m)
    (elim (cases_Bool (eqb (foremost l) 0)) [ inl y ↦ rw y (only b) | inr y ↦ rw y (not_given l n z d) ])
  where
    only : (b : Bool) → eqb (cond b n 0) n ≡ b
    only true = eq-eqb n n refl
    only false = ne_eqb 0 n (λ q. z (sym q))

-- THE CHECKS OF A REQUEST

-- what a request that no refusal meets has passed, check by check
pub record Clear (h : House) (q : Request) : Type 0 where
  pub operation : OperationOf q
  pub level : q.level < 4
  pub unused : unused_set q ≡ false
  pub known : unknown h q ≡ false
  pub present : no_item h q ≡ false
  pub allowed : forbidden h q ≡ false
  pub drawn : blank_sheet q ≡ false
  pub unstopped : stopped h q ≡ false
  pub timely : untimely h q ≡ false
  pub fresh : worn_out h q ≡ false
  pub roomy : crowded h q ≡ false
  pub ticketed : ticketless h q ≡ false

-- a level that is there is one of the four
pub level_there : (q : Request) → no_level q ≡ false → q.level < 4
unfolding no_level
level_there q e = omega (arith, ltb-false 3 q.level e)

pub clear : (h : House) (q : Request) → foremost (refusals h q) ≡ 0 → Clear h q
unfolding refusals
clear h q e =
    let past = test_fails (refusals h q) (none_applies (refusals h q) refl e) in
    record {
      operation = operation_of q (past 3);
      level = level_there q (past 4);
      unused = past 5;
      known = past 6;
      present = past 7;
      allowed = past 8;
      drawn = past 15;
      unstopped = past 2;
      timely = past 9;
      fresh = past 10;
      roomy = past 11;
      ticketed = past 12;
    }

-- an item that is there is below the count, and one of the 64 rows
pub there : (count i : ℕ) → (leb count i || leb 64 i) ≡ false → (i < count) × (i < 64)
there count i e = let k = or_parts (leb count i) (leb 64 i) e in (leb-false count i k.0, leb-false 64 i k.1)

pub item_there : (h : House) (q : Request) → uses_item q ≡ true → no_item h q ≡ false → (q.item < h.count) × (q.item < 64)
unfolding no_item
item_there h q u e = there h.count q.item (rw u at e)

-- an item that may be read or written is of a level that the asker's, which dominates itself, dominates
pub allowed_below : (h : House) (q : Request) → dominates h.order q.level q.level ≡ true → uses_item q ≡ true → forbidden h q ≡ false → dominates h.order q.level (item_at h.items q.item).level ≡ true
unfolding forbidden
allowed_below h q itself u e =
    elim (cases_Bool (q does read)) [
      | inl r ↦ not-false _ (rw r at e)
      | inr n ↦ let w : q does write ≡ true = rw n at u in rw (eqb-true (item_at h.items q.item).level q.level (not-false _ (rw (n, w) at e))) itself
    ]

-- no refusal has the number of the delay
pub refusal_not_delay : (h : House) (q : Request) → eqb (foremost (refusals h q)) 1 ≡ false
unfolding refusals
refusal_not_delay h q = not_given (refusals h q) 1 (λ e. omega arith) refl

-- the number of a request, from its refusals and its delay
pub verdict_is : (h : House) (q : Request) → verdict h q ≡ cond (eqb (foremost (refusals h q)) 0) (cond (delayed h q) 1 0) (foremost (refusals h q))
unfolding verdict checks refusals
verdict_is h q = foremost_append (refusals h q) ((1, delayed h q) ∷ []) refl

-- one with the number 0 is neither refused nor delayed
pub passes : (h : House) (q : Request) → verdict h q ≡ 0 → (foremost (refusals h q) ≡ 0) × (delayed h q ≡ false)
passes h q e = neither (foremost (refusals h q)) (delayed h q) (sym (verdict_is h q) ∙ e)
  where
    neither : (n : ℕ) (d : Bool) → cond (eqb n 0) (cond d 1 0) n ≡ 0 → (n ≡ 0) × (d ≡ false)
    neither n true z = elim (cases_Bool (eqb n 0)) [ inl y ↦ absurd (omega (arith, rw y at z)) | inr y ↦ absurd (eqb-false n 0 y (rw y at z)) ]
    neither n false z = elim (cases_Bool (eqb n 0)) [ inl y ↦ (eqb-true n 0 y, refl) | inr y ↦ absurd (eqb-false n 0 y (rw y at z)) ]

-- a search that found somebody found them at a place
pub somebody : (who : Option ℕ) → nobody who ≡ false → (p : ℕ) × (who ≡ Some p)
somebody (Some p) e = (p, refl)
somebody None e = clash refl e

-- "Each request for a transaction finds its place or is answered 6": one that no refusal meets has found it
pub asker_known : (h : House) (q : Request) → q.operation ≢ 0 → foremost (refusals h q) ≡ 0 → (me : ℕ) × (asker h q ≡ Some me)
unfolding unknown
asker_known h q o e =
    somebody (asker h q) (and_right_false (not (eqb q.operation 0)) _ (not_from_false _ (ne_eqb _ 0 o)) (clear h q e).known)
