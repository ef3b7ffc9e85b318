-- Laws for `search`, each from what a call promises and which way its test went.
-- Assumes nothing.
use Prim.Native.Nat.{ℕ, ◌+◌, ◌*◌, ◌%◌, ◌<◌}
use native.Mathlib.Omega.{arith}
use native.Mathlib.Nat.{mod-eq_of_lt}
use mathlib.Core.Logic.{◌⊎◌, inl, inr}
use mathlib.Core.Path.{◌≡◌, refl, sym, ◌∙◌}
use mathlib.Core.Bool.{Bool, true, false, cond, not, ◌||◌}
use mathlib.Core.List.{List}
use lib.Dec.{eqb, leb}
use borrow.Author.Tests.{lt-ltb, not-true, not-false}
use denote.Enum.Bare.{sameb}
use mir.Syntax.{w64}
use mir.Val.{Fits}
use Rattle.house.proofs.Checks.{there, level_there}
use Rattle.house.proofs.Places.{same_active, same_certified, seek_at, vacancy_at}
use Rattle.house.specs.declared.Answer.{Answer}
use Rattle.house.specs.declared.Answer.TheVariants.{Done}
use Rattle.std.specs.Prelude.{Option, Some, None}
use Rattle.house.specs.declared.Item.{Item}
use Rattle.house.specs.declared.Place.{Place}
use Rattle.house.specs.contracts.Standing.{the_type}
use Rattle.house.specs.contracts.Operation as Kinds
use Rattle.house.specs.declared.Operation.{Operation}
use Rattle.house.specs.declared.Refusal.{Refusal}
use Rattle.house.specs.declared.Refusal.TheVariants.{NoOperation}
use Rattle.house.specs.declared.Request.{Request}
use Rattle.house.specs.declared.Standing.{Standing}
use Rattle.house.specs.declared.Standing.TheVariants.{Active, Certified}
use Rattle.house.specs.Rules.{begin, read, write, code, ◌does◌, no_operation, no_level, read_answer, ask_answer}
use Rattle.house.specs.Search.{if_found}
use Rattle.house.specs.House.{is_active, is_certified, seek, vacancy}
use Rattle.ruling.specs.declared.Case.{Case}
use Rattle.ruling.specs.declared.Change.{Change}
use Rattle.ruling.specs.declared.Ruling.{Ruling}
use Rattle.ruling.specs.declared.Ruling.TheVariants.{Refuse, Grant}
use Rattle.ruling.specs.Judged.{lowest_holder, certify_holder, read_ruled, write_ruled, certify_ruled, commit_ruled, known_ruled}

-- what is granted has the answer that a call made
pub granted : (r : Ruling) (a b : Answer) (c : Change) → r ≡ Grant a c → a ≡ b → r ≡ Grant b c
granted r a b c e p = e ∙ rw p

-- a check that a call answers the other way round: the asker's level dominates the item's, or it does not
pub allowed : (r x y : Ruling) (b t : Bool) → b ≡ t → not b ≡ false → r ≡ y → r ≡ cond (not t) x y
allowed r x y b t s n e = rw (sym s ∙ not-false b n) e

pub forbidden : (r x y : Ruling) (b t : Bool) → b ≡ t → not b ≡ true → r ≡ x → r ≡ cond (not t) x y
forbidden r x y b t s n e = rw (sym s ∙ not-true b n) e

-- the item is one of the 64
pub listed : (b : Bool) (count i : ℕ) → b ≡ (leb count i || leb 64 i) → b ≡ false → i < 64
listed b count i e n = (there count i (sym e ∙ n)).1

-- the level is one of the four, the place found one of its eight, and so one of the 32
pub low : (b : Bool) (q : Request) → b ≡ no_level q → b ≡ false → q.level < 4
low b q e n = level_there q (sym e ∙ n)

pub sought : (a : Option ℕ) (eight : List Place) (t k : ℕ) → a ≡ seek eight 0 t → a ≡ Some k → k < 8
sought a eight t k e p = let w = (seek_at eight 0 t k (omega arith) (sym e ∙ p)).within.level in omega arith

pub freed : (a : Option ℕ) (eight : List Place) (k : ℕ) → a ≡ vacancy eight 0 → a ≡ Some k → k < 8
freed a eight k e p = let w = (vacancy_at eight 0 k (omega arith) (sym e ∙ p)).within.level in omega arith

pub placed : (l k : ℕ) → l < 4 → k < 8 → l * 8 + k < 32
placed l k b d = omega arith

pub place_fits : (l k : ℕ) → l < 4 → k < 8 → Fits w64 (l * 8 + k)
place_fits l k b d = omega arith

pub eighth_fits : (k : ℕ) → k < 8 → Fits w64 (k * 8)
eighth_fits k b = omega arith

-- THE LOCKS are asked at a place modulo 32 and of an item modulo 64; those of a case are below
module _ (cells : List ℕ) (me : ℕ) (here : me < 32) where
  pub certify_held : (a : Option ℕ) → a ≡ certify_holder cells (me % 32) → a ≡ certify_holder cells me
  certify_held a e = rw (mod-eq_of_lt here) at e

  pub asked : (a : Answer) → a ≡ ask_answer cells (me % 32) → a ≡ ask_answer cells me
  asked a e = rw (mod-eq_of_lt here) at e

  module _ (i : ℕ) (l : i < 64) where
    pub shown : (x : Item) (pending : ℕ) (a : Answer) → a ≡ read_answer cells x pending (me % 32) (i % 64) → a ≡ read_answer cells x pending me i
    shown x pending a e = rw (mod-eq_of_lt here, mod-eq_of_lt l) at e

    -- a read or a write, in whose way somebody stands, or nobody
    module _ {A : Type 0} (r : A) (f : ℕ → A) (x : A) (operation : ℕ) (a : Option ℕ) (s : a ≡ lowest_holder cells operation (me % 32) (i % 64)) where
      who : a ≡ lowest_holder cells operation me i
      who = rw (mod-eq_of_lt here, mod-eq_of_lt l) at s

      pub held : (p : ℕ) → a ≡ Some p → r ≡ f p → r ≡ if_found (lowest_holder cells operation me i) f x
      held p e q = rw (sym who ∙ e) q

      pub unheld : a ≡ None → r ≡ x → r ≡ if_found (lowest_holder cells operation me i) f x
      unheld e q = rw (sym who ∙ e) q

-- an equality that the code tests is the test of the definition
pub certified_is : (b : Bool) (s : Standing) → b ≡ sameb the_type s Certified → b ≡ is_certified s
certified_is b s e = e ∙ same_certified s

pub active_is : (b : Bool) (s : Standing) → b ≡ sameb the_type s Active → b ≡ is_active s
active_is b s e = e ∙ same_active s

-- THE OPERATION that a request names. A request that names one passes the first check, and any other is refused by it
pub named : {A : Type 0} (r x y : A) (o : Operation) (q : Request) → code o ≡ q.operation → r ≡ y → r ≡ cond (no_operation q) x y
unfolding no_operation
named r x y Operation.Begin q s e = rw (sym s) e
named r x y Operation.Read q s e = rw (sym s) e
named r x y Operation.Write q s e = rw (sym s) e
named r x y Operation.Certify q s e = rw (sym s) e
named r x y Operation.Commit q s e = rw (sym s) e
named r x y Operation.Abort q s e = rw (sym s) e
named r x y Operation.Ask q s e = rw (sym s) e

pub nameless : (a : Refusal) (y : Ruling) (q : Request) → a ≡ NoOperation → 6 < q.operation → Refuse a ≡ cond (no_operation q) (Refuse NoOperation) y
unfolding no_operation
nameless a y q s h = rw (lt-ltb 6 q.operation h, s)

-- an equality that the code tests is one of numbers
pub same_begin : (o : Operation) → sameb Kinds.the_type o Operation.Begin ≡ eqb (code o) begin
same_begin Operation.Begin = refl
same_begin Operation.Read = refl
same_begin Operation.Write = refl
same_begin Operation.Certify = refl
same_begin Operation.Commit = refl
same_begin Operation.Abort = refl
same_begin Operation.Ask = refl

pub same_read : (o : Operation) → sameb Kinds.the_type o Operation.Read ≡ eqb (code o) read
same_read Operation.Begin = refl
same_read Operation.Read = refl
same_read Operation.Write = refl
same_read Operation.Certify = refl
same_read Operation.Commit = refl
same_read Operation.Abort = refl
same_read Operation.Ask = refl

pub same_write : (o : Operation) → sameb Kinds.the_type o Operation.Write ≡ eqb (code o) write
same_write Operation.Begin = refl
same_write Operation.Read = refl
same_write Operation.Write = refl
same_write Operation.Certify = refl
same_write Operation.Commit = refl
same_write Operation.Abort = refl
same_write Operation.Ask = refl

-- a begin, or not
pub begins : (b : Bool) (o : Operation) (q : Request) → code o ≡ q.operation → b ≡ sameb Kinds.the_type o Operation.Begin → b ≡ (q does begin)
begins b o q s e = e ∙ same_begin o ∙ rw s

-- what is ruled of each operation but begin
abbrev of_operation : Operation → Case → List ℕ → Ruling
of_operation Operation.Read c cells = read_ruled c cells
of_operation Operation.Write c cells = write_ruled c cells
of_operation Operation.Certify c cells = certify_ruled c cells
of_operation Operation.Commit c cells = commit_ruled c cells
of_operation Operation.Abort c cells = Grant Done (Change.Abort c.me)
of_operation Operation.Ask c cells = Grant (ask_answer cells c.me) Change.Nothing
of_operation Operation.Begin c cells = Grant (ask_answer cells c.me) Change.Nothing

of_known : (o : Operation) (c : Case) (cells : List ℕ) → code o ≡ c.request.operation → known_ruled c cells ≡ of_operation o c cells
unfolding known_ruled
of_known Operation.Begin c cells s = rw (sym s)
of_known Operation.Read c cells s = rw (sym s)
of_known Operation.Write c cells s = rw (sym s)
of_known Operation.Certify c cells s = rw (sym s)
of_known Operation.Commit c cells s = rw (sym s)
of_known Operation.Abort c cells s = rw (sym s)
of_known Operation.Ask c cells s = rw (sym s)

-- an arm of the match, and the last one
pub arm : (r : Ruling) (o k : Operation) (c : Case) (cells : List ℕ) → code o ≡ c.request.operation → o ≡ k → r ≡ of_operation k c cells → r ≡ known_ruled c cells
arm r o k c cells s e p = p ∙ sym (of_known k c cells (rw e at s))

pub asks : (r : Ruling) (o : Operation) (c : Case) (cells : List ℕ) → code o ≡ c.request.operation → (o ≡ Operation.Begin) ⊎ (o ≡ Operation.Ask) → r ≡ Grant (ask_answer cells c.me) Change.Nothing → r ≡ known_ruled c cells
asks r o c cells s (inl e) p = arm r o Operation.Begin c cells s e p
asks r o c cells s (inr e) p = arm r o Operation.Ask c cells s e p
