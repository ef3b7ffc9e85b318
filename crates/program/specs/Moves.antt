-- What moves in a round of the program, where the bytes are known that its reader has left and that its writer holds.
-- Assumes nothing.
use Rattle.std.specs.Prelude.{ℕ, ◌≡◌, ◌⊎◌, ⊤, List, Option, take, Result, Ok, MatchResult, IsOk, IsErr, IfOk}
use Rattle.std.specs.Io.KnownBytes.{Keeps, Consumes, Appends, IsAtEnd}
use Rattle.dialogue.specs.declared.Dialogue.{Dialogue}
use Rattle.dialogue.specs.declared.Stage.{Stage}
use Rattle.dialogue.specs.declared.Stage.TheVariants.{Refused}
use Rattle.dialogue.specs.Rounds.{Read, Reading, round}
use Rattle.program.specs.declared.Next.{Next}
use Rattle.program.specs.declared.Next.TheVariants.{Round, End}

-- what comes after a round
abbrev pub at_next {ℓ} : {A : Type ℓ} → Next → A → A → A
at_next Round another over = another
at_next End another over = over

abbrev pub IsRefused : Stage → Type 0
IsRefused s = (n : ℕ) × (s ≡ Refused n)

-- after a read that brought nothing: only where the input ended, it is over, and there it is
abbrev pub AfterNoBytes : {E F : Type 0} → Result ℕ E → Result Next F → Type 0
AfterNoBytes got next = MatchResult got (λ _. next ≡ Ok End) (λ _. IfOk next (λ n. at_next n ⊤ ⊥))

-- after replies: another round and the end come only where they were written, and the end only of what is refused; failure only where they
-- were not
abbrev pub AfterReplies : {E F : Type 0} → Result (Unit {0}) E → Stage → Result Next F → Type 0
AfterReplies put stage next = MatchResult next (λ n. at_next n (IsOk put) (IsOk put × IsRefused stage)) (λ _. IsErr put)

-- The reader had the bytes `given`, and has `left`; the writer held `held`, and holds `holds`. The round led from the dialogue s to t,
-- from `have` to `kept` bytes that are kept, from one buffer to another, and from `room` to `out`.
module _ (given left held holds : Option (List ℕ)) (s : Dialogue) (buffer : List ℕ) (have : ℕ) (room : List ℕ) (t : Dialogue) (kept : ℕ) (after out : List ℕ) where
  -- what a read brought was heard, and the replies to it were written
  pub record Answered : Type 0 where
    pub read : Read
    pub reading : Reading buffer have read
    pub brought : Consumes given left (take read.got read.part)
    pub dialogue : t ≡ (round s buffer have room read).0.dialogue
    pub keeps : kept ≡ (round s buffer have room read).0.have
    pub front : after ≡ (round s buffer have room read).1
    pub written : Appends held holds (take (round s buffer have room read).0.written (round s buffer have room read).2)

  -- nothing was brought, and all is as it was
  pub record Unmoved : Type 0 where
    pub brought : Keeps given left
    pub written : Keeps held holds
    pub dialogue : t ≡ s
    pub keeps : kept ≡ have
    pub front : take have after ≡ take have buffer

  abbrev pub Moved : Next → Type 0
  Moved next = at_next next (Answered ⊎ Unmoved) ((Unmoved × IsAtEnd left) ⊎ (Answered × IsRefused t.stage))
