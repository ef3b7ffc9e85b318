-- Round after round: what was written, and what is still to be written of the bytes to come, is what the program should write.
-- Assumes nothing.
use Rattle.std.proofs.Common.{ℕ, ◌+◌, ◌≡◌, ◌⊎◌, inl, inr, List, [], ◌++◌, Option, None, Some, length, take, refl, ap, sym, ◌∙◌, append_assoc, append-nil, arith}
use Rattle.std.proofs.Math.ListN.{length-append}
use Rattle.std.proofs.Math.Seq.{take-append-add}
use Rattle.std.proofs.lemmas.List.{length-take-le}
use Rattle.std.specs.Io.KnownBytes.{Consumes, Appends, IsAtEnd}
use Rattle.std.proofs.KnownBytes.{Consumes-nil, Consumes-trans, Consumes-kept, Appends-nil, Appends-trans, Appends-kept}
use Rattle.house.specs.declared.House.{House}
use Rattle.dialogue.specs.declared.Dialogue.{Dialogue}
use Rattle.dialogue.specs.declared.Stage.TheVariants.{Refused}
use Rattle.dialogue.specs.Dialogue.{started, ended, heard}
use Rattle.dialogue.specs.Pieces.{programmed, farewell}
use Rattle.dialogue.specs.Rounds.{Room, round}
use Rattle.dialogue.proofs.Pieces.{before, expected, Unfinished, Fresh, expected_last, fresh_start, nothing_yet, all_expected}
use Rattle.dialogue.proofs.AfterRound.{AfterRound, after_round}
use Rattle.program.specs.declared.Next.{Next}
use Rattle.program.specs.declared.Next.TheVariants.{Round, End}
use Rattle.program.specs.Moves.{Answered, Unmoved, Moved}
use Rattle.program.specs.Whole.{AllButFarewell}

-- of the bytes `given`, `left` are still to be read; the writer held `held`, and holds `holds`; and the dialogue s has bytes that it did not use
pub record Told (given left held holds : Option (List ℕ)) (s : Dialogue) (unused : List ℕ) : Type 0 where
  pub taken : List ℕ
  pub told : List ℕ
  pub brought : Consumes given left taken
  pub written : Appends held holds told
  pub same : (future : List ℕ) → before told (expected s (unused ++ future)) ≡ expected started (taken ++ future)
  pub fresh : Fresh s
  pub unfinished : Unfinished s unused

pub begins : (given held : Option (List ℕ)) → Told given given held held started []
begins given held =
    record {
      taken = [];
      told = [];
      brought = Consumes-nil given;
      written = Appends-nil held;
      same = λ future. refl;
      fresh = fresh_start;
      unfinished = nothing_yet;
    }

-- two parts one after the other
before_both : (a b : List ℕ) (rest : List ℕ × House) → before (a ++ b) rest ≡ before a (before b rest)
before_both a b rest = ap (λ l. (l, rest.1)) (append_assoc a b rest.0)

module _ (given left held holds : Option (List ℕ)) (s : Dialogue) (buffer : List ℕ) (have : ℕ) (room : List ℕ) (T : Told given left held holds s (take have buffer)) where
  module _ (left' holds' : Option (List ℕ)) (t : Dialogue) (kept : ℕ) (after out : List ℕ) where
    answered_told : Room buffer room → Answered left left' holds holds' s buffer have room t kept after out → Told given left' held holds' t (take kept after)
    unfolding round
    answered_told r A =
        let read = A.read in
        let fill = take have buffer ++ read.part in
        let front : length (take have buffer) ≡ have = length-take-le have buffer (omega (arith, A.reading.0)) in
        let long : length fill ≡ length buffer = rw (length-append (take have buffer) read.part, front) A.reading.0 in
        let x = heard s fill have read.got room in
        let a : AfterRound s fill have read.got room x = after_round s fill have read.got room (rw long r.1) in
        let given_now : take (have + read.got) fill ≡ take have buffer ++ take read.got read.part = ap (λ n. take (n + read.got) fill) (sym front) ∙ take-append-add (take have buffer) read.part read.got in
        let now : Told given left' held holds' x.0.dialogue (take x.0.have x.1) =
        record {
          taken = T.taken ++ take read.got read.part;
          told = T.told ++ take x.0.written x.2;
          brought = Consumes-trans _ _ _ T.taken (take read.got read.part) T.brought A.brought;
          written = Appends-trans _ _ _ T.told (take x.0.written x.2) T.written A.written;
          same = λ future.
              before_both T.told (take x.0.written x.2) _
              ∙ ap (before T.told) (a.same future ∙ ap (λ l. expected s (l ++ future)) given_now ∙ ap (expected s) (append_assoc (take have buffer) (take read.got read.part) future))
              ∙ T.same (take read.got read.part ++ future)
              ∙ ap (expected started) (sym (append_assoc T.taken (take read.got read.part) future));
          fresh = a.fresh T.fresh;
          unfinished = a.unfinished;
        } in
        rw (A.dialogue, A.keeps, A.front) now

    unmoved_told : Unmoved left left' holds holds' s buffer have room t kept after out → Told given left' held holds' t (take kept after)
    unmoved_told U =
        let now : Told given left' held holds' s (take have buffer) =
        record {
          taken = T.taken;
          told = T.told;
          brought = Consumes-kept _ _ _ T.taken T.brought U.brought;
          written = Appends-kept _ _ _ T.told T.written U.written;
          same = T.same;
          fresh = T.fresh;
          unfinished = T.unfinished;
        } in
        rw (U.dialogue, U.keeps, U.front) now

    pub goes_on : Room buffer room → Answered left left' holds holds' s buffer have room t kept after out ⊎ Unmoved left left' holds holds' s buffer have room t kept after out → Told given left' held holds' t (take kept after)
    goes_on r (inl A) = answered_told r A
    goes_on r (inr U) = unmoved_told U

-- THE END

-- with these bytes still to come, which change nothing of what is expected
ended_told : (given left held holds : Option (List ℕ)) (s : Dialogue) (unused : List ℕ) (T : Told given left held holds s unused)
    → ((future : List ℕ) → left ≡ Some future → (farewell (ended s.stage), s.house) ≡ expected s (unused ++ future)) → AllButFarewell given held holds s
ended_told None left held holds s unused T e = tt
ended_told (Some bytes) None held holds s unused T e = absurd T.brought
ended_told (Some bytes) (Some future) held holds s unused T e =
    (T.told, T.written, ap (before T.told) (e future refl) ∙ T.same future ∙ all_expected (T.taken ++ future) ∙ ap programmed (sym T.brought))

at_end : (left : Option (List ℕ)) (future : List ℕ) → IsAtEnd left → left ≡ Some future → future ≡ []
at_end None future a e = cc
at_end (Some xs) future a e = let none : xs ≡ [] = a in cc

-- the input is at its end
pub all_read : (given left held holds : Option (List ℕ)) (s : Dialogue) (unused : List ℕ) → Told given left held holds s unused → IsAtEnd left → AllButFarewell given held holds s
all_read given left held holds s unused T a =
    ended_told given left held holds s unused T (λ future e. rw (at_end left future a e, append-nil unused) (expected_last s unused T.fresh T.unfinished))

-- or the opening was refused
pub all_refused : (given left held holds : Option (List ℕ)) (s : Dialogue) (unused : List ℕ) → Told given left held holds s unused → (n : ℕ) → s.stage ≡ Refused n → AllButFarewell given held holds s
unfolding expected
all_refused given left held holds s unused T n r =
    ended_told given left held holds s unused T (λ future e. rw r)

-- A ROUND, as `exchange` promises it

module _ (given left held holds : Option (List ℕ)) (s : Dialogue) (buffer : List ℕ) (have : ℕ) (room : List ℕ) (T : Told given left held holds s (take have buffer)) (roomy : Room buffer room) where
  module _ (left' holds' : Option (List ℕ)) (t : Dialogue) (kept : ℕ) (after out : List ℕ) where
    pub another : (next : Next) → Moved left left' holds holds' s buffer have room t kept after out next → next ≡ Round → Told given left' held holds' t (take kept after)
    another Round m e = goes_on _ _ _ _ s buffer have room T _ _ t kept after out roomy m
    another End m e = cc

    pub ends : (next : Next) → Moved left left' holds holds' s buffer have room t kept after out next → next ≡ End → AllButFarewell given held holds' t
    ends Round m n = cc
    ends End (inl u) n = all_read _ _ _ _ t _ (unmoved_told _ _ _ _ s buffer have room T _ _ t kept after out u.0) u.1
    ends End (inr a) n = all_refused _ _ _ _ t _ (answered_told _ _ _ _ s buffer have room T _ _ t kept after out roomy a.0) a.1.0 a.1.1
