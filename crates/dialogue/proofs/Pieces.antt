-- The whole input at once, and in pieces.
-- Assumes nothing.
use Prim.Native.Nat.{ℕ, ◌+◌, ◌*◌, ◌/◌, ◌<◌, ◌≤◌}
use native.Mathlib.Omega.{arith}
use mathlib.Core.Path.{◌≡◌, refl, sym, ap, ◌∙◌}
use mathlib.Core.Logic.{inl, inr}
use mathlib.Core.Bool.{true, false, ◌&&◌}
use mathlib.Core.List.{List, [], ◌∷◌, ◌++◌, append_assoc, append-nil}
use lib.ListN.{length, take, drop, length-append, length-drop, take-append-drop, get_or-append}
use lib.Seq.{length-take-le, get_or-take, take_at, drop_at, drop-drop, drop-append-le, take-append-le, drop-length}
use lib.Dec.{eqb, ltb, leb}
use borrow.Author.Tests.{eqb-true, ltb-true, leb-true}
use Rattle.house.specs.declared.House.{House}
use Rattle.house.specs.declared.Rule.TheVariants.{A}
use Rattle.house.specs.Opening.{wrong_count, number_of, opening}
use Rattle.house.specs.Run.{finally, replies}
use Rattle.house.proofs.Runs.{finally_append}
use Rattle.std.proofs.lemmas.Bool.{cases_Bool, and_parts}
use Rattle.house.proofs.Tests.{or_elim}
use Rattle.desk.specs.Turn.{requests, wired, share, housed, turned, answered}
use Rattle.desk.proofs.Laws.{requests_add, length_wired, replied_append}
use Rattle.desk.proofs.TwoTurns.{requests_append}
use Rattle.dialogue.specs.declared.Fed.{Fed}
use Rattle.dialogue.specs.declared.Dialogue.{Dialogue}
use Rattle.dialogue.specs.declared.Stage.TheVariants.{Waiting, Refused}
use Rattle.dialogue.specs.Dialogue.{announced, header, decided, refusal, at_stage, started, ended, drops, serves, opens, fed, opening_of}
use Rattle.dialogue.specs.Pieces.{run_of, past_opening, programmed, Piece, joined, farewell, conversed, Enough, Roomy, InPieces, LeavesLittle}
use Rattle.dialogue.proofs.Laws.{no_levels, cut_short, none_hoped, opened_there, undecided}
use Rattle.dialogue.proofs.Stages.{waiting, opened, refused, at_stage_lem}

-- these bytes first
abbrev pub before : List ℕ → List ℕ × House → List ℕ × House
before l rest = (l ++ rest.0, rest.1)

-- Requests, of bytes in two parts

module _ (h : House) (part rest : List ℕ) where
  abbrev count : ℕ
  count = length part / 12

  run_append : run_of h (part ++ rest) ≡ before (run_of h part).0 (run_of (housed count h part) (drop (count * 12) part ++ rest))
  unfolding run_of
  run_append =
      let past = drop (count * 12) part ++ rest in
      let m = length past / 12 in
      let e : length (part ++ rest) / 12 ≡ count + m = rw (length-append part rest, length-append (drop (count * 12) part) rest, length-drop (count * 12) part) (omega arith) in
      let r : requests (count + m) (part ++ rest) ≡ requests count part ++ requests m past = requests_add count m (part ++ rest) ∙ rw (requests_append count part rest (omega arith), drop-append-le (count * 12) part rest (omega arith)) in
      rw (e, r, replied_append h (requests count part) (requests m past), finally_append h (requests count part) (requests m past))

-- A turn on the requests past the first k bytes, with more to come

module _ (h : House) (k : ℕ) (bytes room : List ℕ) (there : k ≤ length bytes) (enough : Enough bytes room) where
  abbrev input : List ℕ
  input = drop k bytes

  all : share (length bytes) input room ≡ length input / 12
  unfolding share
  all = rw (length-drop k bytes) (omega arith)

  serves_used : drop (serves h k bytes room).0.used bytes ≡ drop (length input / 12 * 12) input
  unfolding serves turned
  serves_used = rw all (sym (drop-drop (length input / 12 * 12) k bytes))

  serves_short : length (drop (serves h k bytes room).0.used bytes) < 12
  serves_short = rw (serves_used, length-drop (length input / 12 * 12) input) (omega arith)

  serves_step : (future : List ℕ) → before (take (serves h k bytes room).0.written (serves h k bytes room).1) (run_of (serves h k bytes room).0.dialogue.house (drop (serves h k bytes room).0.used bytes ++ future)) ≡ run_of h (input ++ future)
  unfolding serves turned answered run_of
  serves_step future =
      let m = length input / 12 in
      rw (all, take_at (wired (replies h (requests m input))) (drop (m * 16) room) (m * 16) (length_wired h m input), sym (drop-drop (m * 12) k bytes))
      (sym (run_append h input future))

-- The opening, with more to come: what was decided stays

module _ (b rest : List ℕ) where
  announced_append : 1 ≤ length b → announced (b ++ rest) ≡ announced b
  announced_append l = get_or-append b rest 0 0 l

  -- n bytes past the first k that are there
  part_append : (n k : ℕ) → k + n ≤ length b → take n (drop k (b ++ rest)) ≡ take n (drop k b)
  part_append n k l = rw (drop-append-le k b rest (omega arith)) (take-append-le n (drop k b) rest (rw (length-drop k b) (omega arith)))

  came_append : header b ≤ length b → opening_of (b ++ rest) ≡ opening_of b
  came_append come = rw (announced_append (omega arith), part_append (announced b) 1 (omega arith), part_append 16 (announced b + 1) (omega arith))

  opening_append : decided b ≡ true → opening_of (b ++ rest) ≡ opening_of b
  unfolding decided
  opening_append d =
      or_elim (leb (header b) (length b)) (ltb 0 (length b) && wrong_count (announced b)) d
      (λ y. came_append (leb-true (header b) (length b) y))
      (λ y.
      let k = and_parts (ltb 0 (length b)) (wrong_count (announced b)) y in
      none_hoped (b ++ rest) (rw (announced_append (ltb-true 0 (length b) k.0)) k.1) ∙ sym (none_hoped b k.1))

  programmed_open : decided b ≡ true → number_of (opening_of b) ≡ 0 → programmed (b ++ rest) ≡ run_of (opening_of b).house (drop (header b) b ++ rest)
  unfolding programmed
  programmed_open d z =
      let come = opened_there b z in
      rw (opening_append d, z, announced_append (omega arith), drop-append-le (header b) b rest come)

  programmed_refused : decided b ≡ true → eqb (number_of (opening_of b)) 0 ≡ false → programmed (b ++ rest) ≡ (refusal (number_of (opening_of b)), (opening_of b).house)
  unfolding programmed
  programmed_refused d z = rw (opening_append d, z)

-- Anything may stand behind an opening that came: it stays the same, and that is what is past it

module _ (input rest : List ℕ) (come : header input ≤ length input) where
  abbrev front : List ℕ
  front = take (header input) input

  front_long : length front ≡ header input
  front_long = length-take-le (header input) input come

  front_first : announced front ≡ announced input
  front_first = get_or-take (header input) input 0 0 (omega arith)

  front_there : header front ≤ length front
  front_there = rw (front_first, front_long) (omega arith)

  pub opening_stays : opening_of (front ++ rest) ≡ opening_of input
  opening_stays = came_append front rest front_there ∙ sym (rw (take-append-drop (header input) input) at (came_append front (past_opening input) front_there))

  pub past_stays : past_opening (front ++ rest) ≡ rest
  past_stays = rw (announced_append front rest (omega (arith, front_there)), front_first) (drop_at front rest (header input) front_long)

-- WHAT IS STILL TO BE WRITTEN, with these bytes to come

unfoldable pub expected : Dialogue → List ℕ → List ℕ × House
expected s b = at_stage s.stage (programmed b) (run_of s.house b) (farewell s.stage, s.house)

-- nothing more can be made of these bytes
unfoldable pub Unfinished : Dialogue → List ℕ → Type 0
Unfinished s b = at_stage s.stage (decided b ≡ false) (length b < 12) (Unit {0})

-- who waits has the house of no items
unfoldable pub Fresh : Dialogue → Type 0
Fresh s = at_stage s.stage (s.house ≡ (opening [] [] A).house) (Unit {0}) (Unit {0})

pub expected_last : (s : Dialogue) (b : List ℕ) → Fresh s → Unfinished s b → (farewell (ended s.stage), s.house) ≡ expected s b
unfolding expected Fresh Unfinished programmed run_of wired replies finally requests
expected_last s b e u =
    elim (at_stage_lem s.stage) [
      | waiting w ↦ rw (w, cut_short b (undecided b (rw w at u)).0, no_levels, rw w at e)
      | opened o ↦
          let short : length b < 12 = rw o at u in
          let z : length b / 12 ≡ 0 = omega arith in
          rw (o, z)
      | refused m r ↦ rw r
    ]

-- BYTES GIVEN

pub record After (s : Dialogue) (bytes : List ℕ) (f : Fed × List ℕ) : Type 0 where
  pub same : (future : List ℕ) → before (take f.0.written f.1) (expected f.0.dialogue (drop f.0.used bytes ++ future)) ≡ expected s (bytes ++ future)
  pub fresh : Fresh s → Fresh f.0.dialogue
  pub unfinished : Unfinished f.0.dialogue (drop f.0.used bytes)
  pub little : length (drop f.0.used bytes) ≤ 80

-- to an open dialogue, or to one that these bytes open
after_serves : (s : Dialogue) (h : House) (k : ℕ) (bytes room : List ℕ) → k ≤ length bytes → Enough bytes room → ((future : List ℕ) → run_of h (drop k bytes ++ future) ≡ expected s (bytes ++ future)) → After s bytes (serves h k bytes room)
unfolding expected Fresh Unfinished serves
after_serves s h k bytes room there enough e =
    let short = serves_short h k bytes room there enough in
    record { same = λ future. serves_step h k bytes room there enough future ∙ e future; fresh = λ i. tt; unfinished = short; little = omega (arith, short) }

-- to one that is refused, or that these bytes have refused
after_drops : (s t : Dialogue) (m : ℕ) (bytes room : List ℕ) → t.stage ≡ Refused m → ((future : List ℕ) → (refusal m, t.house) ≡ expected s (bytes ++ future)) → After s bytes (drops t bytes room)
unfolding expected Fresh Unfinished
after_drops s t m bytes room r e =
    record { same = λ future. rw r (e future); fresh = λ i. rw r tt; unfinished = rw r tt; little = rw (drop-length bytes) (omega arith) }

-- to one that waits for its opening
after_waiting : (s : Dialogue) (bytes room : List ℕ) → s.stage ≡ Waiting → Enough bytes room → After s bytes (fed s bytes room)
unfolding expected Unfinished fed opens
after_waiting s bytes room w enough =
    let o = opening_of bytes in
    elim (cases_Bool (decided bytes)) [
      | inl y ↦ rw (w, y)
          (elim (cases_Bool (eqb (number_of o) 0)) [
            | inl z ↦
                let zero = eqb-true (number_of o) 0 z in
                rw z (after_serves _ o.house (header bytes) bytes room (opened_there bytes zero) enough (λ future. sym (programmed_open bytes future y zero)))
            | inr z ↦ rw z (after_drops _ _ (number_of o) bytes room refl (λ future. sym (programmed_refused bytes future y z)))
          ])
      | inr n ↦ rw (w, n) (record { same = λ future. refl; fresh = λ i. i; unfinished = n; little = (undecided bytes n).1 })
    ]

pub after : (s : Dialogue) (bytes room : List ℕ) → Enough bytes room → After s bytes (fed s bytes room)
unfolding expected Unfinished fed
after s bytes room enough =
    elim (at_stage_lem s.stage) [
      | waiting w ↦ after_waiting s bytes room w enough
      | opened o ↦ rw o (after_serves _ s.house 0 bytes room (omega arith) enough (λ future. refl))
      | refused m r ↦ rw r (after_drops _ _ m bytes room refl (λ future. refl))
    ]

-- THE THEOREMS

conversed_expected : (s : Dialogue) (unused : List ℕ) (ps : List Piece) → Fresh s → Unfinished s unused → Roomy s unused ps → conversed s unused ps ≡ expected s (unused ++ joined ps)
unfolding conversed Roomy joined
conversed_expected s unused [] e u r = rw (append-nil unused) (expected_last s unused e u)
conversed_expected s unused (p ∷ ps) e u r =
    let bytes = unused ++ p.0 in
    let f = fed s bytes p.1 in
    let a = after s bytes p.1 r.0 in
    ap (before (take f.0.written f.1)) (conversed_expected f.0.dialogue (drop f.0.used bytes) ps (a.fresh e) a.unfinished r.1)
    ∙ a.same (joined ps)
    ∙ ap (expected s) (append_assoc unused p.0 (joined ps))

-- a dialogue that has just started
pub fresh_start : Fresh started
unfolding started Fresh
fresh_start = refl

pub nothing_yet : Unfinished started []
unfolding started Unfinished decided
nothing_yet = refl

pub all_expected : (b : List ℕ) → expected started b ≡ programmed b
unfolding started expected
all_expected b = refl

pub in_pieces : InPieces
in_pieces ps r = conversed_expected started [] ps fresh_start nothing_yet r ∙ all_expected (joined ps)

pub leaves_little : LeavesLittle
leaves_little s bytes room enough = (after s bytes room enough).little
