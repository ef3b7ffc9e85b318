-- Demand 3 over a whole dialogue: what is read from the bytes in and out is the trace of the requests, or nothing was done.
-- Assumes nothing.
use Prim.Native.Nat.{ℕ, zero, suc, ◌/◌, ◌≤◌, min}
use native.Mathlib.Omega.{arith}
use mathlib.Core.Path.{◌≡◌, refl, sym, ap}
use mathlib.Core.Logic.{◌≢◌, inl, inr}
use mathlib.Core.List.{List, [], ◌∷◌, map, append-nil}
use lib.ListN.{length, replicate}
use lib.Dec.{eqb}
use borrow.Author.Tests.{eqb-false, ne_eqb}
use Rattle.house.specs.declared.House.{House}
use Rattle.house.specs.declared.Item.{Item}
use Rattle.house.specs.declared.Rule.{Rule}
use Rattle.house.specs.declared.Rule.TheVariants.{A}
use Rattle.house.specs.Search.{map_from}
use Rattle.house.specs.House.{blank}
use Rattle.house.specs.Order.{old_chain}
use Rattle.house.specs.Opening.{number_of, row_at, rows, opened, opening}
use Rattle.house.specs.Run.{replies}
use Rattle.std.proofs.lemmas.Bool.{cases_Bool}
use Rattle.wire.specs.Wire.{reply_at, reply_bytes}
use Rattle.desk.specs.Turn.{requests, wired}
use Rattle.desk.proofs.Laws.{length_wired}
use Rattle.dialogue.specs.Dialogue.{levels, table as table_of, header, opening_of, refusal}
use Rattle.dialogue.specs.Pieces.{run_of, past_opening, programmed, joined}
use Rattle.dialogue.specs.Rounds.{brought}
use Rattle.dialogue.proofs.Pieces.{in_pieces}
use Rattle.dialogue.proofs.Rounds.{as_programmed}
use Rattle.reach.proofs.Opened.{opening_cases}
use Rattle.serial.specs.Demand.{Event, trace, row, work, commits, answers, serially, table, Demand3}
use Rattle.serial.proofs.Demand.{demand}
use Rattle.serial_bytes.specs.Bytes.{exchanged, Bytes}
use Rattle.serial_bytes.specs.Pieces.{seen, blank_table, Demand3Seen, OverPieces, OverRounds}
use Rattle.serial_bytes.proofs.Range.{opening_fits}
use Rattle.serial_bytes.proofs.Bytes.{bytes_drop, turn_trace}

-- the demand, of these events
abbrev Equal : List Event → House → Type 0
Equal es h = serially blank_table (map (λ n. work n es) (commits es)) ≡ (map (λ n. answers (work n es)) (commits es), table h)

-- THE TABLE AT AN OPENING

rows_blank : (levels : List ℕ) (k : ℕ) (xs : List Item) → map row (map_from k (row_at levels) xs) ≡ replicate (length xs) (0, 0)
unfolding map_from row_at
rows_blank levels k [] = refl
rows_blank levels k (x ∷ xs) = ap (λ t. (0, 0) ∷ t) (rows_blank levels (suc k) xs)

opened_blank : (levels order : List ℕ) (rule : Rule) → table (opened levels order rule) ≡ blank_table
unfolding opened rows
opened_blank levels order rule = rows_blank levels 0 (replicate 64 blank)

opening_blank : (levels order : List ℕ) (rule : Rule) → table (opening levels order rule).house ≡ blank_table
opening_blank levels order rule = opening_cases (λ h. table h ≡ blank_table) levels order rule (λ P O. opened_blank levels order rule) (opened_blank [] old_chain A)

-- NOBODY COMMITTED

idle : (es : List Event) (h : House) → commits es ≡ [] → table h ≡ blank_table → Equal es h
unfolding serially
idle es h c t = rw (c, t)

-- the one reply of a refused opening is of no done request
refused_idle : (m n : ℕ) (asked : List ℕ) → n ≢ 0 → m ≤ 1 → commits (exchanged (requests m asked) (refusal n)) ≡ []
unfolding exchanged requests commits refusal reply_at reply_bytes
refused_idle zero n asked d b = refl
refused_idle (suc zero) n asked d b = rw (ne_eqb n 0 d)
refused_idle (suc (suc m)) n asked d b = absurd (omega arith)

one_reply : (n k : ℕ) → min k (length (refusal n) / 16) ≤ 1
unfolding refusal reply_bytes
one_reply n k = omega arith

refused_equal : (input : List ℕ) (n : ℕ) (levels order : List ℕ) → n ≢ 0 → Equal (seen input (refusal n)) (opening levels order A).house
unfolding seen
refused_equal input n levels order d = idle _ (opening levels order A).house (refused_idle _ n _ d (one_reply n _)) (opening_blank levels order A)

-- THE OPENING WAS DONE

opened_equal : (input levels order : List ℕ) → Bytes input → let h = (opening levels order A).house in Equal (seen input (run_of h (past_opening input)).0) (run_of h (past_opening input)).1
unfolding seen run_of Demand3
opened_equal input levels order s =
    let h = (opening levels order A).house in
    let asked = past_opening input in
    let n = length asked / 12 in
    let all : min n (length (wired (replies h (requests n asked))) / 16) ≡ n = rw (length_wired h n asked) (omega arith) in
    let t : exchanged (requests n asked) (wired (replies h (requests n asked))) ≡ trace h (requests n asked) = rw (append-nil (wired (replies h (requests n asked)))) at (turn_trace n h asked [] (opening_fits levels order A) (bytes_drop (header input) input s)) in
    rw (all, t, sym (opening_blank levels order A)) (demand levels order A (requests n asked))

-- THE THEOREM

programmed_equal : (input : List ℕ) → Bytes input → Equal (seen input (programmed input).0) (programmed input).1
unfolding programmed
programmed_equal input s =
    let o = opening_of input in
    elim (cases_Bool (eqb (number_of o) 0)) [
      | inl z ↦ rw z (opened_equal input (levels input) (table_of input) s)
      | inr z ↦ rw z (refused_equal input (number_of o) (levels input) (table_of input) (eqb-false (number_of o) 0 z))
    ]

pub over_pieces : OverPieces
unfolding Demand3Seen
over_pieces ps r s = rw (in_pieces ps r) (programmed_equal (joined ps) s)

pub over_rounds : OverRounds
unfolding Demand3Seen
over_rounds buffer room r rs rd s = rw (as_programmed buffer room r rs rd) (programmed_equal (brought rs) s)
