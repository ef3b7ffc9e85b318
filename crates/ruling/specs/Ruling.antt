-- A step in two parts: what is ruled of a request, and the change made of it. `ruled_steps` (proofs/Steps.antt) says that
-- together they are the step of the rules.
-- Assumes nothing.
use Rattle.std.specs.Prelude.{ℕ, Bool, true, false, cond, ◌&&◌, List, [], ◌∷◌, ltb}
use Rattle.house.specs.declared.Answer.{Answer}
use Rattle.house.specs.declared.Answer.TheVariants.{Refused, Done, Ticket}
use Rattle.house.specs.declared.House.{House}
use Rattle.house.specs.declared.Refusal.{Refusal}
use Rattle.house.specs.declared.Refusal.TheVariants.{Unknown, Crowded}
use Rattle.house.specs.declared.Request.{Request}
use Rattle.house.specs.Search.{if_found}
use Rattle.house.specs.House.{next_at, vacancy}
use Rattle.house.specs.Rules.{begin, read, write, certify, commit, abort, ◌does◌, asker, holder, number, reasons, begun, read_by, read_for, written_by, certified_by, committed_by, aborted_by, ask_answer, named}
use Rattle.ruling.specs.declared.Change.{Change}
use Rattle.ruling.specs.declared.Change.TheVariants.{Nothing, Begin, Read, Write, Certify, Commit, Abort}
use Rattle.ruling.specs.declared.Ruling.{Ruling}
use Rattle.ruling.specs.declared.Ruling.TheVariants.{Refuse, Wait, Grant}

-- the house at the end of a transaction that commits, or aborts
abbrev pub ended_by : Bool → House → ℕ → House
ended_by true = committed_by
ended_by false = aborted_by

-- the house after a change
abbrev pub effect : House → Change → House
effect h Nothing = h
effect h (Begin l me) = begun h l me
effect h (Read me i) = read_by h me i
effect h (Write me i v) = written_by h me i v
effect h (Certify me) = certified_by h me
effect h (Commit me) = ended_by true h me
effect h (Abort me) = ended_by false h me

-- the change names a level, a place and an item that a house has
abbrev pub fits : Change → Bool
fits Nothing = true
fits (Begin l me) = ltb l 4 && ltb me 32
fits (Read me i) = ltb me 32 && ltb i 64
fits (Write me i v) = ltb me 32 && ltb i 64
fits (Certify me) = ltb me 32
fits (Commit me) = ltb me 32
fits (Abort me) = ltb me 32

-- any other leaves the house as it was
unfoldable pub effect_if_fit : House → Change → House
effect_if_fit h change = cond (fits change) (effect h change) h

-- what a ruling answers, where the house is at hand, and what it changes
abbrev pub answer_of : House → Ruling → Answer
answer_of h (Refuse r) = Refused (number r)
answer_of h (Wait p) = named h p
answer_of h (Grant a c) = a

abbrev pub change_of : Ruling → Change
change_of (Refuse r) = Nothing
change_of (Wait p) = Nothing
change_of (Grant a c) = c

-- the ruling names only what a house has; the judge rules no other (`ruled_fits`)
abbrev pub ruling_fits : Ruling → Bool
ruling_fits (Refuse r) = true
ruling_fits (Wait p) = ltb p 32
ruling_fits (Grant a c) = fits c

-- what is ruled of a request with the number 0
unfoldable pub granted : House → Request → Ruling
granted h q =
    cond (q does begin) (if_found (vacancy h.places q.level) (λ me. Grant (Ticket (next_at h.next q.level)) (Begin q.level me)) (Refuse Crowded))
    (if_found (asker h q)
    (λ me.
    cond (q does read) (Grant (read_for h me q.item) (Read me q.item))
    (cond (q does write) (Grant Done (Write me q.item q.value))
    (cond (q does certify) (Grant Done (Certify me))
    (cond (q does commit) (Grant Done (Commit me))
    (cond (q does abort) (Grant Done (Abort me))
    (Grant (ask_answer h.cells me) Nothing))))))
    (Refuse Unknown))

-- the refusal of the first check that applies, or what is ruled where none does
abbrev pub chain : List (Refusal × Bool) → Ruling → Ruling
chain [] g = g
chain (x ∷ xs) g = cond x.1 (Refuse x.0) (chain xs g)

-- a refusal, then a delay where somebody holds the lock, then what is granted
unfoldable pub ruled : House → Request → Ruling
ruled h q = chain (reasons h q) (if_found (holder h q) Wait (granted h q))
