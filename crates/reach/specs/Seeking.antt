-- CR 4: "Begin a ticket's search at the place numbered by the ticket modulo 8 and go round. No answer changes."
-- Assumes nothing.
use Rattle.std.specs.Prelude.{ℕ, ◌*◌, ◌<◌, ◌≡◌, List, [], ◌∷◌, Option, Some}
use Rattle.house.specs.declared.House.{House}
use Rattle.house.specs.declared.Outcome.{Outcome}
use Rattle.house.specs.declared.Place.{Place}
use Rattle.house.specs.declared.Reply.{Reply}
use Rattle.house.specs.declared.Request.{Request}
use Rattle.house.specs.declared.Rule.{Rule}
use Rattle.house.specs.Search.{find}
use Rattle.house.specs.House.{level_of, place_at, has_ticket}
use Rattle.house.specs.Rules.{asker, stepped}
use Rattle.house.specs.Opening.{opening}
use Rattle.house.specs.Run.{finally, replies}
use Rattle.reach.specs.Reach.{Reachable}
use Rattle.reach.specs.Kept.{Open}

-- document 01's search: "over the eight places of one level", from the first on
unfoldable pub seek_in_order : List Place → ℕ → ℕ → Option ℕ
seek_in_order places l t = find (has_ticket places t) (l * 8) 8

abbrev pub asker_in_order : House → Request → Option ℕ
asker_in_order h q = seek_in_order h.places q.level q.ticket

-- the house after these requests, and what they are replied, by a step
unfoldable pub run_by : (House → Request → Outcome) → House → List Request → House × List Reply
run_by step h [] = (h, [])
run_by step h (q ∷ qs) =
    let o = step h q in
    let rest = run_by step o.house qs in
    (rest.0, o.reply ∷ rest.1)

-- THE STATEMENTS, proved in proofs/Seeking.antt

-- "Each request for a transaction finds its place": in a house that can be reached, whoever is open is found by level and ticket
abbrev pub FindsItsPlace : Type 0
FindsItsPlace = (h : House) → Reachable h → (p : ℕ) → p < 32 → Open h p → (q : Request) → q.level ≡ level_of p → q.ticket ≡ (place_at h.places p).ticket → asker h q ≡ Some p

-- and the search in document 01's order finds nobody else, whatever is asked
abbrev pub SameAsker : Type 0
SameAsker = (h : House) → Reachable h → (q : Request) → asker_in_order h q ≡ asker h q

-- "No answer changes". The rules look a ticket up in `asker` alone: let `rules` be what they make of a request, given whom the search finds.
-- With document 01's search in the place of theirs, any requests from any opening lead to the same house and get the same replies
abbrev pub NoAnswerChanges : Type 0
NoAnswerChanges =
    (rules : Option ℕ → House → Request → Outcome)
    → ((h : House) (q : Request) → rules (asker h q) h q ≡ stepped h q)
    → (levels table : List ℕ) (rule : Rule) (qs : List Request)
    → let h = (opening levels table rule).house in
    run_by (λ h q. rules (asker_in_order h q) h q) h qs ≡ (finally h qs, replies h qs)
