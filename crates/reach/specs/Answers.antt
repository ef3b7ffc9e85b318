-- Demand 1, of every house value and every request, reachable or not: each request gets a reply from the table, the first number
-- that applies; a refusal or a delay leaves the house as it was; and no caller is trusted to have looked first.
-- Assumes nothing.
use Rattle.std.specs.Prelude.{ℕ, ◌<◌, ◌≡◌, ◌≢◌, true, false, ◌&&◌, not, List, [], ◌∷◌, map, eqb}
use Rattle.house.specs.declared.House.{House}
use Rattle.house.specs.declared.Request.{Request}
use Rattle.house.specs.Search.{any_of}
use Rattle.house.specs.House.{fixed, level_of, place_at}
use Rattle.house.specs.Checks.{some_applies, test_of, before}
use Rattle.house.specs.Rules.{begin, no_operation, no_level, unused_set, checks, performed, stepped}
use Rattle.reach.specs.Reach.{Reachable}
use Rattle.reach.specs.Kept.{Open}

-- "Order of checks: 3, 4, 5, 6, 7, 8, 2, 9, 10, 11, 12, 1", with 15 "after 8 and before 2" (CR 1)
abbrev pub order_of_checks : List ℕ
order_of_checks = 3 ∷ 4 ∷ 5 ∷ 6 ∷ 7 ∷ 8 ∷ 15 ∷ 2 ∷ 9 ∷ 10 ∷ 11 ∷ 12 ∷ 1 ∷ []

-- nobody who is open at the request's level has its ticket
abbrev pub Stranger : House → Request → Type 0
Stranger h q = (p : ℕ) → p < 32 → level_of p ≡ q.level → Open h p → (place_at h.places p).ticket ≢ q.ticket

-- the request gets a number other than 0, and the house is as it was
abbrev pub TurnedDown : House → Request → Type 0
TurnedDown h q = ((stepped h q).reply.number ≢ 0) × ((stepped h q).house ≡ h)

-- THE STATEMENTS, proved in proofs/Answers.antt

-- "Any number but 0 leaves the house as it was."
abbrev pub RefusalKeeps : Type 0
RefusalKeeps = (h : House) (q : Request) → (stepped h q).reply.number ≢ 0 → (stepped h q).house ≡ h

-- "The first that applies is given, and it is given only then": number n, where its test holds and none before it does
abbrev pub FirstGiven : Type 0
FirstGiven = (h : House) (q : Request) (n : ℕ) → n ≢ 0 → eqb (stepped h q).reply.number n ≡ (test_of n (checks h q) && not (some_applies (before n (checks h q))))

-- so 0, "done", is given exactly when none applies, and then the request is done
abbrev pub DoneExactly : Type 0
DoneExactly = (h : House) (q : Request) → (eqb (stepped h q).reply.number 0 ≡ not (some_applies (checks h q))) × ((stepped h q).reply.number ≡ 0 → stepped h q ≡ performed h q)

-- the checks stand in this order, whatever is asked
abbrev pub OrderStands : Type 0
OrderStands = (h : House) (q : Request) → map (λ x. x.0) (checks h q) ≡ order_of_checks

-- the number of every reply stands in the table: it is 0 or one of these
abbrev pub NumberStands : Type 0
NumberStands = (h : House) (q : Request) → any_of (eqb (stepped h q).reply.number) (0 ∷ order_of_checks) ≡ true

-- "Each has a fixed level": no request changes it, nor how many items there are, which levels dominate which, or the rule
abbrev pub FixedStays : Type 0
FixedStays = (h : House) (q : Request) → fixed (stepped h q).house ≡ fixed h

-- No caller is trusted to have looked first: a ticket that nobody open at its level has is refused, and changes nothing
abbrev pub StrangerRefused : Type 0
StrangerRefused = (h : House) (q : Request) → q.operation ≢ begin → Stranger h q → TurnedDown h q

-- so is ticket 0: "Ticket 0 names nobody", whatever the places hold
abbrev pub ZeroRefused : Type 0
ZeroRefused = (h : House) (q : Request) → q.operation ≢ begin → q.ticket ≡ 0 → TurnedDown h q

-- "Each request for a transaction finds its place or is answered 6", unless 3, 4 or 5 comes first
abbrev pub StrangerGetsSix : Type 0
StrangerGetsSix = (h : House) (q : Request) → no_operation q ≡ false → no_level q ≡ false → unused_set q ≡ false → q.operation ≢ begin → Stranger h q → (stepped h q).reply.number ≡ 6

abbrev pub ZeroGetsSix : Type 0
ZeroGetsSix = (h : House) (q : Request) → no_operation q ≡ false → no_level q ≡ false → unused_set q ≡ false → q.operation ≢ begin → q.ticket ≡ 0 → (stepped h q).reply.number ≡ 6

-- and nobody has it: in a house that can be reached no open transaction's ticket is 0
abbrev pub ZeroNamesNobody : Type 0
ZeroNamesNobody = (h : House) → Reachable h → (p : ℕ) → p < 32 → Open h p → (place_at h.places p).ticket ≢ 0
