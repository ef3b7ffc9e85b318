-- CR 6: "The old chain gives the old replies", under rule A, which is "as now" (CR 7). Document 01's desk, whose levels were a chain and
-- whose certifies gave the signals, beside the rules.
-- Assumes nothing.
use Rattle.std.specs.Prelude.{ℕ, ◌≡◌, Bool, false, ◌&&◌, not, cond, List, [], ◌∷◌, ◌++◌, map, eqb, ltb}
use Rattle.house.specs.declared.Answer.TheVariants.{Refused, Done}
use Rattle.house.specs.declared.House.{House}
use Rattle.house.specs.declared.Mark.TheVariants.{Read, Write, Certify, Signalled}
use Rattle.house.specs.declared.Outcome.{Outcome}
use Rattle.house.specs.declared.Request.{Request}
use Rattle.house.specs.declared.Rule.{Rule}
use Rattle.house.specs.declared.Rule.TheVariants.{A}
use Rattle.house.specs.declared.Standing.TheVariants.{Certified}
use Rattle.house.specs.Search.{if_found, map_from}
use Rattle.house.specs.Cell.{has, marked, unmarked, map_cells, holds}
use Rattle.house.specs.House.{level_of, item_at, place_at, with_items, with_place, with_cells}
use Rattle.house.specs.Checks.{foremost}
use Rattle.house.specs.Order.{old_chain}
use Rattle.house.specs.Rules.{begin, read, write, certify, commit, ◌does◌, asker, delayed, refusals, committed_item, aborted_by, outcome, served, performed, unserved}
use Rattle.house.specs.Opening.{number_of, wrong_length, wrong_level, opening}
use Rattle.house.specs.Run.{finally, replies}
use Rattle.reach.specs.Seeking.{run_by}

-- DOCUMENT 01'S DESK. Two of its sentences speak of higher and lower levels, and there "a larger number dominates a smaller one". One of
-- them gives signals, and no other does

-- 8: "read of an item above the level; write of an item not at the level"
unfoldable pub old_forbidden : House → Request → Bool
old_forbidden h q =
    let level = (item_at h.items q.item).level in
    cond (q does read) (ltb q.level level)
    (cond (q does write) (not (eqb level q.level))
    false)

-- Certify: "each read lock on those items held from a higher level is marked signalled, and all its write locks become certify locks"
unfoldable pub old_certified_cell : List ℕ → ℕ → ℕ → ℕ → ℕ → ℕ
old_certified_cell cells me p i c =
    cond (holds cells Write me i)
    (cond (eqb p me) (marked Certify (unmarked Write c))
    (cond (ltb (level_of me) (level_of p) && has Read c) (marked Signalled c)
    c))
    c

unfoldable pub old_certified_by : House → ℕ → House
old_certified_by h me = with_place (with_cells h (map_cells (old_certified_cell h.cells me) h.cells)) me (record { standing = Certified; ticket = (place_at h.places me).ticket })

-- Commit: "Each item with its certify lock takes the pending value, and its version grows by one, however often it was written"; and
-- then as an abort
unfoldable pub old_committed_by : House → ℕ → House
old_committed_by h me = with_items (aborted_by h me) (map_from 0 (committed_item h.cells h.pending me) h.items)

-- all else is as the rules have it: the other checks, the other effects, and every reply
unfoldable pub old_verdict : House → Request → ℕ
old_verdict h q = foremost (map (λ x. (x.0, cond (eqb x.0 8) (old_forbidden h q) x.1)) (refusals h q) ++ (1, delayed h q) ∷ [])

unfoldable pub old_served : House → Request → ℕ → Outcome
old_served h q me =
    cond (q does certify) (outcome (old_certified_by h me) q Done)
    (cond (q does commit) (outcome (old_committed_by h me) q Done)
    (served h q me))

unfoldable pub old_performed : House → Request → Outcome
old_performed h q = cond (q does begin) (performed h q) (if_found (asker h q) (old_served h q) (outcome h q (Refused 6)))

unfoldable pub old_stepped : House → Request → Outcome
old_stepped h q =
    let n = old_verdict h q in
    let done = old_performed h q in
    cond (eqb n 0) done (outcome h q (unserved h q n))

-- a house with another table and another rule
abbrev pub with_terms : House → List ℕ → Rule → House
with_terms h order rule = record { count = h.count; order = order; rule = rule; items = h.items; pending = h.pending; places = h.places; next = h.next; cells = h.cells }

-- THE STATEMENTS, proved in proofs/Chain.antt

-- it looks at no table and at no rule: with others it replies the same, and leaves the same but for these. So the sentences above are all
-- that the rules say of the order and of the rule
abbrev pub OldLooksAtNone : Type 0
OldLooksAtNone = (h : House) (order : List ℕ) (rule : Rule) (q : Request) → let o = old_stepped h q in old_stepped (with_terms h order rule) q ≡ record { house = with_terms o.house order rule; reply = o.reply }

-- with the chain's table an opening gets the number that it got: "length 0 or above 64 gives 13; a byte above 3 gives 14"
abbrev pub OldOpening : Type 0
OldOpening = (levels : List ℕ) → number_of (opening levels old_chain A) ≡ foremost ((13, wrong_length levels) ∷ (14, wrong_level levels) ∷ [])

-- and under rule A any requests from it lead to the same house and get the same replies
abbrev pub ChainIsOld : Type 0
ChainIsOld = (levels : List ℕ) (qs : List Request) → let h = (opening levels old_chain A).house in run_by old_stepped h qs ≡ (finally h qs, replies h qs)
