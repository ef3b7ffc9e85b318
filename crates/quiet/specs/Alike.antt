-- Two houses that nobody at level k can tell apart, nor at any level that k dominates, and the two sentences about one request from which
-- it follows that nobody there ever will. (They are the unwinding conditions of noninterference, for the order of the levels.)
-- Assumes nothing.
use Rattle.std.specs.Prelude.{ℕ, ◌<◌, ◌≡◌, Bool, true, false, ◌&&◌, not, List, ltb}
use Rattle.house.specs.declared.House.{House}
use Rattle.house.specs.declared.Request.{Request}
use Rattle.house.specs.Cell.{cell_at}
use Rattle.house.specs.House.{fixed, dominates, level_of, item_at, pending_at, place_at, next_at}
use Rattle.house.specs.Rules.{stepped}
use Rattle.reach.specs.Kept.{Kept}

-- "every request whose level byte is above 3 or not dominated by k" is struck (CR 6); any other stays
abbrev pub covers : List ℕ → ℕ → ℕ → Bool
covers order k l = not (ltb 3 l) && dominates order k l

abbrev pub stays : List ℕ → ℕ → Request → Bool
stays order k q = covers order k q.level

-- the same are "the items, places, tickets and places' cells of" "the levels k dominates" (CR 6). Items are i < 64 and places p < 32
pub record Alike (k : ℕ) (h g : House) : Type 0 where
  -- what the opening fixed: how many items there are, the level of each, which levels dominate which, and the rule
  pub fixed : fixed h ≡ fixed g
  -- the items: row and pending value
  pub items : (i : ℕ) → i < 64 → dominates h.order k (item_at h.items i).level ≡ true → (item_at h.items i ≡ item_at g.items i) × (pending_at h.pending i ≡ pending_at g.pending i)
  -- the places: who stands there, with which ticket
  pub places : (p : ℕ) → p < 32 → dominates h.order k (level_of p) ≡ true → place_at h.places p ≡ place_at g.places p
  -- the tickets: the next one of each level
  pub tickets : (l : ℕ) → l < 4 → dominates h.order k l ≡ true → next_at h.next l ≡ next_at g.next l
  -- the places' cells, of every item
  pub cells : (p i : ℕ) → p < 32 → i < 64 → dominates h.order k (level_of p) ≡ true → cell_at h.cells p i ≡ cell_at g.cells p i

-- THE STATEMENTS, proved in proofs/Unseen.antt and proofs/Step.antt

-- a request that is struck changes nothing of it
abbrev pub StruckUnseen : Type 0
StruckUnseen = (k : ℕ) → k < 4 → (h : House) → Kept h → (q : Request) → stays h.order k q ≡ false → Alike k h (stepped h q).house

-- any other gets the same reply from both houses, and they stay alike
abbrev pub AnsweredAlike : Type 0
AnsweredAlike =
    (k : ℕ) → k < 4 → (h g : House) → Kept h → Kept g → Alike k h g → (q : Request) → stays h.order k q ≡ true
    → ((stepped h q).reply ≡ (stepped g q).reply) × Alike k (stepped h q).house (stepped g q).house
