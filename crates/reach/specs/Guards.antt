-- The rules speak of every house value, so they have guards for houses that cannot be reached: a largest version stays, an item
-- number is held to 64 as well as to the count. In a house that can be reached neither decides. Two guards more, that a done request
-- which finds no place is refused, and that a delay without a holder names nobody, decide in no house at all.
-- Assumes nothing.
use Rattle.std.specs.Prelude.{ℕ, ◌+◌, ◌<◌, ◌≡◌, true, ◌&&◌, leb, Some}
use Rattle.house.specs.declared.House.{House}
use Rattle.house.specs.declared.Request.{Request}
use Rattle.house.specs.House.{item_at}
use Rattle.house.specs.Rules.{uses_item, no_item, wrote, holder, verdict, grown, outcome, named, stepped}
use Rattle.reach.specs.Reach.{Reachable}

pub record Unguarded (h : House) : Type 0 where
  -- the version of a written item grows by one, at its commit and in its writer's reads
  pub grows : (p i : ℕ) → p < 32 → i < 64 → wrote h.cells p i ≡ true → grown (item_at h.items i).version ≡ (item_at h.items i).version + 1
  -- the count alone says which items there are
  pub counted : (q : Request) → no_item h q ≡ (uses_item q && leb h.count q.item)

-- THE STATEMENTS, proved in proofs/Guards.antt

abbrev pub GuardsRest : Type 0
GuardsRest = (h : House) → Reachable h → Unguarded h

-- of every house: the number replied is the first check's that applies, and 0 where none does
abbrev pub PlaceGuardRests : Type 0
PlaceGuardRests = (h : House) (q : Request) → (stepped h q).reply.number ≡ verdict h q

-- and a delay has a holder, who is named
abbrev pub HolderGuardRests : Type 0
HolderGuardRests = (h : House) (q : Request) → (stepped h q).reply.number ≡ 1 → (p : ℕ) × (holder h q ≡ Some p) × (stepped h q ≡ outcome h q (named h p))
