-- CR 5: "The conflict test now gives the holder. In a delay's reply the value field carries the holder's ticket and the version field its
-- level. With several, take the lowest item, then the lowest place. .. The holder is never above the asker".
-- Assumes nothing.
use Rattle.std.specs.Prelude.{ℕ, ◌≤◌, ◌<◌, ◌≡◌, ◌≢◌, ◌⊎◌, true, Some}
use Rattle.house.specs.declared.House.{House}
use Rattle.house.specs.declared.Reply.{Reply}
use Rattle.house.specs.declared.Request.{Request}
use Rattle.house.specs.House.{dominates, level_of, place_at}
use Rattle.house.specs.Rules.{asker, wants, stepped}
use Rattle.reach.specs.Reach.{Reachable}
use Rattle.reach.specs.Kept.{Open}
use Rattle.reach.specs.Decides.{refused_by}

-- The transaction at place p holds what is asked for
pub record Holds (h : House) (q : Request) (p : ℕ) : Type 0 where
  pub place : p < 32
  -- the asker's place, and the item
  pub me : ℕ
  pub item : ℕ
  pub asking : asker h q ≡ Some me
  pub row : item < 64
  -- the holder is open, and another than the asker
  pub stands : Open h p
  pub other : p ≢ me
  -- the asker asks for a lock on the item, and the matrix refuses it for a lock that the holder has there
  pub wanted : wants h.cells q me item ≡ true
  pub refused : refused_by h q me item p ≡ true
  -- of all items and places of which that can be said, the item is the lowest and, on it, the place
  pub lowest : (i r : ℕ) → i < 64 → r < 32 → wants h.cells q me i ≡ true → refused_by h q me i r ≡ true → (item < i) ⊎ ((item ≡ i) × (p ≤ r))
  -- the asker's level dominates the holder's
  pub below : dominates h.order q.level (level_of p) ≡ true

-- The reply r names the holder: by its ticket, which is not 0, and its level
pub record Named (h : House) (q : Request) (r : Reply) : Type 0 where
  pub holder : ℕ
  pub holds : Holds h q holder
  pub value : r.value ≡ (place_at h.places holder).ticket
  pub ticket : r.value ≢ 0
  pub version : r.version ≡ level_of holder

-- THE STATEMENT, proved in proofs/Holder.antt: in a house that can be reached, every reply of number 1 names the holder
abbrev pub HolderNamed : Type 0
HolderNamed = (h : House) → Reachable h → (q : Request) → (stepped h q).reply.number ≡ 1 → Named h q (stepped h q).reply
