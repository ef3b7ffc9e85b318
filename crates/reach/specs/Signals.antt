-- CR 7, and the wish behind it: teachers lost work "to signals from a writer who then aborted". When a signal is given, by whom and to
-- whom, under either rule; of houses that can be reached and of all requests.
-- Assumes nothing.
use Rattle.std.specs.Prelude.{ℕ, ◌<◌, ◌≡◌, ◌≢◌, true, false, Some}
use Rattle.house.specs.declared.House.{House}
use Rattle.house.specs.declared.Mark.TheVariants.{Read, Signalled}
use Rattle.house.specs.declared.Request.{Request}
use Rattle.house.specs.Cell.{holds}
use Rattle.house.specs.House.{above, level_of, item_at}
use Rattle.house.specs.Rules.{asker, signals_at, wrote, stepped}
use Rattle.reach.specs.Reach.{Reachable}

-- a request that gives signals on item i to the transaction at place p: a done one of the operation that gives them under this house's
-- rule (certify under A, commit under B), by one who has written the item, to one who has read it from above
pub record Gives (h : House) (q : Request) (p i : ℕ) : Type 0 where
  pub operation : q.operation ≡ signals_at h.rule
  pub done : (stepped h q).reply.number ≡ 0
  pub writer : ℕ
  pub asks : asker h q ≡ Some writer
  pub wrote : wrote h.cells writer i ≡ true
  pub read : holds h.cells Read p i ≡ true
  pub higher : above h.order (level_of p) q.level ≡ true

-- THE STATEMENTS, proved in proofs/Signals.antt. Places are p < 32 and items i < 64

-- "only": whoever is signalled after a request and was not before was given the signal by it, so
abbrev pub OnlySignals : Type 0
OnlySignals =
    (h : House) → Reachable h → (q : Request) (p i : ℕ) → p < 32 → i < 64 → holds h.cells Signalled p i ≡ false
    → holds (stepped h q).house.cells Signalled p i ≡ true → Gives h q p i

-- "all": everybody to whom such a request gives a signal is signalled after it
abbrev pub SignalsAll : Type 0
SignalsAll = (h : House) → Reachable h → (q : Request) (p i : ℕ) → p < 32 → i < 64 → Gives h q p i → holds (stepped h q).house.cells Signalled p i ≡ true

-- so no change passes a reader by: whoever has read an item that another's request changes is signalled after it, under either rule
abbrev pub ReadersTold : Type 0
ReadersTold =
    (h : House) → Reachable h → (q : Request) (p i : ℕ) → p < 32 → i < 64 → asker h q ≢ Some p → holds h.cells Read p i ≡ true
    → item_at (stepped h q).house.items i ≢ item_at h.items i → holds (stepped h q).house.cells Signalled p i ≡ true
