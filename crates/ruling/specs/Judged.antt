-- What the judge is shown of a house, and its rulings over that alone.
-- Assumes nothing.
use Rattle.std.specs.Prelude.{ℕ, ◌+◌, ◌*◌, ◌<◌, ◌≡◌, Bool, not, cond, ◌&&◌, ◌||◌, List, [], ◌∷◌, eqb, leb, Option, None}
use Rattle.house.specs.declared.Answer.TheVariants.{Done, Ticket}
use Rattle.house.specs.declared.House.{House}
use Rattle.house.specs.declared.Mark.TheVariants.{Write}
use Rattle.house.specs.declared.Refusal.{Refusal}
use Rattle.house.specs.declared.Refusal.TheVariants.{NoItem, Forbidden, BlankSheet, Stopped, Untimely, WornOut, Crowded, Ticketless}
use Rattle.house.specs.declared.Request.{Request}
use Rattle.house.specs.Search.{any, find, if_found}
use Rattle.house.specs.Cell.{holds, is_signalled}
use Rattle.house.specs.House.{dominates, item_at, pending_at, place_at, next_at, is_active, is_certified}
use Rattle.house.specs.Rules.{read, write, certify, commit, abort, ◌does◌, hinders, read_answer, ask_answer}
use Rattle.ruling.specs.declared.Case.{Case}
use Rattle.ruling.specs.declared.Change.TheVariants as Change
use Rattle.ruling.specs.declared.Ruling.{Ruling}
use Rattle.ruling.specs.declared.Ruling.TheVariants.{Refuse, Wait, Grant}
use Rattle.ruling.specs.declared.View.{View}
use Rattle.ruling.specs.Ruling.{chain, ruled}

-- The judge is shown this view of the house, where the house has such a level and such an item, and all its cells
pub record Shown (h : House) (q : Request) (v : View) (lent : List ℕ) : Type 0 where
  pub count : h.count ≡ v.count
  pub order : h.order ≡ v.order
  pub places : q.level < 4 → (k : ℕ) → k < 8 → place_at h.places (q.level * 8 + k) ≡ place_at v.eight k
  pub ticket : q.level < 4 → next_at h.next q.level ≡ v.ticket
  pub row : q.item < 64 → item_at h.items q.item ≡ v.row
  pub pending : q.item < 64 → pending_at h.pending q.item ≡ v.pending
  pub cells : h.cells ≡ lent

-- r is what the rules rule, of every house of which this is shown
unfoldable pub Judged : View → List ℕ → Request → Ruling → Type 0
Judged v cells q r = (h : House) → Shown h q v cells → r ≡ ruled h q

-- the case of the transaction found at the k-th of the eight
abbrev pub found : View → Request → ℕ → Case
found v q k = record { request = q; count = v.count; order = v.order; row = v.row; pending = v.pending; me = q.level * 8 + k; seat = place_at v.eight k }

-- Operation by operation, past the checks 3, 4, 5 and 6

-- a free place was found at the k-th of the eight, or none
unfoldable pub begin_ruled : Option ℕ → ℕ → ℕ → Ruling
begin_ruled free ticket l = if_found free (λ k. cond (eqb ticket 0) (Refuse Ticketless) (Grant (Ticket ticket) (Change.Begin l (l * 8 + k)))) (Refuse Crowded)

-- who stands in the way on item i, at the lowest place
abbrev pub lowest_holder : List ℕ → ℕ → ℕ → ℕ → Option ℕ
lowest_holder cells operation me i = find (hinders cells operation me i) 0 32

-- of a certify, on the lowest item written at which somebody does
unfoldable pub waits_at : List ℕ → ℕ → ℕ → Bool
waits_at cells me i = holds cells Write me i && any (hinders cells certify me i) 0 32

abbrev pub certify_holder : List ℕ → ℕ → Option ℕ
certify_holder cells me = if_found (find (waits_at cells me) 0 64) (lowest_holder cells certify me) None

abbrev pub read_checks : Case → List ℕ → List (Refusal × Bool)
read_checks c cells =
    let i = c.request.item in
    (NoItem, leb c.count i || leb 64 i)
    ∷ (Forbidden, not (dominates c.order c.request.level c.row.level))
    ∷ (Stopped, is_signalled cells c.me)
    ∷ (Untimely, is_certified c.seat.standing)
    ∷ []

unfoldable pub read_ruled : Case → List ℕ → Ruling
read_ruled c cells =
    let i = c.request.item in
    chain (read_checks c cells)
    (if_found (lowest_holder cells read c.me i) Wait
    (Grant (read_answer cells c.row c.pending c.me i) (Change.Read c.me i)))

abbrev pub write_checks : Case → List ℕ → List (Refusal × Bool)
write_checks c cells =
    let i = c.request.item in
    (NoItem, leb c.count i || leb 64 i)
    ∷ (Forbidden, not (eqb c.row.level c.request.level))
    ∷ (BlankSheet, eqb c.request.value 0)
    ∷ (Stopped, is_signalled cells c.me)
    ∷ (Untimely, is_certified c.seat.standing)
    ∷ (WornOut, leb 4294967295 c.row.version)
    ∷ []

unfoldable pub write_ruled : Case → List ℕ → Ruling
write_ruled c cells =
    let i = c.request.item in
    chain (write_checks c cells)
    (if_found (lowest_holder cells write c.me i) Wait
    (Grant Done (Change.Write c.me i c.request.value)))

abbrev pub certify_checks : Case → List ℕ → List (Refusal × Bool)
certify_checks c cells = (Stopped, is_signalled cells c.me) ∷ (Untimely, is_certified c.seat.standing) ∷ []

unfoldable pub certify_ruled : Case → List ℕ → Ruling
certify_ruled c cells =
    chain (certify_checks c cells)
    (if_found (certify_holder cells c.me) Wait
    (Grant Done (Change.Certify c.me)))

abbrev pub commit_checks : Case → List ℕ → List (Refusal × Bool)
commit_checks c cells = (Stopped, is_signalled cells c.me) ∷ (Untimely, is_active c.seat.standing) ∷ []

unfoldable pub commit_ruled : Case → List ℕ → Ruling
commit_ruled c cells = chain (commit_checks c cells) (Grant Done (Change.Commit c.me))

unfoldable pub known_ruled : Case → List ℕ → Ruling
known_ruled c cells =
    cond (c.request does read) (read_ruled c cells)
    (cond (c.request does write) (write_ruled c cells)
    (cond (c.request does certify) (certify_ruled c cells)
    (cond (c.request does commit) (commit_ruled c cells)
    (cond (c.request does abort) (Grant Done (Change.Abort c.me))
    (Grant (ask_answer cells c.me) Change.Nothing)))))
