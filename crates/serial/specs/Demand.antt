-- Demand 3: run alone, one after another in the order of their commits, on a plain table, the committed transactions read what
-- the desk answered them, and the table ends as the committed items do.
-- Assumes nothing.
use Rattle.std.specs.Prelude.{ℕ, ◌+◌, ◌<◌, ◌≡◌, Bool, true, ◌&&◌, ◌||◌, cond, List, [], ◌∷◌, map, get_or, eqb}
use Rattle.house.specs.declared.House.{House}
use Rattle.house.specs.declared.Item.{Item}
use Rattle.house.specs.declared.Request.{Request}
use Rattle.house.specs.declared.Rule.{Rule}
use Rattle.house.specs.Search.{map_from}
use Rattle.house.specs.Cell.{cell_at}
use Rattle.house.specs.House.{Sizes, place_at, is_free}
use Rattle.house.specs.Rules.{read, write, commit, ◌does◌}
use Rattle.house.specs.Opening.{opening}
use Rattle.house.specs.Run.{finally, done, Name, same_name}
pub use Rattle.house.specs.Run.{Event}
unfoldable pub use Rattle.house.specs.Run.{trace}

-- WHAT THE DESK DID

abbrev pub wrote : Event → Bool
wrote e = e.0 does write

-- in whose name: "A transaction's name is its level and ticket."
abbrev pub name : Event → Name
name e = (e.0.level, e.0.ticket)

-- a done read or write in that name
unfoldable pub doing : Name → Event → Bool
doing n e = same_name n (name e) && (done e read || done e write)

-- "its done reads and writes in their order"
unfoldable pub work : Name → List Event → List Event
work n [] = []
work n (e ∷ es) = cond (doing n e) (e ∷ work n es) (work n es)

-- who committed, "in the order of their commits"
unfoldable pub commits : List Event → List Name
commits [] = []
commits (e ∷ es) = cond (done e commit) (name e ∷ commits es) (commits es)

-- THE PLAIN TABLE

-- "The plain table of demand 3 is a list of values and versions, no locks."
abbrev pub Row : Type 0
Row = ℕ × ℕ

abbrev pub Table : Type 0
Table = List Row

-- the committed items of a house
abbrev pub row : Item → Row
row x = (x.value, x.version)

abbrev pub table : House → Table
table h = map row h.items

-- a read's value and version
abbrev pub answer : Event → Row
answer e = (e.1.value, e.1.version)

-- those that the desk answered in a work, whose events are reads and writes
unfoldable pub answers : List Event → List Row
answers [] = []
answers (e ∷ es) = cond (wrote e) (answers es) (answer e ∷ answers es)

-- what is at item i, where the table has r, for one who has written `own`, a list of items and values, the newest first:
-- "its last written value and the table's version plus one", or "the table's pair"
unfoldable pub look : List (ℕ × ℕ) → ℕ → Row → Row
look [] i r = r
look (w ∷ own) i r = cond (eqb w.0 i) (w.1, r.1 + 1) (look own i r)

-- "A transaction run alone on it repeats its done reads and writes in their order": what its reads give, and the table at its
-- end, when "each item it wrote takes the last value, and its version grows by one"
unfoldable pub run : Table → List (ℕ × ℕ) → List Event → List Row × Table
run t own [] = ([], map_from 0 (look own) t)
run t own (e ∷ es) =
    cond (wrote e) (run t ((e.0.item, e.0.value) ∷ own) es)
    (look own e.0.item (get_or t e.0.item (0, 0)) ∷ (run t own es).0, (run t own es).1)

-- one after another
unfoldable pub serially : Table → List (List Event) → List (List Row) × Table
serially t [] = ([], t)
serially t (x ∷ xs) =
    let alone = run t [] x in
    let rest = serially alone.1 xs in
    (alone.0 ∷ rest.0, rest.1)

-- THE DEMAND

-- of a house and the requests that it takes
unfoldable pub Demand3 : House → List Request → Type 0
Demand3 h qs =
    let es = trace h qs in
    serially (table h) (map (λ n. work n es) (commits es)) ≡ (map (λ n. answers (work n es)) (commits es), table (finally h qs))

-- a house in which nobody has done anything yet, whatever values and versions its rows hold
pub record Untouched (h : House) : Type 0 where
  pub sizes : Sizes h
  pub free : (p : ℕ) → p < 32 → is_free (place_at h.places p).standing ≡ true
  pub clear : (p i : ℕ) → p < 32 → i < 64 → cell_at h.cells p i ≡ 0

-- THE STATEMENTS, proved in proofs/Demand.antt: of every untouched house, and of every opened one, under either rule,
-- refused openings included

abbrev pub OfUntouched : Type 0
OfUntouched = (h : House) → Untouched h → (qs : List Request) → Demand3 h qs

abbrev pub OfOpened : Type 0
OfOpened = (levels table : List ℕ) (rule : Rule) (qs : List Request) → Demand3 (opening levels table rule).house qs
