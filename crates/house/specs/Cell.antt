-- The lock cells. "There are 2,048 lock cells, one for each item and place: read, write, certify, signalled."
-- A cell is one byte, the sum of the weights of its marks. The cell of place p and item i is number p * 64 + i.
-- Assumes nothing.
use Rattle.std.specs.Prelude.{ℕ, ◌+◌, ◌-◌, ◌*◌, ◌/◌, ◌%◌, Bool, cond, not, ◌&&◌, List, get_or, set, eqb, Option}
use Rattle.house.specs.declared.Mark.{Mark}
use Rattle.house.specs.declared.Mark.TheVariants.{Read, Write, Certify, Signalled}
use Rattle.house.specs.Search.{any, find, count, map_from}

abbrev pub weight : Mark → ℕ
weight Read = 1
weight Write = 2
weight Certify = 4
weight Signalled = 8

-- the cell has the mark
unfoldable pub has : Mark → ℕ → Bool
has m c = eqb (c / weight m % 2) 1

-- the cell with the mark, and without it
unfoldable pub marked : Mark → ℕ → ℕ
marked m c = cond (has m c) c (c + weight m)

unfoldable pub unmarked : Mark → ℕ → ℕ
unmarked m c = cond (has m c) (c - weight m) c

unfoldable pub cell_at : List ℕ → ℕ → ℕ → ℕ
cell_at cells p i = get_or cells (p * 64 + i) 0

-- the cells with that of place p and item i marked
unfoldable pub with_mark : Mark → List ℕ → ℕ → ℕ → List ℕ
with_mark m cells p i = set cells (p * 64 + i) (marked m (cell_at cells p i))

-- each cell through f, which is told its place and its item
unfoldable pub map_cells : (ℕ → ℕ → ℕ → ℕ) → List ℕ → List ℕ
map_cells f cells = map_from 0 (λ n c. f (n / 64) (n % 64) c) cells

-- the transaction at place p has the mark on item i
unfoldable pub holds : List ℕ → Mark → ℕ → ℕ → Bool
holds cells m p i = has m (cell_at cells p i)

-- place p is another than `me`, and has the mark on item i
unfoldable pub another_holds : List ℕ → Mark → ℕ → ℕ → ℕ → Bool
another_holds cells m me i p = not (eqb p me) && holds cells m p i

-- the transaction has a signalled cell; the lowest such item; how many there are
unfoldable pub is_signalled : List ℕ → ℕ → Bool
is_signalled cells me = any (holds cells Signalled me) 0 64

unfoldable pub first_signalled : List ℕ → ℕ → Option ℕ
first_signalled cells me = find (holds cells Signalled me) 0 64

unfoldable pub count_signalled : List ℕ → ℕ → ℕ
count_signalled cells me = count (holds cells Signalled me) 0 64
