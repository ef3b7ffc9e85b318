-- The number that the code looks for is what the rules' search over the places finds.
use Rattle.std.proofs.Common.{ℕ, zero, suc, ◌+◌, ◌≡◌, ◌∙◌, refl, sym, Bool, rules, tests, inl, inr}
use native.Mathlib.Numerals.{add-one}
use Rattle.std.specs.List.{range_with_len, find as list_find}
use Rattle.std.proofs.lemmas.Bool.{cases_Bool}
use Rattle.std.proofs.lemmas.Iterator.{YieldsList-from_range}
use Rattle.std.proofs.lemmas.Iterator.Adapters.{option_map_id}
use Rattle.std.proofs.lemmas.Iterator.Search.{find_from_yields_List}
use Rattle.house.specs.Search.{scan, find}
use Rattle.house.specs.House.{vacancy, free_at}
use Rattle.house.proofs.Places.{same_free}
use Rattle.places.proofs.lowest_free.Goals as goal

found_ranged : (f : ℕ → Bool) (k n : ℕ) → list_find f (range_with_len k n) ≡ find f k n
unfolding scan
found_ranged f k zero = refl
found_ranged f k (suc n) = elim (cases_Bool (f k)) [ inl y ↦ rw y | inr y ↦ rw (y, add-one) (found_ranged f (suc k) n) ]

pub returns : goal.returns
unfolding vacancy free_at
returns c =
    sym (option_map_id c.find.result)
    ∙ find_from_yields_List (free_at c.args.eight) _ _ _ c.find.ensures.ran (YieldsList-from_range _ _ 8 refl refl) (λ x b q k. search (rules, tests, same_free))
    ∙ found_ranged (free_at c.args.eight) 0 8
