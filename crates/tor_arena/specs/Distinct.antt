-- Lists of numbers in which none stands twice.
use Rattle.std.specs.Prelude.{◌≢◌, ℕ, ◌==◌, Bool, true, not, ◌&&◌, List, [], ◌∷◌}
use Rattle.std.specs.List.{list_any, AllPairs}

-- no number stands at two places
abbrev pub AllDistinct : List ℕ → Type 0
AllDistinct numbers = AllPairs ◌≢◌ numbers

-- the test for it
abbrev pub is_distinct : List ℕ → Bool
is_distinct [] = true
is_distinct (n ∷ numbers) = not (list_any (λ m. m == n) numbers) && is_distinct numbers
