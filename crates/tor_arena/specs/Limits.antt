-- How many things of one kind there may be.
use Rattle.std.specs.Prelude.{ℕ}
use Rattle.tor_arena.specs.declared.limits.TheConstants.{MAX_PATHS, MAX_NUMBERS, MAX_RATIO, MOST_PLACES, MOST_WALKS}

-- more than any input within the limits of the product has of one kind
abbrev pub most_places : ℕ
most_places = MOST_PLACES

-- a result within the limits of the product has fewer walks, since a line of a walk takes six octets at least
abbrev pub most_walks : ℕ
most_walks = MOST_WALKS

-- how many distinct paths dumps may give, and how many numbers these paths may have in sum
abbrev pub max_paths : ℕ
max_paths = MAX_PATHS

abbrev pub max_numbers : ℕ
max_numbers = MAX_NUMBERS

-- how many times the lesser degree the greater one of two peers may be, where the most is asked for
abbrev pub max_ratio : ℕ
max_ratio = MAX_RATIO
