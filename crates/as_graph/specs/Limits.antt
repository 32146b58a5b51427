-- How large a graph may be. What it is built of has at most `max_paths` paths with at most `max_numbers` numbers in sum; behind them stand
-- the returns of givens, of which there are no more than edges.
use Rattle.std.specs.Prelude.{ℕ, ◌^◌}

-- how many paths there are at most, returns too: each return is of another edge, and the paths and their edges are no more than the
-- numbers on the paths
abbrev pub most_paths : ℕ
most_paths = 2 ^ 26

-- how many numbers these have in sum at most, of which each return has three
abbrev pub most_numbers : ℕ
most_numbers = 2 ^ 28

-- more than the places where three ASes follow each other on them
abbrev pub most_triples : ℕ
most_triples = 2 ^ 27
