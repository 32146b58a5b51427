-- How far votes are counted.
use Rattle.std.specs.Prelude.{ℕ, ◌^◌}

-- more votes than an end of an edge gets of all paths of a graph
abbrev pub most_votes : ℕ
most_votes = 2 ^ 31
