-- The places of the paths of a graph that stand behind its first ones.
use Rattle.std.specs.Prelude.{ℕ, zero, suc, ◌+◌, List, [], ◌∷◌}

-- so many places, from n on
abbrev pub places_from : ℕ → ℕ → List ℕ
places_from n zero = []
places_from n (suc many) = n ∷ places_from (n + 1) many
