-- How many votes the kept paths cast on each edge.
use Rattle.std.specs.Prelude.{◌≡◌, ℕ, ◌+◌, ◌≤◌, List, All}
use Rattle.relationships.specs.Graph.{Edge, support}
use Rattle.relationships.specs.Preference.{votes}
use Rattle.tor_arena.specs.Distinct.{AllDistinct}
use Rattle.gao_prefs.specs.declared.per_end.PerEnd.{PerEnd}

-- a kept path casts one vote for each edge that it holds, for the one end or the other: as many paths hold an edge as there are votes for
-- its two ends, whatever the degrees
abbrev pub SupportLaw : Type 0
SupportLaw =
    (degree : ℕ → ℕ) (kept : List (List ℕ)) (e : Edge) → All AllDistinct kept → e.0 ≤ e.1 →
    support kept e ≡ votes degree kept e.0 e.1 + votes degree kept e.1 e.0

-- how many votes an edge has, for the one end or the other
abbrev pub votes_cast : PerEnd → ℕ
votes_cast votes = votes.low + votes.high
