-- Numbers for the ends of edges: degrees, and votes.
use Rattle.std.specs.Prelude.{ℕ, ◌+◌, ◌&&◌, Bool, true, false, List, [], ◌∷◌, map, take, drop, count_by, nat_eq, slice_index_or}
use Rattle.std.specs.Prelude.{if◌then◌else◌}
use Rattle.relationships.specs.declared.label.End.{End}
use Rattle.relationships.specs.Relationship.{opposite}
use Rattle.relationships.specs.Graph.{Edge, degree}
use Rattle.relationships.specs.Preference.{top_of, votes}
use Rattle.as_graph.specs.declared.step.Step.{Step}
use Rattle.gao_prefs.specs.declared.per_end.PerEnd.{PerEnd}

abbrev pub same_end : End → End → Bool
same_end End.Low End.Low = true
same_end End.Low End.High = false
same_end End.High End.Low = false
same_end End.High End.High = true

abbrev pub at_end : PerEnd → End → ℕ
at_end numbers End.Low = numbers.low
at_end numbers End.High = numbers.high

-- the number of this end of the edge at this place
abbrev pub number_at : List PerEnd → ℕ → End → ℕ
number_at table place end = at_end (slice_index_or table place (record { low = 0; high = 0 })) end

-- the degrees of the ends of an edge
abbrev pub degrees_of : List (List ℕ) → Edge → PerEnd
degrees_of paths e = record { low = degree paths e.0; high = degree paths e.1 }

-- the numbers of the ASes along a path with these steps
abbrev pub along : List PerEnd → List Step → List ℕ
along table [] = []
along table (step ∷ steps) = number_at table step.edge step.left ∷ map
    (λ (s : Step). number_at table s.edge (opposite s.left)) (step ∷ steps)

-- the end that is voted for on a step
abbrev pub voted : Bool → Step → End
voted climbing step = if climbing then opposite step.left else step.left

-- whether the vote on a step is for this end of the edge at this place
abbrev pub is_vote : Bool → ℕ → End → Step → Bool
is_vote climbing place end step = nat_eq step.edge place && same_end (voted climbing step) end

-- how many votes a path with these steps has for this end of the edge at this place
abbrev pub ballots : List PerEnd → List Step → ℕ → End → ℕ
ballots table steps place end =
    let top = top_of (λ degree. degree) (along table steps) in
    count_by (is_vote true place end) (take top steps) + count_by (is_vote false place end) (drop top steps)

-- the votes of the kept paths for the ends of an edge
abbrev pub votes_of : (ℕ → ℕ) → List (List ℕ) → Edge → PerEnd
votes_of degree kept e = record { low = votes degree kept e.0 e.1; high = votes degree kept e.1 e.0 }
