-- What rule 1 asks of given lines.
use Rattle.std.specs.Prelude.{ℕ, List, map}
use Rattle.relationships.specs.declared.given.Given.{Given}
use Rattle.relationships.specs.Graph.{Edge, edge_of}
use Rattle.result_text.specs.declared.file.ResultFile.{ResultFile}
use Rattle.result_rules.specs.File.{its_givens}
use Rattle.result_rules.specs.Rules.{ForSome, IsNewGiven}

-- given line k names two ASes, and no earlier one names the same two
abbrev pub IsNewGivenAt : ResultFile → ℕ → Type 0
IsNewGivenAt file k = ForSome (its_givens file) k (IsNewGiven file k)

-- the edges of the two ASes of givens
abbrev pub edges_given : List Given → List Edge
edges_given givens = map (λ g. edge_of g.over g.under) givens
