-- What is taken up of an earlier result.
use Rattle.std.specs.Prelude.{◌≡◌, ◌≤◌, ℕ, List, length, map, take}
use Rattle.relationships.specs.declared.label.End.{End}
use Rattle.relationships.specs.Relationship.{Serves, labels_of}
use Rattle.relationships.specs.Graph.{edges, orientation}
use Rattle.relationships.specs.Evidence.{paths_of}
use Rattle.relationships.specs.Givens.{AgreesWith}
use Rattle.result_text.specs.declared.file.ResultFile.{ResultFile}
use Rattle.rel_infer.specs.declared.earlier_table.Rest.{Rest}
use Rattle.result_rules.specs.File.{its_paths, its_kept, its_givens}
use Rattle.result_rules.specs.Rules.{Accepts}
use Rattle.tor_arena.specs.Limits.{max_paths}

-- the first paths of a graph are those of the result, in order
abbrev pub BeginsWithPathsOf : List (List ℕ) → ResultFile → Type 0
BeginsWithPathsOf graph file = take (length file.paths) graph ≡ its_paths file

-- one end for each edge of the graph: by these each kept path of the result is valley-free, and they agree with its givens whose two are
-- neighbours in the graph
pub record IsKeptOrientation (graph : List (List ℕ)) (file : ResultFile) (ends : List End) : Type 0 where
  pub many : length ends ≡ length (edges graph)
  pub serves : Serves (orientation (edges graph) ends) (paths_of (its_kept file))
  pub agrees : AgreesWith (its_givens file) graph (labels_of (orientation (edges graph) ends))

-- what is left of a result whose paths stand in a table: it has no more than a table may have
pub record IsRestOf (file : ResultFile) (rest : Rest) : Type 0 where
  pub sets : rest.sets ≡ file.sets
  pub givens : rest.givens ≡ file.givens
  pub fates : rest.fates ≡ map (λ p. p.fate) file.paths
  pub edges : rest.edges ≡ file.edges
  pub few : length rest.fates ≤ max_paths

-- the first paths of a graph are those of a result that meets all rules, and this is left of it
pub record BeginsWithEarlier (graph : List (List ℕ)) (rest : Rest) : Type 0 where
  pub file : ResultFile
  pub left : IsRestOf file rest
  pub accepted : Accepts file
  pub begins : BeginsWithPathsOf graph file
