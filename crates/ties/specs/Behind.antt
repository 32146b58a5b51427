-- The ties of the first paths of a graph, where those behind them are kept first. These words are the crate's own: no reader of a public
-- clause needs them.
use Rattle.std.specs.Prelude.{◌≡◌, ℕ, Bool, List, ◌++◌, map, take, drop}
use Rattle.relationships.specs.Graph.{edges}
use Rattle.relationships.specs.Evidence.{paths_of, kept_from}
use Rattle.relationships.specs.Selection.{KeepsFrom}
use Rattle.ties.specs.declared.tie.Tie.{Tie}
use Rattle.ties.specs.declared.table.TieLine.{TieLine}
use Rattle.ties.specs.Ties.{AreTiesBy, tie_line_of}

-- each of the first `count` paths of the graph is kept exactly if some orientation serves it together with those of `first` and those kept
-- before it
pub record AreTiesBehind (graph first : List (List ℕ)) (count : ℕ) (ts : List Tie) : Type 0 where
  pub keeps : List Bool
  pub kept : KeepsFrom first (take count graph) keeps
  pub by : AreTiesBy graph (first ++ paths_of (kept_from 1 (take count graph) keeps)) ts

-- the lines of these ties, where the paths behind the first `count` are kept first
abbrev pub AreLinesBehind : List (List ℕ) → ℕ → List TieLine → Type 0
AreLinesBehind graph count lines =
    (ts : List Tie) × AreTiesBehind graph (drop count graph) count ts × (lines ≡ map (tie_line_of (edges graph)) ts)
