-- What is asked of the first paths of a graph, where those behind them are kept first. These words are the crate's own: no reader of a
-- public clause needs them.
use Rattle.std.specs.Prelude.{◌≡◌, ℕ, Bool, List, ◌++◌, map, take, drop}
use Rattle.relationships.specs.Graph.{edges}
use Rattle.relationships.specs.Evidence.{paths_of, kept_from}
use Rattle.relationships.specs.Selection.{KeepsFrom}
use Rattle.asks.specs.declared.ask.Ask.{Ask}
use Rattle.asks.specs.declared.table.AskLine.{AskLine}
use Rattle.asks.specs.Asks.{AreAsksBy, ask_line_of}

-- each of the first `count` paths of the graph is kept exactly if some orientation serves it together with those of `first` and those kept
-- before it
pub record AreAsksBehind (graph first : List (List ℕ)) (count : ℕ) (asks : List Ask) : Type 0 where
  pub keeps : List Bool
  pub kept : KeepsFrom first (take count graph) keeps
  pub by : AreAsksBy graph (first ++ paths_of (kept_from 1 (take count graph) keeps)) asks

-- the lines of these, where the paths behind the first `count` are kept first
abbrev pub AreAskLinesBehind : List (List ℕ) → ℕ → List AskLine → Type 0
AreAskLinesBehind graph count lines =
    (asks : List Ask) × AreAsksBehind graph (drop count graph) count asks × (lines ≡ map (ask_line_of (edges graph)) asks)
