-- What an orientation is made of: the labels of an earlier result, and its givens.
use Rattle.std.specs.Prelude.{◌≡◌, ℕ, ◌-◌, List, ◌++◌, length, map, min, max, replicate, All, Contains, IsTrue}
use Rattle.relationships.specs.declared.label.End.{End}
use Rattle.relationships.specs.declared.label.Label.{Label}
use Rattle.relationships.specs.declared.given.Given.{Given}
use Rattle.relationships.specs.Relationship.{Orientation}
use Rattle.relationships.specs.Graph.{Edge, edges, orientation}
use Rattle.relationships.specs.Givens.{names_edge, end_by}
use Rattle.result_text.specs.declared.file.EdgeLine.{EdgeLine}

-- the provider of a label, and the lower AS where it is a peering
abbrev pub provider_of : Label → End
provider_of Label.Low = End.Low
provider_of Label.High = End.High
provider_of Label.Peer = End.Low

-- the ends of the edges of these lines, and behind them the lower one of each further edge, so many in all
abbrev pub first_ends : List EdgeLine → ℕ → List End
first_ends lines count = map (λ line. provider_of line.label) lines ++ replicate (count - length lines) End.Low

-- the orientation gives the edge of the given's two its provider
abbrev pub HasProvider : Orientation → Given → Type 0
HasProvider O g = O (min g.over g.under) (max g.over g.under) ≡ end_by g.over g.under

-- the ends of the edges of a graph that were turned to the providers of givens. They are told by any orientation O that has all these
-- providers: an edge that had its provider in O has it still, and each edge that a given names has it now
pub record AreTurned (graph : List (List ℕ)) (givens : List Given) (old new : List End) : Type 0 where
  pub many : length new ≡ length old
  pub still : (O : Orientation) → All (HasProvider O) givens → (e : Edge) → Contains (edges graph) e →
      orientation (edges graph) old e.0 e.1 ≡ O e.0 e.1 → orientation (edges graph) new e.0 e.1 ≡ O e.0 e.1
  pub turned : (O : Orientation) → All (HasProvider O) givens →
      All (λ g. IsTrue (names_edge graph g) → HasProvider (orientation (edges graph) new) g) givens
