-- Literals: which end of an edge is over the other. Each is a node of the implication graph of Aspvall, Plass and Tarjan (1979).
use Rattle.std.specs.Prelude.{◌≡◌, ◌≢◌, ℕ, ◌+◌, ◌*◌, ◌/◌, ◌%◌, ◌^◌, List, Some, slice_get}
use Rattle.std.specs.List.{position_or_len}
use Rattle.relationships.specs.Steps.{end_left}
use Rattle.relationships.specs.declared.label.End.{End}
use Rattle.relationships.specs.Relationship.{opposite}
use Rattle.relationships.specs.Graph.{Edge, edge_of, is_same}
use Rattle.as_graph.specs.EdgeSteps.{side, end_of}

-- of the edge of this place, this end is over the other
pub record Literal : Type 0 where
  pub edge : ℕ
  pub over : End

-- the other end is over this one
abbrev pub negated : Literal → Literal
negated l = record { edge = l.edge; over = opposite l.over }

-- ---- nodes

-- each edge has two nodes, and there are no more than `most_places` of them
abbrev pub most_edges : ℕ
most_edges = 2 ^ 27

-- the node of a literal: two for each edge
abbrev pub node_of : Literal → ℕ
node_of l = l.edge * 2 + side l.over

-- the literal of a node
abbrev pub lit_of : ℕ → Literal
lit_of n = record { edge = n / 2; over = end_of (n % 2) }

-- the node of the negation
abbrev pub opposite_node : ℕ → ℕ
opposite_node n = node_of (negated (lit_of n))

-- ---- what literals say

-- the literal "x over y" among these edges
abbrev pub over : List Edge → ℕ → ℕ → Literal
over es x y = record { edge = position_or_len (is_same (edge_of x y)) es; over = end_left x y }

-- the literal says that x is over y, two neighbours
pub record Says (es : List Edge) (l : Literal) (x y : ℕ) : Type 0 where
  pub edge : slice_get es l.edge ≡ Some (edge_of x y)
  pub end : l.over ≡ end_left x y
  pub two : x ≢ y

-- the literal holds where the edges have these providers
abbrev pub Holds : List End → Literal → Type 0
Holds ends l = slice_get ends l.edge ≡ Some l.over
