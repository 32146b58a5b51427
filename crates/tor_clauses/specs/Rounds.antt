-- Ways along arcs, out along the trail of a search and home by the partners of its arcs.
use Rattle.std.specs.Prelude.{◌≡◌, ℕ, List, [], ◌∷◌, Contains}
use Rattle.tor_digraph.specs.Walks.{IsArc}
use Rattle.tor_digraph.specs.Trails.{StandsAt}
use Rattle.tor_digraph.specs.declared.way.Way.{Way}
use Rattle.tor_clauses.specs.Literals.{opposite_node}
use Rattle.tor_clauses.specs.Leading.{IsPlainWay}

-- the way leads from one node to the other
abbrev pub IsLed : List (ℕ × ℕ) → Way ℕ ℕ → ℕ → ℕ → Type 0
IsLed arcs way from to = IsPlainWay arcs from to way.nodes way.arcs

-- wherever the old way began, if it ended at the first node, the new one ends at the second
abbrev pub LeadsOn : List (ℕ × ℕ) → Way ℕ ℕ → Way ℕ ℕ → ℕ → ℕ → Type 0
LeadsOn arcs old new from to = (start : ℕ) → IsLed arcs old start from → IsLed arcs new start to

-- the arcs, the last first, lead from one node to the other
abbrev pub IsChain : List (ℕ × ℕ) → List ℕ → ℕ → ℕ → Type 0
IsChain arcs [] from to = from ≡ to
IsChain arcs (a ∷ chain) from to = (y : ℕ) × IsArc arcs a y to × IsChain arcs chain from y

-- ---- along the nodes that a search has visited, from the first of them or to it

-- the arcs, the last first, lead from the first node to the one at this place
abbrev pub IsChainTo : List (ℕ × ℕ) → List ℕ → ℕ → List ℕ → Type 0
IsChainTo arcs nodes place chain = (from to : ℕ) → StandsAt nodes 0 from → StandsAt nodes place to → IsChain arcs chain from to

-- the way has gone on from the first node to the one at this place
abbrev pub GoesOut : List (ℕ × ℕ) → List ℕ → ℕ → Way ℕ ℕ → Way ℕ ℕ → Type 0
GoesOut arcs nodes place old new = (from to : ℕ) → StandsAt nodes 0 from → StandsAt nodes place to → LeadsOn arcs old new from to

-- the way has gone on from the negation of the node at this place to that of the first node
abbrev pub GoesHome : List (ℕ × ℕ) → List ℕ → ℕ → Way ℕ ℕ → Way ℕ ℕ → Type 0
GoesHome arcs nodes place old new =
    (from to : ℕ) → StandsAt nodes 0 to → StandsAt nodes place from → LeadsOn arcs old new (opposite_node from) (opposite_node to)

-- the way has gone on from the first node to its negation
abbrev pub GoesRound : List (ℕ × ℕ) → List ℕ → Way ℕ ℕ → Way ℕ ℕ → Type 0
GoesRound arcs nodes old new = (from : ℕ) → StandsAt nodes 0 from → LeadsOn arcs old new from (opposite_node from)

-- the arc leads from one of these nodes to the negation of one
abbrev pub IsClash : List (ℕ × ℕ) → List ℕ → ℕ → Type 0
IsClash arcs nodes arc = (u y : ℕ) × IsArc arcs arc u y × Contains nodes u × Contains nodes (opposite_node y)
