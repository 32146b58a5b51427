-- Orders that are shown: each holds in all orientations that serve, and a walk says why.
use Rattle.std.specs.Prelude.{◌≡◌, ℕ, ◌<◌, List, [], Some, slice_get, length, Contains}
use Rattle.relationships.specs.declared.walk.Walk.{Walk}
use Rattle.relationships.specs.Graph.{edges}
use Rattle.relationships.specs.Evidence.{Show}
use Rattle.tor_digraph.specs.Walks.{HasArc, IsArc, Reaches}
use Rattle.tor_clauses.specs.Literals.{lit_of, opposite_node, Says}
use Rattle.tor_clauses.specs.Formulas.{numbered_of}
use Rattle.tor_clauses.specs.Leading.{LeadsTo}
use Rattle.tor_digraph.specs.Spreading.{IsClosed}
use Rattle.order_trials.specs.Posing.{Posed}
use Rattle.order_trials.specs.declared.showing.Shown.{Shown}

-- ---- orders that are shown

-- the walks show the orders of the first of these nodes, so many, one each
pub record AreShown (posed : Posed) (nodes : List ℕ) (upto : ℕ) (whys : List Walk) : Type 0 where
  pub orders : List (ℕ × ℕ)
  pub many : length orders ≡ upto
  pub says : (k n : ℕ) → k < upto → slice_get nodes k ≡ Some n → (x y : ℕ) × (slice_get orders k ≡ Some (x, y)) ×
      Says (edges posed.graph) (lit_of n) x y
  pub shown : Show (numbered_of posed.graph posed.formula) whys orders

-- each of these orders follows from its opposite
abbrev pub AreForced : Posed → List ℕ → Type 0
AreForced posed nodes = (n : ℕ) → Contains nodes n → Reaches posed.formula.net.arcs (opposite_node n) n

-- all of these orders are shown
pub record IsShowing (posed : Posed) (s : Shown) : Type 0 where
  pub count : s.nodes.count ≡ posed.formula.net.nodes
  pub forced : AreForced posed s.nodes.items
  pub walks : AreShown posed s.nodes.items (length s.nodes.items) s.whys

-- what follows from the first of these, so many, is among them
abbrev pub AreClosedTo : Posed → ℕ → List ℕ → Type 0
AreClosedTo posed upto nodes = (k x y : ℕ) → k < upto → slice_get nodes k ≡ Some x → HasArc posed.formula.net.arcs x y → Contains nodes y

-- all of these are shown, and all that follows from them
pub record IsFullyShown (posed : Posed) (s : Shown) : Type 0 where
  pub showing : IsShowing posed s
  pub closed : IsClosed posed.formula.net.arcs [] s.nodes.items

-- what was shown stays shown
abbrev pub StayShown : Shown → Shown → Type 0
StayShown old new = (n : ℕ) → Contains old.nodes.items n → Contains new.nodes.items n

-- ---- walks

-- the walk leads from "a over b", the order of the arc's tail, to the order of its head
abbrev pub LeadsAlongArc : Posed → ℕ → ℕ → ℕ → ℕ → Walk → Type 0
LeadsAlongArc posed arc head a b w =
    (tail : ℕ) → IsArc posed.formula.net.arcs arc tail head → Says (edges posed.graph) (lit_of tail) a b →
    LeadsTo (numbered_of posed.graph posed.formula) (edges posed.graph) w a b head

-- the arc leads to the head from one of these nodes, which says "a over b"
abbrev pub IsTail : Posed → ℕ → ℕ → List ℕ → ℕ → ℕ → Type 0
IsTail posed arc head nodes a b =
    (tail : ℕ) × IsArc posed.formula.net.arcs arc tail head × Contains nodes tail × Says (edges posed.graph) (lit_of tail) a b

-- the walk leads from the order of the node to its opposite
abbrev pub LeadsBack : Posed → ℕ → Walk → Type 0
LeadsBack posed node w =
    (a b : ℕ) → Says (edges posed.graph) (lit_of node) a b →
    LeadsTo (numbered_of posed.graph posed.formula) (edges posed.graph) w a b (opposite_node node)
