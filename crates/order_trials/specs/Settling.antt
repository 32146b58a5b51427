-- Orders that are settled one after the other: what was reached from them together, and what is shown.
use Rattle.std.specs.Prelude.{◌≡◌, ℕ, Bool, List, [], IsTrue, Contains}
use Rattle.tor_digraph.specs.Walks.{Reaches}
use Rattle.tor_digraph.specs.Spreading.{IsClosed}
use Rattle.tor_digraph.specs.NodeSets.{Nodes}
use Rattle.tor_clauses.specs.Literals.{opposite_node}
use Rattle.order_trials.specs.Posing.{Posed}
use Rattle.order_trials.specs.Showing.{IsFullyShown, StayShown}
use Rattle.order_trials.specs.declared.settling.Settling.{Settling}

-- none of what was reached, but not past the orders that are shown, leads to its opposite
pub record IsTogether (posed : Posed) (shown : List ℕ) (r : Nodes) : Type 0 where
  pub count : r.count ≡ posed.formula.net.nodes
  pub closed : IsClosed posed.formula.net.arcs shown r.items
  pub free : (n : ℕ) → Contains r.items n → Reaches posed.formula.net.arcs n (opposite_node n) → ⊥

-- if the order leads to its opposite, then the opposite is among those that are shown
abbrev pub IsSettled : Posed → List ℕ → ℕ → Type 0
IsSettled posed shown n = Reaches posed.formula.net.arcs n (opposite_node n) → Contains shown (opposite_node n)

-- all that was shown is shown with all that follows from it
pub record IsSettling (posed : Posed) (s : Settling) : Type 0 where
  pub shown : IsFullyShown posed s.shown
  pub count : s.together.count ≡ posed.formula.net.nodes
  pub trial : s.trial.nodes.count ≡ posed.formula.net.nodes

-- one order was settled, or has to wait; where nothing was reached it does not wait
pub record Settles (posed : Posed) (n : ℕ) (old new : Settling) (done : Bool) : Type 0 where
  pub shown : IsFullyShown posed new.shown
  pub keeps : StayShown old.shown new.shown
  pub together : IsTogether posed new.shown.nodes.items new.together
  pub trial : new.trial.nodes.count ≡ posed.formula.net.nodes
  pub settled : IsTrue done → IsSettled posed new.shown.nodes.items n
  pub first : old.together.items ≡ [] → IsTrue done
