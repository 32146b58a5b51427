-- Probes: orders that bear out the open edges.
use Rattle.std.specs.Prelude.{◌≡◌, ◌⊎◌, ℕ, List, [], ◌∷◌, ◌++◌, Contains}
use Rattle.relationships.specs.Graph.{edges}
use Rattle.relationships.specs.declared.mark.Probe.{Probe}
use Rattle.tor_digraph.specs.Reached.{IsGrown}
use Rattle.tor_digraph.specs.Spreading.{IsClosed}
use Rattle.tor_clauses.specs.Literals.{lit_of, opposite_node, Says}
use Rattle.order_trials.specs.Posing.{Posed}

-- the order of the node is a new probe: its opposite is not shown, it was not covered, and what it leads to is covered now, but not
-- past the orders of the labels
pub record IsNewProbe (posed : Posed) (shown : List ℕ) (node : ℕ) (old new : List ℕ) (p : Probe) : Type 0 where
  pub apart : Contains old node → ⊥
  pub unshown : Contains shown (opposite_node node) → ⊥
  pub says : Says (edges posed.graph) (lit_of node) p.over p.under
  pub covers : IsClosed posed.formula.net.arcs posed.held new
  pub grown : IsGrown posed.formula.net.arcs node old new

-- the order of the node is a new probe, or its opposite is shown, or it was covered
abbrev pub Probes : Posed → List ℕ → ℕ → List ℕ → List ℕ → List Probe → List Probe → Type 0
Probes posed shown node old new before after =
    ((Contains shown (opposite_node node) ⊎ Contains old node) × (new ≡ old) × (after ≡ before)) ⊎
    ((p : Probe) × (after ≡ before ++ p ∷ []) × IsNewProbe posed shown node old new p)
