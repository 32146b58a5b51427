use Rattle.std.proofs.Common.{ℕ, length}
use Rattle.tor_digraph.specs.Trails.{StandsAt}
use Rattle.tor_clauses.specs.Rounds.{LeadsOn, IsChain}
use Rattle.tor_clauses.proofs.rounding.go_out.Given as goal

abbrev pub invariant-loop-arc : goal.invariant-loop-arc
invariant-loop-arc l = (from to : ℕ) → StandsAt l.trail.nodes.items 0 from → StandsAt l.trail.nodes.items l.fn.place to →
    (at : ℕ) × IsChain l.fitted.formula.net.arcs l.chain at to × LeadsOn l.fitted.formula.net.arcs l.fn.way l.way from at

abbrev pub decreases-loop-arc : goal.decreases-loop-arc
decreases-loop-arc l = length l.chain
