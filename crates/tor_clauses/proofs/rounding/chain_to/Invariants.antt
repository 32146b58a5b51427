use Rattle.std.proofs.Common.{ℕ, ◌<◌, length}
use Rattle.tor_digraph.specs.Trails.{StandsAt}
use Rattle.tor_clauses.specs.Rounds.{IsChain}
use Rattle.tor_clauses.proofs.rounding.chain_to.Given as goal

abbrev pub invariant-loop-at : goal.invariant-loop-at
invariant-loop-at l = record {
  there : l.at < length l.trail.nodes.items;
  chain : (from to : ℕ) → StandsAt l.trail.nodes.items l.at from → StandsAt l.trail.nodes.items l.fn.place to → IsChain l.fitted.formula.net.arcs l.chain from to;
}

abbrev pub decreases-loop-at : goal.decreases-loop-at
decreases-loop-at l = l.at
