use Rattle.std.proofs.Common.{◌≡◌, ℕ, Contains}
use Rattle.tor_digraph.specs.Trails.{StandsAt, StaysTrail}
use Rattle.tor_digraph.proofs.Spreadings.{IsLooking}
use Rattle.tor_orient.proofs.finding.look.Given as goal

abbrev pub invariant-loop-entry : goal.invariant-loop-entry
invariant-loop-entry l = record {
  count : l.tried.nodes.count ≡ l.rows.nodes;
  looking : (tail : ℕ) → StandsAt l.fn.tried.nodes.items l.fn.place tail → IsLooking l.rows.arcs l.settled.items tail l.entry-items l.entry-index l.fn.tried.nodes.items l.tried.nodes.items;
  trail : StaysTrail l.rows.arcs l.fn.tried l.tried;
  unmet : Contains l.tried.nodes.items l.fn.end → ⊥;
}
