use Rattle.std.proofs.Common.{◌≡◌, ◌<◌, ℕ, List, length, Contains}
use Rattle.tor_digraph.specs.Walks.{Reaches}
use Rattle.tor_digraph.specs.Trails.{StandsAt, IsTrail}
use Rattle.tor_orient.proofs.failing.last_failing.Given as goal

abbrev pub invariant-loop-place : goal.invariant-loop-place
invariant-loop-place l = record {
  there : l.place < length l.tried.nodes.items;
  count : l.behind.count ≡ l.fn.behind.count;
  leads : (arcs : List (ℕ × ℕ)) → IsTrail arcs l.fn.start l.tried → (m n : ℕ) → StandsAt l.tried.nodes.items l.place m → Contains l.behind.items n → Reaches arcs m n;
}

abbrev pub decreases-loop-place : goal.decreases-loop-place
decreases-loop-place l = l.place
