use Rattle.std.proofs.Common.{◌≡◌, ℕ, Some}
use Rattle.std.specs.Prelude.{slice_get}
use Rattle.tor_clauses.specs.Leading.{GoesOn, KeepsPairs, IsPlainWay}
use Rattle.tor_clauses.proofs.walking.follow_way.Given as goal

abbrev pub invariant-loop-arc : goal.invariant-loop-arc
invariant-loop-arc l = record {
  leads : (from to n : ℕ) → IsPlainWay l.fitted.formula.net.arcs from to l.way.nodes l.way.arcs → slice_get l.way.nodes l.arc-index ≡ Some n →
      GoesOn l.fitted.graph l.fitted.formula l.fn.walk l.walk from n;
  kept : KeepsPairs l.fn.walk l.walk;
}
