use Rattle.std.proofs.Common.{◌≡◌, ◌-◌, ◌≤◌, ℕ, Some, length}
use Rattle.std.specs.Prelude.{slice_get}
use Rattle.tor_clauses.specs.Rounds.{IsLed, LeadsOn}
use Rattle.tor_mend.proofs.known.go_along.Given as goal

abbrev pub invariant-loop-place : goal.invariant-loop-place
invariant-loop-place l = record {
  within : l.place ≤ length l.along.arcs - l.skip;
  leads : (from to x n : ℕ) → IsLed l.fitted.formula.net.arcs l.along from to → slice_get l.along.nodes l.skip ≡ Some x → slice_get l.along.nodes l.place ≡ Some n →
      LeadsOn l.fitted.formula.net.arcs l.fn.way l.way x n;
}
