use Rattle.std.proofs.Common.{◌≡◌, ◌≤◌, Some, length}
use Rattle.std.specs.Prelude.{slice_get}
use Rattle.tor_mend.specs.Ways.{AreKnown}
use Rattle.tor_mend.proofs.known.Known.remember_parts.Given as goal

abbrev pub invariant-loop-skip : goal.invariant-loop-skip
invariant-loop-skip l = record {
  room : l.fitted.formula.net.nodes ≤ length l.self.places.items;
  there : slice_get l.self.ways l.place ≡ Some l.way;
  known : AreKnown l.fitted.formula.net.arcs l.first l.self;
}
