use Rattle.tor_orient.specs.Steps.{IsOver, AreSettled}
use Rattle.tor_orient.proofs.settling.settle_each.Given as goal

abbrev pub invariant-loop-place : goal.invariant-loop-place
invariant-loop-place l = record {
  search : IsOver l.fitted.formula.net.nodes l.search;
  settled : AreSettled l.fitted.formula l.prefs l.place l.settled;
}
