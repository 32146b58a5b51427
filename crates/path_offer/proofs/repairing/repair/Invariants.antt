use Rattle.std.proofs.Common.{◌≡◌, ◌*◌}
use Rattle.tor_mend.specs.Mends.{IsState, flipped_back}
use Rattle.path_offer.specs.Repairs.{IsRepaired}
use Rattle.tor_mend.specs.Ways.{AreKnown}
use Rattle.path_offer.proofs.repairing.repair.Given as goal

abbrev pub invariant-loop-triple : goal.invariant-loop-triple
invariant-loop-triple l = record {
  state : IsState l.fitted.formula.net.nodes l.state;
  known : AreKnown l.fitted.formula.net.arcs (l.settled * 2) l.state.known;
  back : flipped_back l.state.ends l.state.flips ≡ flipped_back l.fn.state.ends l.fn.state.flips;
  repaired : IsRepaired l.fitted.formula.net.arcs (l.settled * 2) (l.triple * 2) l.fn.state.ends l.state.ends;
}
