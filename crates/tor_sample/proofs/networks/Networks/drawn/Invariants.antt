use Rattle.tor_sample.proofs.Upward.{Grows}
use Rattle.tor_sample.proofs.networks.Networks.drawn.Given as goal

abbrev pub invariant-loop-network : goal.invariant-loop-network
invariant-loop-network l = Grows l.fn.draws.state l.network l.providers l.draws.state
