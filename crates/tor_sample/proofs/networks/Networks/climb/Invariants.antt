use Rattle.tor_sample.proofs.Upward.{Climbs}
use Rattle.tor_sample.proofs.networks.Networks.climb.Given as goal

abbrev pub invariant-loop-at : goal.invariant-loop-at
invariant-loop-at l = Climbs l.self (l.fn.network, l.fn.draws.state) l.climb.items (l.at, l.draws.state)

abbrev pub decreases-loop-at : goal.decreases-loop-at
decreases-loop-at l = l.at
