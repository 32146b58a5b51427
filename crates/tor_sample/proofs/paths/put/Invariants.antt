use Rattle.std.proofs.Common.{◌≡◌, ◌++◌, take}
use Rattle.tor_sample.proofs.paths.put.Given as goal

abbrev pub invariant-loop-network : goal.invariant-loop-network
invariant-loop-network l = l.path.items ≡ l.fn.path.items ++ take l.network-index l.networks
