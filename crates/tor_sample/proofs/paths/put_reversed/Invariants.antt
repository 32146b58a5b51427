use Rattle.std.proofs.Common.{◌≡◌, ◌++◌, length, take, reverse}
use Rattle.tor_sample.proofs.paths.put_reversed.Given as goal

abbrev pub invariant-loop-network : goal.invariant-loop-network
invariant-loop-network l = l.path.items ≡ l.fn.path.items ++ take (length l.yielded) (reverse l.networks)
