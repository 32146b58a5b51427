use Rattle.std.proofs.Common.{◌≡◌, ◌++◌, take}
use Rattle.tor_sample.specs.Records.{as_numbers}
use Rattle.tor_sample.proofs.records.put_as_numbers.Given as goal

abbrev pub invariant-loop-network : goal.invariant-loop-network
invariant-loop-network l = l.out ≡ l.fn.out ++ as_numbers (take l.network-index l.path)
