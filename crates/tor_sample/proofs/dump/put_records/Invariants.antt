use Rattle.tor_sample.proofs.Octets.{Puts}
use Rattle.tor_sample.proofs.dump.put_records.Given as goal

abbrev pub invariant-loop-number : goal.invariant-loop-number
invariant-loop-number l = Puts l.networks l.fn.draws.state l.fn.out l.number l.out l.draws.state
