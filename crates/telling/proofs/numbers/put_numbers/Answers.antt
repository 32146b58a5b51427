use Rattle.tor_io.proofs.Putting.{puts_as}
use Rattle.telling.proofs.WalkTextLemmas.{joined}
use Rattle.telling.proofs.numbers.put_numbers.Goals as goal

pub returns : goal.returns
returns g c = puts_as c.put_joined.ensures (joined c.args.ns.now)
