use Rattle.std.proofs.Common.{ap}
use Rattle.telling.specs.ToldText.{goings_text}
use Rattle.tor_io.proofs.Putting.{puts_as, puts_then}
use Rattle.telling.proofs.writing.put_kept.Goals as goal

pub returns : goal.returns
returns g c = puts_then c.put_path_line.ensures (puts_as c.put_goings.ensures (ap (λ path. goings_text path c.args.goings.now) c.path.ensures))
