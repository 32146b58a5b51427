use Rattle.std.proofs.Common.{ap, sym}
use Rattle.tor_io.proofs.Putting.{puts_as, puts_then}
use Rattle.drawing.specs.Svg.{post_title}
use Rattle.drawing.proofs.printing.put_post_title.Goals as goal

pub returns-in-One : goal.returns-in-One
returns-in-One g c = puts_as (puts_then c.put_as.ensures (puts_then c.put.ensures c.put_paths.ensures)) (sym (ap post_title c.in-One.is))
