use Rattle.std.proofs.Common.{sym}
use Rattle.std.proofs.lemmas.List.{append-nil}
use Rattle.tor_io.proofs.Putting.{puts_as, puts_then}
use Rattle.drawing.proofs.printing.put_centre_inside.Goals as goal

pub returns : goal.returns
returns g c = puts_then c.put_title.ensures (puts_then c.put_frame.ensures (puts_as c.put_text.ensures (sym (append-nil _))))
