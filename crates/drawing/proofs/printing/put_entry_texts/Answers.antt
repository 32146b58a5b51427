use Rattle.std.proofs.Common.{ap, sym}
use Rattle.std.proofs.lemmas.List.{append-nil}
use Rattle.tor_io.proofs.Putting.{puts_as, puts_then}
use Rattle.drawing.specs.Svg.{entry_texts}
use Rattle.drawing.specs.Xml.{elements_text}
use Rattle.drawing.proofs.printing.put_entry_texts.Goals as goal

pub returns-in-One : goal.returns-in-One
returns-in-One g c =
    puts_as (puts_then c.put_text.ensures (puts_as c.put_text-in-One.ensures (sym (append-nil _))))
    (sym (ap (λ e. elements_text (entry_texts c.args.at.now e)) c.in-One.is))
