use Rattle.std.proofs.Common.{ap, sym}
use Rattle.tor_io.proofs.Putting.{puts_as, puts_then}
use Rattle.drawing.specs.Svg.{entry_title}
use Rattle.drawing.proofs.printing.put_entry.Goals as goal

pub returns-in-One : goal.returns-in-One
returns-in-One g c =
    let group = puts_as c.put-in-One.ensures c.group_words.ensures in
    let marked = puts_as c.put-in-One-3.ensures c.mark_words.ensures in
    let whole = puts_then c.put_as.ensures (puts_then c.put.ensures (puts_then group (puts_then c.put-in-One-2.ensures (puts_then marked
    (puts_then c.put-in-One-4.ensures c.put_paths.ensures))))) in
    puts_as whole (sym (ap (entry_title c.args.group) c.in-One.is))
