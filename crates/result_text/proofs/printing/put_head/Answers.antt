use Rattle.tor_io.proofs.Putting.{puts_as, puts_then}
use Rattle.result_text.proofs.Parts.{head_text}
use Rattle.result_text.proofs.printing.put_head.Goals as goal

pub returns : goal.returns
returns g c =
    let v = c.args.version in
    puts_as (puts_then (puts_as c.put.ensures (c.head_start.ensures v)) (puts_then c.put_u32.ensures (puts_then c.put_byte.ensures c.put_all_asides.ensures)))
    (head_text c.args.file.now v c.requires)
