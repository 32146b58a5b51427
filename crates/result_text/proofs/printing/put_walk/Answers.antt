use Rattle.std.proofs.Common.{◌∙◌, ap}
use Rattle.std.specs.Fmt.{decimal}
use Rattle.tor_io.proofs.Putting.{puts_as, puts_then}
use Rattle.result_text.specs.Text.{numbers_text, links}
use Rattle.result_text.proofs.Puts.{joined}
use Rattle.result_text.proofs.printing.put_walk.Goals as goal

pub returns : goal.returns
returns g c =
    let ases = puts_as c.put_joined.ensures (joined decimal c.ases.result.now ∙ ap numbers_text c.ases.ensures) in
    puts_then ases (puts_then c.put_byte.ensures (puts_as c.put_links.ensures (ap (links c.args.version) c.links.ensures)))
