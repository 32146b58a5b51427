use Rattle.std.proofs.Common.{ap}
use Rattle.result_text.specs.Text.{numbers_text}
use Rattle.tor_io.proofs.Putting.{puts_as, puts_then}
use Rattle.telling.proofs.excerpt.put_excerpt.Goals as goal

pub returns : goal.returns
returns g c =
    let before = puts_as c.put.ensures c.dots_before.ensures in
    let ases = puts_as c.put_numbers.ensures (ap numbers_text c.ases_shown.ensures) in
    let behind = puts_as c.put-2.ensures c.dots_behind.ensures in
    puts_then before (puts_then ases behind)
