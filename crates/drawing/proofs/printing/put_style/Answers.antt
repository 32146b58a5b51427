use Rattle.std.proofs.Common.{refl}
use Rattle.tor_io.proofs.Putting.{puts_as, puts_then}
use Rattle.drawing.specs.Svg.{style_words}
use Rattle.drawing.specs.Xml.{element_text}
use Rattle.drawing.proofs.printing.put_style.Goals as goal

pub returns : goal.returns
unfolding style_words element_text
returns g c =
    puts_as (puts_then c.put.ensures (puts_then c.put-2.ensures (puts_then c.put-3.ensures (puts_then c.put-4.ensures (puts_then c.put-5.ensures
    (puts_then c.put-6.ensures c.put-7.ensures)))))) refl
