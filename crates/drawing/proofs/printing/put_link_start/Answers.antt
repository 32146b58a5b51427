use Rattle.std.proofs.Common.{[], ◌∷◌, ◌++◌, append_assoc, codes, ap, sym}
use Rattle.tor_io.proofs.Putting.{puts_as, puts_then}
use Rattle.drawing.specs.Svg.{address}
use Rattle.drawing.specs.Xml.{attribute_text}
use Rattle.drawing.proofs.printing.put_link_start.Goals as goal

pub returns : goal.returns
unfolding attribute_text
returns g c =
    puts_as (puts_then c.put.ensures (puts_then c.put_address.ensures c.put-2.ensures))
    (sym (ap (λ t. codes "<a href=\"" ++ t) (append_assoc (address c.args.link.now c.args.number) (34 ∷ []) (codes ">\n"))))
