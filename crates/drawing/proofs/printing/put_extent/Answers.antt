use Rattle.std.proofs.Common.{[], ◌∷◌, ◌++◌, append_assoc, ap, codes, sym}
use Rattle.std.specs.Fmt.{decimal}
use Rattle.tor_io.proofs.Putting.{puts_as, puts_then}
use Rattle.drawing.specs.Xml.{attribute_text}
use Rattle.drawing.proofs.printing.put_extent.Goals as goal

pub returns : goal.returns
unfolding attribute_text
returns g c =
    let d = c.args.drawing.now in
    puts_as (puts_then c.put.ensures (puts_then c.put_number.ensures (puts_then c.put_number_behind.ensures c.put_byte.ensures)))
    (sym (ap (λ t. codes " viewBox=\"0 0 " ++ t) (append_assoc (decimal d.width) (32 ∷ decimal d.height) (34 ∷ []))))
