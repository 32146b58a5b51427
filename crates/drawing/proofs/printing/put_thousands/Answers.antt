use Rattle.drawing.specs.Svg.{thousands}
use Rattle.drawing.proofs.printing.put_thousands.Goals as goal

pub returns : goal.returns
unfolding thousands
returns g c = c.put_digits.ensures
