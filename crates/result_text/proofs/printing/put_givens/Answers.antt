use Rattle.std.proofs.Common.{◌≡◌, ap, map}
use Rattle.tor_io.proofs.Putting.{puts_as}
use Rattle.result_text.specs.declared.line.Line.TheVariants as line
use Rattle.result_text.specs.Text.{its_givens, text_of_lines}
use Rattle.result_text.proofs.printing.put_givens.Goals as goal

pub returns-in-Some : goal.returns-in-Some
returns-in-Some g c =
    let same : c.as_slice.result.now ≡ its_givens c.args.file.now = rw c.in-Some.is c.as_slice.ensures in
    λ v. puts_as (c.put_given_lines.ensures v) (ap (λ xs. text_of_lines v (map (λ x. line.Given x) xs)) same)
