use Rattle.std.proofs.Common.{ap, map, arith}
use Rattle.std.proofs.lemmas.List.{take_all}
use Rattle.tor_io.proofs.Putting.{puts_as}
use Rattle.result_text.specs.declared.line.Line.TheVariants as line
use Rattle.result_text.specs.Text.{text_of_lines}
use Rattle.result_text.proofs.Puts.{item_more}
use Rattle.result_text.proofs.printing.put_given_lines.Goals as goal

pub loop-given-preserved : goal.loop-given-preserved
loop-given-preserved g c =
    λ v. item_more v (λ x. line.Given x) _ _ _ c.args.givens.now c.loop-given.given-index _ c.loop-given-test.true (c.loop-given.invariant v) (c.put_given.ensures v)

pub returns : goal.returns
returns g c =
    λ v. puts_as (c.loop-given.invariant v) (ap (λ xs. text_of_lines v (map (λ x. line.Given x) xs)) (take_all c.loop-given.given-index c.args.givens.now (omega (arith, c.loop-given-test.false))))
