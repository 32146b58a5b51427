use Rattle.std.proofs.Common.{ap, map, arith}
use Rattle.std.proofs.lemmas.List.{take_all}
use Rattle.tor_io.proofs.Putting.{puts_as}
use Rattle.result_text.specs.declared.line.Line.TheVariants as line
use Rattle.result_text.specs.Text.{text_of_lines}
use Rattle.result_text.proofs.Puts.{item_more}
use Rattle.result_text.proofs.printing.put_probes.Goals as goal

pub loop-probe-preserved : goal.loop-probe-preserved
loop-probe-preserved g c =
    λ v. item_more v (λ x. line.Probe x) _ _ _ c.args.probes.now c.loop-probe.probe-index _ c.loop-probe-test.true (c.loop-probe.invariant v) (c.put_probe.ensures v)

pub returns : goal.returns
returns g c =
    λ v. puts_as (c.loop-probe.invariant v) (ap (λ xs. text_of_lines v (map (λ x. line.Probe x) xs)) (take_all c.loop-probe.probe-index c.args.probes.now (omega (arith, c.loop-probe-test.false))))
