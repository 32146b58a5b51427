use Rattle.std.proofs.Common.{ap, map, arith}
use Rattle.std.proofs.lemmas.List.{take_all}
use Rattle.tor_io.proofs.Putting.{puts_as}
use Rattle.result_text.specs.declared.line.Line.TheVariants as line
use Rattle.result_text.specs.Text.{text_of_lines}
use Rattle.result_text.proofs.Puts.{item_more}
use Rattle.result_text.proofs.printing.put_edges.Goals as goal

pub loop-edge-preserved : goal.loop-edge-preserved
loop-edge-preserved g c =
    λ v. item_more v (λ x. line.Edge x) _ _ _ c.args.edges.now c.loop-edge.edge-index _ c.loop-edge-test.true (c.loop-edge.invariant v) (c.put_edge.ensures v)

pub returns : goal.returns
returns g c =
    λ v. puts_as (c.loop-edge.invariant v) (ap (λ xs. text_of_lines v (map (λ x. line.Edge x) xs)) (take_all c.loop-edge.edge-index c.args.edges.now (omega (arith, c.loop-edge-test.false))))
