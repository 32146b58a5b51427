use Rattle.std.proofs.Common.{◌∙◌, refl}
use Rattle.line_rules.proofs.Labelled.{labels_next}
use Rattle.line_rules.proofs.edges.labels.Labels.new.Goals as goal

pub loop-line-preserved : goal.loop-line-preserved
loop-line-preserved c =
    c.in_ok-push.ensures.items ∙ labels_next c.args.lines.now c.loop-line.line-index _ c.loop-line.labels.items c.loop-line-test.true c.loop-line.invariant

pub returns : goal.returns
returns c = refl
