use Rattle.std.proofs.Common.{◌∙◌, sym}
use Rattle.result_text.specs.EdgeLabels.{labels_in}
use Rattle.line_rules.proofs.SlopeLemmas.{slopes-steps, kept_fate}
use Rattle.line_rules.proofs.StepLemmas.{inside_lines}
use Rattle.line_rules.proofs.edges.valleys.is_served.Goals as goal

pub is_valley_free-requires : goal.is_valley_free-requires
is_valley_free-requires c = inside_lines c.args.labels.now c.args.line.now.path c.args.steps.now c.requires.steps

pub returns-else-not-is_kept : goal.returns-else-not-is_kept
returns-else-not-is_kept c =
    let lines = c.args.labels.now in
    let path = c.args.line.now.path in
    let k = c.is_valley_free.ensures (labels_in lines) path (slopes-steps lines c.requires.apart path c.args.steps.now c.requires.distinct c.requires.steps) in
    (λ t kept. k.0 t, λ served. k.1 (served (kept_fate c.args.line.now.fate (sym c.is_kept.ensures ∙ c.if-not-is_kept.false))))
