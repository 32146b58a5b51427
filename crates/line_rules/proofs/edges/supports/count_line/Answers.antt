use Rattle.std.proofs.Common.{sym, ◌∙◌}
use Rattle.line_rules.proofs.SupportLemmas.{risen-line, risen-lost}
use Rattle.line_rules.proofs.edges.supports.count_line.Goals as goal

pub returns-then-is_kept : goal.returns-then-is_kept
returns-then-is_kept c =
    risen-line c.args.line.now c.args.steps.now c.args.counts.now.items c.count_steps.new.counts.items (sym c.is_kept.ensures ∙ c.if-is_kept.true) c.requires.distinct
    c.count_steps.ensures.same c.count_steps.ensures.counted

pub returns-else-is_kept : goal.returns-else-is_kept
returns-else-is_kept c = λ lines apart many are. risen-lost c.args.line.now c.args.counts.now.items (sym c.is_kept.ensures ∙ c.if-is_kept.false) _
