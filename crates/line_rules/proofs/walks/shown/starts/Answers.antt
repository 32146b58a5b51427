use Rattle.line_rules.proofs.ShownOrders.{starts_if}
use Rattle.line_rules.proofs.walks.shown.starts.Goals as goal
use Rattle.line_rules.proofs.walks.shown.starts.Goals.{else-first-under-via-then-first-under+else-second-over, else-first-under-via-else-first-under}

pub returns : goal.returns
returns c =
    starts_if c.args.ases.now c.args.shown.now c.args.over c.args.under c.has.result c.in-len2-up.len_at_least
    (λ first second. elim c.else-first-under.branch [
      | else-first-under-via-then-first-under+else-second-over w ↦ w.if-second-over.false second
      | else-first-under-via-else-first-under w ↦ w.if-first-under.false first
    ]) c.has.ensures
