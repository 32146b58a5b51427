use Rattle.std.proofs.Common.{sym, ◌∙◌}
use Rattle.std.proofs.lemmas.Bool.{eqb-true, eq-eqb, false≢true}
use Rattle.path_table.proofs.TableLemmas.{eq_self, eq_true}
use Rattle.line_rules.proofs.AgainstLemmas.{row_is, path_at, times_were}
use Rattle.line_rules.proofs.against.is_row.Goals as goal

pub returns-then-eq : goal.returns-then-eq
returns-then-eq c = (
  λ t.
      row_is c.args.table.now.rows c.rows.result.now c.args.place c.in-Some.id c.times.result c.row.result.now c.in-Some.ensures.some c.rows.ensures.paths c.row.ensures c.times.ensures.times
      c.args.path.now c.args.times (eq_true c.row.result.now c.args.path.now (sym c.if-eq.ensures)) (eqb-true c.times.result c.args.times t),
  λ e.
      eq-eqb c.times.result c.args.times
      (times_were c.args.table.now.rows c.rows.result.now c.args.place c.in-Some.id c.times.result c.row.result.now c.in-Some.ensures.some c.rows.ensures.paths c.row.ensures c.times.ensures.times
      c.args.path.now c.args.times e),
)

pub returns-else-eq : goal.returns-else-eq
returns-else-eq c = (
  λ t. absurd (false≢true (sym c.if-eq.false ∙ t)),
  λ e.
      c.eq.ensures
      ∙ eq_self c.row.result.now c.args.path.now
      (path_at c.args.table.now.rows c.rows.result.now c.args.place c.in-Some.id c.row.result.now c.in-Some.ensures.some c.rows.ensures.paths c.row.ensures c.args.path.now c.args.times e),
)
