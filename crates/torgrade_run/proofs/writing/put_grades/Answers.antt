use Rattle.std.proofs.Common.{◌++◌, subst}
use Rattle.std.specs.Prelude.{OnOk, OnErr}
use Rattle.tor_io.specs.Contents.{GainsPrefix, PassesOn}
use Rattle.tor_io.proofs.Passing.{first_stops, rest_passes, rest_stops}
use Rattle.torgrade_run.specs.declared.totals.Totals.{Totals}
use Rattle.torgrade_run.specs.GradeText.{graded_lines, grades_of, totals_line, totals_of}
use Rattle.torgrade_run.proofs.writing.put_grades.Goals as goal

pub returns-in_err-totals-clause-prefix : goal.returns-in_err-totals-clause-prefix
returns-in_err-totals-clause-prefix g c =
    let rel = c.args.rel.now in
    let rows = c.args.table.now.rows in
    first_stops c.from_residual.result (g.O.Sink.held c.args.out.now) (g.O.Sink.held c.put_grade_lines.new.out) c.args.buffer.now
    (graded_lines rel rows) (totals_line (totals_of (grades_of rel rows))) c.in_err-totals.ensures.prefix

pub returns-clause-all : goal.returns-clause-all
returns-clause-all g c =
    let held = g.O.Sink.held in
    let lines = graded_lines c.args.rel.now c.args.table.now.rows in
    subst (λ (t : Totals). OnOk c.put_totals.result (PassesOn (held c.args.out.now) (held c.put_totals.new.out) c.put_totals.new.buffer (c.args.buffer.now ++ (lines ++ totals_line t))))
    c.in_ok-totals.ensures.totals
    (rest_passes c.put_totals.result (held c.args.out.now) (held c.put_grade_lines.new.out) (held c.put_totals.new.out)
    c.args.buffer.now c.put_grade_lines.new.buffer c.put_totals.new.buffer lines (totals_line c.in_ok-totals.totals)
    c.in_ok-totals.ensures.all c.put_totals.ensures.all)

pub returns-clause-prefix : goal.returns-clause-prefix
returns-clause-prefix g c =
    let held = g.O.Sink.held in
    let lines = graded_lines c.args.rel.now c.args.table.now.rows in
    subst (λ (t : Totals). OnErr c.put_totals.result (GainsPrefix (held c.args.out.now) (held c.put_totals.new.out) (c.args.buffer.now ++ (lines ++ totals_line t))))
    c.in_ok-totals.ensures.totals
    (rest_stops c.put_totals.result (held c.args.out.now) (held c.put_grade_lines.new.out) (held c.put_totals.new.out)
    c.args.buffer.now c.put_grade_lines.new.buffer lines (totals_line c.in_ok-totals.totals)
    c.in_ok-totals.ensures.all c.put_totals.ensures.prefix)
