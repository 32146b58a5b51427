use Rattle.tor_io.proofs.Passing.{first_stops, rest_passes, rest_stops}
use Rattle.torgrade_run.specs.GradeText.{cone_text, grades_text}
use Rattle.torgrade_run.proofs.writing.put_all.Goals as goal

pub returns-in_err-put_grades-clause-prefix : goal.returns-in_err-put_grades-clause-prefix
returns-in_err-put_grades-clause-prefix g c =
    let graded = c.args.graded.now in
    first_stops c.from_residual.result (g.O.Sink.held c.args.out.now) (g.O.Sink.held c.put_grades.new.out) c.args.buffer.now
    (grades_text graded.known.rel graded.taken.table.rows) (cone_text graded.known.cone) c.in_err-put_grades.ensures.prefix

pub returns-clause-all : goal.returns-clause-all
returns-clause-all g c =
    let graded = c.args.graded.now in
    rest_passes c.put_cone.result (g.O.Sink.held c.args.out.now) (g.O.Sink.held c.put_grades.new.out) (g.O.Sink.held c.put_cone.new.out)
    c.args.buffer.now c.put_grades.new.buffer c.put_cone.new.buffer (grades_text graded.known.rel graded.taken.table.rows) (cone_text graded.known.cone)
    c.in_ok-put_grades.ensures.all c.put_cone.ensures.all

pub returns-clause-prefix : goal.returns-clause-prefix
returns-clause-prefix g c =
    let graded = c.args.graded.now in
    rest_stops c.put_cone.result (g.O.Sink.held c.args.out.now) (g.O.Sink.held c.put_grades.new.out) (g.O.Sink.held c.put_cone.new.out)
    c.args.buffer.now c.put_grades.new.buffer (grades_text graded.known.rel graded.taken.table.rows) (cone_text graded.known.cone)
    c.in_ok-put_grades.ensures.all c.put_cone.ensures.prefix
