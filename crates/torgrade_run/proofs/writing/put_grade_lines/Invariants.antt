use Rattle.std.proofs.Common.{◌≡◌, ◌++◌, take}
use Rattle.tor_io.specs.Contents.{PassesOn}
use Rattle.torgrade_run.specs.GradeText.{graded_lines, grades_of, totals_of}
use Rattle.torgrade_run.proofs.writing.put_grade_lines.Given as goal

-- the lines so far have passed on, no fault was counted, and the totals are those of the grades so far
abbrev pub invariant-loop-place : goal.invariant-loop-place
invariant-loop-place g l =
    let sink = g.O.Sink in
    record {
      passed : PassesOn (sink.held l.fn.out) (sink.held l.out) l.buffer (l.fn.buffer ++ graded_lines l.rel (take l.place l.table.rows));
      quiet : sink.faults l.out ≡ sink.faults l.fn.out;
      counted : l.totals ≡ totals_of (take l.place (grades_of l.rel l.table.rows));
    }
