use Rattle.std.proofs.Common.{◌≡◌, ◌+◌, ◌++◌, take, Some, subst, ◌∙◌, arith}
use Rattle.std.specs.Prelude.{option_map}
use Rattle.std.specs.List.{slice_get}
use Rattle.tor_io.specs.Contents.{GainsPrefix, PassesOn}
use Rattle.tor_io.proofs.Passing.{at_error, one_and_another, one_and_prefix}
use Rattle.path_table.specs.Rows.{row_paths}
use Rattle.torgrade_run.specs.GradeText.{grade_line, graded_lines}
use Rattle.torgrade_run.proofs.GradeLines.{lines_stop, one_grade_more, one_line_more, short}
use Rattle.torgrade_run.proofs.writing.put_grade_lines.Goals as goal

pub grade_path-grade-requires : goal.grade_path-grade-requires
grade_path-grade-requires g c =
    omega (arith, short c.rows-rows.result.now c.in-Some.id c.row-path.result.now c.row-path.ensures, c.rows-rows.ensures.sum, c.rows-rows.ensures.numbers)

pub returns-in_err-put_grade_line-clause-prefix : goal.returns-in_err-put_grade_line-clause-prefix
returns-in_err-put_grade_line-clause-prefix g c =
    let held = g.O.Sink.held in
    let rel = c.args.rel.now in
    let rows = c.args.table.now.rows in
    let i = c.loop-place.place in
    let id = c.in-Some.id in
    let same : id ≡ i = c.in-Some.ensures.some in
    let path : slice_get (row_paths rows) i ≡ Some c.row-path.result.now =
    subst (λ k. slice_get (row_paths rows) k ≡ Some c.row-path.result.now) same (subst (λ t. slice_get t id ≡ Some c.row-path.result.now) c.rows-rows.ensures.paths c.row-path.ensures) in
    let times : option_map (λ row. row.times) (slice_get rows i) ≡ Some c.times.result =
    subst (λ k. option_map (λ row. row.times) (slice_get rows k) ≡ Some c.times.result) same c.times.ensures.times in
    at_error c.from_residual.result (GainsPrefix (held c.args.out.now) (held c.put_grade_line.new.out) (c.args.buffer.now ++ graded_lines rel rows))
    (lines_stop rel rows (i + 1) (held c.args.out.now) (held c.put_grade_line.new.out) c.args.buffer.now
    (subst (λ t. GainsPrefix (held c.args.out.now) (held c.put_grade_line.new.out) (c.args.buffer.now ++ t))
    (one_line_more rel rows i c.row-path.result.now c.times.result c.grade_path-grade.result c.grade_path-grade.ensures.grade path times)
    (one_and_prefix (held c.args.out.now) (held c.loop-place.out) (held c.put_grade_line.new.out) c.args.buffer.now c.loop-place.buffer (graded_lines rel (take i rows))
    (grade_line (record { path = c.row-path.result.now; times = c.times.result }) c.grade_path-grade.result) c.loop-place.invariant.passed c.in_err-put_grade_line.ensures.prefix)))

pub loop-place-preserved : goal.loop-place-preserved
loop-place-preserved g c =
    let held = g.O.Sink.held in
    let rel = c.args.rel.now in
    let rows = c.args.table.now.rows in
    let i = c.loop-place.place in
    let id = c.in-Some.id in
    let same : id ≡ i = c.in-Some.ensures.some in
    let path : slice_get (row_paths rows) i ≡ Some c.row-path.result.now =
    subst (λ k. slice_get (row_paths rows) k ≡ Some c.row-path.result.now) same (subst (λ t. slice_get t id ≡ Some c.row-path.result.now) c.rows-rows.ensures.paths c.row-path.ensures) in
    let times : option_map (λ row. row.times) (slice_get rows i) ≡ Some c.times.result =
    subst (λ k. option_map (λ row. row.times) (slice_get rows k) ≡ Some c.times.result) same c.times.ensures.times in
    record {
      passed = subst (λ t. PassesOn (held c.args.out.now) (held c.put_grade_line.new.out) c.put_grade_line.new.buffer (c.args.buffer.now ++ t))
          (one_line_more rel rows i c.row-path.result.now c.times.result c.grade_path-grade.result c.grade_path-grade.ensures.grade path times)
          (one_and_another (held c.args.out.now) (held c.loop-place.out) (held c.put_grade_line.new.out) c.args.buffer.now c.loop-place.buffer c.put_grade_line.new.buffer
          (graded_lines rel (take i rows)) (grade_line (record { path = c.row-path.result.now; times = c.times.result }) c.grade_path-grade.result)
          c.loop-place.invariant.passed c.in_ok-put_grade_line.ensures.all);
      quiet = c.in_ok-put_grade_line.ensures.cause.quiet ∙ c.loop-place.invariant.quiet;
      counted = one_grade_more rel rows i c.row-path.result.now c.grade_path-grade.result c.loop-place.totals c.with_grade-totals.result
          (omega (arith, c.loop-place-test.true, c.len-place-end.ensures.length)) c.grade_path-grade.ensures.grade path c.loop-place.invariant.counted c.with_grade-totals.ensures;
    }
