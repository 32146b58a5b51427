use Rattle.std.proofs.Common.{arith}
use Rattle.std.proofs.lemmas.Bool.{both_ways}
use Rattle.result_rules.specs.Against.{row_of, its_rows}
use Rattle.result_rules.proofs.Accepted.{same_length}
use Rattle.line_rules.proofs.AgainstLemmas.{same_lists, row_more, row_differs}
use Rattle.line_rules.proofs.against.differing_path.Goals as goal

pub returns-else-count-len : goal.returns-else-count-len
returns-else-count-len c =
    let same = same_length row_of c.args.file.now.paths in
    let end = c.loop-place-test.false in
    let whole = c.len-place-end.ensures.length in
    same_lists (its_rows c.args.file.now) c.args.table.now.rows (omega arith) (λ k lt. c.loop-place.invariant k (omega (arith, end, whole, same, lt)))

pub loop-place-preserved : goal.loop-place-preserved
loop-place-preserved c =
    row_more c.args.file.now c.args.table.now.rows c.loop-place.place c.path_line_at-line.result c.path.result.now c.times.result c.path_line_at-line.ensures c.path.ensures
    c.times.ensures c.loop-place.invariant (c.is_row.ensures.0 c.if-not-is_row.false)

pub returns-then-not-is_row : goal.returns-then-not-is_row
returns-then-not-is_row c =
    row_differs c.args.file.now c.args.table.now.rows c.loop-place.place c.path_line_at-line.result c.path.result.now c.times.result c.path_line_at-line.ensures c.path.ensures
    c.times.ensures c.loop-place.invariant (λ e. both_ways c.is_row.result c.if-not-is_row.true (c.is_row.ensures.1 e))
