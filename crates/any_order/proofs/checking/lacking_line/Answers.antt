use Rattle.std.proofs.Common.{◌≡◌, ◌≤◌, length, subst, arith}
use Rattle.std.proofs.lemmas.Bool.{both_ways}
use Rattle.any_order.specs.Searching.{LacksFirst}
use Rattle.any_order.proofs.Lackings.{line_more, line_lacks, same_rows, end_lacks}
use Rattle.any_order.proofs.checking.lacking_line.Goals as goal

pub returns-else-count-len : goal.returns-else-count-len
returns-else-count-len c =
    let end = c.loop-place-test.false in
    same_rows c.args.file.now c.args.table.now.rows c.loop-place.place (omega (arith, end)) c.loop-place.invariant c.requires.once (omega arith)

pub returns-then-count-len : goal.returns-then-count-len
returns-then-count-len c =
    let end = c.loop-place-test.false in
    let same : c.loop-place.place ≡ c.len-count.result = omega (arith, end) in
    subst (λ k. (k ≤ length c.args.file.now.paths) × LacksFirst c.args.file.now c.args.table.now.rows k) same
    (end_lacks c.args.file.now c.args.table.now.rows c.loop-place.place (omega (arith, end)) c.loop-place.invariant c.facts.ensures.once (omega arith))

pub loop-place-preserved : goal.loop-place-preserved
loop-place-preserved c =
    line_more c.args.file.now c.args.table.now.rows c.loop-place.place c.loop-place.invariant c.path_line_at-line.result c.path.result.now c.times.result c.path_line_at-line.ensures
    c.path.ensures c.times.ensures (c.has_row.ensures.0 c.if-not-has_row.false)

pub returns-then-not-has_row : goal.returns-then-not-has_row
returns-then-not-has_row c =
    line_lacks c.args.file.now c.args.table.now.rows c.loop-place.place c.loop-place.invariant c.path_line_at-line.result c.path.result.now c.times.result c.path_line_at-line.ensures
    c.path.ensures c.times.ensures (λ there. both_ways c.has_row.result c.if-not-has_row.true (c.has_row.ensures.1 there))
