use Rattle.std.proofs.Common.{◌≤◌, ◌+◌, ◌-◌, ◌++◌, List, ℕ, arith, length, refl}
use Rattle.path_order.specs.Entries.{paths_left, row_places, times_left}
use Rattle.path_order.proofs.SizeLemmas.{all_taken}
use Rattle.path_order.proofs.ordering.add_others.Goals as goal

pub returns-clause-paths : goal.returns-clause-paths
returns-clause-paths c =
    let rows = c.args.rows.now in
    let times = c.args.times.now in
    let places = row_places c.args.kept (length rows - c.args.kept) in
    let behind : c.longest_of-end.result + 1 ≤ c.loop-size.size = omega (arith, c.loop-size-test.false) in
    all_taken rows times c.loop-size.size c.longest_of-end.result c.loop-size.remaining.left.items (paths_left rows times) c.loop-size.paths
    (c.args.paths.now ++ paths_left rows times places) refl c.loop-size.invariant.left c.longest_of-end.ensures.longest behind c.loop-size.invariant.paths_are

pub returns-clause-times : goal.returns-clause-times
returns-clause-times c =
    let rows = c.args.rows.now in
    let times = c.args.times.now in
    let places = row_places c.args.kept (length rows - c.args.kept) in
    let behind : c.longest_of-end.result + 1 ≤ c.loop-size.size = omega (arith, c.loop-size-test.false) in
    all_taken rows times c.loop-size.size c.longest_of-end.result c.loop-size.remaining.left.items (times_left rows times) c.loop-size.ordered
    (c.args.ordered.now ++ times_left rows times places) refl c.loop-size.invariant.left c.longest_of-end.ensures.longest behind c.loop-size.invariant.times_are
