use Rattle.std.proofs.Common.{◌<◌, ◌-◌, length, get_or, arith}
use Rattle.std.proofs.lemmas.Option.{slice_get-get_or}
use Rattle.order_trials.proofs.depth_search.next_node.Goals as goal

pub has-requires : goal.has-requires
has-requires c =
    let row = c.row-row.result.now in
    let left = c.loop-left.left - 1 in
    let test = c.loop-left-test.true in
    let within = c.loop-left.invariant in
    let lt : left < length row = omega (arith, test, within) in
    let e = get_or row left c.index-row-left.result in
    let at = slice_get-get_or row left c.index-row-left.result lt in
    let arc = c.row-row.ensures.only left e at in
    let inside = c.facts.ensures.inside.heads e.0 c.args.node e.1 arc in
    let count = c.held-held.ensures.count in
    omega (arith, inside, count)

pub has-requires-then-not-has : goal.has-requires-then-not-has
has-requires-then-not-has c =
    let row = c.row-row.result.now in
    let left = c.loop-left.left - 1 in
    let test = c.loop-left-test.true in
    let within = c.loop-left.invariant in
    let lt : left < length row = omega (arith, test, within) in
    let e = get_or row left c.index-row-left.result in
    let at = slice_get-get_or row left c.index-row-left.result lt in
    let arc = c.row-row.ensures.only left e at in
    let inside = c.facts.ensures.inside.heads e.0 c.args.node e.1 arc in
    let count = c.requires.seen in
    omega (arith, inside, count)

pub returns-then-not-has-2-clause-there : goal.returns-then-not-has-2-clause-there
returns-then-not-has-2-clause-there c =
    let row = c.row-row.result.now in
    let left = c.loop-left.left - 1 in
    let test = c.loop-left-test.true in
    let within = c.loop-left.invariant in
    let lt : left < length row = omega (arith, test, within) in
    let e = get_or row left c.index-row-left.result in
    let at = slice_get-get_or row left c.index-row-left.result lt in
    let arc = c.row-row.ensures.only left e at in
    let inside = c.facts.ensures.inside.heads e.0 c.args.node e.1 arc in
    inside
