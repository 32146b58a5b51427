use Rattle.std.proofs.Common.{rules, ◌≡◌}
use Rattle.forced_edges.proofs.MarkSteps.{marks_begin, marks_next}
use Rattle.forced_edges.proofs.marking.mark_edges.Goals as goal

pub loop-place-init : goal.loop-place-init
loop-place-init c = marks_begin c.args.problem.now.labels c.args.shown.now.items c.args.marks.now c.requires.none

pub loop-place-preserved : goal.loop-place-preserved
loop-place-preserved c =
    let place = c.loop-place.place in
    let same : c.unwrap-edge.result ≡ place = search rules in
    marks_next c.args.problem.now.labels c.args.shown.now.items place c.unwrap-edge.result c.loop-place.marks c.push.new.self c.mark_of.result
    c.loop-place.invariant same c.in_ok-push.ensures.ok c.mark_of.ensures
