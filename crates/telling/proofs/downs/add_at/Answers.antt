use Rattle.std.proofs.Common.{◌-◌, get_or}
use Rattle.std.proofs.lemmas.Option.{slice_get_within}
use Rattle.telling.specs.Downs.{step_edge}
use Rattle.telling.proofs.DownLemmas.{down, has_arc, there, back, has_both, none_first, none_second, placed, unplaced, turned_at}
use Rattle.telling.proofs.downs.add_at.Goals as goal

pub returns-in_default-clause-here : goal.returns-in_default-clause-here
returns-in_default-clause-here c =
    let q = c.requires in
    let path = c.args.path.now in
    let at = c.args.link.at in
    none_first c.args.file.now q.accepted c.args.all.now.edges c.args.link.path path q.kept at q.behind q.before c.args.downs.now.graph.arcs
    (unplaced c.args.all.now.edges (step_edge path (at - 2) (at - 1)) c.args.first c.in_default.is q.first)

pub returns-in_default-second-clause-here : goal.returns-in_default-second-clause-here
returns-in_default-second-clause-here c =
    let q = c.requires in
    let path = c.args.path.now in
    let at = c.args.link.at in
    none_second c.args.file.now q.accepted c.args.all.now.edges c.args.link.path path q.kept at q.behind q.before c.args.downs.now.graph.arcs
    (unplaced c.args.all.now.edges (step_edge path (at - 1) at) c.args.second c.in_default-second.is q.second)

pub add_if_over-requires-clause-from : goal.add_if_over-requires-clause-from
add_if_over-requires-clause-from c =
    let path = c.args.path.now in
    let at = c.args.link.at in
    placed c.args.all.now.edges (step_edge path (at - 2) (at - 1)) c.args.first c.in-Some.from c.in-Some.is c.requires.first

pub add_if_over-requires-clause-to : goal.add_if_over-requires-clause-to
add_if_over-requires-clause-to c =
    let e = step_edge c.args.path.now (c.args.link.at - 1) c.args.link.at in
    slice_get_within c.args.all.now.edges c.in-Some-second.to e (placed c.args.all.now.edges e c.args.second c.in-Some-second.to c.in-Some-second.is c.requires.second)

pub add_if_over-requires-clause-down : goal.add_if_over-requires-clause-down
add_if_over-requires-clause-down c =
    let q = c.requires in
    let file = c.args.file.now in
    let es = c.args.all.now.edges in
    let path = c.args.path.now in
    let at = c.args.link.at in
    down file q.accepted es c.args.link.path path q.kept at q.behind q.before (get_or path (at - 2) 0) (get_or path (at - 1) 0) (get_or path at 0)
    (there file q.accepted es c.args.link.path path q.kept at q.behind q.before) c.in-Some.from c.in-Some-second.to
    (placed es (step_edge path (at - 2) (at - 1)) c.args.first c.in-Some.from c.in-Some.is q.first)
    (placed es (step_edge path (at - 1) at) c.args.second c.in-Some-second.to c.in-Some-second.is q.second)

pub add_if_over-requires-2-clause-from : goal.add_if_over-requires-2-clause-from
add_if_over-requires-2-clause-from c =
    let es = c.args.all.now.edges in
    let path = c.args.path.now in
    let at = c.args.link.at in
    turned_at es c.in-Some-second.to (get_or path (at - 1) 0) (get_or path at 0)
    (placed es (step_edge path (at - 1) at) c.args.second c.in-Some-second.to c.in-Some-second.is c.requires.second)

pub add_if_over-requires-2-clause-to : goal.add_if_over-requires-2-clause-to
add_if_over-requires-2-clause-to c =
    let e = step_edge c.args.path.now (c.args.link.at - 2) (c.args.link.at - 1) in
    slice_get_within c.args.all.now.edges c.in-Some.from e (placed c.args.all.now.edges e c.args.first c.in-Some.from c.in-Some.is c.requires.first)

pub add_if_over-requires-2-clause-down : goal.add_if_over-requires-2-clause-down
add_if_over-requires-2-clause-down c =
    let q = c.requires in
    let file = c.args.file.now in
    let es = c.args.all.now.edges in
    let path = c.args.path.now in
    let at = c.args.link.at in
    let x = get_or path (at - 2) 0 in
    let y = get_or path (at - 1) 0 in
    let z = get_or path at 0 in
    down file q.accepted es c.args.link.path path q.kept at q.behind q.before z y x (back file q.accepted es c.args.link.path path q.kept at q.behind q.before)
    c.in-Some-second.to c.in-Some.from
    (turned_at es c.in-Some-second.to y z (placed es (step_edge path (at - 1) at) c.args.second c.in-Some-second.to c.in-Some-second.is q.second))
    (turned_at es c.in-Some.from x y (placed es (step_edge path (at - 2) (at - 1)) c.args.first c.in-Some.from c.in-Some.is q.first))

pub returns-clause-here : goal.returns-clause-here
returns-clause-here c =
    let q = c.requires in
    let file = c.args.file.now in
    let es = c.args.all.now.edges in
    let number = c.args.link.path in
    let path = c.args.path.now in
    let at = c.args.link.at in
    let x = get_or path (at - 2) 0 in
    let y = get_or path (at - 1) 0 in
    let z = get_or path at 0 in
    let u = c.in-Some.from in
    let v = c.in-Some-second.to in
    let first = placed es (step_edge path (at - 2) (at - 1)) c.args.first u c.in-Some.is q.first in
    let second = placed es (step_edge path (at - 1) at) c.args.second v c.in-Some-second.is q.second in
    let one = c.in_ok-add_if_over.ensures in
    let other = c.in_ok-add_if_over-2.ensures in
    let arcs = c.add_if_over-2.new.downs.graph.arcs in
    has_both file q.accepted es number path q.kept at q.behind q.before arcs
    (has_arc file q.accepted es number path q.kept at q.behind q.before x y z (there file q.accepted es number path q.kept at q.behind q.before) u v first second arcs
    (λ o. other.still u v (one.here o)))
    (has_arc file q.accepted es number path q.kept at q.behind q.before z y x (back file q.accepted es number path q.kept at q.behind q.before) v u
    (turned_at es v y z second) (turned_at es u x y first) arcs other.here)
