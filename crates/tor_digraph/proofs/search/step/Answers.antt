use Rattle.std.proofs.Common.{[], ◌∷◌, ◌++◌, length, refl, ap, arith}
use Rattle.std.proofs.lemmas.List.{length_push}
use Rattle.std.proofs.lemmas.Result.{on_ok_weaker}
use Rattle.std.proofs.lemmas.Option.{slice_get_within}
use Rattle.tor_arena.proofs.Gets.{slice_get-push_last}
use Rattle.tor_digraph.proofs.Steps.{stack-few, search-close, search-skip, search-along_made, search-arc, seen-not_no}
use Rattle.tor_digraph.proofs.Growths.{later-refl, later-along, growth-close, growth-skip, growth-along_made, work-skip, work-along_made}
use Rattle.tor_digraph.proofs.search.step.Goals as goal

pub ends-requires : goal.ends-requires
ends-requires g c =
    let arc = c.requires.search.next (length c.args.stack.now) c.args.top c.in-Some.arc (slice_get-push_last c.args.stack.now c.args.top) c.in-Some.is in
    slice_get_within c.args.graph.now.arcs (g.A.Index.place_of c.in-Some.arc) (c.args.top.node, arc.0) arc.1

pub next_arc-next-requires : goal.next_arc-next-requires
next_arc-next-requires g c = slice_get_within c.args.graph.now.arcs (g.A.Index.place_of c.in-Some.arc) c.ends.result c.ends.ensures.arc

pub overflow_cast-along : goal.overflow_cast-along
overflow_cast-along g c =
    let few = stack-few g.N.Index.place_of g.A.Index.place_of g.met.N.Index.is_one c.args.graph.now.arcs c.args.found.now.items c.args.nodes.now
    (c.args.stack.now ++ c.args.top ∷ []) c.requires.search in
    omega (
      arith,
      few,
      length_push c.args.stack.now c.args.top,
      c.requires.few,
      g.met.N.Index.is_short,
      c.requires.many,
      c.len.ensures,
      ap length c.in_ok-push-in-Some.ensures.ok,
      length_push c.args.stack.now (record { node = c.args.top.node; next = c.next_arc-next.result }),
    )

pub returns-in-No-clause-later : goal.returns-in-No-clause-later
returns-in-No-clause-later g c =
    on_ok_weaker c.push-in-No.result (λ _. later-along g.N.Index.place_of c.args.found.now.items c.put.new.self.items
    (g.N.Index.place_of c.ends.result.1) c.args.top.node c.in-Some.arc c.len.result c.put.ensures.items) c.push-in-No.ensures.ok

pub returns-in-None-clause-search : goal.returns-in-None-clause-search
returns-in-None-clause-search g c =
    on_ok_weaker c.push.result
    (λ e. rw e (search-close g.N.Index.place_of g.A.Index.place_of g.met.N.Index.is_one c.args.graph.now.arcs c.args.found.now.items c.args.nodes.now
    c.args.stack.now c.args.top c.requires.search c.in-None.is))
    c.push.ensures.ok

pub returns-in-None-clause-growth : goal.returns-in-None-clause-growth
returns-in-None-clause-growth g c =
    on_ok_weaker c.push.result
    (λ e start old w. rw e (growth-close c.args.graph.now.arcs start old c.args.nodes.now c.args.stack.now c.args.top w))
    c.push.ensures.ok

pub returns-in-No-clause-search : goal.returns-in-No-clause-search
returns-in-No-clause-search g c =
    let arc = search-arc g.N.Index.place_of g.A.Index.place_of g.met.N.Index.is_one c.args.graph.now.arcs c.args.found.now.items c.args.nodes.now
    c.args.stack.now c.args.top c.in-Some.arc c.ends.result.0 c.ends.result.1 c.requires.search c.in-Some.is c.ends.ensures.arc in
    on_ok_weaker c.push-in-No.result
    (search-along_made g.N.Index.place_of g.A.Index.place_of g.met.N.Index.is_one c.args.graph.now.arcs c.args.found.now.items c.args.nodes.now
    c.args.stack.now c.args.top c.in-Some.arc c.ends.result.1 c.len.result c.next_arc-next.result c.first_arc-first.result
    c.requires.search c.in-Some.is arc c.get.result.now c.get.ensures c.in-No.is (c.next_arc-next.ensures c.args.top.node c.ends.result.1 arc) c.first_arc-first.ensures
    _ _ _ c.in_ok-push-in-Some.ensures.ok c.len.ensures c.put.ensures.items)
    c.push-in-No.ensures.ok

pub returns-in-No-clause-less : goal.returns-in-No-clause-less
returns-in-No-clause-less g c =
    let arc = search-arc g.N.Index.place_of g.A.Index.place_of g.met.N.Index.is_one c.args.graph.now.arcs c.args.found.now.items c.args.nodes.now
    c.args.stack.now c.args.top c.in-Some.arc c.ends.result.0 c.ends.result.1 c.requires.search c.in-Some.is c.ends.ensures.arc in
    on_ok_weaker c.push-in-No.result
    (work-along_made g.A.Index.place_of c.args.graph.now.arcs c.args.found.now.items c.args.stack.now c.args.top c.in-Some.arc
    (g.N.Index.place_of c.ends.result.1) c.args.top.node c.ends.result.1 c.len.result c.next_arc-next.result c.first_arc-first.result
    c.in-Some.is c.get.result.now c.get.ensures c.in-No.is (c.next_arc-next.ensures c.args.top.node c.ends.result.1 arc) c.first_arc-first.ensures
    _ _ _ c.in_ok-push-in-Some.ensures.ok c.put.ensures.items)
    c.push-in-No.ensures.ok

pub returns-in-No-clause-growth : goal.returns-in-No-clause-growth
returns-in-No-clause-growth g c =
    let arc = search-arc g.N.Index.place_of g.A.Index.place_of g.met.N.Index.is_one c.args.graph.now.arcs c.args.found.now.items c.args.nodes.now
    c.args.stack.now c.args.top c.in-Some.arc c.ends.result.0 c.ends.result.1 c.requires.search c.in-Some.is c.ends.ensures.arc in
    on_ok_weaker c.push-in-No.result
    (λ e start old w. growth-along_made c.args.graph.now.arcs start old c.args.nodes.now c.args.stack.now c.args.top _ _
    (g.A.Index.place_of c.in-Some.arc) refl arc _ _ c.in_ok-push-in-Some.ensures.ok e w)
    c.push-in-No.ensures.ok

pub returns-in_default : goal.returns-in_default
returns-in_default g c =
    let arc = search-arc g.N.Index.place_of g.A.Index.place_of g.met.N.Index.is_one c.args.graph.now.arcs c.args.found.now.items c.args.nodes.now
    c.args.stack.now c.args.top c.in-Some.arc c.ends.result.0 c.ends.result.1 c.requires.search c.in-Some.is c.ends.ensures.arc in
    let latest = c.next_arc-next.ensures c.args.top.node c.ends.result.1 arc in
    record {
      many = c.requires.many;
      search = rw c.in_ok-push-in-Some.ensures.ok (search-skip g.N.Index.place_of g.A.Index.place_of g.met.N.Index.is_one c.args.graph.now.arcs
          c.args.found.now.items c.args.nodes.now c.args.stack.now c.args.top c.in-Some.arc c.ends.result.1 c.get.result.now c.next_arc-next.result
          c.requires.search c.in-Some.is arc c.get.ensures (seen-not_no c.get.result.now c.in_default.not-No) latest);
      later = later-refl g.N.Index.place_of c.args.found.now.items;
      less = rw c.in_ok-push-in-Some.ensures.ok (work-skip g.A.Index.place_of c.args.graph.now.arcs c.args.found.now.items c.args.stack.now c.args.top
          c.in-Some.arc c.next_arc-next.result c.in-Some.is latest);
      growth = λ start old w. rw c.in_ok-push-in-Some.ensures.ok (growth-skip c.args.graph.now.arcs start old c.args.nodes.now c.args.stack.now c.args.top _ refl w);
    }
