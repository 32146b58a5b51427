use Rattle.std.proofs.Common.{[], ◌∙◌, subst, arith}
use Rattle.tor_arena.proofs.Gets.{slice_get-some}
use Rattle.tor_digraph.proofs.Spreadings.{spreading_next, spreading_done}
use Rattle.tor_digraph.proofs.Trails.{trail_begun}
use Rattle.tor_orient.specs.Steps.{LooksTo}
use Rattle.tor_orient.proofs.Findings.{search_begins, unmet_first}
use Rattle.tor_orient.proofs.finding.find.Goals as goal

pub loop-next-init : goal.loop-next-init
loop-next-init c = record {
  count = c.begin.ensures.count ∙ c.requires.tried;
  trail = trail_begun c.args.rows.now.arcs c.begin.new.self c.args.start c.in_ok-begin.ensures.nodes c.in_ok-begin.ensures.origins;
  spreading = search_begins c.args.rows.now.arcs c.args.settled.now.items c.args.start c.begin.new.self.nodes.items c.in_ok-begin.ensures.nodes;
  unmet = unmet_first c.args.start c.args.end c.begin.new.self.nodes.items c.in_ok-begin.ensures.nodes c.requires.apart;
}

pub returns-then-branch-clause-trail : goal.returns-then-branch-clause-trail
returns-then-branch-clause-trail c = c.in_ok-look.ensures.trail c.args.start c.loop-next.invariant.trail

pub returns-then-branch-clause-comes : goal.returns-then-branch-clause-comes
returns-then-branch-clause-comes c =
    let old = c.loop-next.tried.nodes.items in
    let new = c.look.new.tried.nodes.items in
    let tail = slice_get-some old c.loop-next.next (omega (arith, c.loop-next-test.true, c.len.ensures)) in
    subst (LooksTo c.args.rows.now.arcs c.args.settled.now.items c.args.end tail.0 old new) c.if-branch.true (c.in_ok-look.ensures.looked tail.0 tail.1)

pub loop-next-preserved : goal.loop-next-preserved
loop-next-preserved c =
    let arcs = c.args.rows.now.arcs in
    let past = c.args.settled.now.items in
    let old = c.loop-next.tried.nodes.items in
    let new = c.look.new.tried.nodes.items in
    let tail = slice_get-some old c.loop-next.next (omega (arith, c.loop-next-test.true, c.len.ensures)) in
    let looked = subst (LooksTo arcs past c.args.end tail.0 old new) c.if-branch.false (c.in_ok-look.ensures.looked tail.0 tail.1) in
    record {
      count = c.look.ensures.count;
      trail = c.in_ok-look.ensures.trail c.args.start c.loop-next.invariant.trail;
      spreading = spreading_next arcs past c.args.start [] old new c.loop-next.next tail.0 c.loop-next.invariant.spreading tail.1 looked.1;
      unmet = looked.0;
    }

pub returns-clause-comes : goal.returns-clause-comes
returns-clause-comes c =
    let test = c.loop-next-test.false in
    let len = c.len.ensures in (
      c.loop-next.invariant.unmet,
      spreading_done c.args.rows.now.arcs c.args.settled.now.items c.args.start [] c.loop-next.tried.nodes.items c.loop-next.next c.loop-next.invariant.spreading
          (omega (arith, test, len)),
    )
