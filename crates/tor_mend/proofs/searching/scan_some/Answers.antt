use Rattle.tor_mend.proofs.Trials.{looking_begun, looking_arc, looking_there, looking_next, looking_smaller}
use Rattle.tor_mend.proofs.searching.scan_some.Goals as goal

pub loop-next-init : goal.loop-next-init
loop-next-init c = record {
  count = c.requires.count;
  stays = λ k x at. at;
  looking = looking_begun c.args.digraph.now.arcs c.args.trail.now.nodes.items c.args.place c.get-node.result c.first_arc-next.result c.get-node.ensures.node c.first_arc-next.ensures;
}

pub look-requires-clause-there : goal.look-requires-clause-there
look-requires-clause-there c = looking_there c.args.digraph.now.arcs c.loop-next.trail.nodes.items c.args.place c.in-Some.arc c.loop-next.next c.in-Some.is c.loop-next.invariant.looking

pub look-requires-clause-tail : goal.look-requires-clause-tail
look-requires-clause-tail c = looking_arc c.args.digraph.now.arcs c.loop-next.trail.nodes.items c.args.place c.in-Some.arc c.loop-next.next c.in-Some.is c.loop-next.invariant.looking

pub next_arc-next-requires : goal.next_arc-next-requires
next_arc-next-requires c = looking_there c.args.digraph.now.arcs c.loop-next.trail.nodes.items c.args.place c.in-Some.arc c.loop-next.next c.in-Some.is c.loop-next.invariant.looking

pub loop-next-smaller : goal.loop-next-smaller
loop-next-smaller c =
    looking_smaller c.args.digraph.now.arcs c.loop-next.trail.nodes.items c.args.place c.in-Some.arc c.loop-next.next c.in-Some.is c.loop-next.invariant.looking
    c.next_arc-next.result c.next_arc-next.ensures

pub loop-next-preserved : goal.loop-next-preserved
loop-next-preserved c = record {
  count = c.look.ensures.count;
  stays = λ k x at. c.look.ensures.stays k x (c.loop-next.invariant.stays k x at);
  looking = looking_next c.args.digraph.now.arcs c.loop-next.trail.nodes.items c.args.place c.in-Some.arc c.loop-next.next c.in-Some.is c.loop-next.invariant.looking
      c.next_arc-next.result c.next_arc-next.ensures c.look.new.trail.nodes.items c.look.ensures.stays;
}
