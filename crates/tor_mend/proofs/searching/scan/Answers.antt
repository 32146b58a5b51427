use Rattle.std.proofs.Common.{subst}
use Rattle.tor_mend.specs.Searches.{IsLook}
use Rattle.tor_mend.proofs.Scans.{scan_begun, scan_there, scan_next, scan_smaller, scan_done}
use Rattle.tor_mend.proofs.searching.scan.Goals as goal

pub loop-next-init : goal.loop-next-init
loop-next-init c = record {
  count = c.requires.count;
  trail = λ start is. is;
  unheld = λ none. none;
  stays = λ k x at. at;
  scan = scan_begun c.args.digraph.now.arcs c.args.ends.now c.args.trail.now.nodes.items c.args.place c.get-node.result c.first_arc-next.result c.get-node.ensures.node c.requires.passed
      c.first_arc-next.ensures;
}

pub look-requires-clause-there : goal.look-requires-clause-there
look-requires-clause-there c = scan_there c.args.digraph.now.arcs c.args.ends.now c.loop-next.trail.nodes.items c.args.place c.in-Some.arc c.loop-next.next c.in-Some.is c.loop-next.invariant.scan

pub next_arc-next-requires : goal.next_arc-next-requires
next_arc-next-requires c = scan_there c.args.digraph.now.arcs c.args.ends.now c.loop-next.trail.nodes.items c.args.place c.in-Some.arc c.loop-next.next c.in-Some.is c.loop-next.invariant.scan

pub loop-next-smaller : goal.loop-next-smaller
loop-next-smaller c =
    scan_smaller c.args.digraph.now.arcs c.args.ends.now c.loop-next.trail.nodes.items c.args.place c.in-Some.arc c.loop-next.next c.next_arc-next.result
    c.in-Some.is c.loop-next.invariant.scan c.next_arc-next.ensures

pub loop-next-preserved : goal.loop-next-preserved
loop-next-preserved c = record {
  count = c.look.ensures.count;
  trail = λ start is. c.in_ok-stop.ensures.trail start (c.loop-next.invariant.trail start is);
  unheld = λ none. c.in_ok-stop.ensures.unheld (c.loop-next.invariant.unheld none);
  stays = λ k x at. c.look.ensures.stays k x (c.loop-next.invariant.stays k x at);
  scan = scan_next c.args.digraph.now.arcs c.args.ends.now c.loop-next.trail.nodes.items c.look.new.trail.nodes.items c.args.place c.in-Some.arc c.loop-next.next
      c.next_arc-next.result c.in-Some.is c.loop-next.invariant.scan
      c.look.ensures.stays (λ l m arc. subst (IsLook c.args.digraph.now.arcs c.args.ends.now c.args.known.now.places.items c.look.new.trail.nodes.items c.args.place m)
      c.in_default-2.is (c.in_ok-stop.ensures.looked l m arc)) c.next_arc-next.ensures;
}

pub returns-clause-passed : goal.returns-clause-passed
returns-clause-passed c = scan_done c.args.digraph.now.arcs c.args.ends.now c.loop-next.trail.nodes.items c.args.place c.loop-next.next c.in_default.is c.loop-next.invariant.scan
