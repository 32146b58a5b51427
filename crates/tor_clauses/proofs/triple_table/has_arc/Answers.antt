use Rattle.tor_clauses.proofs.ArcSeeks.{seek_begun, seek_there, seek_smaller}
use Rattle.tor_clauses.proofs.triple_table.has_arc.Goals as goal

pub loop-next-init : goal.loop-next-init
loop-next-init c = seek_begun c.args.digraph.now.arcs c.args.tail c.args.head c.first_arc-next.result c.first_arc-next.ensures

pub ends-to-requires : goal.ends-to-requires
ends-to-requires c = seek_there c.args.digraph.now.arcs c.args.tail c.args.head c.in-Some.arc c.loop-next.next c.in-Some.is c.loop-next.invariant

pub next_arc-next-requires : goal.next_arc-next-requires
next_arc-next-requires c = seek_there c.args.digraph.now.arcs c.args.tail c.args.head c.in-Some.arc c.loop-next.next c.in-Some.is c.loop-next.invariant

pub loop-next-smaller : goal.loop-next-smaller
loop-next-smaller c =
    seek_smaller c.args.digraph.now.arcs c.args.tail c.args.head c.in-Some.arc c.loop-next.next c.in-Some.is c.loop-next.invariant c.next_arc-next.result c.next_arc-next.ensures
