use Rattle.tor_digraph.proofs.Traces.{marked_set}
use Rattle.tor_digraph.proofs.trace.Trace.put.Goals as goal

pub invariant_of-self : goal.invariant_of-self
invariant_of-self g c =
    rw (c.put-2.ensures.items, c.put.ensures.items)
    (marked_set c.self.inside.found.items c.self.inside.seen.items (g.N.Index.place_of c.args.node) c.args.found c.is_seen.result c.is_seen.ensures c.self.invariant)
