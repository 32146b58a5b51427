use Rattle.tor_digraph.proofs.Traces.{marked_cut}
use Rattle.tor_digraph.proofs.trace.Trace.cut_to.Goals as goal

pub invariant_of-self : goal.invariant_of-self
invariant_of-self g c = marked_cut c.self.inside.found.items c.self.inside.seen.items c.args.count c.self.invariant _ _ c.cut_to-2.ensures.items c.cut_to.ensures.items
