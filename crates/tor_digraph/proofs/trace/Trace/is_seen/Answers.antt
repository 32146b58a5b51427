use Rattle.std.proofs.Common.{subst}
use Rattle.std.specs.Prelude.{◌↔◌, IsTrue}
use Rattle.tor_digraph.specs.Found.{IsFound}
use Rattle.tor_digraph.proofs.Traces.{marked_seen}
use Rattle.tor_digraph.proofs.trace.Trace.is_seen.Goals as goal

pub returns : goal.returns
returns g c =
    subst (λ v. IsTrue c.get.result.now ↔ IsFound g.N.Index.place_of v.items c.args.node) c.self.view_is
    (marked_seen g.N.Index.place_of c.self.inside.found.items c.args.node c.self.inside.seen.items c.get.result.now c.self.invariant c.get.ensures)
