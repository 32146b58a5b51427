use Rattle.std.proofs.Common.{arith}
use Rattle.std.proofs.lemmas.Bool.{false≢true}
use Rattle.tor_digraph.proofs.Searches.{kept-has_not}
use Rattle.tor_digraph.proofs.Traces.{kept_seen}
use Rattle.tor_digraph.proofs.reached.Reached.has.Goals as goal

pub returns-then-place-len : goal.returns-then-place-len
returns-then-place-len g c =
    let w = kept_seen g.N.Index.place_of c.self.inside.found.items c.args.node c.self.inside.nodes c.args.self.now c.self.invariant c.self.view_is in
    ((λ t. w.0 (c.is_seen.ensures.0 t)), (λ h. c.is_seen.ensures.1 (w.1 h)))

pub returns-else-place-len : goal.returns-else-place-len
returns-else-place-len g c = (
  (λ t. absurd (false≢true t)),
  (λ h. absurd (kept-has_not g.N.Index.place_of c.self.inside.found.items c.self.inside.nodes c.args.self.now
      c.args.node c.self.invariant c.self.view_is (omega arith) h)),
)
