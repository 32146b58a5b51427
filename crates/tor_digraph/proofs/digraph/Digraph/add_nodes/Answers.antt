use Rattle.std.proofs.Common.{◌+◌, ◌∙◌, length, ap, ap₂, arith, length-append}
use Rattle.std.specs.Prelude.{replicate}
use Rattle.std.proofs.lemmas.List.{length-replicate}
use Rattle.tor_digraph.proofs.Chains.{linked-more_nodes_made, same-net}
use Rattle.tor_digraph.proofs.digraph.Digraph.add_nodes.Goals as goal

pub invariant_of-self : goal.invariant_of-self
invariant_of-self g c = rw c.in-Err.ensures.err c.self.invariant

pub invariant_of-self-2 : goal.invariant_of-self-2
invariant_of-self-2 g c = (
  c.self.invariant.0,
  linked-more_nodes_made g.N.Index.place_of (λ place. place) g.met.N.Index.is_one c.self.inside.first.items c.self.inside.ends.items
      c.self.inside.links.items c.args.n c.none.result c.self.invariant.1 c.none.ensures _ c.in-Ok.ensures.ok,
)

pub returns-clause-full : goal.returns-clause-full
returns-clause-full g c = (
  (λ bad. cc),
  λ more.
      let test = c.if-n-LIMIT.false in
      let most = c.LIMIT.ensures in
      let all = c.len.ensures in
      let many = all.length in
      let below = all.below in
      let nodes = ap (λ net. net.nodes) c.self.view_is in
      absurd (omega (arith, more, test, most, many, below, nodes)),
)

pub returns-clause-ok : goal.returns-clause-ok
returns-clause-ok g c = same-net _ _
    (ap length c.in-Ok.ensures.ok ∙ length-append c.self.inside.first.items (replicate c.args.n c.none.result)
    ∙ ap₂ (λ n m. n + m) (ap (λ v. v.nodes) c.self.view_is) (length-replicate c.args.n c.none.result))
    (ap (λ v. v.arcs) c.self.view_is)
