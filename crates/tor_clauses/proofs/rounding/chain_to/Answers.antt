use Rattle.std.proofs.Common.{◌≡◌, sym, subst, arith}
use Rattle.tor_digraph.specs.Walks.{IsArc}
use Rattle.tor_digraph.specs.declared.trail.Origin.{Origin}
use Rattle.tor_digraph.specs.Trails.{StandsAt}
use Rattle.tor_clauses.specs.Rounds.{IsChain}
use Rattle.tor_digraph.proofs.Trails.{trail_origin}
use Rattle.tor_clauses.proofs.Ways.{one_node, chain_push}
use Rattle.tor_clauses.proofs.rounding.chain_to.Goals as goal

pub loop-at-init : goal.loop-at-init
loop-at-init c = record { there = c.requires.there; chain = λ from to s t. rw c.new-chain.ensures (one_node c.args.trail.now.nodes.items c.args.place from to s t) }

pub origin_of-origin-requires : goal.origin_of-origin-requires
origin_of-origin-requires c = let many = c.requires.trail.1.many in let there = c.loop-at.invariant.there in omega (arith, many, there)

pub loop-at-smaller : goal.loop-at-smaller
loop-at-smaller c =
    let r = trail_origin c.args.fitted.now.formula.net.arcs c.requires.trail.0 c.args.trail.now c.requires.trail.1 c.loop-at.at c.origin_of-origin.result (omega (arith, c.loop-at-test.true))
    c.origin_of-origin.ensures in
    r.5

pub loop-at-preserved : goal.loop-at-preserved
loop-at-preserved c =
    let trail = c.args.trail.now in
    let arcs = c.args.fitted.now.formula.net.arcs in
    let o : Origin = c.origin_of-origin.result in
    let r = trail_origin arcs c.requires.trail.0 trail c.requires.trail.1 c.loop-at.at o (omega (arith, c.loop-at-test.true)) c.origin_of-origin.ensures in
    let less = r.5 in
    let here = c.loop-at.invariant.there in
    record {
      there = omega (arith, less, here);
      chain = λ from to s t. (
          let same : r.0 ≡ from = one_node trail.nodes.items o.place r.0 from r.2 s in
          let arc : IsArc arcs o.arc from r.1 = subst (λ n. IsArc arcs o.arc n r.1) same r.4 in
          subst (λ chain. IsChain arcs chain from to) (sym c.in-Ok.ensures.ok)
          (chain_push arcs c.loop-at.chain o.arc from r.1 to arc (c.loop-at.invariant.chain r.1 to r.3 t))
          );
    }

pub returns : goal.returns
returns c = λ from to s t.
    let none : c.loop-at.at ≡ 0 = omega (arith, c.loop-at-test.false) in
    c.loop-at.invariant.chain from to (subst (λ k. StandsAt c.args.trail.now.nodes.items k from) (sym none) s) t
