use Rattle.std.proofs.Common.{◌≡◌, sym, subst, arith}
use Rattle.std.proofs.lemmas.Option.{slice_get_within}
use Rattle.tor_digraph.specs.Walks.{IsArc}
use Rattle.tor_clauses.specs.Literals.{opposite_node}
use Rattle.tor_digraph.specs.declared.trail.Origin.{Origin}
use Rattle.tor_digraph.specs.Trails.{StandsAt}
use Rattle.tor_digraph.proofs.Trails.{trail_origin}
use Rattle.tor_clauses.proofs.Ways.{one_node}
use Rattle.tor_clauses.proofs.rounding.go_home.Goals as goal

pub origin_of-origin-requires : goal.origin_of-origin-requires
origin_of-origin-requires c = let many = c.requires.trail.1.many in let there = c.loop-at.invariant.there in omega (arith, many, there)

pub partner-requires : goal.partner-requires
partner-requires c =
    let arcs = c.args.fitted.now.formula.net.arcs in
    let o : Origin = c.origin_of-origin.result in
    let r = trail_origin arcs c.requires.trail.0 c.args.trail.now c.requires.trail.1 c.loop-at.at o (omega (arith, c.loop-at-test.true)) c.origin_of-origin.ensures in
    slice_get_within arcs o.arc (r.0, r.1) r.4

pub loop-at-smaller : goal.loop-at-smaller
loop-at-smaller c =
    let r = trail_origin c.args.fitted.now.formula.net.arcs c.requires.trail.0 c.args.trail.now c.requires.trail.1 c.loop-at.at c.origin_of-origin.result (omega (arith, c.loop-at-test.true))
    c.origin_of-origin.ensures in
    r.5

pub loop-at-preserved : goal.loop-at-preserved
loop-at-preserved c =
    let trail = c.args.trail.now in
    let arcs = c.args.fitted.now.formula.net.arcs in
    let o : Origin = c.origin_of-origin.result in
    let r = trail_origin arcs c.requires.trail.0 trail c.requires.trail.1 c.loop-at.at o (omega (arith, c.loop-at-test.true)) c.origin_of-origin.ensures in
    let less = r.5 in
    let here = c.loop-at.invariant.there in
    record {
      there = omega (arith, less, here);
      way = λ from to s t start way. (
          let same : r.0 ≡ to = one_node trail.nodes.items o.place r.0 to r.2 t in
          let arc : IsArc arcs o.arc to r.1 = subst (λ n. IsArc arcs o.arc n r.1) same r.4 in
          let back : IsArc arcs c.partner.result (opposite_node r.1) (opposite_node to) = c.partner.ensures.partner to r.1 arc in
          c.in_ok-go.ensures (opposite_node r.1) (opposite_node to) back start (c.loop-at.invariant.way from r.1 s r.3 start way)
          );
    }

pub returns : goal.returns
returns c = λ from to s t start way.
    let none : c.loop-at.at ≡ 0 = omega (arith, c.loop-at-test.false) in
    c.loop-at.invariant.way from to t (subst (λ k. StandsAt c.args.trail.now.nodes.items k to) (sym none) s) start way
