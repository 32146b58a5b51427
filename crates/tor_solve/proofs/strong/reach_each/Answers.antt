use Rattle.std.proofs.Common.{◌≡◌, inl, inr, subst, arith}
use Rattle.std.specs.Prelude.{IfSome}
use Rattle.std.proofs.lemmas.Bool.{cases_lt}
use Rattle.tor_digraph.specs.Closing.{Has}
use Rattle.tor_arena.proofs.Gets.{has-from_Contains}
use Rattle.tor_solve.proofs.Orders.{grown-old}
use Rattle.tor_solve.proofs.strong.reach_each.Goals as goal

pub loop-place-preserved : goal.loop-place-preserved
loop-place-preserved g c = record {
  searched = c.in_ok-reach_more.ensures.searched;
  all = λ x lt. elim (cases_lt (g.N.Index.place_of x) c.loop-place.place) [
    | inl less ↦ grown-old c.args.graph.now.arcs c.unwrap-node.result c.loop-place.reached.nodes c.reach_more.new.reached.nodes x c.in_ok-reach_more.ensures.grown (c.loop-place.invariant.all x less)
    | inr le ↦ (let e : g.N.Index.place_of c.unwrap-node.result ≡ c.loop-place.place =
        subst (λ o. IfSome o (λ i. g.N.Index.place_of i ≡ c.loop-place.place)) c.unwrap-node.ensures c.from_place.ensures.some in
        let same : g.N.Index.place_of c.unwrap-node.result ≡ g.N.Index.place_of x = omega arith in
        subst (λ z. Has c.reach_more.new.reached.nodes z) (g.met.N.Index.is_one c.unwrap-node.result x same)
        (has-from_Contains c.reach_more.new.reached.nodes c.unwrap-node.result c.in_ok-reach_more.ensures.grown.has_start))
  ];
}
