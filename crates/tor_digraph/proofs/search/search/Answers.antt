use Rattle.std.proofs.Common.{◌<◌, length, sym, subst}
use Rattle.tor_digraph.specs.Search.{IsSearch, IsGrowth, work}
use Rattle.tor_digraph.proofs.Growths.{later-refl}
use Rattle.tor_digraph.proofs.search.search.Goals as goal

pub loop-top-init : goal.loop-top-init
loop-top-init g c = record {
  many = c.requires.many;
  later = later-refl g.N.Index.place_of c.args.found.now.items;
  search = c.requires.search;
  growth = λ start old w. w;
}

pub loop-top-preserved : goal.loop-top-preserved
loop-top-preserved g c =
    let was = c.loop-top.invariant in
    let is = c.in_ok-step.ensures in
    record {
      many = is.many;
      later = record { kept = λ x f. is.later.kept x (was.later.kept x f); starts = λ x at. was.later.starts x (is.later.starts x at) };
      search = is.search;
      growth = λ start old w. is.growth start old (subst (λ s. IsGrowth c.args.graph.now.arcs start old c.loop-top.nodes s) c.in-Some.ensures (was.growth start old w));
    }

pub loop-top-smaller : goal.loop-top-smaller
loop-top-smaller g c =
    let spot = g.A.Index.place_of in
    let many = length c.args.graph.now.arcs in
    subst (λ s. work spot many c.step.new.found.items c.step.new.stack < work spot many c.loop-top.found.items s) (sym c.in-Some.ensures) c.in_ok-step.ensures.less

pub returns-clause-search : goal.returns-clause-search
returns-clause-search g c = subst (λ s. IsSearch g.N.Index.place_of g.A.Index.place_of c.args.graph.now.arcs c.loop-top.found.items c.loop-top.nodes s)
    c.in_default.ensures.0 c.loop-top.invariant.search

pub returns-clause-growth : goal.returns-clause-growth
returns-clause-growth g c = λ start old w. subst (λ s. IsGrowth c.args.graph.now.arcs start old c.loop-top.nodes s) c.in_default.ensures.0 (c.loop-top.invariant.growth start old w)
