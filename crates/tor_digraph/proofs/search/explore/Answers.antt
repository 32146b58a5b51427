use Rattle.std.proofs.Common.{◌<◌, ◌∙◌, length, length-set, sym, ap, subst}
use Rattle.std.proofs.lemmas.Result.{on_ok_weaker}
use Rattle.tor_digraph.specs.declared.found.Found.TheVariants.{Start}
use Rattle.tor_digraph.proofs.Searches.{search-start, growth-start, start-found, start-starts}
use Rattle.tor_digraph.proofs.search.explore.Goals as goal

pub search-requires-clause-search : goal.search-requires-clause-search
search-requires-clause-search g c =
    search-start g.N.Index.place_of g.A.Index.place_of g.met.N.Index.is_one c.args.graph.now.arcs c.args.found.now.items c.args.nodes.now c.args.start
    c.first_arc-next.result c.requires.search c.requires.absent c.first_arc-next.ensures
    _ _ _ c.put.ensures.items c.clear.ensures c.in_ok-push.ensures.ok

pub returns-clause-growth : goal.returns-clause-growth
returns-clause-growth g c =
    on_ok_weaker c.search.result (λ w. w c.args.start c.args.nodes.now
    (growth-start c.args.graph.now.arcs c.args.nodes.now c.args.start c.first_arc-next.result _ _ c.clear.ensures c.in_ok-push.ensures.ok))
    c.search.ensures.growth

pub returns-clause-found : goal.returns-clause-found
returns-clause-found g c =
    on_ok_weaker c.search.result (λ w. w.kept c.args.start (start-found g.N.Index.place_of c.args.found.now.items _ c.args.start c.requires.absent c.put.ensures.items)) c.search.ensures.later

pub returns-clause-starts : goal.returns-clause-starts
returns-clause-starts g c =
    on_ok_weaker c.search.result (λ w x at. start-starts g.N.Index.place_of g.met.N.Index.is_one c.args.found.now.items _ c.args.start c.put.ensures.items x (w.starts x at)) c.search.ensures.later

pub put-requires : goal.put-requires
put-requires g c = subst (λ n. g.N.Index.place_of c.args.start < n) (sym c.requires.many) c.requires.start

pub search-requires-clause-many : goal.search-requires-clause-many
search-requires-clause-many g c = ap length c.put.ensures.items ∙ length-set c.args.found.now.items (g.N.Index.place_of c.args.start) Start ∙ c.requires.many

pub returns-clause-many : goal.returns-clause-many
returns-clause-many g c = c.search.ensures.many

pub returns-clause-search : goal.returns-clause-search
returns-clause-search g c = c.search.ensures.search
