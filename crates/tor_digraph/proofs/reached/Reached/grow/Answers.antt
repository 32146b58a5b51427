use Rattle.std.proofs.Common.{◌<◌, length, sym, ◌∙◌, ap, subst}
use Rattle.std.proofs.lemmas.Bool.{false≢true}
use Rattle.tor_digraph.specs.Reached.{IsGrown}
use Rattle.tor_digraph.specs.Found.{HasRootsOf}
use Rattle.tor_arena.proofs.Gets.{Contains-from_has}
use Rattle.tor_digraph.proofs.Searches.{kept-search, kept-absent, search-kept, search-searched, growth-grown, grown-none, blank-seen}
use Rattle.tor_digraph.proofs.reached.Reached.grow.Goals as goal

pub explore-done-requires-clause-search : goal.explore-done-requires-clause-search
explore-done-requires-clause-search g c = kept-search g.N.Index.place_of g.A.Index.place_of g.met.N.Index.is_one c.args.graph.now.arcs
    c.self.inside.found.items c.self.inside.nodes c.args.graph.now.nodes c.args.self.now c.self.invariant c.self.view_is c.requires.searched

pub explore-done-requires-clause-absent : goal.explore-done-requires-clause-absent
explore-done-requires-clause-absent g c = kept-absent g.N.Index.place_of c.self.inside.found.items c.self.inside.nodes c.args.self.now c.args.start c.self.invariant c.self.view_is
    (subst (λ n. g.N.Index.place_of c.args.start < n) (sym (ap (λ z. length z.found) c.self.view_is ∙ c.requires.searched.forest.many)) c.requires.start)
    (λ h. false≢true (sym c.if-has.false ∙ c.has.ensures.1 (Contains-from_has c.args.self.now.nodes c.args.start h)))

pub returns-in-Ok-clause-searched : goal.returns-in-Ok-clause-searched
returns-in-Ok-clause-searched g c = search-searched g.N.Index.place_of g.A.Index.place_of g.met.N.Index.is_one c.args.graph.now.arcs _ _
    c.args.graph.now.nodes c.in-Ok.ensures.search c.explore-done.ensures.many

pub returns-in-Ok-clause-grown : goal.returns-in-Ok-clause-grown
returns-in-Ok-clause-grown g c = subst (λ v. IsGrown c.args.graph.now.arcs c.args.start v.nodes c.explore-done.new.nodes) c.self.view_is
    (growth-grown g.N.Index.place_of g.A.Index.place_of g.met.N.Index.is_one c.args.graph.now.arcs c.args.start _ _ _ c.in-Ok.ensures.search c.in-Ok.ensures.growth c.in-Ok.ensures.found)

pub invariant_of-self : goal.invariant_of-self
invariant_of-self g c = search-kept g.N.Index.place_of g.A.Index.place_of g.met.N.Index.is_one c.args.graph.now.arcs _ _ c.in-Ok.ensures.search

pub returns-then-has-clause-searched : goal.returns-then-has-clause-searched
returns-then-has-clause-searched g c = c.requires.searched

pub returns-then-has-clause-grown : goal.returns-then-has-clause-grown
returns-then-has-clause-grown g c = grown-none c.args.graph.now.arcs c.args.start c.args.self.now.nodes (c.has.ensures.0 c.if-has.true)

pub invariant_of-self-in-Err : goal.invariant_of-self-in-Err
invariant_of-self-in-Err g c = blank-seen g.N.Index.place_of _ _ c.cut_to.ensures.items c.clear.ensures

pub returns-in-Ok-clause-root : goal.returns-in-Ok-clause-root
returns-in-Ok-clause-root g c = subst (λ v. HasRootsOf g.N.Index.place_of c.args.start v.found c.explore-done.new.found.items) c.self.view_is c.in-Ok.ensures.starts

pub explore-done-requires-clause-many : goal.explore-done-requires-clause-many
explore-done-requires-clause-many g c = ap (λ v. length v.found) c.self.view_is ∙ c.requires.searched.forest.many
