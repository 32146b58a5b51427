use Rattle.std.proofs.Common.{◌≡◌, ◌<◌, ◌/◌, ◌*◌, ℕ, Some, length, ◌+◌, sym, ap, ap₂, ◌∙◌, subst, arith}
use Rattle.std.specs.Prelude.{slice_get}
use Rattle.relationships.specs.declared.walk.Link.{Link}
use Rattle.tor_clauses.specs.declared.triple.Triple.{Triple}
use Rattle.tor_clauses.specs.declared.triple.TriplePlace.{TriplePlace}
use Rattle.tor_clauses.specs.Tables.{standing}
use Rattle.tor_clauses.specs.Formulas.{Formula, IsLinkOf}
use Rattle.tor_clauses.proofs.Arcs.{length-arcs, triple_at}
use Rattle.tor_clauses.proofs.Standings.{link_fits}
use Rattle.tor_clauses.proofs.clauses.Clauses.link_of.Goals as goal

pub place_of-place-requires : goal.place_of-place-requires
place_of-place-requires c =
    let l : length c.self.inside.table.net.arcs ≡ length c.self.inside.table.triples * 2 = ap length c.self.invariant ∙ length-arcs c.self.inside.table.triples in
    let below : c.args.arc < length c.self.inside.table.net.arcs = subst (λ (f : Formula). c.args.arc < length f.net.arcs) (sym c.self.view_is) c.requires in
    omega (arith, l, below, c.place.ensures.place)

-- the place is that of the triple
placed : (c : goal.After-place-2) → (t : Triple) → slice_get c.args.self.now.triples (c.args.arc / 2) ≡ Some t → c.place_of-place.result ≡ standing t
placed c t there =
    c.place_of-place.ensures t (subst (λ k. slice_get c.self.inside.table.triples (k / 2) ≡ Some t) (sym c.place.ensures.place)
    (subst (λ (f : Formula). slice_get f.triples (c.args.arc / 2) ≡ Some t) (sym c.self.view_is) there))

abbrev link : ℕ → ℕ → Link
link path at = record { path = path + 1; at = at }

linked : (c : goal.After-place-2) → (t : Triple) → slice_get c.args.self.now.triples (c.args.arc / 2) ≡ Some t →
    link c.place-2.result c.place_of-place.result.at ≡ link t.path t.at
linked c t there = ap₂ link (c.place-2.ensures.place ∙ ap (λ (p : TriplePlace). p.path) (placed c t there)) (ap (λ (p : TriplePlace). p.at) (placed c t there))

pub returns-clause-link : goal.returns-clause-link
returns-clause-link c = λ t there. linked c t there

pub returns-clause-fits : goal.returns-clause-fits
returns-clause-fits c graph l m apart fits arc =
    let f = c.args.self.now in
    let r = triple_at f.triples c.args.arc (l, m) (subst (λ arcs. slice_get arcs c.args.arc ≡ Some (l, m)) fits.arcs arc) in
    subst (λ w. IsLinkOf graph f.paths w l m) (sym (linked c r.t r.there)) (link_fits graph f apart fits c.args.arc l m r.t arc r.there)
