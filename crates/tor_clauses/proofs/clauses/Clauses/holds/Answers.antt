use Rattle.std.proofs.Common.{◌≡◌, ◌<◌, ◌↔◌, true, length, All, sym, subst}
use Rattle.tor_clauses.specs.declared.triple.Triple.{Triple}
use Rattle.tor_clauses.specs.Tables.{IsSatisfied}
use Rattle.tor_clauses.specs.Formulas.{Formula}
use Rattle.tor_clauses.proofs.Satisfied.{model_from_satisfied, satisfied_from_model, all_within}
use Rattle.tor_clauses.proofs.Models.{model_iff}
use Rattle.tor_clauses.proofs.clauses.Clauses.holds.Goals as goal

pub are_satisfied-requires : goal.are_satisfied-requires
are_satisfied-requires c =
    let all = all_within c.args.graph.now c.args.self.now c.args.orientation.now c.facts.ensures.apart c.requires.fits c.requires.ends in
    subst (λ ends. All (λ (t : Triple). (t.first.edge < length ends) × (t.second.edge < length ends)) c.self.inside.table.triples) (sym c.as_slice.ensures)
    (subst (λ (f : Formula). All (λ (t : Triple). (t.first.edge < length c.args.orientation.now) × (t.second.edge < length c.args.orientation.now)) f.triples) (sym c.self.view_is) all)

satisfied : (c : goal.After-are_satisfied) → (c.are_satisfied.result ≡ true) ↔ All (IsSatisfied c.args.orientation.now) c.args.self.now.triples
satisfied c =
    subst (λ (f : Formula). (c.are_satisfied.result ≡ true) ↔ All (IsSatisfied c.args.orientation.now) f.triples) c.self.view_is
    (subst (λ ends. (c.are_satisfied.result ≡ true) ↔ All (IsSatisfied ends) c.self.inside.table.triples) c.as_slice.ensures c.are_satisfied.ensures)

pub returns-clause-model : goal.returns-clause-model
returns-clause-model c =
    let k = satisfied c in (
      (λ t. model_from_satisfied c.args.graph.now c.args.self.now c.args.orientation.now c.facts.ensures.apart c.requires.fits c.requires.ends (k.0 t)),
      (λ m. k.1 (satisfied_from_model c.args.graph.now c.args.self.now c.args.orientation.now c.facts.ensures.apart c.requires.fits c.requires.ends m)),
    )

pub returns-clause-serves : goal.returns-clause-serves
returns-clause-serves c =
    let m = model_iff c.args.graph.now c.args.self.now c.args.orientation.now c.facts.ensures.apart c.requires.fits c.requires.ends in
    let r = returns-clause-model c in
    ((λ t. m.1 (r.0 t)), (λ s. r.1 (m.0 s)))
