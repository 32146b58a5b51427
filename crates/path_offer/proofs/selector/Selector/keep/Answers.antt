use Rattle.std.proofs.Common.{◌≡◌, ◌++◌, ◌∷◌, [], ◌∙◌, sym, ap, subst}
use Rattle.std.proofs.lemmas.Result.{IfOk-from_err}
use Rattle.relationships.specs.Selection.{IsServable}
use Rattle.as_graph.specs.Paths.{paths_at}
use Rattle.tor_clauses.specs.Formulas.{Formula, FitsGraph}
use Rattle.tor_clauses.specs.Triples.{AreAmong, triples_on}
use Rattle.path_offer.specs.Choices.{Choice}
use Rattle.path_offer.specs.Inside.{IsKeeping}
use Rattle.path_offer.proofs.Keepings.{servable}
use Rattle.path_offer.proofs.Outcomes.{at_error, kept_still}
use Rattle.path_offer.proofs.selector.Selector.keep.Goals as goal

pub add_path-requires : goal.add_path-requires
add_path-requires c = record {
  fits = subst (λ (v : Choice). FitsGraph c.args.graph.now v.formula) (sym c.self.view_is) c.requires.fits;
  there = c.requires.there;
  none = subst (λ (v : Choice). AreAmong v.formula.triples (triples_on c.args.graph.now c.args.path)) (sym c.self.view_is) c.requires.known;
  some = tt;
}

pub invariant_of-self : goal.invariant_of-self
invariant_of-self c = subst (λ (h : Formula). IsKeeping h c.self.inside.state) (sym c.in_err-add_path.ensures.err) c.self.invariant

pub returns-in_err-add_path : goal.returns-in_err-add_path
returns-in_err-add_path c =
    let r = c.from_residual.result in
    let is = c.from_residual.ensures.0 in
    record {
      fits = c.add_path.ensures.fits;
      kept = IfOk-from_err r _ is;
      served = IfOk-from_err r _ is;
      ends = ap (λ v. v.ends) c.self.view_is;
      err = at_error r _ (ap (λ (h : Formula). record { formula = h; ends = c.self.inside.state.ends }) c.in_err-add_path.ensures.err ∙ c.self.view_is);
    }

pub invariant_of-self-2 : goal.invariant_of-self-2
invariant_of-self-2 c =
    let f = c.self.inside.clauses in
    kept_still f c.add_path.new.self (f.paths ++ c.args.path ∷ []) c.self.inside.state c.in_ok-add_path.ensures.known c.self.invariant

pub returns : goal.returns
returns c =
    let graph = c.args.graph.now in
    let f = c.self.inside.clauses in
    let g = c.add_path.new.self in
    let s = c.self.inside.state in
    let ok : g ≡ record f { paths = f.paths ++ c.args.path ∷ [] } = c.in_ok-add_path.ensures.known in
    let now : IsKeeping g s = kept_still f g (f.paths ++ c.args.path ∷ []) s ok c.self.invariant in
    let paths = ap (λ (h : Formula). h.paths) ok ∙ ap (λ v. v.formula.paths ++ c.args.path ∷ []) c.self.view_is in
    let fits = c.add_path.ensures.fits in
    record {
      fits = fits;
      kept = paths;
      served = subst (λ places. IsServable (paths_at graph places)) paths
          (servable graph g s.ends c.model_law.ensures c.facts.ensures.apart fits now.state.ends now.model);
      ends = ap (λ v. v.ends) c.self.view_is;
      err = tt;
    }
