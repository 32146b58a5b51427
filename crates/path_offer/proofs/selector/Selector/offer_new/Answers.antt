use Rattle.std.proofs.Common.{◌≡◌, take, ◌*◌, ◌≤◌, ◌++◌, ◌∷◌, [], ◌∙◌, List, length, refl, sym, ap, ap₂, subst, arith}
use Rattle.std.proofs.lemmas.Result.{IfOk-from_err}
use Rattle.std.specs.Prelude.{IfNone, IfSome}
use Rattle.std.proofs.lemmas.Bool.{false≢true}
use Rattle.relationships.specs.Evidence.{Refutes}
use Rattle.relationships.specs.Selection.{IsServable}
use Rattle.as_graph.specs.Paths.{paths_at}
use Rattle.tor_clauses.specs.Formulas.{Fit, Formula, FitsGraph, IsMark, IsServed, first_of, numbered}
use Rattle.tor_clauses.specs.Triples.{AreAmong, triples_on}
use Rattle.path_offer.specs.Inside.{IsKeeping}
use Rattle.tor_clauses.specs.declared.clauses.ClauseMark.{ClauseMark}
use Rattle.path_offer.specs.Repairs.{AreMet, IsRepaired, Repairs}
use Rattle.tor_mend.specs.Mends.{IsState}
use Rattle.tor_mend.specs.Ways.{AreKnown}
use Rattle.tor_mend.proofs.Knowing.{known_added}
use Rattle.tor_mend.specs.Mends.{flipped_back}
use Rattle.path_offer.specs.Choices.{Choice, ChangesFrom}
use Rattle.tor_clauses.specs.Literals.{lit_of, Holds}
use Rattle.relationships.specs.declared.label.End.{End}
use Rattle.path_offer.proofs.Origins.{changes_from, unchanged}
use Rattle.path_offer.proofs.Outcomes.{at_error, arcs_marked, kept_on, kept_back}
use Rattle.tor_mend.proofs.Prefixes.{triples_stay}
use Rattle.path_offer.proofs.Keepings.{arcs_met, met_all, servable, not_servable}
use Rattle.path_offer.proofs.selector.Selector.offer_new.Goals as goal

abbrev choice : Formula → List End → Choice
choice formula ends = record { formula = formula; ends = ends }

pub add_path-requires : goal.add_path-requires
add_path-requires c = record {
  fits = subst (λ (v : Choice). FitsGraph c.args.graph.now v.formula) (sym c.self.view_is) c.requires.fits;
  there = c.requires.there;
  none = tt;
  some = subst (λ (v : Choice). AreAmong v.formula.triples (take c.args.known (triples_on c.args.graph.now c.args.path))) (sym c.self.view_is) c.requires.known;
}

pub invariant_of-self : goal.invariant_of-self
invariant_of-self c = subst (λ (h : Formula). IsKeeping h c.self.inside.state) (sym c.in_err-add_path.ensures.err) c.self.invariant

pub returns-in_err-add_path : goal.returns-in_err-add_path
returns-in_err-add_path c =
    let r = c.from_residual.result in
    record {
      offered = IfOk-from_err r _ c.from_residual.ensures.0;
      err = at_error r _ (ap (λ (h : Formula). choice h c.self.inside.state.ends) c.in_err-add_path.ensures.err ∙ c.self.view_is);
    }

pub repair-requires : goal.repair-requires
repair-requires c =
    let f = c.self.inside.clauses in
    let g = c.add_path.new.self in
    let s = c.self.inside.state in
    let prefix = c.in_ok-add_path.ensures.prefix in
    let stay = triples_stay f g _ prefix in
    let marked = ap (λ (m : ClauseMark). m.triples) c.mark-mark.ensures in
    let posed = sym c.new-fitted.ensures in
    let nodes : f.net.nodes ≡ g.net.nodes = sym (ap (λ (h : Formula). h.net.nodes) prefix) in
    let count : length f.net.arcs ≡ c.mark-mark.result.triples * 2 = sym (arcs_marked f c.mark-mark.result c.facts-2.ensures.arcs c.mark-mark.ensures) in
    let met = subst (λ n. AreMet g.net.arcs n s.ends) count (arcs_met f g _ prefix s.ends c.self.invariant.model) in
    let known = subst (λ n. AreKnown g.net.arcs n s.known) count (known_added f g _ prefix s.known c.self.invariant.known) in
    record {
      there = subst (λ (p : Fit). c.mark-mark.result.triples ≤ length p.formula.triples) posed (omega (arith, stay, marked));
      state = subst (λ (p : Fit). IsState p.formula.net.nodes s) posed (subst (λ n. IsState n s) nodes c.self.invariant.state);
      met = subst (λ (p : Fit). AreMet p.formula.net.arcs (c.mark-mark.result.triples * 2) s.ends) posed met;
      known = subst (λ (p : Fit). AreKnown p.formula.net.arcs (c.mark-mark.result.triples * 2) s.known) posed known;
    }

pub flip_back-requires : goal.flip_back-requires
flip_back-requires c = c.repair.ensures.state.flips

pub undo_to-requires : goal.undo_to-requires
undo_to-requires c = subst (IsMark c.add_path.new.self) (sym c.mark-mark.ensures) c.in_ok-add_path.ensures.mark

pub flip_back-requires-in-Err : goal.flip_back-requires-in-Err
flip_back-requires-in-Err c = c.repair.ensures.state.flips

pub undo_to-requires-in-Err : goal.undo_to-requires-in-Err
undo_to-requires-in-Err c = subst (IsMark c.add_path.new.self) (sym c.mark-mark.ensures) c.in_ok-add_path.ensures.mark

pub invariant_of-self-in-Ok-None : goal.invariant_of-self-in-Ok-None
invariant_of-self-in-Ok-None c =
    let f = c.self.inside.clauses in
    let g = c.add_path.new.self in
    let s = c.repair.new.state in
    let posed = c.new-fitted.result in
    let done = subst (λ o. IfNone o (Repairs posed.formula.net.arcs (c.mark-mark.result.triples * 2) c.self.inside.state s)) c.in-Ok-None.field-0-is c.in-Ok-None.ensures.repaired in
    let repaired = subst (λ (p : Fit). Repairs p.formula.net.arcs (c.mark-mark.result.triples * 2) c.self.inside.state s) c.new-fitted.ensures done in
    let count : (c.mark-mark.result.triples * 2) ≡ length f.net.arcs = arcs_marked f c.mark-mark.result c.facts-2.ensures.arcs c.mark-mark.ensures in
    let known = subst (λ n. AreKnown g.net.arcs n s.known) count (subst (λ (p : Fit). AreKnown p.formula.net.arcs (c.mark-mark.result.triples * 2) s.known) c.new-fitted.ensures c.repair.ensures.known) in
    let state = subst (λ (p : Fit). IsState p.formula.net.nodes s) c.new-fitted.ensures c.repair.ensures.state in
    kept_on f g _ c.in_ok-add_path.ensures.prefix s c.clear.new.self c.clear.ensures state repaired.met known

pub invariant_of-self-in-Ok-Some : goal.invariant_of-self-in-Ok-Some
invariant_of-self-in-Ok-Some c =
    let f = c.self.inside.clauses in
    let g = c.add_path.new.self in
    let s = c.repair.new.state in
    let count : (c.mark-mark.result.triples * 2) ≡ length f.net.arcs = arcs_marked f c.mark-mark.result c.facts-2.ensures.arcs c.mark-mark.ensures in
    let known = subst (λ n. AreKnown g.net.arcs n s.known) count (subst (λ (p : Fit). AreKnown p.formula.net.arcs (c.mark-mark.result.triples * 2) s.known) c.new-fitted.ensures c.repair.ensures.known) in
    let cut = c.undo_to.ensures.first ∙ ap (first_of g) c.mark-mark.ensures ∙ c.in_ok-add_path.ensures.prefix in
    let state = subst (λ (p : Fit). IsState p.formula.net.nodes s) c.new-fitted.ensures c.repair.ensures.state in
    kept_back f g _ c.in_ok-add_path.ensures.prefix s c.self.inside.state c.undo_to.new.self c.flip_back.new.ends c.flip_back.new.flips cut c.self.invariant state known
    c.repair.ensures.back c.flip_back.ensures.ends c.flip_back.ensures.none

pub invariant_of-self-in-Err : goal.invariant_of-self-in-Err
invariant_of-self-in-Err c =
    let f = c.self.inside.clauses in
    let g = c.add_path.new.self in
    let s = c.repair.new.state in
    let count : (c.mark-mark.result.triples * 2) ≡ length f.net.arcs = arcs_marked f c.mark-mark.result c.facts-2.ensures.arcs c.mark-mark.ensures in
    let known = subst (λ n. AreKnown g.net.arcs n s.known) count (subst (λ (p : Fit). AreKnown p.formula.net.arcs (c.mark-mark.result.triples * 2) s.known) c.new-fitted.ensures c.repair.ensures.known) in
    let cut = c.undo_to-in-Err.ensures.first ∙ ap (first_of g) c.mark-mark.ensures ∙ c.in_ok-add_path.ensures.prefix in
    kept_back f g _ c.in_ok-add_path.ensures.prefix s c.self.inside.state c.undo_to-in-Err.new.self c.flip_back-in-Err.new.ends
    c.flip_back-in-Err.new.flips cut c.self.invariant (subst (λ (p : Fit). IsState p.formula.net.nodes s) c.new-fitted.ensures c.repair.ensures.state) known
    c.repair.ensures.back c.flip_back-in-Err.ensures.ends c.flip_back-in-Err.ensures.none

pub returns-in-Ok-None : goal.returns-in-Ok-None
returns-in-Ok-None c =
    let graph = c.args.graph.now in
    let f = c.self.inside.clauses in
    let g = c.add_path.new.self in
    let old = c.self.inside.state.ends in
    let new = c.repair.new.state.ends in
    let ends : old ≡ c.args.self.now.ends = ap (λ v. v.ends) c.self.view_is in
    let fits = subst (FitsGraph graph) (sym (ap (λ v. v.formula) c.self.view_is)) c.requires.fits in
    let posed = c.new-fitted.result in
    let s = c.repair.new.state in
    let done = subst (λ o. IfNone o (Repairs posed.formula.net.arcs (c.mark-mark.result.triples * 2) c.self.inside.state s)) c.in-Ok-None.field-0-is c.in-Ok-None.ensures.repaired in
    let repaired = subst (λ (p : Fit). Repairs p.formula.net.arcs (c.mark-mark.result.triples * 2) c.self.inside.state s) c.new-fitted.ensures done in
    let ends_of = ap (λ (p : Fit). p.formula.net.nodes) c.new-fitted.ensures in
    let count : (c.mark-mark.result.triples * 2) ≡ length f.net.arcs = arcs_marked f c.mark-mark.result c.facts-2.ensures.arcs c.mark-mark.ensures in
    let from = subst (λ n. IsRepaired g.net.arcs n (length g.net.arcs) old new) count repaired in
    let paths = c.in_ok-add_path.ensures.paths ∙ ap (λ v. v.formula.paths ++ c.args.path ∷ []) c.self.view_is in
    let can = servable graph g new c.model_law.ensures c.facts.ensures.apart c.in_ok-add_path.ensures.fits (c.repair.ensures.state.ends ∙ ends_of) (met_all g new repaired.met) in
    record {
      offered = record {
        fits = c.in_ok-add_path.ensures.fits;
        exact = (λ kept. subst (λ places. IsServable (paths_at graph places)) paths can, λ some. refl);
        kept = λ kept. paths;
        lost = tt;
        walk = tt;
        same = λ serves. unchanged graph f g c.args.path c.facts.ensures.apart fits c.in_ok-add_path.ensures.fits c.in_ok-add_path.ensures.paths old new
            c.model_law.ensures c.self.invariant.state.ends c.self.invariant.model from (subst (IsServed graph (c.args.path ∷ [])) (sym ends) serves) ∙ ends;
        changed = subst (λ es. ChangesFrom graph c.args.path g.net.arcs es new) ends
            (changes_from graph f g c.args.path c.facts.ensures.apart fits c.in_ok-add_path.ensures.fits c.in_ok-add_path.ensures.paths old new from);
      };
      err = tt;
    }

pub returns-in-Ok-Some : goal.returns-in-Ok-Some
returns-in-Ok-Some c =
    let graph = c.args.graph.now in
    let f = c.add_path.new.self in
    let old = c.self.inside.state.ends in
    let paths = c.in_ok-add_path.ensures.paths ∙ ap (λ v. v.formula.paths ++ c.args.path ∷ []) c.self.view_is in
    let posed = c.new-fitted.result in
    let walk = subst (λ o. IfSome o (Refutes (numbered posed.graph posed.formula.paths))) c.in-Ok-Some.field-0-is c.in-Ok-Some.ensures.walk in
    let refutes = subst (λ (p : Fit). Refutes (numbered p.graph p.formula.paths) c.in-Ok-Some.walk) c.new-fitted.ensures walk in
    let cut : c.undo_to.new.self ≡ c.self.inside.clauses = c.undo_to.ensures.first ∙ ap (first_of f) c.mark-mark.ensures ∙ c.in_ok-add_path.ensures.prefix in
    let ends : c.flip_back.new.ends ≡ old = c.flip_back.ensures.ends ∙ c.repair.ensures.back ∙ ap (flipped_back old) c.self.invariant.none in
    let back : choice c.undo_to.new.self c.flip_back.new.ends ≡ c.args.self.now = ap₂ choice cut ends ∙ c.self.view_is in
    let still : c.flip_back.new.ends ≡ c.args.self.now.ends = ap (λ (v : Choice). v.ends) back in
    record {
      offered = record {
        fits = c.undo_to.ensures.fits graph c.in_ok-add_path.ensures.fits;
        exact = (
          λ kept. absurd (false≢true kept),
          λ can. absurd (not_servable graph f.paths c.in-Ok-Some.walk c.refuting_law.ensures refutes (subst (λ places. IsServable (paths_at graph places)) (sym paths) can)),
        );
        kept = λ kept. absurd (false≢true kept);
        lost = back;
        walk = subst (λ places. Refutes (numbered graph places) c.in-Ok-Some.walk) paths refutes;
        same = λ serves. still;
        changed = λ x held not. absurd (not (subst (λ es. Holds es (lit_of x)) still held));
      };
      err = tt;
    }

pub returns-in-Err : goal.returns-in-Err
returns-in-Err c =
    let f = c.add_path.new.self in
    let old = c.self.inside.state.ends in
    let cut : c.undo_to-in-Err.new.self ≡ c.self.inside.clauses = c.undo_to-in-Err.ensures.first ∙ ap (first_of f) c.mark-mark.ensures ∙ c.in_ok-add_path.ensures.prefix in
    let ends : c.flip_back-in-Err.new.ends ≡ old = c.flip_back-in-Err.ensures.ends ∙ c.repair.ensures.back ∙ ap (flipped_back old) c.self.invariant.none in
    record { offered = tt; err = ap₂ choice cut ends ∙ c.self.view_is }
