use Rattle.std.proofs.Common.{◌≡◌, ◌*◌, ◌++◌, ◌∷◌, [], ◌∙◌, length, refl, sym, ap, subst}
use Rattle.std.specs.Prelude.{IfNone, IfOk, IfSome}
use Rattle.std.proofs.lemmas.Bool.{false≢true}
use Rattle.relationships.specs.Evidence.{Refutes}
use Rattle.relationships.specs.Selection.{IsServable}
use Rattle.as_graph.specs.Paths.{paths_at}
use Rattle.tor_clauses.specs.Formulas.{Fit, first_of, numbered}
use Rattle.tor_mend.specs.Mends.{IsState}
use Rattle.tor_mend.specs.Ways.{AreKnown}
use Rattle.tor_mend.proofs.Knowing.{known_added}
use Rattle.path_offer.specs.Repairs.{AreMet, Repairs}
use Rattle.path_offer.specs.Offers.{IsTried}
use Rattle.path_offer.proofs.Outcomes.{arcs_marked, kept_back}
use Rattle.path_offer.proofs.Keepings.{arcs_met, met_all, servable, not_servable}
use Rattle.path_offer.proofs.selector.Selector.try_offer.Goals as goal
use Rattle.path_offer.proofs.selector.Selector.try_offer.Goals.{in-Ok-None, in-Ok-Some, in-Err}

pub repair-repaired-requires-clause-met : goal.repair-repaired-requires-clause-met
repair-repaired-requires-clause-met c =
    let f = c.self.inside.clauses in
    let g = c.add_path.new.self in
    let s = c.self.inside.state in
    let count : length f.net.arcs ≡ c.mark-mark.result.triples * 2 = sym (arcs_marked f c.mark-mark.result c.facts-2.ensures.arcs c.mark-mark.ensures) in
    subst (λ (p : Fit). AreMet p.formula.net.arcs (c.mark-mark.result.triples * 2) s.ends) (sym c.new-fitted.ensures)
    (subst (λ n. AreMet g.net.arcs n s.ends) count (arcs_met f g _ c.in_ok-add_path.ensures.prefix s.ends c.self.invariant.model))

pub repair-repaired-requires-clause-known : goal.repair-repaired-requires-clause-known
repair-repaired-requires-clause-known c =
    let f = c.self.inside.clauses in
    let g = c.add_path.new.self in
    let s = c.self.inside.state in
    let count : length f.net.arcs ≡ c.mark-mark.result.triples * 2 = sym (arcs_marked f c.mark-mark.result c.facts-2.ensures.arcs c.mark-mark.ensures) in
    subst (λ (p : Fit). AreKnown p.formula.net.arcs (c.mark-mark.result.triples * 2) s.known) (sym c.new-fitted.ensures)
    (subst (λ n. AreKnown g.net.arcs n s.known) count (known_added f g _ c.in_ok-add_path.ensures.prefix s.known c.self.invariant.known))

pub invariant_of-self-2 : goal.invariant_of-self-2
invariant_of-self-2 c =
    let f = c.self.inside.clauses in
    let g = c.add_path.new.self in
    let s = c.repair-repaired.new.state in
    let count : (c.mark-mark.result.triples * 2) ≡ length f.net.arcs = arcs_marked f c.mark-mark.result c.facts-2.ensures.arcs c.mark-mark.ensures in
    let known = subst (λ n. AreKnown g.net.arcs n s.known) count
    (subst (λ (p : Fit). AreKnown p.formula.net.arcs (c.mark-mark.result.triples * 2) s.known) c.new-fitted.ensures c.repair-repaired.ensures.known) in
    let cut = c.undo_to.ensures.first ∙ ap (first_of g) c.mark-mark.ensures ∙ c.in_ok-add_path.ensures.prefix in
    let state = subst (λ (p : Fit). IsState p.formula.net.nodes s) c.new-fitted.ensures c.repair-repaired.ensures.state in
    kept_back f g _ c.in_ok-add_path.ensures.prefix s c.self.inside.state c.undo_to.new.self c.flip_back.new.ends c.flip_back.new.flips cut c.self.invariant state known
    c.repair-repaired.ensures.back c.flip_back.ensures.ends c.flip_back.ensures.none

pub returns-clause-tried : goal.returns-clause-tried
returns-clause-tried c =
    let graph = c.args.graph.now in
    let P = IsTried graph c.args.path c.args.self.now in
    let g = c.add_path.new.self in
    let s = c.repair-repaired.new.state in
    let posed = c.new-fitted.result in
    let paths = c.in_ok-add_path.ensures.paths ∙ ap (λ v. v.formula.paths ++ c.args.path ∷ []) c.self.view_is in
    let ends_of = ap (λ (p : Fit). p.formula.net.nodes) c.new-fitted.ensures in
    elim c.match-repaired.branch [
      | in-Ok-None w ↦
          let done = subst (λ o. IfNone o (Repairs posed.formula.net.arcs (c.mark-mark.result.triples * 2) c.self.inside.state s)) w.in-Ok-None.field-0-is w.in-Ok-None.ensures.repaired in
          let repaired = subst (λ (p : Fit). Repairs p.formula.net.arcs (c.mark-mark.result.triples * 2) c.self.inside.state s) c.new-fitted.ensures done in
          let can = servable graph g s.ends c.model_law.ensures c.facts.ensures.apart c.in_ok-add_path.ensures.fits (c.repair-repaired.ensures.state.ends ∙ ends_of) (met_all g s.ends repaired.met) in
          subst (λ r. IfOk r P) (sym w.result-is) (record {
            exact = (λ kept. subst (λ places. IsServable (paths_at graph places)) paths can, λ some. refl);
            walk = tt;
          })
      | in-Ok-Some w ↦
          let walk = subst (λ o. IfSome o (Refutes (numbered posed.graph posed.formula.paths))) w.in-Ok-Some.field-0-is w.in-Ok-Some.ensures.walk in
          let refutes = subst (λ (p : Fit). Refutes (numbered p.graph p.formula.paths) w.in-Ok-Some.walk) c.new-fitted.ensures walk in
          subst (λ r. IfOk r P) (sym w.result-is) (record {
            exact = (
              λ kept. absurd (false≢true kept),
              λ can. absurd (not_servable graph g.paths w.in-Ok-Some.walk c.refuting_law.ensures refutes (subst (λ places. IsServable (paths_at graph places)) (sym paths) can)),
            );
            walk = subst (λ places. Refutes (numbered graph places) w.in-Ok-Some.walk) paths refutes;
          })
      | in-Err w ↦ subst (λ r. IfOk r P) (sym w.result-is) tt
    ]
