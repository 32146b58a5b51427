use Rattle.std.proofs.Common.{◌≡◌, ◌∙◌, ◌*◌, length, sym, ap, subst}
use Rattle.relationships.specs.Graph.{edges}
use Rattle.order_trials.specs.Posing.{AreValleyFree}
use Rattle.order_trials.proofs.problem.Problem.new.Goals as goal

pub invariant_of-result : goal.invariant_of-result
invariant_of-result c =
    let labelled : length c.as_slice-labels.result.now ≡ length (edges c.args.fitted.now.graph) = ap length c.as_slice-labels.ensures ∙ c.requires.labels in (
      record {
        fits = c.facts.ensures.fits;
        labelled = labelled;
        served = subst (AreValleyFree c.args.fitted.now.graph c.args.fitted.now.formula) (sym c.as_slice-labels.ensures) c.requires.served;
        only = c.in_ok-held.ensures.held;
      },
      c.requires.rows,
      c.in_ok-held.ensures.count ∙ ap (λ n. n * 2) labelled ∙ sym c.facts.ensures.fits.nodes,
    )
