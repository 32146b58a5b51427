use Rattle.std.proofs.Common.{[], ◌∷◌}
use Rattle.std.proofs.lemmas.Result.{on_ok_weaker}
use Rattle.order_trials.proofs.Showings.{leads_on}
use Rattle.order_trials.proofs.showing.push_walk.Goals as goal

pub returns : goal.returns
returns c =
    let a = c.args.tail.0 in
    let b = c.args.tail.1 in
    let under = c.order-under.result.1 in
    on_ok_weaker c.push.result
    (λ e. (
      record { ases = a ∷ b ∷ under ∷ []; links = c.link_of.result ∷ [] },
      e,
      leads_on c.args.problem.now c.facts.ensures.apart c.facts.ensures.posed.fits c.args.arc c.args.head a b c.order-under.result.0 under c.link_of.result
          c.link_of.ensures c.order-under.ensures,
    ))
    c.push.ensures.added
