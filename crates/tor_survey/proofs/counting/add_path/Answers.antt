use Rattle.std.proofs.Common.{sym, subst}
use Rattle.tor_survey.specs.Sets.{HaveEnds}
use Rattle.tor_survey.proofs.Ends.{ends_stay}
use Rattle.tor_survey.proofs.counting.add_path.Goals as goal

pub add_others-requires-clause-ends : goal.add_others-requires-clause-ends
add_others-requires-clause-ends c =
    let es = c.args.edges.now in
    subst (λ l. HaveEnds l es) (sym c.in_ok-add-in-len1-up.ensures) (ends_stay c.args.ases.now _ es c.requires)
