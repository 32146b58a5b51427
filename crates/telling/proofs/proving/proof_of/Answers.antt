use Rattle.std.proofs.Common.{ap}
use Rattle.std.proofs.lemmas.Result.{IfOk-weaker}
use Rattle.relationships.specs.Marking.{is_forced}
use Rattle.result_rules.specs.declared.rule.Rule.TheVariants.{OrdersShown}
use Rattle.result_rules.proofs.Acceptance.{acceptance_law}
use Rattle.telling.specs.Proving.{ProveTogether}
use Rattle.telling.specs.Told.{IsProved}
use Rattle.telling.proofs.LabelLemmas.{order_shown}
use Rattle.telling.proofs.OneProof.{one_proof}
use Rattle.telling.proofs.proving.proof_of.Goals as goal

pub unreachable-requires : goal.unreachable-requires
unreachable-requires c =
    (acceptance_law c.args.file.now c.requires.accepted).no_peering c.args.line.now c.requires.there (ap is_forced c.requires.forced) c.in_default.ensures

pub whys_for-requires-clause-shown : goal.whys_for-requires-clause-shown
whys_for-requires-clause-shown c =
    order_shown c.args.file.now c.requires.accepted c.args.line.now c.requires.there c.requires.forced c.in-Some.over c.in-Some.under c.in-Some.ensures

pub returns : goal.returns
returns c =
    let file = c.args.file.now in
    let over = c.in-Some.over in
    let under = c.in-Some.under in
    IfOk-weaker c.whys_for.result (λ whys. ProveTogether file whys over under) (IsProved file c.args.line.now)
    (λ whys proof. record {
      is_forced = c.requires.forced;
      over = over;
      under = under;
      order = c.in-Some.ensures;
      proof = proof;
      only = λ others. one_proof file (c.requires.accepted OrdersShown) whys others over under proof;
    })
    c.whys_for.ensures
