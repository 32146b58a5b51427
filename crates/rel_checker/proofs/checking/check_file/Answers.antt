use Rattle.std.proofs.Common.{subst, arith}
use Rattle.result_rules.specs.declared.rule.Rule.TheVariants.{PathsCleaned}
use Rattle.rel_checker.specs.Steps.{MetUpTo, IsDecidedUpTo}
use Rattle.rel_checker.proofs.Validity.{valid_if_ok, valid_if_settled}
use Rattle.rel_checker.proofs.checking.check_file.Goals as goal

pub returns-in-Some-clause-valid : goal.returns-in-Some-clause-valid
returns-in-Some-clause-valid c = valid_if_settled c.args.file.now 1 c.in_ok-verdict.field-0 c.in-Some.verdict c.in_ok-verdict.ensures c.in-Some.is

pub returns-in-Some-2-clause-valid : goal.returns-in-Some-2-clause-valid
returns-in-Some-2-clause-valid c = valid_if_settled c.args.file.now 4 c.in_ok-verdict-2.field-0 c.in-Some-2.verdict c.in_ok-verdict-2.ensures c.in-Some-2.is

pub returns-clause-valid : goal.returns-clause-valid
returns-clause-valid c = valid_if_ok c.args.file.now c.check_lines-verdict.result c.check_lines-verdict.ensures

pub list_edges-requires : goal.list_edges-requires
list_edges-requires c =
    let met : MetUpTo c.args.file.now 4 = subst (IsDecidedUpTo c.args.file.now 4) c.in_default-2.is c.in_ok-verdict-2.ensures in
    met PathsCleaned (omega arith)
