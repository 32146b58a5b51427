use Rattle.std.proofs.Common.{◌∙◌, ap, arith}
use Rattle.result_rules.specs.Totals.{totals_by}
use Rattle.rel_infer.proofs.Whole.{whole, whole_either_way, whole_none_left_out}
use Rattle.rel_infer.proofs.result.result_by.Goals as goal

pub totals_of-totals-requires : goal.totals_of-totals-requires
totals_of-totals-requires c =
    let many = c.requires.inferred.many in
    let few = c.requires.few in
    omega (arith, many, few)

pub returns-clause-result : goal.returns-clause-result
returns-clause-result c =
    whole c.args.givens c.args.head.sets c.args.head.ratio c.args.head.asides c.args.paths c.args.times c.args.inferred c.from_parts.result c.totals_of-totals.result
    c.requires.inferred (c.totals_of-totals.ensures ∙ ap (totals_by c.args.inferred.fates) c.as_slice.ensures) c.from_parts.ensures.paths c.from_parts.ensures.times c.from_parts.ensures.fates

pub returns-clause-either_way : goal.returns-clause-either_way
returns-clause-either_way c =
    whole_either_way c.args.givens c.args.head.sets c.args.head.ratio c.args.head.asides c.args.paths c.args.times c.args.inferred c.from_parts.result c.totals_of-totals.result
    c.requires.inferred (c.totals_of-totals.ensures ∙ ap (totals_by c.args.inferred.fates) c.as_slice.ensures) c.from_parts.ensures.paths c.from_parts.ensures.times c.from_parts.ensures.fates

pub returns-clause-none_left_out : goal.returns-clause-none_left_out
returns-clause-none_left_out c =
    whole_none_left_out c.args.givens c.args.head.sets c.args.head.ratio c.args.head.asides c.args.paths c.args.times c.args.inferred c.from_parts.result c.totals_of-totals.result
    c.requires.inferred (c.totals_of-totals.ensures ∙ ap (totals_by c.args.inferred.fates) c.as_slice.ensures) c.from_parts.ensures.paths c.from_parts.ensures.times c.from_parts.ensures.fates
