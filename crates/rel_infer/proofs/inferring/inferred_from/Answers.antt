use Rattle.std.proofs.Common.{◌∙◌, [], length, ap, subst, arith}
use Rattle.std.proofs.lemmas.Result.{IfOk-weaker}
use Rattle.rel_infer.specs.declared.inferring.Inferred.{Inferred}
use Rattle.rel_infer.specs.Returns.{IsLinked}
use Rattle.rel_infer.proofs.Linking.{linked, many_fates}
use Rattle.rel_infer.proofs.inferring.inferred_from.Goals as goal

pub relinked_if_given-requires-clause-few : goal.relinked_if_given-requires-clause-few
relinked_if_given-requires-clause-few c =
    let many = many_fates c.args.givens.now c.args.ratio c.args.paths.now [] c.inferred_behind.new.numbers c.in_ok-inferred.inferred c.in_ok-inferred.ensures.inferred in
    let few = c.requires.few in
    omega (arith, many, few)

pub relinked_if_given-requires-clause-paths : goal.relinked_if_given-requires-clause-paths
relinked_if_given-requires-clause-paths c =
    let few = c.requires.few in
    let n = c.len.ensures.length ∙ ap length c.in_ok-inferred.ensures.paths in
    omega (arith, n, few)

pub returns-clause-inferred : goal.returns-clause-inferred
returns-clause-inferred c =
    IfOk-weaker c.relinked_if_given.result _ _ (λ (i : Inferred) is.
    (linked c.args.givens.now c.args.ratio c.args.paths.now [] c.inferred_behind.new.numbers c.in_ok-inferred.inferred i c.in_ok-inferred.ensures.inferred tt
    (subst (λ ns. IsLinked (length c.args.paths.now) c.args.givens.now ns c.in_ok-inferred.inferred i) c.as_slice.ensures
    (subst (λ n. IsLinked n c.args.givens.now c.as_slice.result.now c.in_ok-inferred.inferred i) (c.len.ensures.length ∙ ap length c.in_ok-inferred.ensures.paths) is))).0)
    c.relinked_if_given.ensures
