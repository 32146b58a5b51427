use Rattle.std.proofs.Common.{◌∙◌, ℕ, List, [], unwrap_or, sym, subst}
use Rattle.relationships.specs.declared.given.Given.{Given}
use Rattle.rel_infer.specs.Inference.{AreInferredWith}
use Rattle.rel_infer.proofs.result.result_with.Goals as goal

pub result_by-requires-clause-inferred : goal.result_by-requires-clause-inferred
result_by-requires-clause-inferred c =
    subst (λ (paths : List (List ℕ)). AreInferredWith (unwrap_or c.args.givens []) c.args.head.ratio paths c.in_ok-inferred.inferred) (sym c.in_ok-inferred.ensures.paths)
    (subst (λ (gs : List Given). AreInferredWith gs c.args.head.ratio c.into_rows-rows.result.0 c.in_ok-inferred.inferred) c.given_slice.ensures
    c.in_ok-inferred.ensures.inferred)

pub returns-clause-result : goal.returns-clause-result
returns-clause-result c = c.result_by.ensures.result c.args.paths (c.in_ok-inferred.ensures.paths ∙ c.into_rows-rows.ensures.paths) c.into_rows-rows.ensures.times

pub returns-clause-either_way : goal.returns-clause-either_way
returns-clause-either_way c = c.result_by.ensures.either_way

pub returns-clause-none_left_out : goal.returns-clause-none_left_out
returns-clause-none_left_out c = c.result_by.ensures.none_left_out
