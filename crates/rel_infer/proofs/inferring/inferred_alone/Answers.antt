use Rattle.std.proofs.Common.{◌-◌, [], length, sym, subst}
use Rattle.std.proofs.lemmas.Result.{IfOk-weaker}
use Rattle.path_select.specs.Behind.{places_from}
use Rattle.rel_infer.specs.declared.inferring.Inferred.{Inferred}
use Rattle.rel_infer.specs.Finding.{AreInferredIn}
use Rattle.rel_infer.proofs.inferring.inferred_alone.Goals as goal

pub returns-clause-inferred : goal.returns-clause-inferred
returns-clause-inferred c =
    let graph = c.args.graph.now in
    let count = c.args.count in
    IfOk-weaker c.with_paths.result _ _
    (λ (i : Inferred) same. subst (λ (j : Inferred). AreInferredIn c.args.ratio graph (places_from count (length graph - count)) count [] j) (sym same) c.in_ok-inferred.ensures)
    c.with_paths.ensures.inferred
