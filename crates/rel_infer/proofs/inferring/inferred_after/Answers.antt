use Rattle.std.proofs.Common.{◌∙◌, [], sym, subst}
use Rattle.std.proofs.lemmas.Result.{IfOk-weaker}
use Rattle.relationships.specs.Selection.{IsServable}
use Rattle.as_graph.specs.Paths.{paths_at}
use Rattle.rel_infer.specs.declared.inferring.Inferred.{Inferred}
use Rattle.rel_infer.specs.Finding.{AreInferredIn}
use Rattle.rel_infer.proofs.inferring.inferred_after.Goals as goal

pub inferred_in-requires-clause-behind : goal.inferred_in-requires-clause-behind
inferred_in-requires-clause-behind c = c.as_slice.ensures ∙ c.in_ok-first.ensures

pub inferred_in-requires-clause-servable : goal.inferred_in-requires-clause-servable
inferred_in-requires-clause-servable c =
    subst (λ ps. IsServable (paths_at c.args.graph.now ps)) (sym (c.as_slice.ensures ∙ c.in_ok-first.ensures)) c.requires.servable

pub returns : goal.returns
returns c =
    IfOk-weaker c.inferred_in.result _ _
    (λ (i : Inferred) are. subst (λ ps. AreInferredIn c.args.ratio c.args.graph.now ps c.args.count [] i) (c.as_slice.ensures ∙ c.in_ok-first.ensures) are)
    c.inferred_in.ensures
