use Rattle.std.proofs.lemmas.Result.{IfOk-weaker}
use Rattle.result_text.specs.declared.file.ResultFile.{ResultFile}
use Rattle.result_rules.specs.File.{its_paths, its_walks, its_probes}
use Rattle.rel_infer.proofs.Ungiven.{result_alone, accepted_alone, alone_either_way, alone_none_left}
use Rattle.rel_infer.proofs.result.result_of.Goals as goal

pub returns-clause-result : goal.returns-clause-result
returns-clause-result c =
    IfOk-weaker c.result_with.result _ _ (λ (file : ResultFile) r. result_alone c.args.sets c.args.ratio c.args.paths c.args.asides file r) c.result_with.ensures.result

pub returns-clause-accepted : goal.returns-clause-accepted
returns-clause-accepted c =
    IfOk-weaker c.result_with.result _ _ (λ (file : ResultFile) r.
    accepted_alone c.args.sets c.args.ratio c.args.paths c.args.asides file c.requires
    c.facts.ensures.rows r)
    c.result_with.ensures.result

pub returns-clause-either_way : goal.returns-clause-either_way
returns-clause-either_way c =
    IfOk-weaker c.result_with.result _ _ (λ (file : ResultFile) r.
    alone_either_way c.args.ratio (its_paths file) (its_walks file) file.edges file.whys (its_probes file) r.inferred)
    c.result_with.ensures.result

pub returns-clause-none_left_out : goal.returns-clause-none_left_out
returns-clause-none_left_out c =
    IfOk-weaker c.result_with.result _ _ (λ (file : ResultFile) h.
    alone_none_left c.args.ratio (its_paths file) (its_walks file) file.edges file.whys (its_probes file) h)
    c.result_with.ensures.none_left_out
