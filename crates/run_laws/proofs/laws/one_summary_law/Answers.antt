use Rattle.std.proofs.Common.{ap₂, refl}
use Rattle.rel_infer.proofs.OneGivenResult.{given_result_law}
use Rattle.tor_output.specs.Output.{known_for, paths_taken}
use Rattle.tor_output.specs.Summary.{summary_of}
use Rattle.run_laws.proofs.laws.one_summary_law.Goals as goal

pub returns : goal.returns
returns c = λ settings known taken file file' faithful faithful'.
    let one = given_result_law (known_for settings known taken) (known_for settings known taken) settings.sets settings.ratio (paths_taken settings taken) taken.counts file file' refl faithful faithful' in
    ap₂ summary_of one.0 one.3
