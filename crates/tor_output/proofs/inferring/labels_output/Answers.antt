use Rattle.std.proofs.Common.{◌≡◌, ◌∷◌, [], ◌++◌, Option, Result, Ok, Err}
use Rattle.std.specs.Prelude.{IfOk}
use Rattle.as_rel.specs.declared.givens.KnownLines.{KnownLines}
use Rattle.dump_read.specs.declared.taking.Taken.{Taken}
use Rattle.result_text.specs.declared.file.ResultFile.{ResultFile}
use Rattle.result_text.specs.Grammar.{IsTextOf}
use Rattle.tor_words.specs.declared.task.Made.TheVariants as made
use Rattle.tor_words.specs.declared.settings.Settings.{Settings}
use Rattle.tor_output.specs.Output.{Faithful, IsMade}
use Rattle.tor_output.specs.declared.output.Output.{Output}
use Rattle.tor_output.specs.Summary.{summary}
use Rattle.tor_output.specs.Written.{written}
use Rattle.tor_output.proofs.inferring.labels_output.Goals as goal

-- the text of the result of what the dumps gave, and its summary
text_in : {E : Type 0} (settings : Settings) (said : Option KnownLines) (taken : Taken) (file : ResultFile) (r : Result Output E) → Faithful settings said taken file
    → IfOk r (λ o. IsTextOf file (written o).text) → IfOk r (λ o. (written o).note ≡ summary file ++ 10 ∷ []) → IfOk r (λ o. IsMade made.Result settings said taken (written o))
text_in settings said taken file (Ok o) faithful text note = (file, faithful, text, note)
text_in settings said taken file (Err e) faithful text note = tt

pub returns : goal.returns
returns c =
    text_in c.args.settings.now c.args.said c.args.taken c.in_ok-file.file c.text_and_summary.result c.in_ok-file.ensures c.text_and_summary.ensures.text c.text_and_summary.ensures.note
