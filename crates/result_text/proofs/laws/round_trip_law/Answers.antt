use Rattle.std.proofs.Common.{◌∙◌, sym}
use Rattle.result_text.proofs.Verdicts.{one_value}
use Rattle.result_text.proofs.laws.round_trip_law.Goals as goal

pub returns-clause-read : goal.returns-clause-read
returns-clause-read c = λ file again bytes printed read. one_value again file read.in_range printed.in_range (sym read.encoded ∙ printed.encoded)

pub returns-clause-printed : goal.returns-clause-printed
returns-clause-printed c = λ file bytes again read printed. printed.encoded ∙ sym read.encoded

pub returns-clause-good : goal.returns-clause-good
returns-clause-good c = λ bytes n good bad. bad.outside good
