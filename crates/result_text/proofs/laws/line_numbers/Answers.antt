use Rattle.result_text.proofs.Places.{numbered, lines_are_of_text}
use Rattle.result_text.proofs.laws.line_numbers.Goals as goal

pub returns-clause-numbered : goal.returns-clause-numbered
returns-clause-numbered c = numbered

pub returns-clause-text : goal.returns-clause-text
returns-clause-text c = lines_are_of_text
