use Rattle.telling.proofs.AnswerLemmas as lemmas
use Rattle.telling.proofs.laws.answer_law.Goals as goal

pub returns : goal.returns
returns c = lemmas.answer_law
