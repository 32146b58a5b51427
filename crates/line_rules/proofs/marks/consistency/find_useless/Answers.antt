use Rattle.line_rules.proofs.marks.consistency.find_useless.Goals as goal

pub find-found-requires-clause-lines : goal.find-found-requires-clause-lines
find-found-requires-clause-lines c = c.requires.lines

pub find-found-requires-clause-laid : goal.find-found-requires-clause-laid
find-found-requires-clause-laid c = c.requires.laid

pub find-found-requires-clause-idle : goal.find-found-requires-clause-idle
find-found-requires-clause-idle c = c.requires.idle

pub find-found-requires-clause-round : goal.find-found-requires-clause-round
find-found-requires-clause-round c = c.in_ok-batch.ensures.round

pub returns : goal.returns
returns c = c.find-found.ensures
