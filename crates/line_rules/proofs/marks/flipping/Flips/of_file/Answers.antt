use Rattle.line_rules.proofs.marks.flipping.Flips.of_file.Goals as goal

pub note_all-requires-clause-labels : goal.note_all-requires-clause-labels
note_all-requires-clause-labels c = c.requires.labels

pub note_all-requires-clause-few : goal.note_all-requires-clause-few
note_all-requires-clause-few c = c.requires.few

pub note_all-requires-clause-proper : goal.note_all-requires-clause-proper
note_all-requires-clause-proper c = c.requires.proper

pub note_all-requires-clause-table : goal.note_all-requires-clause-table
note_all-requires-clause-table c = c.requires.table

pub note_all-requires-clause-whole : goal.note_all-requires-clause-whole
note_all-requires-clause-whole c = c.requires.whole

pub note_all-requires-clause-steps : goal.note_all-requires-clause-steps
note_all-requires-clause-steps c = c.requires.steps
