use Rattle.std.proofs.Common.{length, refl}
use Rattle.line_rules.proofs.Noting.{noted-none, built_none}
use Rattle.line_rules.proofs.marks.flipping.Flips.note_all.Goals as goal

pub note_file-done-requires-clause-noted : goal.note_file-done-requires-clause-noted
note_file-done-requires-clause-noted c = noted-none c.args.file.now.edges c.in_ok-noted.noted c.args.self.now.implied c.args.self.now.conflicting c.in_ok-noted.ensures

pub note_file-done-requires-clause-none : goal.note_file-done-requires-clause-none
note_file-done-requires-clause-none c =
    built_none c.args.file.now.edges (length c.args.file.now.edges) c.args.self.now.implied c.args.self.now.conflicting refl c.requires.implied c.requires.conflicting

pub note_file-done-requires-clause-labels : goal.note_file-done-requires-clause-labels
note_file-done-requires-clause-labels c = c.requires.labels

pub note_file-done-requires-clause-few : goal.note_file-done-requires-clause-few
note_file-done-requires-clause-few c = c.requires.few

pub note_file-done-requires-clause-proper : goal.note_file-done-requires-clause-proper
note_file-done-requires-clause-proper c = c.requires.proper

pub note_file-done-requires-clause-table : goal.note_file-done-requires-clause-table
note_file-done-requires-clause-table c = c.requires.table

pub note_file-done-requires-clause-whole : goal.note_file-done-requires-clause-whole
note_file-done-requires-clause-whole c = c.requires.whole

pub note_file-done-requires-clause-steps : goal.note_file-done-requires-clause-steps
note_file-done-requires-clause-steps c = c.requires.steps
