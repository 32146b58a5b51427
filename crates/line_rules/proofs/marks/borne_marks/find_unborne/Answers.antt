use Rattle.line_rules.proofs.marks.borne_marks.find_unborne.Goals as goal

pub list_shown-requires-clause-table : goal.list_shown-requires-clause-table
list_shown-requires-clause-table c = c.requires.table

pub list_shown-requires-clause-few : goal.list_shown-requires-clause-few
list_shown-requires-clause-few c = c.requires.few

pub list_shown-requires-clause-apart : goal.list_shown-requires-clause-apart
list_shown-requires-clause-apart c = c.requires.apart

pub first_unborne-found-requires-clause-few : goal.first_unborne-found-requires-clause-few
first_unborne-found-requires-clause-few c = c.requires.few

pub first_unborne-found-requires-clause-whole : goal.first_unborne-found-requires-clause-whole
first_unborne-found-requires-clause-whole c = c.requires.whole

pub first_unborne-found-requires-clause-covered : goal.first_unborne-found-requires-clause-covered
first_unborne-found-requires-clause-covered c = c.requires.covered

pub first_unborne-found-requires-clause-rounds : goal.first_unborne-found-requires-clause-rounds
first_unborne-found-requires-clause-rounds c = c.requires.many

pub first_unborne-found-requires-clause-many : goal.first_unborne-found-requires-clause-many
first_unborne-found-requires-clause-many c = c.in_ok-shown.ensures.many

pub first_unborne-found-requires-clause-shown : goal.first_unborne-found-requires-clause-shown
first_unborne-found-requires-clause-shown c = c.in_ok-shown.ensures.shown

pub returns : goal.returns
returns c = c.first_unborne-found.ensures
