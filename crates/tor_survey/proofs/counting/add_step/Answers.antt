use Rattle.std.proofs.Common.{◌∙◌, sym, subst}
use Rattle.std.specs.List.{list_any}
use Rattle.relationships.specs.Graph.{edge_of, is_same}
use Rattle.tor_survey.specs.Sets.{HaveEnds}
use Rattle.tor_survey.proofs.Ends.{ends_new, step_known, to_known, not_true, not_false}
use Rattle.tor_survey.proofs.counting.add_step.Goals as goal

pub returns-in_ok-add-2-clause-ends : goal.returns-in_ok-add-2-clause-ends
returns-in_ok-add-2-clause-ends c =
    let ases = c.args.ases.now in let es = c.args.edges.now in
    let new = not_true (list_any (is_same (edge_of c.args.from c.args.to)) es) (sym c.if-branch.true ∙ c.in_ok-add.ensures.answer) in
    subst (λ l. HaveEnds l c.add.new.self) (sym c.in_ok-add-2.ensures)
    (subst (HaveEnds _) (sym c.in_ok-add.ensures.added) (ends_new ases es c.args.from c.args.to c.requires.ends c.requires.from new))

pub returns-else-branch-clause-ases : goal.returns-else-branch-clause-ases
returns-else-branch-clause-ases c =
    let es = c.args.edges.now in
    let old = not_false (list_any (is_same (edge_of c.args.from c.args.to)) es) (sym c.if-branch.false ∙ c.in_ok-add.ensures.answer) in
    step_known c.args.ases.now es c.args.from c.args.to c.requires.ends old

pub returns-else-branch-clause-to : goal.returns-else-branch-clause-to
returns-else-branch-clause-to c =
    let es = c.args.edges.now in
    let old = not_false (list_any (is_same (edge_of c.args.from c.args.to)) es) (sym c.if-branch.false ∙ c.in_ok-add.ensures.answer) in
    to_known c.args.ases.now es c.args.from c.args.to c.requires.ends old
