use Rattle.std.proofs.Common.{refl, sym, arith, subst, ◌∙◌}
use Rattle.result_rules.specs.declared.rule.Rule.TheVariants.{PathsCleaned, EdgesListed, LabelsServe, OrdersShown, MarksBorneOut}
use Rattle.result_rules.specs.File.{its_paths}
use Rattle.line_rules.specs.PathSteps.{HaveCodedSteps}
use Rattle.result_rules.proofs.Accepted.{edges_listed}
use Rattle.rel_checker.proofs.Settling.{next_met, judged, refused, found_none, found_some}
use Rattle.rel_checker.proofs.checking.check_evidence.Goals as goal

pub find_unmarked-requires-clause-cleaned : goal.find_unmarked-requires-clause-cleaned
find_unmarked-requires-clause-cleaned c = c.requires.met PathsCleaned (omega arith)

pub find_unmarked-requires-clause-listed : goal.find_unmarked-requires-clause-listed
find_unmarked-requires-clause-listed c = c.requires.met EdgesListed (omega arith)

pub find_unmarked-requires-clause-served : goal.find_unmarked-requires-clause-served
find_unmarked-requires-clause-served c = c.requires.met LabelsServe (omega arith)

pub find_unmarked-requires-clause-table : goal.find_unmarked-requires-clause-table
find_unmarked-requires-clause-table c = c.requires.table ∙ sym (edges_listed c.args.file.now (c.requires.met EdgesListed (omega arith)))

pub find_unmarked-requires-clause-steps : goal.find_unmarked-requires-clause-steps
find_unmarked-requires-clause-steps c =
    subst (λ es. HaveCodedSteps es (its_paths c.args.file.now) c.args.steps.now)
    (c.requires.table ∙ sym (edges_listed c.args.file.now (c.requires.met EdgesListed (omega arith)))) c.requires.steps

pub returns-in-Some-2 : goal.returns-in-Some-2
returns-in-Some-2 c =
    let file = c.args.file.now in
    let met8 = next_met file OrdersShown 7 refl c.requires.met (found_none file OrdersShown c.in_ok-place.field-0 c.in_ok-place.ensures c.in_default.is) in
    judged file c.no-in-Some-2.result c.mark_line.result 9 c.no-in-Some-2.ensures
    (refused file MarksBorneOut 8 c.in-Some-2.place c.mark_line.result 9 refl met8
    (found_some file MarksBorneOut c.in_ok-place-2.field-0 c.in-Some-2.place c.in_ok-place-2.ensures c.in-Some-2.is) refl c.mark_line.ensures)

pub returns-in-None : goal.returns-in-None
returns-in-None c =
    let file = c.args.file.now in
    let met8 = next_met file OrdersShown 7 refl c.requires.met (found_none file OrdersShown c.in_ok-place.field-0 c.in_ok-place.ensures c.in_default.is) in
    next_met file MarksBorneOut 8 refl met8 (found_none file MarksBorneOut c.in_ok-place-2.field-0 c.in_ok-place-2.ensures c.in-None.is)
