use Rattle.std.proofs.Common.{refl, arith, sym, subst, ◌∙◌}
use Rattle.result_rules.specs.declared.rule.Rule.TheVariants.{PathsCleaned, EdgesListed, LabelsServe, SupportCounted}
use Rattle.result_rules.specs.File.{its_paths}
use Rattle.line_rules.specs.PathSteps.{HaveCodedSteps}
use Rattle.result_rules.proofs.Accepted.{edges_listed}
use Rattle.rel_checker.proofs.Settling.{next_met, judged, refused, found_none, found_some}
use Rattle.rel_checker.proofs.checking.check_edges.Goals as goal

pub returns-in-Some-find_valley : goal.returns-in-Some-find_valley
returns-in-Some-find_valley c =
    let file = c.args.file.now in
    let met5 = next_met file EdgesListed 4 refl c.requires.met (found_none file EdgesListed c.find_unlisted.result c.find_unlisted.ensures.found c.in_default.is) in
    judged file c.no-in-Some-find_valley.result c.path_line.result 6 c.no-in-Some-find_valley.ensures
    (refused file LabelsServe 5 c.in-Some-find_valley.place c.path_line.result 6 refl met5
    (found_some file LabelsServe c.find_valley.result c.in-Some-find_valley.place c.find_valley.ensures c.in-Some-find_valley.is) refl c.path_line.ensures)

pub find_valley-requires : goal.find_valley-requires
find_valley-requires c =
    let file = c.args.file.now in
    let met5 = next_met file EdgesListed 4 refl c.requires.met (found_none file EdgesListed c.find_unlisted.result c.find_unlisted.ensures.found c.in_default.is) in
    record {
      lines = c.requires.lines;
      table = c.requires.table ∙ sym (edges_listed file (met5 EdgesListed (omega arith)));
      labels = c.requires.labels;
      clean = c.requires.met PathsCleaned (omega arith);
      listed = met5 EdgesListed (omega arith);
      steps = subst (λ es. HaveCodedSteps es (its_paths file) c.args.steps.now) (c.requires.table ∙ sym (edges_listed file (met5 EdgesListed (omega arith)))) c.requires.steps;
    }

pub find_miscounted-requires-clause-listed : goal.find_miscounted-requires-clause-listed
find_miscounted-requires-clause-listed c =
    let file = c.args.file.now in
    next_met file EdgesListed 4 refl c.requires.met (found_none file EdgesListed c.find_unlisted.result c.find_unlisted.ensures.found c.in_default.is) EdgesListed (omega arith)

pub find_miscounted-requires-clause-steps : goal.find_miscounted-requires-clause-steps
find_miscounted-requires-clause-steps c =
    let file = c.args.file.now in
    let met5 = next_met file EdgesListed 4 refl c.requires.met (found_none file EdgesListed c.find_unlisted.result c.find_unlisted.ensures.found c.in_default.is) in
    subst (λ es. HaveCodedSteps es (its_paths file) c.args.steps.now) (c.requires.table ∙ sym (edges_listed file (met5 EdgesListed (omega arith)))) c.requires.steps

pub find_miscounted-requires-clause-clean : goal.find_miscounted-requires-clause-clean
find_miscounted-requires-clause-clean c = c.requires.met PathsCleaned (omega arith)

pub returns-in-Some-2 : goal.returns-in-Some-2
returns-in-Some-2 c =
    let file = c.args.file.now in
    let met5 = next_met file EdgesListed 4 refl c.requires.met (found_none file EdgesListed c.find_unlisted.result c.find_unlisted.ensures.found c.in_default.is) in
    let met6 = next_met file LabelsServe 5 refl met5 (found_none file LabelsServe c.find_valley.result c.find_valley.ensures c.in_default-find_valley.is) in
    judged file c.no-in-Some-2.result c.edge_line-in-Some-2.result 7 c.no-in-Some-2.ensures
    (refused file SupportCounted 6 c.in-Some-2.place c.edge_line-in-Some-2.result 7 refl met6
    (found_some file SupportCounted c.in_ok-place.field-0 c.in-Some-2.place c.in_ok-place.ensures c.in-Some-2.is) refl c.edge_line-in-Some-2.ensures)

pub returns-in-None : goal.returns-in-None
returns-in-None c =
    let file = c.args.file.now in
    let met5 = next_met file EdgesListed 4 refl c.requires.met (found_none file EdgesListed c.find_unlisted.result c.find_unlisted.ensures.found c.in_default.is) in
    let met6 = next_met file LabelsServe 5 refl met5 (found_none file LabelsServe c.find_valley.result c.find_valley.ensures c.in_default-find_valley.is) in
    next_met file SupportCounted 6 refl met6 (found_none file SupportCounted c.in_ok-place.field-0 c.in_ok-place.ensures c.in-None.is)
