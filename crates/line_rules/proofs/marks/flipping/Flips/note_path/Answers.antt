use Rattle.std.proofs.Common.{◌-◌, length, get_or, arith}
use Rattle.line_rules.specs.Flipping.{flipped_orders, climbs_on}
use Rattle.line_rules.specs.EdgeLines.{edges_of}
use Rattle.line_rules.specs.declared.edges.step.Step.{Step}
use Rattle.line_rules.specs.PathSteps.{place_in}
use Rattle.line_rules.proofs.Buildings.{path_begin, path_end}
use Rattle.line_rules.proofs.Noting.{many_same, many_same', noted_path_more}
use Rattle.line_rules.proofs.StepLemmas.{length-steps, inside_lines}
use Rattle.line_rules.proofs.marks.flipping.Flips.note_path.Goals as goal

abbrev none : Step
none = record { code = 0 }

pub bounds-steps-at : goal.bounds-steps-at
bounds-steps-at c =
    omega (arith, length-steps (edges_of c.args.labels.now) c.args.path.now c.args.steps.now c.requires.steps, c.loop-at.auto.at, c.loop-at-test.true)

pub bounds-steps-at-in-loop-at : goal.bounds-steps-at-in-loop-at
bounds-steps-at-in-loop-at c =
    omega (arith, length-steps (edges_of c.args.labels.now) c.args.path.now c.args.steps.now c.requires.steps, c.loop-at.auto.at, c.loop-at-test.true)

pub note_pair-requires-clause-first : goal.note_pair-requires-clause-first
note_pair-requires-clause-first c =
    inside_lines c.args.labels.now c.args.path.now c.args.steps.now c.requires.steps (c.loop-at.at - 2) _
    (omega (arith, length-steps (edges_of c.args.labels.now) c.args.path.now c.args.steps.now c.requires.steps, c.loop-at.auto.at, c.loop-at-test.true))

pub note_pair-requires-clause-second : goal.note_pair-requires-clause-second
note_pair-requires-clause-second c =
    inside_lines c.args.labels.now c.args.path.now c.args.steps.now c.requires.steps (c.loop-at.at - 1) _
    (omega (arith, length-steps (edges_of c.args.labels.now) c.args.path.now c.args.steps.now c.requires.steps, c.loop-at.auto.at, c.loop-at-test.true))

pub loop-at-init : goal.loop-at-init
loop-at-init c = record {
  implied = c.requires.implied;
  conflicting = c.requires.conflicting;
  noted = c.requires.noted;
  built = path_begin (flipped_orders c.args.labels.now) c.args.path.now c.args.self.now.implied c.args.self.now.conflicting;
}

pub loop-at-preserved : goal.loop-at-preserved
loop-at-preserved c =
    let lines = c.args.labels.now in
    let at = c.loop-at.at in
    let i = c.loop-at.invariant in
    let first = get_or c.args.steps.now (at - 2) none in
    let second = get_or c.args.steps.now (at - 1) none in
    record {
      implied = many_same (climbs_on lines first) (climbs_on lines second) (place_in first) (place_in second) (length lines) c.loop-at.self.implied c.note_pair.new.self.implied
          c.in_ok-note_pair.ensures.implied i.implied;
      conflicting = many_same' (climbs_on lines first) (climbs_on lines second) (place_in first) (place_in second) (length lines) c.loop-at.self.conflicting c.note_pair.new.self.conflicting
          c.in_ok-note_pair.ensures.conflicting i.conflicting;
      noted = c.in_ok-note_pair.ensures.noted;
      built = λ paths b. noted_path_more lines c.args.path.now c.args.steps.now at none none c.loop-at.self.implied c.loop-at.self.conflicting c.note_pair.new.self.implied
          c.note_pair.new.self.conflicting c.requires.proper c.requires.steps (omega (arith, c.loop-at.auto.at)) c.loop-at-test.true i.implied c.in_ok-note_pair.ensures.implied
          c.in_ok-note_pair.ensures.conflicting paths (i.built paths b);
    }

pub returns-clause-built : goal.returns-clause-built
returns-clause-built c = λ paths b.
    path_end (flipped_orders c.args.labels.now) c.args.path.now c.loop-at.at c.loop-at.self.implied c.loop-at.self.conflicting (omega (arith, c.loop-at-test.false)) paths
    (c.loop-at.invariant.built paths b)

pub note_pair-requires-clause-few : goal.note_pair-requires-clause-few
note_pair-requires-clause-few c = c.requires.few

pub note_pair-requires-clause-implied : goal.note_pair-requires-clause-implied
note_pair-requires-clause-implied c = c.loop-at.invariant.implied

pub note_pair-requires-clause-conflicting : goal.note_pair-requires-clause-conflicting
note_pair-requires-clause-conflicting c = c.loop-at.invariant.conflicting

pub note_pair-requires-clause-noted : goal.note_pair-requires-clause-noted
note_pair-requires-clause-noted c = c.loop-at.invariant.noted

pub returns-clause-implied : goal.returns-clause-implied
returns-clause-implied c = c.loop-at.invariant.implied

pub returns-clause-conflicting : goal.returns-clause-conflicting
returns-clause-conflicting c = c.loop-at.invariant.conflicting

pub returns-clause-noted : goal.returns-clause-noted
returns-clause-noted c = c.loop-at.invariant.noted
