use Rattle.std.proofs.Common.{arith, subst, sym}
use Rattle.std.proofs.lemmas.Bool.{both_ways}
use Rattle.tor_arena.specs.Distinct.{AllDistinct}
use Rattle.result_rules.specs.File.{its_edges}
use Rattle.line_rules.specs.EdgeLines.{AreApart, edges_of}
use Rattle.line_rules.specs.PathSteps.{AreCodedSteps}
use Rattle.tor_arena.proofs.Gets.{All-get}
use Rattle.line_rules.proofs.Lines.{line-here}
use Rattle.line_rules.proofs.ListedEdges.{edges_apart, lines_distinct}
use Rattle.line_rules.proofs.StepLemmas.{many_rows, steps-here}
use Rattle.line_rules.proofs.ValleyLemmas.{valley-first, valley-more}
use Rattle.line_rules.proofs.edges.edge_rules.find_unserved.Goals as goal

pub steps_at-requires : goal.steps_at-requires
steps_at-requires c =
    let file = c.args.file.now in
    omega (arith, many_rows file (its_edges file) c.args.steps.now c.requires.steps, c.loop-place-test.true, c.len-place-end.ensures.length)

pub is_served-requires : goal.is_served-requires
is_served-requires c =
    let file = c.args.file.now in
    let line = c.path_line_at-line.result in
    record {
      apart = subst AreApart (sym c.requires.labels) (edges_apart file c.requires.clean c.requires.listed);
      distinct = All-get (λ line. AllDistinct line.path) file.paths c.loop-place.place line (lines_distinct file c.requires.clean) c.path_line_at-line.ensures;
      steps = subst (λ ls. AreCodedSteps (edges_of ls) line.path c.steps_at.result.now) (sym c.requires.labels)
          (steps-here file (its_edges file) c.args.steps.now c.loop-place.place line c.steps_at.result.now c.requires.steps c.path_line_at-line.ensures c.steps_at.ensures);
    }

pub returns-then-not-is_served : goal.returns-then-not-is_served
returns-then-not-is_served c =
    let l = line-here c.args.file.now c.loop-place.place c.path_line_at-line.result c.path_line_at-line.ensures in
    valley-first c.args.file.now c.args.labels.now c.loop-place.place c.path_line_at-line.result c.requires.labels c.loop-place.invariant l
    (λ served. both_ways c.is_served.result c.if-not-is_served.true (c.is_served.ensures.1 served))

pub loop-place-preserved : goal.loop-place-preserved
loop-place-preserved c =
    let l = line-here c.args.file.now c.loop-place.place c.path_line_at-line.result c.path_line_at-line.ensures in
    valley-more c.args.file.now c.args.labels.now c.loop-place.place c.path_line_at-line.result c.requires.labels c.loop-place.invariant l
    (c.is_served.ensures.0 c.if-not-is_served.false)
