use Rattle.std.proofs.Common.{◌≡◌, ◌<◌, ◌∙◌, All, length, take, sym, ap, subst, arith}
use Rattle.std.proofs.lemmas.List.{take_all, length-map}
use Rattle.relationships.specs.Graph.{support}
use Rattle.relationships.specs.Evidence.{paths_of}
use Rattle.result_text.specs.declared.file.EdgeLine.{EdgeLine}
use Rattle.line_rules.specs.declared.edges.step.Step.{Step}
use Rattle.result_rules.specs.File.{its_edges, its_kept}
use Rattle.line_rules.specs.PathSteps.{place_in}
use Rattle.line_rules.specs.Tables.{AreCounts, kept_in}
use Rattle.line_rules.proofs.Lines.{line-here, sound-at, usable-at, kept-lines}
use Rattle.line_rules.proofs.ListedEdges.{edges_apart}
use Rattle.line_rules.proofs.StepLemmas.{many_rows, steps-here, inside_steps, length-steps}
use Rattle.line_rules.proofs.SupportLemmas.{counts-few, counts-more}
use Rattle.line_rules.proofs.edges.supports.count_kept.Goals as goal

pub steps_at-requires : goal.steps_at-requires
steps_at-requires c =
    let file = c.args.file.now in
    omega (arith, many_rows file (its_edges file) c.args.steps.now c.requires.steps, c.loop-place-test.true, c.len-place-end.ensures.length)

pub count_line-requires-clause-inside : goal.count_line-requires-clause-inside
count_line-requires-clause-inside c =
    let file = c.args.file.now in
    let are = steps-here file (its_edges file) c.args.steps.now c.loop-place.place c.path_line_at-line.result c.steps_at.result.now c.requires.steps c.path_line_at-line.ensures c.steps_at.ensures in
    subst (λ n. All (λ (s : Step). place_in s < n) c.steps_at.result.now) (sym c.loop-place.invariant.0)
    (inside_steps (its_edges file) c.path_line_at-line.result.path c.steps_at.result.now are)

pub count_line-requires-clause-distinct : goal.count_line-requires-clause-distinct
count_line-requires-clause-distinct c =
    let l = line-here c.args.file.now c.loop-place.place c.path_line_at-line.result c.path_line_at-line.ensures in
    (usable-at c.args.file.now c.loop-place.place c.path_line_at-line.result c.requires.clean l).distinct

pub count_line-requires-clause-short : goal.count_line-requires-clause-short
count_line-requires-clause-short c =
    let file = c.args.file.now in
    let l = line-here file c.loop-place.place c.path_line_at-line.result c.path_line_at-line.ensures in
    let are = steps-here file (its_edges file) c.args.steps.now c.loop-place.place c.path_line_at-line.result c.steps_at.result.now c.requires.steps c.path_line_at-line.ensures c.steps_at.ensures in
    let short = (usable-at file c.loop-place.place c.path_line_at-line.result c.requires.clean l).short in
    omega (arith, short, length-steps (its_edges file) c.path_line_at-line.result.path c.steps_at.result.now are)

pub count_line-requires-clause-few : goal.count_line-requires-clause-few
count_line-requires-clause-few c =
    let l = line-here c.args.file.now c.loop-place.place c.path_line_at-line.result c.path_line_at-line.ensures in
    let few = (sound-at c.args.file.now c.loop-place.place c.path_line_at-line.result c.requires.clean l).few in
    counts-few (its_edges c.args.file.now) c.args.file.now.paths c.loop-place.place c.loop-place.counts.items (omega (arith, few)) c.loop-place.invariant

pub loop-place-preserved : goal.loop-place-preserved
loop-place-preserved c =
    let file = c.args.file.now in
    let l = line-here file c.loop-place.place c.path_line_at-line.result c.path_line_at-line.ensures in
    let are = steps-here file (its_edges file) c.args.steps.now c.loop-place.place c.path_line_at-line.result c.steps_at.result.now c.requires.steps c.path_line_at-line.ensures c.steps_at.ensures in
    let many : length c.loop-place.counts.items ≡ length file.edges = c.loop-place.invariant.0 ∙ length-map file.edges (λ (e : EdgeLine). (e.low, e.high)) in
    counts-more (its_edges file) file.paths c.loop-place.place c.path_line_at-line.result c.loop-place.counts.items c.count_line.new.counts.items l.within l.is
    c.loop-place.invariant (c.count_line.ensures file.edges (edges_apart file c.requires.clean c.requires.listed) many are)

pub returns : goal.returns
returns c =
    let file = c.args.file.now in
    let lines = file.paths in
    let i = c.loop-place.place in
    let end = c.loop-place-test.false in
    let long = c.len-place-end.ensures.length in
    let all : kept_in (take i lines) ≡ paths_of (its_kept file) =
    ap kept_in (take_all i lines (omega (arith, end, long))) ∙ sym (kept-lines file) in
    subst (λ ps. AreCounts (its_edges file) (support ps) c.loop-place.counts.items) all c.loop-place.invariant
