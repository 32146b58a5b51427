use Rattle.std.proofs.Common.{rules, ◌≡◌, ◌∙◌, ◌+◌, ◌<◌, List, length, take, Some, slice_get, get_or, sym, ap, subst, arith}
use Rattle.std.proofs.lemmas.Option.{slice_get-get_or}
use Rattle.relationships.specs.declared.label.Label.{Label}
use Rattle.relationships.specs.declared.mark.Mark.{Mark}
use Rattle.relationships.specs.Graph.{edges}
use Rattle.result_text.specs.declared.file.EdgeLine.{EdgeLine}
use Rattle.rel_infer.specs.EdgeLines.{AreLinesOf}
use Rattle.rel_infer.proofs.LineLemmas.{no_lines, lines_more, lines_all}
use Rattle.rel_infer.proofs.edge_lines.edge_lines.Goals as goal

pub loop-place-init : goal.loop-place-init
loop-place-init c =
    subst (λ (ls : List EdgeLine). AreLinesOf (take 0 (edges c.args.graph.now)) (take 0 c.args.labels.now) (take 0 c.args.marks.now) (take 0 c.args.supports.now) ls)
    (sym c.in_ok-lines.ensures.items) (no_lines (edges c.args.graph.now) c.args.labels.now c.args.marks.now c.args.supports.now)

pub loop-place-preserved : goal.loop-place-preserved
loop-place-preserved c =
    let es = edges c.args.graph.now in
    let labels = c.args.labels.now in
    let marks = c.args.marks.now in
    let supports = c.args.supports.now in
    let place = c.loop-place.place in
    let test = c.loop-place-test.true in
    let count = c.edge_count-place-end.ensures.count in
    let lt : place < length es = omega (arith, test, count) in
    let same : c.unwrap.result ≡ place = search rules in
    let edge : slice_get es place ≡ Some (c.edge-edge.result.low, c.edge-edge.result.high) = subst (λ k. slice_get es k ≡ Some (c.edge-edge.result.low, c.edge-edge.result.high)) same
    c.edge-edge.ensures.pair in
    let label : slice_get labels place ≡ Some (get_or c.as_slice-labels.result.now place Label.Low) =
    slice_get-get_or labels place Label.Low (omega (arith, lt, c.requires.labels)) ∙ ap (λ (l : List Label). Some (get_or l place Label.Low)) (sym c.as_slice-labels.ensures) in
    let mark : slice_get marks place ≡ Some (get_or marks place Mark.Forced) = slice_get-get_or marks place Mark.Forced (omega (arith, lt, c.requires.marks)) in
    let support : slice_get supports place ≡ Some c.from.result =
    slice_get-get_or supports place 0 (omega (arith, lt, c.requires.supports)) ∙ ap (λ n. Some n) (sym c.from.ensures) in
    let kept = subst (AreLinesOf (take place es) (take place labels) (take place marks) (take place supports)) (sym c.reserve.ensures.items) c.loop-place.invariant in
    subst (AreLinesOf (take (place + 1) es) (take (place + 1) labels) (take (place + 1) marks) (take (place + 1) supports)) (sym c.push_reserved.ensures.items)
    (lines_more es labels marks supports place c.reserve.new.items.items _ kept edge label mark support)

pub returns : goal.returns
returns c =
    let es = edges c.args.graph.now in
    let count = c.edge_count-place-end.ensures.count in
    subst (AreLinesOf es c.args.labels.now c.args.marks.now c.args.supports.now) (sym c.from_vec.ensures)
    (lines_all es c.args.labels.now c.args.marks.now c.args.supports.now c.loop-place.place c.loop-place.lines.items
    (omega (arith, count)) (omega (arith, count, c.requires.labels)) (omega (arith, count, c.requires.marks)) (omega (arith, count, c.requires.supports)) c.loop-place.invariant)
