use Rattle.std.proofs.Common.{◌≡◌, ◌∙◌, ◌<◌, ◌+◌, ◌-◌, suc, ap, ap₂, sym, arith, rules, length, slice_index, slice_get, Some}
use Rattle.std.proofs.lemmas.List.{get_or_default}
use Rattle.tor_arena.specs.RowLists.{between}
use Rattle.as_graph.proofs.PartedRows.{bounds-rise, length-rows_between, slice_get-rows_between}
use Rattle.as_graph.proofs.step_rows.StepRows.row.Goals as goal

pub index-requires : goal.index-requires
index-requires c =
    let n : length c.args.self.now ≡ length c.self.inside.bounds.items - 1 = ap length (sym c.self.view_is) ∙ length-rows_between c.self.inside.steps.items c.self.inside.bounds.items in
    let there = c.requires in
    let at = c.place-place.ensures.place in
    omega (arith, n, there, at)

pub index-requires-2 : goal.index-requires-2
index-requires-2 c =
    let n : length c.args.self.now ≡ length c.self.inside.bounds.items - 1 = ap length (sym c.self.view_is) ∙ length-rows_between c.self.inside.steps.items c.self.inside.bounds.items in
    let there = c.requires in
    let at = c.place-place.ensures.place in
    omega (arith, n, there, at)

pub part-requires-clause-first : goal.part-requires-clause-first
part-requires-clause-first c =
    let items = c.self.inside.steps.items in
    let bounds = c.self.inside.bounds.items in
    let place = c.place-place.result in
    let n : length c.args.self.now ≡ length bounds - 1 = ap length (sym c.self.view_is) ∙ length-rows_between items bounds in
    let there = c.requires in
    let named = c.place-place.ensures.place in
    let lt : suc place < length bounds = omega (arith, n, there, named) in
    let next : place + 1 ≡ suc place = omega arith in
    let start : c.index.result.now ≡ slice_index bounds place = c.index.ensures ∙ get_or_default bounds place c.index.result.now 0 (omega (arith, lt)) in
    let end : c.index-2.result.now ≡ slice_index bounds (suc place) =
    c.index-2.ensures ∙ get_or_default bounds (place + 1) c.index-2.result.now 0 (omega (arith, lt)) ∙ ap (slice_index bounds) next in
    let low = (bounds-rise bounds (length items) place c.self.invariant.1 lt).0 in
    omega (arith, start, end, low)

pub part-requires-clause-last : goal.part-requires-clause-last
part-requires-clause-last c =
    let items = c.self.inside.steps.items in
    let bounds = c.self.inside.bounds.items in
    let place = c.place-place.result in
    let n : length c.args.self.now ≡ length bounds - 1 = ap length (sym c.self.view_is) ∙ length-rows_between items bounds in
    let there = c.requires in
    let named = c.place-place.ensures.place in
    let lt : suc place < length bounds = omega (arith, n, there, named) in
    let next : place + 1 ≡ suc place = omega arith in
    let end : c.index-2.result.now ≡ slice_index bounds (suc place) =
    c.index-2.ensures ∙ get_or_default bounds (place + 1) c.index-2.result.now 0 (omega (arith, lt)) ∙ ap (slice_index bounds) next in
    let high = (bounds-rise bounds (length items) place c.self.invariant.1 lt).1 in
    let same = ap length c.as_slice.ensures.value in
    omega (arith, end, high, same)

pub returns : goal.returns
returns c =
    let items = c.self.inside.steps.items in
    let bounds = c.self.inside.bounds.items in
    let place = c.place-place.result in
    let n : length c.args.self.now ≡ length bounds - 1 = ap length (sym c.self.view_is) ∙ length-rows_between items bounds in
    let there = c.requires in
    let named = c.place-place.ensures.place in
    let lt : suc place < length bounds = omega (arith, n, there, named) in
    let next : place + 1 ≡ suc place = omega arith in
    let start : c.index.result.now ≡ slice_index bounds place = c.index.ensures ∙ get_or_default bounds place c.index.result.now 0 (omega (arith, lt)) in
    let end : c.index-2.result.now ≡ slice_index bounds (suc place) =
    c.index-2.ensures ∙ get_or_default bounds (place + 1) c.index-2.result.now 0 (omega (arith, lt)) ∙ ap (slice_index bounds) next in
    let row : c.part.result.now ≡ between items (slice_index bounds place) (slice_index bounds (suc place)) = search rules in
    ap₂ (λ rs k. slice_get rs k) (sym c.self.view_is) (sym named) ∙ slice_get-rows_between items bounds place lt ∙ ap (λ r. Some r) (sym row)
