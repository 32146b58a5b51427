use Rattle.std.proofs.Common.{rules, ◌≡◌, ◌∙◌, ◌++◌, ◌∷◌, [], ℕ, List, Some, slice_get, length, subst, ap, arith}
use Rattle.tor_arena.specs.Distinct.{AllDistinct}
use Rattle.tor_arena.specs.RowLists.{rows_between}
use Rattle.relationships.proofs.Serving.{differ_if_distinct}
use Rattle.std.proofs.lemmas.Option.{get_or_from_slice_get, slice_get_within}
use Rattle.std.proofs.lemmas.List.Elements.{All-get_or}
use Rattle.as_graph.specs.Inside.{AreRowsOf}
use Rattle.as_graph.proofs.BuildLemmas.{IsBuilt-room}
use Rattle.as_graph.proofs.RowLemmas.{rows_begin, rows_more}
use Rattle.as_graph.proofs.building.add_paths.Goals as goal

pub loop-place-init : goal.loop-place-init
loop-place-init c =
    rows_begin c.args.paths.now c.args.edges.now c.args.steps.now.items c.push_bound.new.bounds.items c.requires.empty c.requires.none
    (c.in_ok-push_bound.ensures.ok ∙ ap (λ (l : List ℕ). l ++ 0 ∷ []) c.requires.first)

pub add_steps-requires-clause-room : goal.add_steps-requires-clause-room
add_steps-requires-clause-room c =
    let placed : c.unwrap-path.result ≡ c.loop-place.place = search rules in
    let there : slice_get c.args.paths.now c.loop-place.place ≡ Some c.row.result.now = subst (λ k. slice_get c.args.paths.now k ≡ Some c.row.result.now) placed c.row.ensures in
    IsBuilt-room c.args.paths.now c.loop-place.place c.loop-place.edges (rows_between c.loop-place.steps.items c.loop-place.bounds.items) c.row.result.now
    c.loop-place.invariant.built there c.requires.several c.requires.short

pub add_steps-requires-clause-apart : goal.add_steps-requires-clause-apart
add_steps-requires-clause-apart c =
    let placed : c.unwrap-path.result ≡ c.loop-place.place = search rules in
    let there : slice_get c.args.paths.now c.loop-place.place ≡ Some c.row.result.now = subst (λ k. slice_get c.args.paths.now k ≡ Some c.row.result.now) placed c.row.ensures in
    let within = slice_get_within c.args.paths.now c.loop-place.place c.row.result.now there in
    differ_if_distinct c.row.result.now
    (subst AllDistinct (get_or_from_slice_get c.args.paths.now c.loop-place.place c.row.result.now [] there)
    (All-get_or AllDistinct c.args.paths.now c.loop-place.place [] within c.requires.apart))

pub loop-place-preserved : goal.loop-place-preserved
loop-place-preserved c =
    let paths = c.args.paths.now in
    let place = c.loop-place.place in
    let path = c.row.result.now in
    let placed : c.unwrap-path.result ≡ place = search rules in
    let there : slice_get paths place ≡ Some path = subst (λ k. slice_get paths k ≡ Some path) placed c.row.ensures in
    let ends : c.push_bound-in-loop-place.new.bounds.items ≡ c.loop-place.bounds.items ++ length c.add_steps.new.steps.items ∷ [] = search rules in
    rows_more paths place c.loop-place.edges c.loop-place.steps.items c.loop-place.bounds.items path c.add_steps.new.edges c.add_steps.new.steps.items
    c.push_bound-in-loop-place.new.bounds.items c.loop-place.invariant there c.in_ok-add_steps.ensures.edges c.in_ok-add_steps.ensures.steps ends

pub returns : goal.returns
returns c =
    let paths = c.args.paths.now in
    let end : c.loop-place.place ≡ length paths = omega (arith, c.loop-place-test.false, c.loop-place.auto.place-end, c.len-place-end.ensures.length) in
    subst (λ n. AreRowsOf paths n c.loop-place.edges c.loop-place.steps.items c.loop-place.bounds.items) end c.loop-place.invariant
