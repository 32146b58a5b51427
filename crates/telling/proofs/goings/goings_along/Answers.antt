use Rattle.std.proofs.Common.{◌≡◌, ◌+◌, ◌-◌, ◌<◌, ◌≤◌, ◌∷◌, [], ◌++◌, ℕ, List, Some, slice_get, length, get_or, map, take, sym, ap, ap₂, ◌∙◌, subst, arith}
use Rattle.std.proofs.lemmas.List.{map-append}
use Rattle.std.proofs.lemmas.Option.{slice_get-get_or, slice_get_within, get_or_from_slice_get}
use Rattle.relationships.specs.Relationship.{slope, slopes}
use Rattle.relationships.specs.Graph.{edge_of}
use Rattle.result_rules.specs.File.{its_labels}
use Rattle.telling.specs.declared.told.Going.{Going}
use Rattle.telling.specs.Labelling.{HasStep}
use Rattle.telling.specs.Told.{going_of}
use Rattle.telling.proofs.SlopeLemmas.{slopes_more}
use Rattle.telling.proofs.PathLemmas.{apart, listed, label_found}
use Rattle.telling.proofs.goings.goings_along.Goals as goal

abbrev step_at : (path : List ℕ) (end : ℕ) → 1 ≤ end → end < length path → HasStep path (end - 1) (get_or path (end - 1) 0) (get_or path end 0)
step_at path end one lt =
    let e : end - 1 + 1 ≡ end = omega (arith, one) in (
      slice_get-get_or path (end - 1) 0 (omega (arith, one, lt)),
      subst (λ n. slice_get path n ≡ Some (get_or path end 0)) (sym e) (slice_get-get_or path end 0 lt),
    )

pub unreachable-requires : goal.unreachable-requires
unreachable-requires c =
    let path = c.args.path.now in
    let end = c.loop-at.at in
    let lt : end < length path = omega (arith, c.loop-at-test.true, c.loop-at.auto.at-end) in
    let one = c.loop-at.invariant.0 in
    c.in_default.ensures.found
    (c.requires.edges (end - 1) (get_or path (end - 1) 0) (get_or path end 0) (omega (arith, one, lt)) (step_at path end one lt))

pub index-requires : goal.index-requires
index-requires c =
    let lt = slice_get_within c.args.table.now c.in-Some.place _ c.in-Some.ensures.found in
    let labels = c.in_ok-labels.labels in
    omega (arith, lt, c.in_ok-labels.ensures.many, labels.ok.0)

pub loop-at-preserved : goal.loop-at-preserved
loop-at-preserved c =
    let file = c.args.file.now in
    let path = c.args.path.now in
    let end = c.loop-at.at in
    let a = get_or path (end - 1) 0 in
    let b = get_or path end 0 in
    let L = its_labels file in
    let lt : end < length path = omega (arith, c.loop-at-test.true, c.loop-at.auto.at-end) in
    let one = c.loop-at.invariant.0 in
    let step = step_at path end one lt in
    let labels = c.in_ok-labels.labels.items in
    let its = label_found file c.requires.accepted (edge_of a b) c.args.table.now labels c.in-Some.place (listed file c.requires.accepted path c.requires.there (end - 1) a b step)
    c.in_ok-labels.ensures.labels c.in-Some.ensures.found in
    let read : c.index.result.now ≡ L (edge_of a b).0 (edge_of a b).1 =
    c.index.ensures ∙ get_or_from_slice_get labels c.in-Some.place (L (edge_of a b).0 (edge_of a b).1) c.index.result.now its in
    let goes = c.going_by.ensures L (apart file c.requires.accepted path c.requires.there (end - 1) a b step) (sym read) in
    let more = slopes_more L path end 0 (omega (arith, one)) lt in (
      omega arith,
      c.in-Ok.ensures.ok ∙ ap₂ (λ (l : List Going) (g : Going). l ++ g ∷ []) c.loop-at.invariant.1 goes
          ∙ sym (ap (map going_of) more ∙ map-append going_of (slopes L (take end path)) (slope L a b ∷ [])),
    )
