use Rattle.std.proofs.Common.{◌+◌, ◌≤◌, length, take, subst, sym, arith}
use Rattle.std.proofs.lemmas.List.{take_all}
use Rattle.std.proofs.lemmas.Option.{slice_get-get_or}
use Rattle.line_rules.specs.GivenLabels.{HasLabelsAt}
use Rattle.line_rules.specs.Breaches.{First}
use Rattle.tor_arena.proofs.Gets.{take_get}
use Rattle.line_rules.proofs.GivenPlaces.{labels_more}
use Rattle.line_rules.proofs.edges.given_labels.find_contradicted.Goals as goal

pub loop-given-preserved : goal.loop-given-preserved
loop-given-preserved c =
    let lines = c.args.labels.now in
    let givens = c.args.givens.now in
    let i = c.loop-given.given-index in
    subst (First (HasLabelsAt lines (take (i + 1) givens)) (length lines)) (sym c.lesser_place-first.ensures)
    (labels_more lines (take i givens) (take (i + 1) givens) _ c.loop-given.first c.contradicted_by.result (take_get givens i _ (slice_get-get_or givens i _ c.loop-given-test.true))
    c.loop-given.invariant c.contradicted_by.ensures)

pub returns : goal.returns
returns c =
    let lines = c.args.labels.now in
    let all : length c.args.givens.now ≤ c.loop-given.given-index = omega (arith, c.loop-given-test.false) in
    subst (λ gs. First (HasLabelsAt lines gs) (length lines) c.loop-given.first) (take_all c.loop-given.given-index c.args.givens.now all) c.loop-given.invariant
