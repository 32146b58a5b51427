use Rattle.std.proofs.Common.{rules, ◌≡◌, ◌+◌, true, false, Some, get_or, slice_get, length, take, sym, ◌∙◌, arith}
use Rattle.std.proofs.lemmas.Option.{slice_get-get_or}
use Rattle.relationships.specs.declared.given.Given.{Given}
use Rattle.relationships.specs.Givens.{names_edge}
use Rattle.rel_infer.proofs.Relinked.{some_then, none_then, number_more, number_same}
use Rattle.rel_infer.proofs.returns.numbers_of.Goals as goal
use Rattle.rel_infer.proofs.returns.numbers_of.Goals.{then-is_some+in_ok-push, else-is_some}

pub loop-place-preserved : goal.loop-place-preserved
loop-place-preserved c =
    let givens = c.args.givens.now in
    let graph = c.args.graph.now in
    let place = c.loop-place.place in
    let lt = c.loop-place-test.true in
    let g : Given = get_or givens place (record { over = 0; under = 0 }) in
    let at : slice_get givens place ≡ Some g = slice_get-get_or givens place (record { over = 0; under = 0 }) lt in
    let short : length (take place givens) ≡ place = search rules in
    elim c.if-is_some.branch [
      | then-is_some+in_ok-push w ↦
          let named : names_edge graph g ≡ true = some_then c.edge_between.result (names_edge graph g) (sym c.is_some.ensures ∙ w.if-is_some.true) c.edge_between.ensures.none in
          w.numbers-is ∙ number_more graph givens place g at short c.loop-place.numbers w.push.new.self (place + 1) named c.loop-place.invariant w.in_ok-push.ensures.ok (omega arith)
      | else-is_some w ↦
          let named : names_edge graph g ≡ false = none_then c.edge_between.result (names_edge graph g) (sym c.is_some.ensures ∙ w.if-is_some.false) c.edge_between.ensures.none in
          w.numbers-is ∙ number_same graph givens place g at short c.loop-place.numbers named c.loop-place.invariant
    ]
