use Rattle.std.proofs.Common.{rules, ◌≡◌, ◌<◌, ◌≤◌, ◌+◌, length, get_or, sym, ap, ◌∙◌, subst, arith}
use Rattle.relationships.specs.Relationship.{opposite}
use Rattle.as_graph.specs.declared.step.Step.{Step}
use Rattle.gao_prefs.specs.Ends.{along, number_at}
use Rattle.gao_prefs.proofs.TopLemmas.{IsTopSoFar, higher, no_higher, top_is, length-along, along_next}
use Rattle.gao_prefs.proofs.top.top_place.Goals as goal
use Rattle.gao_prefs.proofs.top.top_place.Goals.{then-highest-reached, else-highest-reached}

pub loop-place-preserved : goal.loop-place-preserved
loop-place-preserved c =
    let table = c.args.degrees.now in
    let steps = c.args.steps.now in
    let place = c.loop-place.place in
    let step = c.index-steps-place.result in
    let reached : c.of-reached.result ≡ number_at table step.edge (opposite step.left) = search rules in
    let here : get_or (along table steps) (place + 1) 0 ≡ c.of-reached.result =
    along_next table steps place step c.loop-place-test.true ∙ ap (λ (s : Step). number_at table s.edge (opposite s.left)) (sym c.index-steps-place.is) ∙ sym reached in
    elim c.if-highest-reached.branch [
      | then-highest-reached w ↦
          let less = w.if-highest-reached.true in
          let lt : c.loop-place.highest < c.of-reached.result = omega (arith, less) in
          rw (w.top-is, w.highest-is) (higher (along table steps) (place + 1) c.loop-place.top c.loop-place.highest c.of-reached.result c.loop-place.invariant here lt)
      | else-highest-reached w ↦
          let not_less = w.if-highest-reached.false in
          let le : c.of-reached.result ≤ c.loop-place.highest = omega (arith, not_less) in
          rw (w.top-is, w.highest-is) (no_higher (along table steps) (place + 1) c.loop-place.top c.loop-place.highest c.of-reached.result c.loop-place.invariant here le)
    ]

pub returns-clause-top : goal.returns-clause-top
returns-clause-top c =
    let table = c.args.degrees.now in
    let steps = c.args.steps.now in
    let some : 0 < length steps = search rules in
    let n = length-along table steps some in
    let end : c.loop-place.place + 1 ≡ length (along table steps) = omega (arith, n) in
    top_is (along table steps) c.loop-place.top c.loop-place.highest (subst (λ m. IsTopSoFar (along table steps) m c.loop-place.top c.loop-place.highest) end c.loop-place.invariant)
