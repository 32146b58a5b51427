use Rattle.std.proofs.Common.{rules, ◌≡◌, ◌+◌, ◌-◌, ◌<◌, ◌∙◌, length, get_or, slice_get, Some, subst, sym, ap, arith, List, [], ◌∷◌, ◌++◌, append_assoc}
use Rattle.relationships.specs.Graph.{edge_of}
use Rattle.relationships.proofs.Serving.{differ_before}
use Rattle.tor_numbers.specs.Edges.{with_edge}
use Rattle.as_graph.specs.Steps.{IsStep}
use Rattle.as_graph.specs.declared.step.Step.{Step}
use Rattle.as_graph.proofs.StepLemmas.{Walked-room, Walked-more}
use Rattle.as_graph.proofs.RowLemmas.{added_begin, added_all}
use Rattle.as_graph.proofs.building.add_steps.Goals as goal
use Rattle.as_graph.proofs.building.add_steps.Goals.{in-Some, in-None+in_ok-edge-in-None}

pub add_new-requires-clause-apart : goal.add_new-requires-clause-apart
add_new-requires-clause-apart c =
    let low : 0 < c.loop-at.at = search rules in
    let high : c.loop-at.at < length c.args.path.now = search rules in
    differ_before c.args.path.now c.loop-at.at 0 c.requires.apart low high

pub add_new-requires-clause-room : goal.add_new-requires-clause-room
add_new-requires-clause-room c =
    let h = Walked-room c.args.edges.now c.loop-at.edges c.args.path.now c.loop-at.at c.loop-at.invariant.0.added c.loop-at.invariant.0.walked c.loop-at-test.true in
    let room = c.requires.room in
    omega (arith, h, room)

pub loop-at-preserved : goal.loop-at-preserved
loop-at-preserved c =
    let path = c.args.path.now in
    let at = c.loop-at.at in
    let old = c.loop-at.edges in
    let new = c.match-find.edges in
    let edge = edge_of (get_or path (at - 1) 0) (get_or path at 0) in
    let added : new ≡ with_edge old edge =
    elim c.match-find.branch [
      | in-Some w ↦ w.edges-is ∙ sym w.in-Some.ensures.there
      | in-None+in_ok-edge-in-None w ↦ w.edges-is ∙ w.in_ok-edge-in-None.ensures.ok
    ] in
    let there : slice_get new c.match-find.edge ≡ Some edge =
    elim c.match-find.branch [
      | in-Some w ↦
          subst (λ es. slice_get es c.match-find.edge ≡ Some edge) (sym w.edges-is) (subst (λ k. slice_get old k ≡ Some edge) (sym w.edge-is) w.in-Some.ensures.edge)
      | in-None+in_ok-edge-in-None w ↦
          subst (λ es. slice_get es c.match-find.edge ≡ Some edge) (sym w.edges-is)
          (subst (λ k. slice_get w.add_new.new.self k ≡ Some edge) (sym w.edge-is) w.in_ok-edge-in-None.ensures.edge)
    ] in
    let stepped : IsStep new (get_or path (at - 1) 0) (get_or path at 0) c.step_on.result =
    (subst (λ k. slice_get new k ≡ Some edge) (sym c.step_on.ensures.edge) there, c.step_on.ensures.left) in
    let h = c.loop-at.invariant.0 in (
      record {
        added = h.added ++ c.step_on.result ∷ [];
        whole = c.push_reserved.ensures.items ∙ ap (λ (l : List Step). l ++ c.step_on.result ∷ []) h.whole ∙ append_assoc c.args.steps.now.items h.added (c.step_on.result ∷ []);
        walked = Walked-more c.args.edges.now old path at h.added c.step_on.result new h.walked c.loop-at-test.true added stepped;
      },
      search rules,
    )

pub loop-at-init : goal.loop-at-init
loop-at-init c = (added_begin c.args.edges.now c.args.path.now c.args.steps.now.items _ c.in_ok-reserve.ensures.items, search rules)

pub returns-clause-edges : goal.returns-clause-edges
returns-clause-edges c =
    let end : length c.args.path.now < c.loop-at.at + 1 = omega (arith, c.loop-at-test.false) in
    (added_all c.args.edges.now c.loop-at.edges c.args.path.now c.loop-at.at c.args.steps.now.items c.loop-at.steps.items c.loop-at.invariant.0 end).0

pub returns-clause-steps : goal.returns-clause-steps
returns-clause-steps c =
    let end : length c.args.path.now < c.loop-at.at + 1 = omega (arith, c.loop-at-test.false) in
    (added_all c.args.edges.now c.loop-at.edges c.args.path.now c.loop-at.at c.args.steps.now.items c.loop-at.steps.items c.loop-at.invariant.0 end).1
