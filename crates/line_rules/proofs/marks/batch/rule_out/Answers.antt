use Rattle.std.proofs.Common.{◌≡◌, ◌+◌, ◌<◌, ℕ, List, length, take, sym, ◌∙◌, subst, arith, Contains}
use Rattle.std.proofs.lemmas.List.{take_all}
use Rattle.std.proofs.lemmas.List.Elements.{Contains-push_cases}
use Rattle.tor_arena.proofs.Gets.{take_item, Contains-none}
use Rattle.line_rules.specs.Batches.{HasRuledOut}
use Rattle.line_rules.proofs.RuledOut.{ruled-none, ruled-one, ruled-more}
use Rattle.line_rules.proofs.marks.batch.rule_out.Goals as goal

pub loop-edge-init : goal.loop-edge-init
loop-edge-init c =
    ruled-none c.args.implying.now c.args.round (Contains (take 0 c.args.row.now)) c.args.ruled.now.items c.requires.closed c.requires.latest (λ k h. Contains-none k h)

pub loop-edge-preserved : goal.loop-edge-preserved
loop-edge-preserved c =
    let implying = c.args.implying.now in
    let row = c.args.row.now in
    let i = c.loop-edge.edge-index in
    let edge = c.edge-item.result in
    let so_far = c.loop-edge.invariant in
    ruled-more implying c.args.round (Contains (take i row)) (λ k. edge ≡ k) (Contains (take (i + 1) row)) c.args.ruled.now.items c.loop-edge.ruled.items c.reach.new.rounds.items
    so_far (ruled-one implying c.args.round edge c.loop-edge.ruled.items c.reach.new.rounds.items c.reach.new.found so_far.closed so_far.latest c.in_ok-reach.ensures)
    (λ k h. Contains-push_cases (take i row) edge k (subst (λ (l : List ℕ). Contains l k) (take_item row i edge c.loop-edge-test.true c.edge-item.is) h))

pub reach-requires-clause-start : goal.reach-requires-clause-start
reach-requires-clause-start c =
    subst (λ k. k < length c.args.implying.now) (sym c.edge-item.is) (c.requires.row c.loop-edge.edge-index c.edge-item.result c.loop-edge-test.true)

pub reach-requires-clause-many : goal.reach-requires-clause-many
reach-requires-clause-many c = c.loop-edge.invariant.many ∙ c.requires.many

pub reach-requires-clause-inside : goal.reach-requires-clause-inside
reach-requires-clause-inside c = c.requires.inside

pub reach-requires-clause-closed : goal.reach-requires-clause-closed
reach-requires-clause-closed c = c.loop-edge.invariant.closed

pub returns : goal.returns
returns c =
    subst (λ row. HasRuledOut c.args.implying.now c.args.round (Contains row) c.args.ruled.now.items c.loop-edge.ruled.items)
    (take_all c.loop-edge.edge-index c.args.row.now (omega (arith, c.loop-edge-test.false))) c.loop-edge.invariant
