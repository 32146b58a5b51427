use Rattle.std.proofs.Common.{ℕ, ◌<◌, List, length, take, get_or, sym, ◌∙◌, subst, arith, Contains}
use Rattle.std.proofs.lemmas.List.{take_all}
use Rattle.std.proofs.lemmas.List.Elements.{Contains-get_or}
use Rattle.tor_arena.proofs.Gets.{take_item, Contains-none}
use Rattle.line_rules.specs.Batches.{HasRuledOut}
use Rattle.line_rules.specs.Neighbours.{HasNext}
use Rattle.line_rules.proofs.RuledOut.{ruled-none, ruled_next}
use Rattle.line_rules.proofs.marks.batch.rule_out_around.Goals as goal

pub loop-edge-init : goal.loop-edge-init
loop-edge-init c =
    ruled-none c.args.implying.now c.args.round (λ k. (i : ℕ) × Contains (take 0 c.args.found.now) i × HasNext c.args.flips.now.conflicting i k) c.args.ruled.now.items
    c.requires.closed c.requires.latest (λ k h. Contains-none h.0 h.1)

pub rule_out-requires-clause-row : goal.rule_out-requires-clause-row
rule_out-requires-clause-row c = λ k d lt.
    let row = c.of-row.result.now in
    let within = c.requires.rows.conflicts c.edge-item.result (get_or row k d) (row, c.of-row.ensures, Contains-get_or row k d lt) in
    omega (arith, within, c.requires.rows.same, c.requires.rows.turned_many)

pub loop-edge-preserved : goal.loop-edge-preserved
loop-edge-preserved c =
    let found = c.args.found.now in
    let i = c.loop-edge.edge-index in
    let edge = c.edge-item.result in
    ruled_next c.args.implying.now c.args.round c.args.flips.now.conflicting found i edge c.of-row.result.now c.args.ruled.now.items c.loop-edge.ruled.items c.rule_out.new.ruled.items
    (take_item found i edge c.loop-edge-test.true c.edge-item.is) c.of-row.ensures c.loop-edge.invariant c.in_ok-rule_out.ensures

pub of-row-requires : goal.of-row-requires
of-row-requires c =
    let below = subst (λ k. k < length c.args.flips.now.implied) (sym c.edge-item.is) (c.requires.found c.loop-edge.edge-index c.edge-item.result c.loop-edge-test.true) in
    omega (arith, below, c.requires.rows.same)

pub rule_out-requires-clause-many : goal.rule_out-requires-clause-many
rule_out-requires-clause-many c = c.loop-edge.invariant.many ∙ c.requires.many ∙ sym c.requires.rows.turned_many

pub rule_out-requires-clause-inside : goal.rule_out-requires-clause-inside
rule_out-requires-clause-inside c = c.requires.rows.turned_inside

pub rule_out-requires-clause-closed : goal.rule_out-requires-clause-closed
rule_out-requires-clause-closed c = c.loop-edge.invariant.closed

pub rule_out-requires-clause-latest : goal.rule_out-requires-clause-latest
rule_out-requires-clause-latest c = c.loop-edge.invariant.latest

pub returns : goal.returns
returns c =
    subst (λ (found : List ℕ). HasRuledOut c.args.implying.now c.args.round (λ k. (i : ℕ) × Contains found i × HasNext c.args.flips.now.conflicting i k) c.args.ruled.now.items c.loop-edge.ruled.items)
    (take_all c.loop-edge.edge-index c.args.found.now (omega (arith, c.loop-edge-test.false))) c.loop-edge.invariant
