use Rattle.std.proofs.Common.{◌≡◌, ◌+◌, ◌-◌, ◌<◌, length, refl, subst, arith}
use Rattle.std.proofs.lemmas.List.Elements.{All-contains}
use Rattle.std.proofs.lemmas.Result.{IfOk-from_err}
use Rattle.tor_arena.proofs.Gets.{Contains-from_has}
use Rattle.tor_digraph.proofs.Members.{read-at}
use Rattle.order_trials.specs.Candidates.{IsAgainst}
use Rattle.order_trials.proofs.Helds.{held_along}
use Rattle.forced_edges.proofs.MarkSteps.{IsProbing, begins, probing_next, all_right}
use Rattle.forced_edges.proofs.probing.probe_all.Goals as goal

pub loop-left-init : goal.loop-left-init
loop-left-init c = record {
  count = c.requires.count;
  room = omega arith;
  probing = begins c.args.problem.now c.args.shown.now.items c.args.against.now c.args.marks.now c.args.covered.now.items c.requires.unprobed
      c.requires.uncovered;
}

pub loop-left-preserved : goal.loop-left-preserved
loop-left-preserved c =
    let posed = c.args.problem.now in
    let facts = c.facts.ensures in
    let against = c.args.against.now in
    let left = c.loop-left.left in
    let test = c.loop-left-test.true in
    let room = c.loop-left.invariant.room in
    let below : left - 1 < length against = omega (arith, test, room) in
    let one : left ≡ left - 1 + 1 = omega (arith, test) in
    let node = c.index-against-left.result in
    let at = read-at against against (left - 1) node refl c.index-against-left.is below in
    let is = All-contains (IsAgainst posed.labels) against node c.requires.against.only (Contains-from_has against node (left - 1, at)) in
    let old = c.loop-left.covered.items in
    let new = c.probe_order.new.covered.items in
    let so = subst (λ k. IsProbing posed c.args.shown.now.items against c.args.marks.now k c.loop-left.marks old) one c.loop-left.invariant.probing in
    record {
      count = c.probe_order.ensures.count;
      room = omega (arith, room);
      probing = probing_next posed c.args.shown.now.items against c.args.marks.now facts.apart facts.posed.fits facts.posed.labelled c.requires.many
          c.requires.marked c.requires.settled facts.posed.only facts.partners
          (held_along posed.graph posed.labels facts.posed.labelled posed.formula facts.apart facts.posed.fits facts.posed.served)
          (left - 1) c.loop-left.marks (record c.loop-left.marks { probes = c.probe_order.new.probes }) node old new so at is refl refl c.in_ok-probe_order.ensures.probes;
    }

pub probe_order-requires : goal.probe_order-requires
probe_order-requires c =
    let against = c.args.against.now in
    let left = c.loop-left.left in
    let test = c.loop-left-test.true in
    let room = c.loop-left.invariant.room in
    let below : left - 1 < length against = omega (arith, test, room) in
    let node = c.index-against-left.result in
    let at = read-at against against (left - 1) node refl c.index-against-left.is below in
    record {
      there = All-contains (λ n. n < c.args.problem.now.formula.net.nodes) against node c.requires.against.inside (Contains-from_has against node (left - 1, at));
      shown = c.requires.shown;
      covered = c.loop-left.invariant.count;
      covers = c.loop-left.invariant.probing.cover.covers;
    }

pub returns-in_err-probe_order : goal.returns-in_err-probe_order
returns-in_err-probe_order c = IfOk-from_err c.from_residual.result _ c.from_residual.ensures.0

pub returns : goal.returns
returns c =
    let posed = c.args.problem.now in
    let facts = c.facts.ensures in
    let test = c.loop-left-test.false in
    let none : c.loop-left.left ≡ 0 = omega (arith, test) in
    let so = subst (λ k. IsProbing posed c.args.shown.now.items c.args.against.now c.args.marks.now k c.loop-left.marks c.loop-left.covered.items) none
    c.loop-left.invariant.probing in
    all_right posed c.args.shown.now.items c.args.against.now c.args.marks.now c.loop-left.marks c.loop-left.covered.items facts.apart facts.posed.fits c.requires.walks
    c.requires.marked c.requires.against.all so facts.posed.served c.requires.many
