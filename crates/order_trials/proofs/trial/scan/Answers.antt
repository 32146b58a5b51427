use Rattle.std.proofs.Common.{refl, subst, arith}
use Rattle.std.proofs.lemmas.Option.{slice_get_within}
use Rattle.tor_digraph.proofs.Members.{read-at}
use Rattle.order_trials.specs.Trials.{LooksAt}
use Rattle.order_trials.proofs.Trying.{all_passed_more, scan_next, scan_done}
use Rattle.order_trials.proofs.trial.scan.Goals as goal

pub loop-entry-init : goal.loop-entry-init
loop-entry-init c = record {
  count = c.requires.count;
  kept = λ k x at. at;
  trial = λ start t. t;
  before = c.requires.so_far;
  heads = λ j e lt. absurd (omega (arith, lt));
}

pub look-requires-clause-there : goal.look-requires-clause-there
look-requires-clause-there c =
    let row = c.row-entry-items.result.now in
    let e = c.entry-item.result in
    let at = read-at row row c.loop-entry.entry-index e refl c.entry-item.is c.loop-entry-test.true in
    let arc = c.row-entry-items.ensures.only c.loop-entry.entry-index e at in
    c.facts.ensures.inside.heads e.0 c.get-node.result e.1 arc

pub look-requires-clause-tail : goal.look-requires-clause-tail
look-requires-clause-tail c =
    let row = c.row-entry-items.result.now in
    let e = c.entry-item.result in
    let at = read-at row row c.loop-entry.entry-index e refl c.entry-item.is c.loop-entry-test.true in
    let arc = c.row-entry-items.ensures.only c.loop-entry.entry-index e at in
    (c.get-node.result, arc, c.loop-entry.invariant.kept c.args.place c.get-node.result c.get-node.ensures.node)

pub loop-entry-preserved : goal.loop-entry-preserved
loop-entry-preserved c =
    let posed = c.args.problem.now in
    let arcs = posed.formula.net.arcs in
    let row = c.row-entry-items.result.now in
    let e = c.entry-item.result in
    let at = read-at row row c.loop-entry.entry-index e refl c.entry-item.is c.loop-entry-test.true in
    let old = c.loop-entry.trail.nodes.items in
    let new = c.look.new.trail.nodes.items in
    let stays = c.in_ok-look.ensures.kept in
    let lt = slice_get_within old c.args.place c.get-node.result (c.loop-entry.invariant.kept c.args.place c.get-node.result c.get-node.ensures.node) in
    let passed = subst (LooksAt arcs posed.held c.args.past.now.items new c.args.place e.0 e.1) c.if-branch.false c.in_ok-look.ensures.looked in
    record {
      count = c.look.ensures.count;
      kept = λ k x at-k. stays k x (c.loop-entry.invariant.kept k x at-k);
      trial = λ start t. c.in_ok-look.ensures.trial start (c.loop-entry.invariant.trial start t);
      before = all_passed_more arcs posed.held c.args.past.now.items old new c.args.place (omega (arith, lt)) stays c.loop-entry.invariant.before;
      heads = scan_next arcs posed.held c.args.past.now.items row c.loop-entry.entry-index old new c.args.place e lt stays c.loop-entry.invariant.heads at passed;
    }

pub returns-clause-passed : goal.returns-clause-passed
returns-clause-passed c =
    let posed = c.args.problem.now in
    let nodes = c.loop-entry.trail.nodes.items in
    let test = c.loop-entry-test.false in
    let end = c.loop-entry.auto.entry-index-end in
    scan_done posed.formula.net.arcs posed.held c.args.past.now.items c.row-entry-items.result.now c.loop-entry.entry-index nodes c.args.place c.get-node.result
    (c.loop-entry.invariant.kept c.args.place c.get-node.result c.get-node.ensures.node) c.row-entry-items.ensures (omega (arith, test, end))
    c.loop-entry.invariant.heads c.loop-entry.invariant.before

pub returns-then-branch-clause-trial : goal.returns-then-branch-clause-trial
returns-then-branch-clause-trial c = λ start t. c.in_ok-look.ensures.trial start (c.loop-entry.invariant.trial start t)
