use Rattle.std.proofs.Common.{rules, ◌≡◌, ◌+◌, length, subst, arith}
use Rattle.std.specs.Prelude.{IfNone}
use Rattle.std.proofs.lemmas.Option.{slice_get_within}
use Rattle.tor_arena.proofs.Gets.{slice_get-some}
use Rattle.order_trials.specs.Trials.{ArePassed}
use Rattle.tor_digraph.proofs.Trails.{trail_begun}
use Rattle.order_trials.proofs.trial.search.Goals as goal

pub loop-next-init : goal.loop-next-init
loop-next-init c = record {
  count = search rules;
  trial = trail_begun c.args.problem.now.formula.net.arcs c.begin.new.self c.args.start c.in_ok-begin.ensures.nodes c.in_ok-begin.ensures.origins;
  within = omega arith;
  passed = λ k x lt at. absurd (omega (arith, lt));
}

pub loop-next-preserved : goal.loop-next-preserved
loop-next-preserved c =
    let posed = c.args.problem.now in
    let old = slice_get-some c.loop-next.trail.nodes.items c.loop-next.next (omega (arith, c.loop-next-test.true, c.len.ensures)) in
    let lt = slice_get_within c.scan.new.trail.nodes.items c.loop-next.next old.0 (c.in_ok-clash.ensures.kept c.loop-next.next old.0 old.1) in
    record {
      count = c.scan.ensures.count;
      trial = c.in_ok-clash.ensures.trial c.args.start c.loop-next.invariant.trial;
      within = omega (arith, lt);
      passed = subst (λ o. IfNone o (ArePassed posed.formula.net.arcs posed.held c.args.past.now.items c.scan.new.trail.nodes.items (c.loop-next.next + 1)))
          c.in_default.is c.in_ok-clash.ensures.passed;
    }

pub returns-clause-passed : goal.returns-clause-passed
returns-clause-passed c =
    let posed = c.args.problem.now in
    let nodes = c.loop-next.trail.nodes.items in
    let test = c.loop-next-test.false in
    let len = c.len.ensures in
    let within = c.loop-next.invariant.within in
    let same : c.loop-next.next ≡ length nodes = omega (arith, test, len, within) in
    subst (ArePassed posed.formula.net.arcs posed.held c.args.past.now.items nodes) same c.loop-next.invariant.passed

pub loop-next-smaller : goal.loop-next-smaller
loop-next-smaller c = omega (arith, c.loop-next-test.true, c.len.type_inv)

pub overflow_add-next : goal.overflow_add-next
overflow_add-next c = record { fits = omega (arith, c.loop-next-test.true, c.len.type_inv) }
