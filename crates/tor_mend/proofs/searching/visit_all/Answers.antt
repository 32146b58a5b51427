use Rattle.std.proofs.Common.{◌≡◌, ◌∙◌, ◌+◌, length, ap, subst, arith}
use Rattle.std.specs.Prelude.{slice_get, IfNone, IfSome}
use Rattle.std.proofs.lemmas.Option.{slice_get_within}
use Rattle.tor_arena.proofs.Gets.{slice_get-some}
use Rattle.tor_digraph.proofs.Trails.{trail_begun}
use Rattle.tor_mend.specs.Searches.{ArePassed, IsStop}
use Rattle.tor_mend.proofs.Scans.{stopped}
use Rattle.tor_mend.proofs.Passing.{unheld_begun}
use Rattle.tor_mend.proofs.searching.visit_all.Goals as goal

pub loop-next-preserved : goal.loop-next-preserved
loop-next-preserved c =
    let old = slice_get-some c.loop-next.trail.nodes.items c.loop-next.next (omega (arith, c.loop-next-test.true, c.len.ensures)) in
    let lt = slice_get_within c.scan.new.trail.nodes.items c.loop-next.next old.0 (c.scan.ensures.stays c.loop-next.next old.0 old.1) in
    record {
      count = c.scan.ensures.count;
      trail = c.in_ok-stop.ensures.trail c.args.start c.loop-next.invariant.trail;
      unheld = c.in_ok-stop.ensures.unheld c.loop-next.invariant.unheld;
      within = omega (arith, lt);
      passed = subst (λ o. IfNone o (ArePassed c.args.digraph.now.arcs c.args.ends.now c.scan.new.trail.nodes.items (c.loop-next.next + 1))) c.in_default-2.is c.in_ok-stop.ensures.passed;
    }

pub loop-next-init : goal.loop-next-init
loop-next-init c = record {
  count = c.begin.ensures.count ∙ c.requires.count;
  trail = trail_begun c.args.digraph.now.arcs c.begin.new.self c.args.start c.in_ok-begin.ensures.nodes c.in_ok-begin.ensures.origins;
  unheld = unheld_begun c.args.ends.now c.begin.new.self.nodes.items c.args.start c.requires.unheld c.in_ok-begin.ensures.nodes;
  within = omega arith;
  passed = λ k x lt at. absurd (omega (arith, lt));
}

pub returns-in_err-begin-clause-count : goal.returns-in_err-begin-clause-count
returns-in_err-begin-clause-count c = c.begin.ensures.count ∙ c.requires.count

pub returns-in-Some-clause-count : goal.returns-in-Some-clause-count
returns-in-Some-clause-count c = c.begin.ensures.count ∙ c.requires.count

pub returns-in-Some-clause-trail : goal.returns-in-Some-clause-trail
returns-in-Some-clause-trail c = trail_begun c.args.digraph.now.arcs c.begin.new.self c.args.start c.in_ok-begin.ensures.nodes c.in_ok-begin.ensures.origins

pub returns-in-Some-clause-unheld : goal.returns-in-Some-clause-unheld
returns-in-Some-clause-unheld c = unheld_begun c.args.ends.now c.begin.new.self.nodes.items c.args.start c.requires.unheld c.in_ok-begin.ensures.nodes

pub returns-in-Some-clause-stop : goal.returns-in-Some-clause-stop
returns-in-Some-clause-stop c =
    let arcs = c.args.digraph.now.arcs in
    let known = c.args.known.now.places.items in
    let nodes = c.begin.new.self.nodes.items in
    subst (λ o. IfSome o (IsStop arcs known nodes)) c.in-Some.is
    (stopped arcs known nodes c.args.start 0 c.stop_at.result (ap (λ l. slice_get l 0) c.in_ok-begin.ensures.nodes) c.stop_at.ensures)

pub returns-in-Some-2-clause-trail : goal.returns-in-Some-2-clause-trail
returns-in-Some-2-clause-trail c = c.in_ok-stop.ensures.trail c.args.start c.loop-next.invariant.trail

pub returns-in-Some-2-clause-unheld : goal.returns-in-Some-2-clause-unheld
returns-in-Some-2-clause-unheld c = c.in_ok-stop.ensures.unheld c.loop-next.invariant.unheld

pub returns-in-Some-2-clause-stop : goal.returns-in-Some-2-clause-stop
returns-in-Some-2-clause-stop c =
    subst (λ o. IfSome o (IsStop c.args.digraph.now.arcs c.args.known.now.places.items c.scan.new.trail.nodes.items)) c.in-Some-2.is c.in_ok-stop.ensures.stop

pub returns-clause-passed : goal.returns-clause-passed
returns-clause-passed c =
    let nodes = c.loop-next.trail.nodes.items in
    let end : c.loop-next.next ≡ length nodes = omega (arith, c.loop-next-test.false, c.len.ensures, c.loop-next.invariant.within) in
    subst (ArePassed c.args.digraph.now.arcs c.args.ends.now nodes) end c.loop-next.invariant.passed

pub loop-next-smaller : goal.loop-next-smaller
loop-next-smaller c = omega (arith, c.loop-next-test.true, c.len.type_inv)

pub overflow_add-next : goal.overflow_add-next
overflow_add-next c = record { fits = omega (arith, c.loop-next-test.true, c.len.type_inv) }
