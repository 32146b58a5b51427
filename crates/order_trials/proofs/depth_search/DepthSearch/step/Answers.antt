use Rattle.std.proofs.Common.{rules, ◌<◌, refl, sym, subst}
use Rattle.std.proofs.lemmas.Result.{on_ok_weaker}
use Rattle.order_trials.specs.Candidates.{IsInDepth}
use Rattle.order_trials.proofs.Choosing.{order_visits, order_again, order_leaves}
use Rattle.order_trials.proofs.depth_search.DepthSearch.step.Goals as goal

pub returns-in_ok-push-in-Some-clause-order : goal.returns-in_ok-push-in-Some-clause-order
returns-in_ok-push-in-Some-clause-order c =
    let old = c.args.self.now in
    let there : c.in-Some.next.0 < c.args.problem.now.formula.net.nodes = search rules in
    on_ok_weaker c.visit.result
    (order_visits c.args.problem.now c.in-Some.next.0 (record { seen = old.seen; stack = c.push.new.self; chosen = old.chosen }) c.visit.new.self
    (subst (λ l. IsInDepth c.args.problem.now (record { seen = old.seen; stack = l; chosen = old.chosen })) (sym c.in_ok-push-in-Some.ensures.ok)
    (order_again c.args.problem.now old c.args.entered _ refl c.requires.order)) there)
    c.visit.ensures.ok

pub returns-in-None-clause-order : goal.returns-in-None-clause-order
returns-in-None-clause-order c =
    let old = c.args.self.now in
    on_ok_weaker c.choose.result
    (order_leaves c.args.problem.now old (record { seen = old.seen; stack = old.stack; chosen = c.choose.new.chosen }) c.args.entered
    c.requires.order c.requires.there refl refl)
    c.choose.ensures
