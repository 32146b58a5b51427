use Rattle.std.proofs.Common.{[], ◌∷◌, ℕ, List, sym, subst, Contains}
use Rattle.tor_digraph.proofs.Members.{Contains-more, Contains-last}
use Rattle.order_trials.proofs.Choosing.{order_visits, top_there, top_order}
use Rattle.order_trials.proofs.depth_search.DepthSearch.explore.Goals as goal

pub loop-entered-init : goal.loop-entered-init
loop-entered-init c =
    let old = c.args.self.now in
    let visits = c.in_ok-visit.ensures.ok in
    record {
      order = order_visits c.args.problem.now c.args.start old c.visit.new.self c.requires.order c.requires.there visits;
      come = subst (λ (l : List ℕ). Contains l c.args.start) (sym visits.seen) (Contains-last old.seen.items c.args.start);
      kept = λ n h. subst (λ (l : List ℕ). Contains l n) (sym visits.seen) (Contains-more old.seen.items (c.args.start ∷ []) n h);
    }

pub step-requires-clause-there : goal.step-requires-clause-there
step-requires-clause-there c = top_there c.args.problem.now c.loop-entered.self c.pop.new.self _ c.loop-entered.invariant.order c.in-Some.ensures

pub step-requires-clause-order : goal.step-requires-clause-order
step-requires-clause-order c = top_order c.args.problem.now c.loop-entered.self c.pop.new.self _ c.loop-entered.invariant.order c.in-Some.ensures
