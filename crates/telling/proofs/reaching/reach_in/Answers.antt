use Rattle.std.proofs.Common.{ℕ, List, subst, sym}
use Rattle.std.proofs.lemmas.Result.{on_ok_weaker}
use Rattle.tor_digraph.specs.Walks.{Net}
use Rattle.tor_digraph.specs.Reached.{IsFlooded}
use Rattle.telling.specs.Reaching.{IsReachOf}
use Rattle.telling.proofs.reaching.reach_in.Goals as goal

pub reach_on-done-requires-clause-flooded : goal.reach_on-done-requires-clause-flooded
reach_on-done-requires-clause-flooded c =
    subst (λ (n : Net ℕ). (past : List ℕ) → IsFlooded (λ n. n) (λ a. a) n.nodes n.arcs past c.args.reached.now) (sym c.in_ok-rows.ensures) c.requires.flooded

pub returns : goal.returns
returns c =
    on_ok_weaker c.reach_on-done.result (λ r. subst (λ (n : Net ℕ). IsReachOf n c.args.start c.reach_on-done.new.reached) c.in_ok-rows.ensures r) c.reach_on-done.ensures
