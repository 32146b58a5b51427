use Rattle.std.proofs.Common.{ℕ, sym, subst}
use Rattle.tor_digraph.specs.Walks.{Net}
use Rattle.tor_digraph.specs.Reached.{IsFlooded}
use Rattle.value_tests.proofs.of_tor_digraph.search.Goals as goal

pub reach_near-done-requires-clause-flooded : goal.reach_near-done-requires-clause-flooded
reach_near-done-requires-clause-flooded c =
    subst (λ (n : Net ℕ). IsFlooded (λ n. n) (λ a. a) n.nodes n.arcs c.args.none.now.nodes c.args.reached.now) (sym c.in_ok-rows.ensures) (c.requires.flooded c.args.none.now.nodes)
