use Rattle.std.proofs.Common.{inl, inr, subst}
use Rattle.tor_digraph.specs.Reached.{IsFlooded}
use Rattle.telling.proofs.reaching.reach_past_none.Goals as goal

pub reach_near-requires-clause-flooded : goal.reach_near-requires-clause-flooded
reach_near-requires-clause-flooded c = c.requires.flooded c.args.none.now.nodes

pub returns : goal.returns
returns c = record {
  begun = c.in_ok-reach_near.ensures.grown.has_start;
  flooded = subst (λ l. IsFlooded (λ n. n) (λ a. a) c.args.rows.now.nodes c.args.rows.now.arcs l c.reach_near.new.reached) c.requires.before c.in_ok-reach_near.ensures.flooded;
  root = λ x r. elim (c.in_ok-reach_near.ensures.roots x r) [ inl was ↦ absurd (c.requires.roots x was) | inr is ↦ is ];
}
