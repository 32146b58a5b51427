use Rattle.std.proofs.Common.{subst}
use Rattle.tor_digraph.specs.Closing.{Has}
use Rattle.tor_arena.proofs.Gets.{Contains-from_has}
use Rattle.tor_solve.proofs.strong.closing_order.Goals as goal

pub returns-in-Ok-clause-inside : goal.returns-in-Ok-clause-inside
returns-in-Ok-clause-inside g c = λ x h.
    c.in-Ok.ensures.searched.inside x (Contains-from_has c.reach_each.new.reached.nodes x (subst (λ z. Has z x) c.into_nodes.ensures.nodes h))
