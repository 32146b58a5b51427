use Rattle.std.proofs.Common.{rules}
use Rattle.std.proofs.lemmas.Fn.{always_returns_same}
use Rattle.std.proofs.lemmas.List.Sorted.{All-permutation}
use Rattle.drawing.specs.Order.{order_key, IsShort}
use Rattle.drawing.proofs.Sorting.{sorted_is}
use Rattle.drawing.proofs.neighbours.sort_neighbours.Goals as goal

pub returns-clause-sorted : goal.returns-clause-sorted
returns-clause-sorted c =
    sorted_is _ (All-permutation IsShort _ _ c.sort_unstable_by_key.ensures.permutation c.requires)
    (c.sort_unstable_by_key.ensures.sorted order_key (always_returns_same _ _ _ (λ a r q k. search rules)))
