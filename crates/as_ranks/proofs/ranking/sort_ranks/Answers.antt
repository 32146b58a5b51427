use Rattle.std.proofs.Common.{rules}
use Rattle.std.proofs.lemmas.Fn.{always_returns_same}
use Rattle.std.proofs.lemmas.List.Sorted.{All-permutation}
use Rattle.as_ranks.specs.Placing.{rank_key, HasShortCone}
use Rattle.as_ranks.proofs.PlaceLemmas.{sorted-is}
use Rattle.as_ranks.proofs.ranking.sort_ranks.Goals as goal

pub returns-clause-sorted : goal.returns-clause-sorted
returns-clause-sorted c =
    sorted-is _ (All-permutation HasShortCone _ _ c.sort_unstable_by_key.ensures.permutation c.requires.short)
    (c.sort_unstable_by_key.ensures.sorted rank_key (always_returns_same _ _ _ (λ a r q k. search rules)))
