use Rattle.std.proofs.Common.{rules, is_lt}
use Rattle.std.specs.Cmp.{IsTotalOrder}
use Rattle.std.proofs.lemmas.Cmp.{nat_cmp_total, on_total, then_total, back_total}
use Rattle.std.proofs.lemmas.List.Sorted.{ranks_by}
use Rattle.std.proofs.lemmas.Fn.{always_returns_same}
use Rattle.asks.specs.declared.ask.Ask.{Ask}
use Rattle.asks.specs.Asks.{ask_cmp, at_least, in_both}
use Rattle.asks.proofs.ranking.sort_asks.Goals as goal

ask_total : IsTotalOrder ask_cmp
ask_total =
    then_total (on_total at_least (back_total nat_cmp_total)) (then_total (on_total in_both (back_total nat_cmp_total)) (on_total (λ (a : Ask). a.edge) nat_cmp_total))

pub returns-clause-sorted : goal.returns-clause-sorted
returns-clause-sorted c =
    c.sort_unstable_by.ensures.sorted (λ a b. is_lt (ask_cmp a b)) (ranks_by ask_total (λ x. x)) (always_returns_same _ _ _ (λ a r f k. search rules))
