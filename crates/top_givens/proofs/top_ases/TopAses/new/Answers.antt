use Rattle.std.proofs.Common.{subst}
use Rattle.top_givens.specs.Binding.{HaveSameTop}
use Rattle.top_givens.proofs.SortedTop.{same_by_order}
use Rattle.top_givens.proofs.top_ases.TopAses.new.Goals as goal

pub returns : goal.returns
returns c =
    subst (λ ases. HaveSameTop ases c.sort.new.self.items) c.in_ok-sorted.ensures.items
    (same_by_order c.in_ok-sorted.sorted.items c.sort.new.self.items c.in_ok-sort.ensures.permutation)
