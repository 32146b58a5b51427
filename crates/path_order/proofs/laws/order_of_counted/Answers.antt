use Rattle.path_order.proofs.CountedLemmas.{moved_often, counted_order, counted_moved}
use Rattle.path_order.proofs.laws.order_of_counted.Goals as goal

pub returns-clause-moved : goal.returns-clause-moved
returns-clause-moved c = moved_often

pub returns-clause-counted : goal.returns-clause-counted
returns-clause-counted c = λ a b often. (counted_order a b often, counted_moved a b often)
