use Rattle.run_laws.proofs.Agreeing.{agreement}
use Rattle.run_laws.proofs.AgreeingInAnyOrder.{any_order_agreement}
use Rattle.run_laws.proofs.laws.agreement_law.Goals as goal

pub returns-clause-as_seen : goal.returns-clause-as_seen
returns-clause-as_seen c = agreement c.one_value.ensures c.bounds_law.ensures c.faithful_law.ensures.result c.faithful_law.ensures.table

pub returns-clause-in_any_order : goal.returns-clause-in_any_order
returns-clause-in_any_order c = any_order_agreement c.one_value.ensures c.bounds_law.ensures c.faithful_law.ensures.result c.faithful_law.ensures.table
