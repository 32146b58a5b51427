use Rattle.run_laws.proofs.OrderRuns as lemmas
use Rattle.run_laws.proofs.laws.any_dump_order_law.Goals as goal

pub returns : goal.returns
returns c = lemmas.any_dump_order_law c.dump_law.ensures c.any_order_law.ensures
