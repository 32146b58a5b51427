use Rattle.forced_edges.proofs.batches.settle_batch.Goals as goal

pub returns-in-Ok : goal.returns-in-Ok
returns-in-Ok c = record { settling = c.in-Ok.ensures.settling; batch = c.in-Ok.ensures.batch }

pub returns-in-Err : goal.returns-in-Err
returns-in-Err c = record { settling = tt; batch = tt }
