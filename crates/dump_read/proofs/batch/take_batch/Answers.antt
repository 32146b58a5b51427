use Rattle.std.proofs.Common.{arith}
use Rattle.std.proofs.lemmas.Result.{err_from_is_err_and}
use Rattle.dump_read.proofs.Takings.{no_entry}
use Rattle.dump_read.proofs.batch.take_batch.Goals as goal

pub returns-in_err-look_up-clause-some : goal.returns-in_err-look_up-clause-some
returns-in_err-look_up-clause-some c =
    let p = err_from_is_err_and c.from_residual.result c.from_residual.ensures.1 in
    rw p.1 (λ sets routes is. (0, omega arith, no_entry sets c.args.taken.now))
