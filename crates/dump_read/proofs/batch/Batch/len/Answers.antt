use Rattle.std.proofs.Common.{length, ap, arith}
use Rattle.dump_read.proofs.BatchLemmas.{length-merged_by}
use Rattle.dump_read.proofs.batch.Batch.len.Goals as goal

pub returns : goal.returns
returns c =
    let many = length-merged_by c.self.inside.causes.items c.self.inside.paths c.self.invariant.same in
    let seen = ap (λ b. length b.routes) c.self.view_is in
    omega (arith, many, seen)
