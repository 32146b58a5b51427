use Rattle.std.proofs.Common.{◌<◌, length, arith}
use Rattle.std.proofs.lemmas.Result.{err_from_is_err_and}
use Rattle.dump_read.proofs.Takings.{none_so_far}
use Rattle.dump_read.proofs.BatchLemmas.{AreFound-at, batch-step, batch-limit}
use Rattle.dump_read.proofs.batch.take_each.Goals as goal

pub loop-place-init : goal.loop-place-init
loop-place-init c = (c.requires.found, λ sets routes is. none_so_far sets c.args.taken.now routes)

pub loop-place-preserved : goal.loop-place-preserved
loop-place-preserved c =
    let batch = c.args.batch.now in
    let k = c.loop-place.place in
    let test = c.loop-place-test.true in
    let len = c.len-place-end.ensures in
    let within : k < length batch.routes = omega (arith, test, len) in
    let takes = c.in_ok-take.ensures.taken in (
      AreFound-at batch k c.loop-place.taken c.take.new.taken within c.loop-place.invariant.0 takes,
      λ sets routes is. batch-step sets routes batch k c.args.taken.now c.loop-place.taken c.take.new.taken is within (c.loop-place.invariant.1 sets routes is) takes,
    )

pub returns-in_err-take-clause-limit : goal.returns-in_err-take-clause-limit
returns-in_err-take-clause-limit c =
    let batch = c.args.batch.now in
    let k = c.loop-place.place in
    let test = c.loop-place-test.true in
    let len = c.len-place-end.ensures in
    let within : k < length batch.routes = omega (arith, test, len) in
    let p = err_from_is_err_and c.from_residual.result c.from_residual.ensures.1 in
    rw (p.1, p.2) (λ sets routes is. batch-limit sets routes batch k c.args.taken.now c.loop-place.taken c.in_err-take.field-0.0 is within
    (c.loop-place.invariant.1 sets routes is) c.in_err-take.ensures.limit)
