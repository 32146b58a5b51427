use Rattle.std.proofs.Common.{◌≡◌, ◌<◌, ◌+◌, ◌-◌, length, subst, sym, take, arith}
use Rattle.std.specs.Prelude.{Contains, slice_index_or}
use Rattle.tor_numbers.specs.Slots.{IsHeld}
use Rattle.tor_numbers.proofs.SlotLemmas.{contains_at, held-before, held-room, contains_last}
use Rattle.tor_numbers.proofs.number_set.release_from.Goals as goal

pub release-requires-clause-some : goal.release-requires-clause-some
release-requires-clause-some c =
    let count = c.loop-left.invariant.1 in
    let test = c.loop-left-test.true in
    let lt : c.loop-left.left - 1 < length c.args.numbers.now = omega (arith, count, test) in
    let so : c.loop-left.left ≡ c.loop-left.left - 1 + 1 = omega (arith, test) in
    held-room c.args.seed (slice_index_or c.args.numbers.now (c.loop-left.left - 1) 0) c.loop-left.slots (take c.loop-left.left c.args.numbers.now) c.loop-left.invariant.2
    (subst (λ n. Contains (take n c.args.numbers.now) (slice_index_or c.args.numbers.now (c.loop-left.left - 1) 0)) (sym so)
    (contains_last c.args.numbers.now (c.loop-left.left - 1) lt))

pub release-requires-clause-number : goal.release-requires-clause-number
release-requires-clause-number c =
    let count = c.loop-left.invariant.1 in
    let test = c.loop-left-test.true in
    let lt : c.loop-left.left - 1 < length c.args.numbers.now = omega (arith, count, test) in
    c.requires.held.least (slice_index_or c.args.numbers.now (c.loop-left.left - 1) 0) (contains_at c.args.numbers.now (c.loop-left.left - 1) lt)

pub loop-left-preserved : goal.loop-left-preserved
loop-left-preserved c =
    let count = c.loop-left.invariant.1 in
    let test = c.loop-left-test.true in
    let lt : c.loop-left.left - 1 < length c.args.numbers.now = omega (arith, count, test) in
    let so : c.loop-left.left ≡ c.loop-left.left - 1 + 1 = omega (arith, test) in (
      omega (arith, test),
      omega (arith, lt),
      held-before c.args.seed c.loop-left.slots c.release.new.slots c.args.numbers.now (c.loop-left.left - 1) lt c.requires.apart c.release.ensures.held
          (subst (λ n. IsHeld c.args.seed c.loop-left.slots (take n c.args.numbers.now)) so c.loop-left.invariant.2),
    )
