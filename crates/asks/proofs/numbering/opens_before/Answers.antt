use Rattle.std.proofs.Common.{◌≡◌, ◌+◌, get_or, sym, subst, arith}
use Rattle.std.proofs.lemmas.Option.{slice_get-get_or}
use Rattle.relationships.specs.declared.mark.Mark.{Mark}
use Rattle.asks.specs.Narrowing.{opens_before}
use Rattle.asks.proofs.Opens.{AreBeforeTo, none_before, one_more, push_count, before_few}
use Rattle.asks.proofs.numbering.opens_before.Goals as goal

pub loop-place-init : goal.loop-place-init
loop-place-init c =
    subst (AreBeforeTo c.args.marks.now 0 0) (sym c.new-before.ensures)
    (record { many = omega arith; each = λ k n at. absurd (cc at); here = sym (none_before c.args.marks.now) })

-- one place more
next : (c : goal.After-one_if_open-count) →
    c.loop-place.count + c.one_if_open-count.result ≡ opens_before c.args.marks.now (c.loop-place.place + 1)
next c =
    let marks = c.args.marks.now in
    let place = c.loop-place.place in
    let m = one_more marks place (get_or marks place Mark.Forced) (slice_get-get_or marks place Mark.Forced c.loop-place-test.true) in
    let here = c.loop-place.invariant.here in
    let is = c.one_if_open-count.ensures in
    omega (arith, m, here, is)

pub overflow_add-count : goal.overflow_add-count
overflow_add-count c =
    let n = next c in
    let le = before_few c.args.marks.now (c.loop-place.place + 1) in
    let few = c.requires in
    record { fits = omega (arith, n, le, few) }

pub loop-place-preserved : goal.loop-place-preserved
loop-place-preserved c =
    push_count c.args.marks.now c.loop-place.place c.loop-place.count (c.loop-place.count + c.one_if_open-count.result) c.loop-place.before c.push.new.self
    c.loop-place.invariant c.in_ok-push.ensures.ok (next c)
