use Rattle.std.proofs.Common.{◌≡◌, ◌-◌, ◌∙◌, ap, arith}
use Rattle.std.specs.Prelude.{Some, slice_get, slice_index_or}
use Rattle.std.proofs.lemmas.Option.{slice_get-get_or}
use Rattle.tor_numbers.proofs.SlotLemmas.{seeking_goes, seeking_leads, seeking_free}
use Rattle.tor_numbers.proofs.number_set.seek.Goals as goal

pub returns-then-slot-number : goal.returns-then-slot-number
returns-then-slot-number c =
    let k = c.loop-left.invariant in
    let some = c.loop-left-test.true in (
      slice_get-get_or c.args.slots.now c.loop-left.place 0 k.inside ∙ ap (λ x. Some x) c.if-slot-number.true,
      seeking_leads c.args.slots.now c.args.start c.args.number c.loop-left.place c.loop-left.left (omega (arith, some)) k,
    )

pub returns-then-slot-eq-FREE : goal.returns-then-slot-eq-FREE
returns-then-slot-eq-FREE c =
    let k = c.loop-left.invariant in
    let some = c.loop-left-test.true in
    let at : slice_get c.args.slots.now c.loop-left.place ≡ Some 0 =
    slice_get-get_or c.args.slots.now c.loop-left.place 0 k.inside ∙ ap (λ x. Some x) c.if-slot-eq-FREE.true in (
      at,
      seeking_leads c.args.slots.now c.args.start c.args.number c.loop-left.place c.loop-left.left (omega (arith, some)) k,
      seeking_free c.args.slots.now c.args.start c.args.number c.loop-left.place c.loop-left.left (omega (arith, some)) c.requires.number k at,
    )

pub loop-left-preserved : goal.loop-left-preserved
loop-left-preserved c =
    let k = c.loop-left.invariant in
    let some = c.loop-left-test.true in
    seeking_goes c.args.slots.now c.args.start c.args.number c.loop-left.place c.loop-left.left (c.loop-left.left - 1) c.next-place.result
    (slice_index_or c.args.slots.now c.loop-left.place 0) (omega (arith, some)) k (slice_get-get_or c.args.slots.now c.loop-left.place 0 k.inside)
    c.if-slot-number.false c.if-slot-eq-FREE.false c.next-place.ensures.next c.next-place.ensures.inside
