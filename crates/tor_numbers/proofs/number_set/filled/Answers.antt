use Rattle.std.proofs.Common.{◌≡◌, ◌+◌, length, subst, sym, take, ◌∙◌, ap}
use Rattle.std.specs.Prelude.{slice_index_or}
use Rattle.tor_numbers.specs.Slots.{IsHeld, IsHolding}
use Rattle.tor_numbers.proofs.SlotLemmas.{contains_at, held-next, written_back}
use Rattle.tor_numbers.proofs.number_set.filled.Goals as goal

pub hold-requires-clause-number : goal.hold-requires-clause-number
hold-requires-clause-number c = c.requires.least _ (contains_at c.args.numbers.now c.loop-place.place c.loop-place-test.true)

pub loop-place-preserved : goal.loop-place-preserved
loop-place-preserved c =
    let old = c.loop-place.slots.items in
    let new = c.hold.new.slots in
    let value = c.deref_mut.ensures.value in
    let len = c.loop-place.slots.ok.0 in
    let many : length new ≡ length old = c.hold.ensures.many ∙ ap length value in
    let back = written_back c.loop-place.slots.len new old (many ∙ sym len) len in (
      ap length back ∙ many ∙ c.loop-place.invariant.0,
      subst (λ s. IsHeld c.args.seed s (take (c.loop-place.place + 1) c.args.numbers.now)) (sym back)
          (held-next c.args.seed old new c.args.numbers.now c.loop-place.place c.in_ok-hold.field-0 c.loop-place-test.true
          (subst (λ s. IsHolding c.args.seed (slice_index_or c.args.numbers.now c.loop-place.place 0) s new c.in_ok-hold.field-0) value c.in_ok-hold.ensures.ok) c.loop-place.invariant.1),
    )
