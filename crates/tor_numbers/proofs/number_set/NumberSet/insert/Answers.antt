use Rattle.std.proofs.Common.{[], ◌∷◌, ◌++◌, true, false, length, subst, sym, ◌∙◌, ap}
use Rattle.tor_numbers.specs.Slots.{IsSet, IsHeld, IsHolding, IsApart}
use Rattle.tor_numbers.proofs.SlotLemmas.{apart-push, written_back}
use Rattle.tor_numbers.proofs.number_set.NumberSet.insert.Goals as goal

pub invariant_of-self-in_err-is_new : goal.invariant_of-self-in_err-is_new
invariant_of-self-in_err-is_new c =
    let seed = c.self.inside.seed in
    let numbers = c.reserve.new.items.items in
    let old = c.make_room.new.slots.items in
    let new = c.hold.new.slots in
    let value = c.deref_mut.ensures.value in
    let len = c.make_room.new.slots.ok.0 in
    let back = written_back c.make_room.new.slots.len new old (c.hold.ensures.many ∙ ap length value ∙ sym len) len in
    let held : IsHeld seed old numbers = subst (IsHeld seed old) c.as_slice.ensures.value c.make_room.ensures.held in
    let whole : IsSet seed old numbers = record { held = held; apart = subst IsApart (sym c.reserve.ensures.items) c.self.invariant.apart } in
    subst (λ s. IsSet seed s numbers) (sym (back ∙ c.in_err-is_new.ensures.err ∙ value)) whole

pub invariant_of-self-then-is_new : goal.invariant_of-self-then-is_new
invariant_of-self-then-is_new c =
    let seed = c.self.inside.seed in
    let number = c.args.number in
    let numbers = c.reserve.new.items.items in
    let old = c.make_room.new.slots.items in
    let new = c.hold.new.slots in
    let value = c.deref_mut.ensures.value in
    let len = c.make_room.new.slots.ok.0 in
    let back = written_back c.make_room.new.slots.len new old (c.hold.ensures.many ∙ ap length value ∙ sym len) len in
    let held : IsHeld seed old numbers = subst (IsHeld seed old) c.as_slice.ensures.value c.make_room.ensures.held in
    let ok : IsHolding seed number old new true = subst (IsHolding seed number old new) c.if-is_new.true
    (subst (λ s. IsHolding seed number s new c.in_ok-is_new.is_new) value c.in_ok-is_new.ensures.ok) in
    let apart : IsApart numbers = subst IsApart (sym c.reserve.ensures.items) c.self.invariant.apart in
    let whole : IsSet seed new (numbers ++ number ∷ []) = record { held = (ok numbers held).1; apart = apart-push numbers number apart (ok numbers held).0 } in
    subst (IsSet seed _) (sym c.push_reserved.ensures.items) (subst (λ s. IsSet seed s (numbers ++ number ∷ [])) (sym back) whole)

pub invariant_of-self-else-is_new : goal.invariant_of-self-else-is_new
invariant_of-self-else-is_new c =
    let seed = c.self.inside.seed in
    let number = c.args.number in
    let numbers = c.reserve.new.items.items in
    let old = c.make_room.new.slots.items in
    let new = c.hold.new.slots in
    let value = c.deref_mut.ensures.value in
    let len = c.make_room.new.slots.ok.0 in
    let back = written_back c.make_room.new.slots.len new old (c.hold.ensures.many ∙ ap length value ∙ sym len) len in
    let held : IsHeld seed old numbers = subst (IsHeld seed old) c.as_slice.ensures.value c.make_room.ensures.held in
    let ok : IsHolding seed number old new false = subst (IsHolding seed number old new) c.if-is_new.false
    (subst (λ s. IsHolding seed number s new c.in_ok-is_new.is_new) value c.in_ok-is_new.ensures.ok) in
    let whole : IsSet seed old numbers = record { held = held; apart = subst IsApart (sym c.reserve.ensures.items) c.self.invariant.apart } in
    subst (λ s. IsSet seed s numbers) (sym (back ∙ ok.0)) whole
