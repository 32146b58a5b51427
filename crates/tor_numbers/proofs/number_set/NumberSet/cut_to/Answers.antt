use Rattle.std.proofs.Common.{◌≡◌, length, subst, sym, take, ◌∙◌, ap}
use Rattle.tor_numbers.specs.Slots.{IsSet, IsHeld}
use Rattle.tor_numbers.proofs.SlotLemmas.{apart-take, written_back}
use Rattle.tor_numbers.proofs.number_set.NumberSet.cut_to.Goals as goal

pub invariant_of-self : goal.invariant_of-self
invariant_of-self c =
    let seed = c.self.inside.seed in
    let numbers = c.self.inside.numbers.items in
    let count = c.args.count in
    let new = c.release_from.new.slots in
    let len = c.self.inside.slots.ok.0 in
    let many : length new ≡ length c.self.inside.slots.items = c.release_from.ensures.many ∙ ap length c.deref_mut.ensures.value in
    let back = written_back c.self.inside.slots.len new c.self.inside.slots.items (many ∙ sym len) len in
    let held = subst (λ l. IsHeld seed new (take count l)) c.as_slice.ensures.value c.release_from.ensures.held in
    let whole : IsSet seed new (take count numbers) = record { held = held; apart = apart-take numbers count c.self.invariant.apart } in
    subst (IsSet seed _) (sym c.truncate.ensures.items) (subst (λ s. IsSet seed s (take count numbers)) (sym back) whole)
