use Rattle.std.proofs.Common.{◌≡◌, length, subst, sym, ap, ◌∙◌, arith}
use Rattle.std.specs.Prelude.{Contains}
use Rattle.std.proofs.lemmas.Bool.{false≢true}
use Rattle.tor_numbers.specs.Slots.{start_at, IsSearchEnd}
use Rattle.tor_numbers.proofs.SlotLemmas.{held-room, absent_unless}
use Rattle.tor_numbers.proofs.number_set.NumberSet.holds.Goals as goal

pub returns-then-count-eq0 : goal.returns-then-count-eq0
returns-then-count-eq0 c = (λ t. absurd (false≢true t), λ there. absurd (none there))
  where
    none : Contains c.args.self.now c.args.number → ⊥
    none there =
        let slots = c.self.inside.slots in
        let some = held-room c.self.inside.seed c.args.number slots.items c.self.inside.numbers.items c.self.invariant.held
        (subst (λ l. Contains l c.args.number) (sym c.self.view_is) there) in
        let ok = slots.ok.0 in
        omega (arith, some, ok, c.len-count.ensures, c.if-count-eq0.true)

pub returns-in_default : goal.returns-in_default
returns-in_default c = (λ t. absurd (false≢true t), λ there. absurd (none there))
  where
    none : Contains c.args.self.now c.args.number → ⊥
    none there =
        let seed = c.self.inside.seed in
        let number = c.args.number in
        let slots = c.self.inside.slots in
        let ok = slots.ok.0 in
        let many : c.len-count.result ≡ length slots.items = omega (arith, c.len-count.ensures, ok) in
        let start = c.start_of-start.result in
        let begins : start ≡ start_at seed number (length slots.items) = c.start_of-start.ensures.start ∙ ap (start_at seed number) many in
        let end = subst (λ l. IsSearchEnd l start number c.seek.result) c.as_slice.ensures.value c.seek.ensures in
        absent_unless seed slots.items c.self.inside.numbers.items start number c.seek.result c.self.invariant.held begins end c.in_default.not-Held
        (subst (λ l. Contains l number) (sym c.self.view_is) there)
