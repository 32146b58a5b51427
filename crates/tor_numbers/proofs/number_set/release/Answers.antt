use Rattle.std.proofs.Common.{length, subst, sym}
use Rattle.tor_numbers.specs.Slots.{HeldFrom}
use Rattle.tor_numbers.proofs.SlotLemmas.{held-leave, held-last, not_held}
use Rattle.tor_numbers.proofs.number_set.release.Goals as goal

pub returns-in-Held-clause-held : goal.returns-in-Held-clause-held
returns-in-Held-clause-held c numbers h absent =
    held-leave c.args.seed c.args.number c.args.slots.now c.in-Held.place numbers c.requires.number c.in-Held.ensures.0 h absent

pub returns-in-Free-clause-held : goal.returns-in-Free-clause-held
returns-in-Free-clause-held c numbers h absent =
    let slots = c.args.slots.now in
    absurd (not_held slots c.start_of-start.result c.args.number c.seek.result c.seek.ensures c.in-Free.is
    (subst (λ s. HeldFrom slots c.args.number s (length slots)) (sym c.start_of-start.ensures.start) (held-last c.args.seed c.args.number slots numbers h)))
