use Rattle.std.proofs.Common.{length, subst}
use Rattle.std.proofs.lemmas.Option.{slice_get_within}
use Rattle.tor_numbers.specs.Slots.{HeldFrom, SearchLeadsTo}
use Rattle.tor_numbers.proofs.SlotLemmas.{held-put}
use Rattle.tor_numbers.proofs.number_set.hold.Goals as goal

pub returns-in-Free-clause-ok : goal.returns-in-Free-clause-ok
returns-in-Free-clause-ok c numbers h =
    let slots = c.args.slots.now in
    let e = c.in-Free.ensures in
    let start = c.start_of-start.ensures.start in
    held-put c.args.seed c.args.number slots c.in-Free.place numbers c.requires.number (slice_get_within slots c.in-Free.place 0 e.0) e.0
    (subst (λ s. SearchLeadsTo slots s c.args.number c.in-Free.place) start e.1) (subst (λ s. HeldFrom slots c.args.number s (length slots) → ⊥) start e.2) h
