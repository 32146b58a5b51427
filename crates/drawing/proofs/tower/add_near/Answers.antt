use Rattle.std.proofs.Common.{◌+◌, ◌++◌, ◌∷◌, [], subst}
use Rattle.std.proofs.lemmas.Result.{on_ok_weaker}
use Rattle.tor_numbers.specs.Slots.{IsInserted}
use Rattle.drawing.specs.Shifted.{HasNumbers}
use Rattle.drawing.proofs.Choosing.{numbers_of}
use Rattle.drawing.proofs.Numbering.{has_more}
use Rattle.drawing.proofs.Towering.{no_numbers}
use Rattle.drawing.proofs.tower.add_near.Goals as goal

pub returns : goal.returns
returns c =
    let old = c.args.nearer.now in
    let a = c.args.asked ∷ [] in
    let b = a ++ numbers_of c.args.groups.now.providers.items in
    let d = b ++ numbers_of c.args.groups.now.peers.items in
    let new = c.insert.new.self in
    let is = subst (λ m. IsInserted (m + 2) old new c.in_ok-insert.field-0) c.from.ensures c.in_ok-insert.ensures.ok in
    let one = has_more old new [] c.args.asked c.in_ok-insert.field-0 (no_numbers old c.requires.none) is in
    let two = subst (λ xs. HasNumbers c.add_numbers.new.nearer (a ++ numbers_of xs)) c.deref.ensures.value (c.in_ok-add_numbers.ensures a one) in
    let three = subst (λ xs. HasNumbers c.add_numbers-2.new.nearer (b ++ numbers_of xs)) c.deref-2.ensures.value (c.in_ok-add_numbers-2.ensures b two) in
    on_ok_weaker c.add_numbers-3.result
    (λ added. subst (λ xs. HasNumbers c.add_numbers-3.new.nearer (d ++ numbers_of xs)) c.deref-3.ensures.value (added d three)) c.add_numbers-3.ensures
