use Rattle.std.proofs.Common.{◌≡◌, sym, ◌∙◌, subst, arith}
use Rattle.std.proofs.lemmas.Result.{on_ok_weaker}
use Rattle.line_rules.specs.Flipping.{climbs_on, AreNoted, with_implied, with_conflicting}
use Rattle.line_rules.specs.PathSteps.{place_in}
use Rattle.line_rules.proofs.Noting.{same-rows, same-implied, same-conflicting, noted-there, noted-more, implied_as, conflicting_as, on_ok_both}
use Rattle.line_rules.proofs.marks.flipping.Flips.note_pair.Goals as goal

pub returns-else-add-clause-implied : goal.returns-else-add-clause-implied
returns-else-add-clause-implied c =
    let lines = c.args.labels.now in
    same-implied (climbs_on lines c.args.first) (climbs_on lines c.args.second) (place_in c.args.first) (place_in c.args.second) c.args.self.now.implied c.args.self.now.conflicting
    (omega (arith, c.requires.first, c.requires.implied)) (omega (arith, c.requires.second, c.requires.implied))
    (noted-there lines c.args.noted.now c.args.first c.args.second c.number_of.result c.args.self.now.implied c.args.self.now.conflicting c.requires.first c.requires.second
    c.number_of.ensures.number (c.add.ensures.known c.if-add.false) c.requires.noted)

pub returns-else-add-clause-conflicting : goal.returns-else-add-clause-conflicting
returns-else-add-clause-conflicting c =
    let lines = c.args.labels.now in
    same-conflicting (climbs_on lines c.args.first) (climbs_on lines c.args.second) (place_in c.args.first) (place_in c.args.second) c.args.self.now.implied
    c.args.self.now.conflicting (omega (arith, c.requires.first, c.requires.conflicting)) (omega (arith, c.requires.second, c.requires.conflicting))
    (noted-there lines c.args.noted.now c.args.first c.args.second c.number_of.result c.args.self.now.implied c.args.self.now.conflicting c.requires.first c.requires.second
    c.number_of.ensures.number (c.add.ensures.known c.if-add.false) c.requires.noted)

pub returns-then-add-clause-noted : goal.returns-then-add-clause-noted
returns-then-add-clause-noted c =
    let lines = c.args.labels.now in
    let s = c.args.first in
    let t = c.args.second in
    let number = c.number_of.result in
    let first = c.climb_of.result in
    let second = c.climb_of-then-add.result in
    let before = c.args.self.now in
    let after = c.note.new.self in
    on_ok_both c.note.result (after.implied ≡ with_implied first.up second.up first.edge second.edge before.implied)
    (after.conflicting ≡ with_conflicting first.up second.up first.edge second.edge before.conflicting) (AreNoted lines c.add.new.self after.implied after.conflicting)
    (λ i k. noted-more lines c.args.noted.now c.add.new.self s t number before.implied before.conflicting after.implied after.conflicting c.requires.few c.requires.implied
    c.requires.conflicting c.requires.first c.requires.second c.number_of.ensures.number (c.add.ensures.new c.if-add.true)
    (implied_as first.up second.up (climbs_on lines s) (climbs_on lines t) first.edge second.edge (place_in s) (place_in t) before.implied after.implied
    c.climb_of.ensures.up c.climb_of-then-add.ensures.up c.climb_of.ensures.edge c.climb_of-then-add.ensures.edge i)
    (conflicting_as first.up second.up (climbs_on lines s) (climbs_on lines t) first.edge second.edge (place_in s) (place_in t) before.conflicting after.conflicting
    c.climb_of.ensures.up c.climb_of-then-add.ensures.up c.climb_of.ensures.edge c.climb_of-then-add.ensures.edge k) c.requires.noted)
    c.note.ensures.implied c.note.ensures.conflicting

pub returns-then-add-clause-implied : goal.returns-then-add-clause-implied
returns-then-add-clause-implied c =
    let lines = c.args.labels.now in
    let s = c.args.first in
    let t = c.args.second in
    let first = c.climb_of.result in
    let second = c.climb_of-then-add.result in
    let before = c.args.self.now in
    let after = c.note.new.self in
    on_ok_weaker c.note.result
    (λ i. same-rows after.implied _
    (implied_as first.up second.up (climbs_on lines s) (climbs_on lines t) first.edge second.edge (place_in s) (place_in t) before.implied after.implied
    c.climb_of.ensures.up c.climb_of-then-add.ensures.up c.climb_of.ensures.edge c.climb_of-then-add.ensures.edge i))
    c.note.ensures.implied

pub returns-then-add-clause-conflicting : goal.returns-then-add-clause-conflicting
returns-then-add-clause-conflicting c =
    let lines = c.args.labels.now in
    let s = c.args.first in
    let t = c.args.second in
    let first = c.climb_of.result in
    let second = c.climb_of-then-add.result in
    let before = c.args.self.now in
    let after = c.note.new.self in
    on_ok_weaker c.note.result
    (λ k. same-rows after.conflicting _
    (conflicting_as first.up second.up (climbs_on lines s) (climbs_on lines t) first.edge second.edge (place_in s) (place_in t) before.conflicting after.conflicting
    c.climb_of.ensures.up c.climb_of-then-add.ensures.up c.climb_of.ensures.edge c.climb_of-then-add.ensures.edge k))
    c.note.ensures.conflicting

pub returns-else-add-clause-noted : goal.returns-else-add-clause-noted
returns-else-add-clause-noted c =
    subst (λ l. AreNoted c.args.labels.now l c.args.self.now.implied c.args.self.now.conflicting) (sym (c.add.ensures.stays c.if-add.false)) c.requires.noted

pub number_of-requires-clause-first : goal.number_of-requires-clause-first
number_of-requires-clause-first c = omega (arith, c.requires.first, c.requires.few)

pub number_of-requires-clause-second : goal.number_of-requires-clause-second
number_of-requires-clause-second c = omega (arith, c.requires.second, c.requires.few)

pub note-requires-clause-first : goal.note-requires-clause-first
note-requires-clause-first c = omega (arith, c.climb_of.ensures.edge, c.requires.first, c.requires.implied)

pub note-requires-clause-second : goal.note-requires-clause-second
note-requires-clause-second c = omega (arith, c.climb_of-then-add.ensures.edge, c.requires.second, c.requires.implied)

pub note-requires-clause-many : goal.note-requires-clause-many
note-requires-clause-many c = c.requires.conflicting ∙ sym c.requires.implied
