use Rattle.std.proofs.Common.{◌∙◌, ◌+◌, ap, sym, subst}
use Rattle.std.specs.Prelude.{◌≡◌, Some, slice_get, Contains}
use Rattle.drawing.specs.Generations.{standing_of}
use Rattle.drawing.proofs.Numbering.{found, missing}
use Rattle.drawing.proofs.standings.Standings.find.Goals as goal

pub returns-in-Some : goal.returns-in-Some
returns-in-Some c =
    let inside = c.self.inside in
    let there = subst (λ m. slice_get inside.numbers c.in-Some.place ≡ Some (m + 2)) c.from.ensures c.in-Some.ensures in
    ap (λ s. Some s) c.index.ensures
    ∙ sym (ap (standing_of c.args.number) (sym c.self.view_is)
    ∙ found inside.numbers inside.drawn.items c.in-Some.place c.args.number c.index.result.now c.self.invariant there)

pub returns-in-None : goal.returns-in-None
returns-in-None c =
    let inside = c.self.inside in
    let gone = subst (λ m. Contains inside.numbers (m + 2) → ⊥) c.from.ensures c.in-None.ensures in
    sym (ap (standing_of c.args.number) (sym c.self.view_is) ∙ missing inside.numbers inside.drawn.items c.args.number c.self.invariant gone)
