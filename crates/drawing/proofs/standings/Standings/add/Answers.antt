use Rattle.std.proofs.Common.{ℕ, List, inl, inr, ◌∙◌, ◌+◌, ◌++◌, ◌∷◌, [], ap, sym, subst}
use Rattle.std.specs.Prelude.{◌≡◌, Some, slice_get, Contains}
use Rattle.drawing.specs.declared.standings.Standing.{Standing}
use Rattle.drawing.specs.Generations.{standing_of}
use Rattle.drawing.specs.Shifted.{AreNumbered}
use Rattle.drawing.proofs.Numbering.{found, known, numbered_push}
use Rattle.drawing.proofs.standings.Standings.add.Goals as goal

pub returns-in-Some : goal.returns-in-Some
returns-in-Some c =
    let inside = c.self.inside in
    let s = c.args.standing in
    let there = subst (λ m. slice_get inside.numbers c.in-Some.field-0 ≡ Some (m + 2)) c.from-shifted.ensures c.in-Some.ensures in
    subst (λ (drawn : List Standing). (n : ℕ) → standing_of n drawn ≡ standing_of n (drawn ++ s ∷ [])) c.self.view_is
    (known inside.drawn.items s _ (found inside.numbers inside.drawn.items c.in-Some.field-0 s.number s c.self.invariant there))

pub invariant_of-self-in-None : goal.invariant_of-self-in-None
invariant_of-self-in-None c =
    let inside = c.self.inside in
    let s = c.args.standing in
    let new = c.add.new.self in
    subst (AreNumbered new) (sym (c.push_reserved.ensures.items ∙ ap (λ (drawn : List Standing). drawn ++ s ∷ []) c.reserve.ensures.items))
    (elim c.in_ok-add-in-None.ensures.ok [
      | inl old ↦ absurd (c.in-None.ensures old.0)
      | inr is ↦ numbered_push inside.numbers new inside.drawn.items s c.self.invariant
          (subst (λ m. Contains inside.numbers (m + 2) → ⊥) c.from-shifted.ensures c.in-None.ensures)
          (subst (λ m. new ≡ inside.numbers ++ (m + 2) ∷ []) c.from-shifted.ensures is.1)
    ])
