use Rattle.std.proofs.Common.{◌≡◌, ◌+◌, ◌-◌, ℕ, get_or, inl, inr, sym, subst, arith, Contains}
use Rattle.std.proofs.lemmas.Bool.{cases_lt}
use Rattle.std.proofs.lemmas.Option.{get_or_from_slice_get}
use Rattle.tor_arena.proofs.Gets.{Contains-from_has}
use Rattle.relationships.specs.Graph.{edge_of}
use Rattle.telling.specs.Labelling.{HasStep}
use Rattle.telling.proofs.PathLemmas.{edge_still}
use Rattle.telling.proofs.goings.add_edges.Goals as goal

pub loop-at-preserved : goal.loop-at-preserved
loop-at-preserved c =
    let inv = c.loop-at.invariant in
    let new = c.add.new.self in
    let path = c.args.path.now in
    let end = c.loop-at.at in
    let last : (at a b : ℕ) → at + 1 ≡ end → HasStep path at a b → Contains new (edge_of a b) = λ at a b e step.
    let here : end - 1 ≡ at = omega (arith, e) in
    let one : get_or path (end - 1) 0 ≡ a = subst (λ n. get_or path n 0 ≡ a) (sym here) (get_or_from_slice_get path at a 0 step.0) in
    let other : get_or path end 0 ≡ b = subst (λ n. get_or path n 0 ≡ b) e (get_or_from_slice_get path (at + 1) b 0 step.1) in
    let own : Contains new (edge_of (get_or path (end - 1) 0) (get_or path end 0)) =
    Contains-from_has new (edge_of (get_or path (end - 1) 0) (get_or path end 0)) (c.in_ok-add.field-0.place, c.in_ok-add.ensures.place) in
    subst (λ n. Contains new (edge_of a n)) other (subst (λ n. Contains new (edge_of n (get_or path end 0))) one own) in (
      omega arith,
      λ at a b lt step. elim (cases_lt (at + 1) end) [
        | inl old ↦ edge_still c.loop-at.table new (edge_of (get_or path (end - 1) 0) (get_or path end 0)) (edge_of a b) c.in_ok-add.ensures.ok (inv.1 at a b old step)
        | inr ge ↦ last at a b (omega (arith, lt, ge)) step
      ],
    )

pub returns : goal.returns
returns c at a b lt step = c.loop-at.invariant.1 at a b (omega (arith, lt, c.loop-at-test.false, c.loop-at.invariant.0, c.loop-at.auto.at-end)) step
