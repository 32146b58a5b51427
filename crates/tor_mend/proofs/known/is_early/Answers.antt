use Rattle.std.proofs.Common.{◌≡◌, ℕ, inl, inr, Some, List, length, refl, sym, ap, ◌∙◌, subst, arith}
use Rattle.std.specs.Prelude.{slice_get}
use Rattle.std.proofs.lemmas.Bool.{cases_eq, false≢true}
use Rattle.std.proofs.lemmas.Option.{slice_get_read, slice_get_within}
use Rattle.tor_clauses.proofs.Ways.{some_same}
use Rattle.tor_mend.proofs.known.is_early.Goals as goal

pub loop-arc-init : goal.loop-arc-init
loop-arc-init c = λ k a lt at. absurd (omega (arith, lt))

pub loop-arc-preserved : goal.loop-arc-preserved
loop-arc-preserved c = λ k a lt at. elim (cases_eq k c.loop-arc.arc-index) [
  | inl e ↦ (
      let items : List ℕ = c.as_slice-arc-items.result.now in
      let i = c.loop-arc.arc-index in
      let here : slice_get items i ≡ Some c.arc-item.result = slice_get_read items (length items) i c.arc-item.result refl c.loop-arc-test.true c.arc-item.is in
      let there : slice_get items i ≡ Some a = subst (λ n. slice_get items n ≡ Some a) e (ap (λ (l : List ℕ). slice_get l k) c.as_slice-arc-items.ensures ∙ at) in
      let same : c.arc-item.result ≡ a = some_same (sym here ∙ there) in
      let small = c.if-place-first.false in
      let place = c.place.ensures.place in
      omega (arith, same, small, place)
      )
  | inr other ↦ c.loop-arc.invariant k a (omega (arith, lt, other)) at
]

pub returns-then-place-first : goal.returns-then-place-first
returns-then-place-first c = (
  λ is. absurd (false≢true is),
  λ early. (
      let items : List ℕ = c.as_slice-arc-items.result.now in
      let i = c.loop-arc.arc-index in
      let here : slice_get items i ≡ Some c.arc-item.result = slice_get_read items (length items) i c.arc-item.result refl c.loop-arc-test.true c.arc-item.is in
      let small = early i c.arc-item.result (ap (λ (l : List ℕ). slice_get l i) (sym c.as_slice-arc-items.ensures) ∙ here) in
      let large = c.if-place-first.true in
      let place = c.place.ensures.place in
      absurd (omega (arith, small, large, place))
      ),
)

pub returns : goal.returns
returns c = (
  λ is k a at. (
      let items : List ℕ = c.as_slice-arc-items.result.now in
      let within = slice_get_within items k a (ap (λ (l : List ℕ). slice_get l k) c.as_slice-arc-items.ensures ∙ at) in
      let past = c.loop-arc-test.false in
      c.loop-arc.invariant k a (omega (arith, within, past)) at
      ),
  λ early. refl,
)
