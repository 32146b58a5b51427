-- Which edges are forced: the implied law, the open law and the unheld law.
use Rattle.std.proofs.Common.{◌≡◌, ℕ, inl, inr, true, List, get_or, refl, ap, ◌∙◌, subst, All, Contains, eq-eqb}
use Rattle.std.proofs.lemmas.Bool.{cases_Bool}
use Rattle.std.proofs.lemmas.List.Elements.{All-from_get_or, Contains-get_or}
use Rattle.std.specs.Prelude.{if◌then◌else◌}
use Rattle.relationships.specs.declared.label.End.{End}
use Rattle.relationships.specs.Relationship.{Orientation, label_of, labels_of, is_low, is_high, is_over, opposite, Serves}
use Rattle.relationships.specs.Graph.{Edge, is_same, edges, SameOn}
use Rattle.relationships.specs.Evidence.{NeighboursDiffer, Closure, start, imply}
use Rattle.relationships.specs.Laws.Serving.{SatisfiesTriples}
use Rattle.relationships.specs.Laws.Evidence.{ImpliedLaw, OpenLaw, UnheldLaw}
use Rattle.relationships.proofs.Slopes.{over_one_of, over-low, over-high}
use Rattle.relationships.proofs.Edges.{same_edge, reading_law}
use Rattle.relationships.proofs.Serving.{serves_satisfies}
use Rattle.relationships.proofs.Closures.{consistency_law, allowed_law}

-- ---- what the opposite order implies

closure_satisfied : (O : Orientation) (paths : List (List ℕ)) (c d : ℕ) → SatisfiesTriples O paths → is_over (labels_of O) c d ≡ true →
    {y z : ℕ} → Closure paths c d y z → is_over (labels_of O) y z ≡ true
closure_satisfied O paths c d satisfies o start = o
closure_satisfied O paths c d satisfies o (imply {x = x} {y = y} {z = z} k t) = satisfies x y z t (closure_satisfied O paths c d satisfies o k)

pub implied_law : ImpliedLaw
implied_law O paths a b ne c serves =
    elim (over_one_of O a b ne) [
      | inl o ↦ o
      | inr o ↦ closure_satisfied O paths b a (serves_satisfies O paths serves) o c
    ]

-- ---- an order that does not imply its opposite is not ruled out

not_ruled_out : (O : Orientation) (paths : List (List ℕ)) (a b : ℕ) → All NeighboursDiffer paths → Serves O paths → (Closure paths a b b a → ⊥) →
    ((O' : Orientation) → Serves O' paths → is_over (labels_of O') b a ≡ true) → ⊥
not_ruled_out O paths a b distinct serves not_back ruled_out =
    allowed_law O paths a b distinct (consistency_law paths a b not_back) serves a b start ruled_out

pub open_law : OpenLaw
open_law paths low high distinct servable lt not_high not_low forced = by_end (servable.0 low high) refl
  where
    by_end : (e : End) → servable.0 low high ≡ e → ⊥
    by_end End.Low is =
        not_ruled_out servable.0 paths high low distinct servable.1 not_low
        (λ O' serves. over-low (labels_of O') low high lt (ap (λ e. is_low (label_of e)) (forced O' servable.0 serves servable.1 ∙ is)))
    by_end End.High is =
        not_ruled_out servable.0 paths low high distinct servable.1 not_high
        (λ O' serves. over-high (labels_of O') low high lt (ap (λ e. is_high (label_of e)) (forced O' servable.0 serves servable.1 ∙ is)))

-- ---- edges that no path holds

-- the orientation with the other end of one edge
abbrev flipped : Orientation → Edge → Orientation
flipped O e low high = if is_same (low, high) e then opposite (O e.0 e.1) else O low high

pub unheld_law : UnheldLaw
unheld_law paths low high servable unheld forced =
    let O = servable.0 in
    let e : Edge = (low, high) in
    let same : SameOn (edges paths) O (flipped O e) =
    All-from_get_or (λ (f : Edge). O f.0 f.1 ≡ flipped O e f.0 f.1) (edges paths) (0, 0)
    (λ i within. elsewhere (get_or (edges paths) i (0, 0)) (Contains-get_or (edges paths) i (0, 0) within)) in
    ends_differ (O low high) (forced O (flipped O e) servable.1 (reading_law O (flipped O e) paths same servable.1) ∙ rw (eq-eqb low low refl, eq-eqb high high refl))
  where
    ends_differ : (x : End) → x ≡ opposite x → ⊥
    ends_differ End.Low h = cc
    ends_differ End.High h = cc

    elsewhere : (f : Edge) → Contains (edges paths) f → servable.0 f.0 f.1 ≡ flipped servable.0 (low, high) f.0 f.1
    elsewhere f c =
        elim (cases_Bool (is_same (f.0, f.1) (low, high))) [
          | inl t ↦ absurd (unheld (subst (Contains (edges paths)) (same_edge (f.0, f.1) (low, high) t) c))
          | inr n ↦ rw n
        ]
