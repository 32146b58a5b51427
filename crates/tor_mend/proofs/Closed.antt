-- What a search has visited when all arcs are passed.
use Rattle.std.proofs.Common.{◌≢◌, ℕ, zero, suc, ◌*◌, ◌<◌, ◌≤◌, ◌⊎◌, inl, inr, List, [], ◌∷◌, Some, length, sym, ap, ◌∙◌, subst, arith}
use Rattle.std.proofs.lemmas.Bool.{cases_eq, cases_lt}
use Rattle.std.proofs.lemmas.Option.{slice_get_within}
use Rattle.relationships.specs.declared.label.End.{End}
use Rattle.tor_digraph.specs.Walks.{HasArc}
use Rattle.tor_clauses.specs.Literals.{lit_of, opposite_node, Holds}
use Rattle.tor_clauses.proofs.LiteralLemmas.{opposite_node_twice}
use Rattle.tor_digraph.specs.declared.trail.Trail.{Trail}
use Rattle.tor_digraph.specs.Trails.{StandsAt, IsTrail}
use Rattle.tor_mend.specs.Searches.{IsVisited, AreUnheld, ArePassed}
use Rattle.tor_clauses.specs.Flipping.{IsCut, IsAgreed, HasPartners}
use Rattle.tor_mend.specs.Mends.{IsMended}
use Rattle.tor_clauses.proofs.Sides.{holds_one, holds_either}
use Rattle.tor_clauses.proofs.Repairs.{met_after, untouched}
use Rattle.tor_clauses.proofs.Ways.{some_same}

pub visited_or_not : (nodes : List ℕ) (x : ℕ) → IsVisited nodes x ⊎ (IsVisited nodes x → ⊥)
visited_or_not [] x = inr (λ h. let bad = h.1 in cc)
visited_or_not (y ∷ nodes) x = elim (cases_eq y x) [
  | inl same ↦ inl (0, ap Some same)
  | inr other ↦ elim (visited_or_not nodes x) [
    | inl h ↦ inl (suc h.0, h.1)
    | inr none ↦ inr (λ h. behind h.0 h.1 other none)
  ]
]
  where
    behind : (k : ℕ) → StandsAt (y ∷ nodes) k x → y ≢ x → (IsVisited nodes x → ⊥) → ⊥
    behind zero at other none = other (some_same at)
    behind (suc k) at other none = none (k, at)

module _ (arcs : List (ℕ × ℕ)) (ends : List End) (start : ℕ) (trail : Trail) (is : IsTrail arcs start trail) (unheld : AreUnheld ends trail.nodes.items) where
  module _ (partners : HasPartners arcs) (inside : (k x : ℕ) → StandsAt trail.nodes.items k x → x < length ends * 2)
      (passed : ArePassed arcs ends trail.nodes.items (length trail.nodes.items)) where
    at_place : (k x y : ℕ) → StandsAt trail.nodes.items k x → HasArc arcs x y →
        IsVisited trail.nodes.items y ⊎ (Holds ends (lit_of y) × ((j : ℕ) → j ≤ k → StandsAt trail.nodes.items j (opposite_node y) → ⊥))
    at_place k x y s arc = passed k x (slice_get_within trail.nodes.items k x s) s arc.0 y arc.1

    -- the negation of a literal that holds is not visited behind the arc's tail either
    not_behind : (k j x y : ℕ) → StandsAt trail.nodes.items k x → HasArc arcs x y → k < j → StandsAt trail.nodes.items j (opposite_node y) → ⊥
    not_behind k j x y s arc lt t = elim (at_place j (opposite_node y) (opposite_node x) t (partners x y arc)) [
      | inl h ↦ (
          let below = inside k x s in
          elim (holds_either ends x (omega (arith, below))) [
            | inl one ↦ unheld k x s one
            | inr other ↦ unheld h.0 (opposite_node x) h.1 other
          ]
          )
      | inr h ↦ h.1 k (omega (arith, lt)) (subst (StandsAt trail.nodes.items k) (sym (opposite_node_twice x)) s)
    ]

    pub visited_cut : IsCut arcs ends (IsVisited trail.nodes.items)
    visited_cut = record {
      unheld = λ x h holds. unheld h.0 x h.1 holds;
      closed = λ x y h arc. elim (at_place h.0 x y h.1 arc) [
        | inl v ↦ inl v
        | inr p ↦ inr (
          p.0,
          λ t. elim (cases_lt h.0 t.0) [
            | inl lt ↦ not_behind h.0 t.0 x y h.1 arc lt t.1
            | inr le ↦ p.1 t.0 le t.1
          ],
        )
      ];
    }

    pub mended : (new : List End) → IsAgreed ends new (IsVisited trail.nodes.items) → IsMended arcs ends new start
    mended new agreed = record {
      met = λ l m arc h. met_after arcs ends new (IsVisited trail.nodes.items) (visited_or_not trail.nodes.items) partners visited_cut agreed l m arc (elim h [
        | inl met ↦ inl met
        | inr at ↦ inr (elim at [
          | inl e ↦ inl (0, subst (StandsAt trail.nodes.items 0) (sym e) is.first)
          | inr e ↦ inr (0, subst (StandsAt trail.nodes.items 0) (sym e) is.first)
        ])
      ]);
      changed = λ x holds not. elim (visited_or_not trail.nodes.items x) [
        | inl h ↦ is.reached h.0 x h.1
        | inr none ↦ elim (visited_or_not trail.nodes.items (opposite_node x)) [
          | inl h ↦ absurd (holds_one new x holds (agreed.held (opposite_node x) h))
          | inr no_other ↦ absurd (not (sym (untouched arcs ends new (IsVisited trail.nodes.items) partners visited_cut agreed x none no_other) ∙ holds))
        ]
      ];
    }
