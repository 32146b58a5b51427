-- Closures by the edges that flip.
use Rattle.std.proofs.Common.{◌≡◌, ◌↔◌, ◌⊎◌, inl, inr, ℕ, List, sym, ◌∙◌, subst}
use Rattle.std.proofs.lemmas.Option.{same_Some}
use Rattle.relationships.specs.Evidence.{IsTriple, Closure, start, imply, IsConsistent}
use Rattle.relationships.proofs.Closures.{reversed_triple, consistency_law}
use Rattle.line_rules.specs.Neighbours.{HasNext, ReachesRow, here, onward}
use Rattle.line_rules.specs.Flipping.{FlipsTo, IsBuilt, IsProper, FlipsLeaveNoValley}

-- ---- closures run both ways

Closure-joined : (paths : List (List ℕ)) (a b c d : ℕ) {y z : ℕ} → Closure paths a b c d → Closure paths c d y z → Closure paths a b y z
Closure-joined paths a b c d h start = h
Closure-joined paths a b c d h (imply k t) = imply (Closure-joined paths a b c d h k) t

Closure-back : (paths : List (List ℕ)) (a b : ℕ) {y z : ℕ} → Closure paths a b y z → Closure paths z y b a
Closure-back paths a b start = start
Closure-back paths a b (imply {x = x} {y = y} {z = z} h t) =
    Closure-joined paths z y y x (imply start (reversed_triple paths x y z t)) (Closure-back paths a b h)

same_order : (orders : List (ℕ × ℕ)) (k x y u v : ℕ) → FlipsTo orders k x y → FlipsTo orders k u v → ◌≡◌ {A = ℕ × ℕ} (x, y) (u, v)
same_order orders k x y u v h g = same_Some (x, y) (u, v) (sym h ∙ g)

module _ (orders : List (ℕ × ℕ)) (paths implied conflicting : List (List ℕ)) (built : IsBuilt orders (IsTriple paths) implied conflicting) (proper : IsProper orders)
    (settled : FlipsLeaveNoValley orders paths) where
  -- what flips with s follows
  reached : (s a b : ℕ) → FlipsTo orders s a b → {k : ℕ} → ReachesRow implied s k → (y z : ℕ) → FlipsTo orders k y z → Closure paths a b y z
  reached s a b ts here y z tk =
      subst (λ (p : ℕ × ℕ). Closure paths a b p.0 p.1) (same_order orders s a b y z ts tk) start
  reached s a b ts (onward {i = i} {j = j} l n) y z tj =
      let w = (built.implies i j).0 n in
      let from = reached s a b ts l w.0 w.1 w.3 in
      subst (λ (p : ℕ × ℕ). Closure paths a b p.0 p.1) (same_order orders j w.1 w.2 y z w.4 tj) (imply from w.5)

  -- of the second edge of a triple
  second_listed : (x y z : ℕ) → IsTriple paths x y z → ((k : ℕ) × FlipsTo orders k z y) ⊎ ((k : ℕ) × FlipsTo orders k y z)
  second_listed x y z t = settled.listed z y x (reversed_triple paths x y z t)

  -- what follows from an order against a label is such an order too, which flips with the first, or one that a label has
  follows : (s a b : ℕ) → FlipsTo orders s a b → {y z : ℕ} → Closure paths a b y z → ((k : ℕ) × FlipsTo orders k y z × ReachesRow implied s k) ⊎ ((k : ℕ) × FlipsTo orders k z y)
  follows s a b ts start = inl (s, ts, here)
  follows s a b ts (imply {x = x} {y = y} {z = z} c t) =
      elim (follows s a b ts c) [
        | inl h ↦ elim (second_listed x y z t) [
          | inl g ↦ inr g
          | inr g ↦ inl (g.0, g.1, onward h.2 ((built.implies h.0 g.0).1 (x, y, z, h.1, g.1, t)))
        ]
        | inr h ↦ elim (second_listed x y z t) [
          | inl g ↦ inr g
          | inr g ↦ absurd (settled.no_valley x y z t h g)
        ]
      ]

  pub reaches_exactly : (s a b k y z : ℕ) → FlipsTo orders s a b → FlipsTo orders k y z → ReachesRow implied s k ↔ Closure paths a b y z
  reaches_exactly s a b k y z ts tk = (
    λ l. reached s a b ts l y z tk,
    λ c. elim (follows s a b ts c) [
      | inl h ↦ subst (ReachesRow implied s) (proper.one h.0 k y z h.1 tk) h.2
      | inr h ↦ absurd (proper.no_opposite k h.0 y z tk h.1)
    ],
  )

  -- where a closure leaves the orders against the labels, it does so at a triple
  leaves : (s a b : ℕ) → FlipsTo orders s a b → {y z : ℕ} → Closure paths a b y z →
      ((k : ℕ) × FlipsTo orders k y z × ReachesRow implied s k) ⊎
      ((x u v i j : ℕ) × FlipsTo orders i x u × ReachesRow implied s i × IsTriple paths x u v × FlipsTo orders j v u × Closure paths u v y z)
  leaves s a b ts start = inl (s, ts, here)
  leaves s a b ts (imply {x = x} {y = y} {z = z} c t) =
      elim (leaves s a b ts c) [
        | inl h ↦ elim (second_listed x y z t) [
          | inl g ↦ inr (x, y, z, h.0, g.0, h.1, h.2, t, g.1, start)
          | inr g ↦ inl (g.0, g.1, onward h.2 ((built.implies h.0 g.0).1 (x, y, z, h.1, g.1, t)))
        ]
        | inr (p, u, v, i, j, ti, l, q, tj, k) ↦ inr (p, u, v, i, j, ti, l, q, tj, imply k t)
      ]

  pub consistent_exactly : (s a b : ℕ) → FlipsTo orders s a b →
      IsConsistent paths a b ↔ ((i j : ℕ) → ReachesRow implied s i → ReachesRow implied s j → HasNext conflicting i j → ⊥)
  consistent_exactly s a b ts = (
    λ consistent i j li lj n.
        let w = (built.conflicts i j).0 n in
        consistent w.1 w.2 (imply (reached s a b ts li w.0 w.1 w.3) w.5) (reached s a b ts lj w.2 w.1 w.4),
    λ none. consistency_law paths a b (λ c. elim (leaves s a b ts c) [
      | inl h ↦ proper.no_opposite s h.0 a b ts h.1
      | inr (x, u, v, i, j, ti, l, q, tj, k) ↦
          none i j l ((reaches_exactly s a b j v u ts tj).1 (Closure-back paths u v k)) ((built.conflicts i j).1 (x, u, v, ti, tj, q))
    ]),
  )

  -- from an order that is against no label none follows that is
  pub none_flips : (a b : ℕ) → ((k : ℕ) → FlipsTo orders k a b → ⊥) → {y z : ℕ} → Closure paths a b y z → (k : ℕ) → FlipsTo orders k y z → ⊥
  none_flips a b none start k tk = none k tk
  none_flips a b none (imply {x = x} {y = y} {z = z} c t) k tk =
      elim (settled.listed x y z t) [
        | inl h ↦ none_flips a b none c h.0 h.1
        | inr h ↦ settled.no_valley x y z t h (k, tk)
      ]
