-- What two consecutive steps imply and rule out, and how the rows come to have it.
use Rattle.std.proofs.Common.{◌≡◌, ◌↔◌, ◌⊎◌, inl, inr, ℕ, ◌+◌, ◌-◌, ◌<◌, ◌≤◌, Bool, true, false, List, [], ◌∷◌, ◌++◌, Some, length, slice_get, slice_index, slice_index_or, refl, sym, ap, ◌∙◌, subst}
use Rattle.std.proofs.Common.{arith, Contains, length-set, nat_eq}
use Rattle.std.proofs.lemmas.Bool.{cases_lt, cases_Bool, eqb-true, eq-eqb, both_ways}
use Rattle.std.proofs.lemmas.Option.{get_or_from_slice_get, slice_get-get_or, slice_get_within}
use Rattle.std.proofs.lemmas.List.Elements.{Contains-push, Contains-push_cases, Contains-append_left}
use Rattle.relationships.specs.Evidence.{TripleAt, IsTriple}
use Rattle.relationships.proofs.Places.{StandAt-from_index, index-from_StandAt}
use Rattle.line_rules.specs.Neighbours.{HasNext, EachHasRow, with_next}
use Rattle.line_rules.specs.Flipping.{FlipsTo, Implies, Conflicts, IsBuilt, IsClimb, with_implied, with_conflicting, TripleBefore, IsProper}
use Rattle.tor_arena.proofs.Gets.{slice_get-set_cases, slice_get-set_other, slice_get-set_same}

-- ---- one more in a row

pub length-with_next : (rows : List (List ℕ)) (a b : ℕ) → length (with_next rows a b) ≡ length rows
length-with_next rows a b = length-set rows a (slice_index_or rows a [] ++ b ∷ [])

pub next_cases : (rows : List (List ℕ)) (a b i j : ℕ) → a < length rows → HasNext (with_next rows a b) i j → HasNext rows i j ⊎ ((i ≡ a) × (j ≡ b))
next_cases rows a b i j lt h =
    elim (slice_get-set_cases rows a (slice_index_or rows a [] ++ b ∷ []) i h.0 h.1) [
      | inl p ↦ elim (Contains-push_cases (slice_index_or rows a []) b j (subst (λ l. Contains l j) p.1 h.2)) [
        | inl c ↦ inl (slice_index_or rows a [], subst (λ k. slice_get rows k ≡ Some (slice_index_or rows a [])) (sym p.0) (slice_get-get_or rows a [] lt), c)
        | inr e ↦ inr (p.0, sym e)
      ]
      | inr p ↦ inl (h.0, p.1, h.2)
    ]

pub next_kept : (rows : List (List ℕ)) (a b i j : ℕ) → a < length rows → HasNext rows i j → HasNext (with_next rows a b) i j
next_kept rows a b i j lt h =
    elim (cases_Bool (nat_eq i a)) [
      | inl t ↦
          let e = eqb-true i a t in
          let row : slice_index_or rows a [] ≡ h.0 = get_or_from_slice_get rows a h.0 [] (subst (λ k. slice_get rows k ≡ Some h.0) e h.1) in (
            slice_index_or rows a [] ++ b ∷ [],
            subst (λ k. slice_get (with_next rows a b) k ≡ Some (slice_index_or rows a [] ++ b ∷ [])) (sym e) (slice_get-set_same rows a (slice_index_or rows a [] ++ b ∷ []) lt),
            Contains-append_left (slice_index_or rows a []) (b ∷ []) j (subst (λ l. Contains l j) (sym row) h.2),
          )
      | inr n ↦ (h.0, slice_get-set_other rows a (slice_index_or rows a [] ++ b ∷ []) i (λ e. both_ways (nat_eq i a) n (eq-eqb i a e)) ∙ h.1, h.2)
    ]

pub next_last : (rows : List (List ℕ)) (a b i j : ℕ) → a < length rows → i ≡ a → j ≡ b → HasNext (with_next rows a b) i j
next_last rows a b i j lt e e' =
    subst (λ k. HasNext (with_next rows a b) k j) (sym e) (subst (λ k. HasNext (with_next rows a b) a k) (sym e')
    (slice_index_or rows a [] ++ b ∷ [], slice_get-set_same rows a (slice_index_or rows a [] ++ b ∷ []) lt, Contains-push (slice_index_or rows a []) b))

-- ---- the triple of two consecutive steps

abbrev pub Also : ℕ → ℕ → ℕ → ℕ → ℕ → ℕ → Type 0
Also p q r x y z = ((x ≡ p) × (y ≡ q) × (z ≡ r)) ⊎ ((x ≡ r) × (y ≡ q) × (z ≡ p))

module _ (orders : List (ℕ × ℕ)) where
  flips_to : (k x y u v : ℕ) → x ≡ u → y ≡ v → FlipsTo orders k x y → FlipsTo orders k u v
  flips_to k x y u v e e' h = subst (λ w. FlipsTo orders k u w) e' (subst (λ w. FlipsTo orders k w y) e h)

  implies_cases : (p q r i j : ℕ) → Implies orders (Also p q r) i j → (FlipsTo orders i p q × FlipsTo orders j q r) ⊎ (FlipsTo orders i r q × FlipsTo orders j q p)
  implies_cases p q r i j (x, y, z, ti, tj, inl e) = inl (flips_to i x y p q e.0 e.1 ti, flips_to j y z q r e.1 e.2 tj)
  implies_cases p q r i j (x, y, z, ti, tj, inr e) = inr (flips_to i x y r q e.0 e.1 ti, flips_to j y z q p e.1 e.2 tj)

  conflicts_cases : (p q r i j : ℕ) → Conflicts orders (Also p q r) i j → (FlipsTo orders i p q × FlipsTo orders j r q) ⊎ (FlipsTo orders i r q × FlipsTo orders j p q)
  conflicts_cases p q r i j (x, y, z, ti, tj, inl e) = inl (flips_to i x y p q e.0 e.1 ti, flips_to j z y r q e.2 e.1 tj)
  conflicts_cases p q r i j (x, y, z, ti, tj, inr e) = inr (flips_to i x y r q e.0 e.1 ti, flips_to j z y p q e.2 e.1 tj)

module _ (orders : List (ℕ × ℕ)) (proper : IsProper orders) (T T' : ℕ → ℕ → ℕ → Type 0) (p q r : ℕ) (exact : (x y z : ℕ) → T' x y z ↔ (T x y z ⊎ Also p q r x y z)) where
  implies_wider : (i j : ℕ) → Implies orders T i j → Implies orders T' i j
  implies_wider i j (x, y, z, ti, tj, t) = (x, y, z, ti, tj, (exact x y z).1 (inl t))

  implies_split : (i j : ℕ) → Implies orders T' i j → Implies orders T i j ⊎ ((FlipsTo orders i p q × FlipsTo orders j q r) ⊎ (FlipsTo orders i r q × FlipsTo orders j q p))
  implies_split i j (x, y, z, ti, tj, t) = elim ((exact x y z).0 t) [ inl h ↦ inl (x, y, z, ti, tj, h) | inr h ↦ inr (implies_cases orders p q r i j (x, y, z, ti, tj, h)) ]

  conflicts_wider : (i j : ℕ) → Conflicts orders T i j → Conflicts orders T' i j
  conflicts_wider i j (x, y, z, ti, tj, t) = (x, y, z, ti, tj, (exact x y z).1 (inl t))

  conflicts_split : (i j : ℕ) → Conflicts orders T' i j → Conflicts orders T i j ⊎ ((FlipsTo orders i p q × FlipsTo orders j r q) ⊎ (FlipsTo orders i r q × FlipsTo orders j p q))
  conflicts_split i j (x, y, z, ti, tj, t) = elim ((exact x y z).0 t) [ inl h ↦ inl (x, y, z, ti, tj, h) | inr h ↦ inr (conflicts_cases orders p q r i j (x, y, z, ti, tj, h)) ]

  there : T' p q r
  there = (exact p q r).1 (inr (inl (refl, refl, refl)))

  back : T' r q p
  back = (exact r q p).1 (inr (inr (refl, refl, refl)))

  -- where the rows gain nothing, no edge is implied
  none_implied : (rows : List (List ℕ)) → ((i j : ℕ) → HasNext rows i j ↔ Implies orders T i j) →
      ((i j : ℕ) → (FlipsTo orders i p q × FlipsTo orders j q r) ⊎ (FlipsTo orders i r q × FlipsTo orders j q p) → ⊥) →
      (i j : ℕ) → HasNext rows i j ↔ Implies orders T' i j
  none_implied rows h none i j = (
    λ n. implies_wider i j ((h i j).0 n),
    λ c. elim (implies_split i j c) [ inl d ↦ (h i j).1 d | inr d ↦ absurd (none i j d) ],
  )

  none_conflicting : (rows : List (List ℕ)) → ((i j : ℕ) → HasNext rows i j ↔ Conflicts orders T i j) →
      ((i j : ℕ) → (FlipsTo orders i p q × FlipsTo orders j r q) ⊎ (FlipsTo orders i r q × FlipsTo orders j p q) → ⊥) →
      (i j : ℕ) → HasNext rows i j ↔ Conflicts orders T' i j
  none_conflicting rows h none i j = (
    λ n. conflicts_wider i j ((h i j).0 n),
    λ c. elim (conflicts_split i j c) [ inl d ↦ (h i j).1 d | inr d ↦ absurd (none i j d) ],
  )

  -- two steps up, or down
  one_implied : (rows : List (List ℕ)) (a b : ℕ) → a < length rows → ((i j : ℕ) → HasNext rows i j ↔ Implies orders T i j) →
      Implies orders T' a b →
      ((i j : ℕ) → (FlipsTo orders i p q × FlipsTo orders j q r) ⊎ (FlipsTo orders i r q × FlipsTo orders j q p) → (i ≡ a) × (j ≡ b)) →
      (i j : ℕ) → HasNext (with_next rows a b) i j ↔ Implies orders T' i j
  one_implied rows a b lt h new only i j = (
    λ n. elim (next_cases rows a b i j lt n) [
      | inl m ↦ implies_wider i j ((h i j).0 m)
      | inr e ↦ subst (λ k. Implies orders T' k j) (sym e.0) (subst (λ k. Implies orders T' a k) (sym e.1) new)
    ],
    λ c. elim (implies_split i j c) [
      | inl d ↦ next_kept rows a b i j lt ((h i j).1 d)
      | inr d ↦ let e = only i j d in next_last rows a b i j lt e.0 e.1
    ],
  )

  -- a peak
  two_conflicting : (rows : List (List ℕ)) (a b : ℕ) → a < length rows → b < length rows → ((i j : ℕ) → HasNext rows i j ↔ Conflicts orders T i j) →
      Conflicts orders T' a b → Conflicts orders T' b a →
      ((i j : ℕ) → (FlipsTo orders i p q × FlipsTo orders j r q) ⊎ (FlipsTo orders i r q × FlipsTo orders j p q) → ((i ≡ a) × (j ≡ b)) ⊎ ((i ≡ b) × (j ≡ a))) →
      (i j : ℕ) → HasNext (with_next (with_next rows a b) b a) i j ↔ Conflicts orders T' i j
  two_conflicting rows a b lt lt' h new new' only i j =
      let more = with_next rows a b in
      let within : b < length more = omega (arith, length-with_next rows a b) in (
        λ n. elim (next_cases more b a i j within n) [
          | inl m ↦ elim (next_cases rows a b i j lt m) [
            | inl o ↦ conflicts_wider i j ((h i j).0 o)
            | inr e ↦ subst (λ k. Conflicts orders T' k j) (sym e.0) (subst (λ k. Conflicts orders T' a k) (sym e.1) new)
          ]
          | inr e ↦ subst (λ k. Conflicts orders T' k j) (sym e.0) (subst (λ k. Conflicts orders T' b k) (sym e.1) new')
        ],
        λ c. elim (conflicts_split i j c) [
          | inl d ↦ next_kept more b a i j within (next_kept rows a b i j lt ((h i j).1 d))
          | inr d ↦ elim (only i j d) [
            | inl e ↦ next_kept more b a i j within (next_last rows a b i j lt e.0 e.1)
            | inr e ↦ next_last more b a i j within e.0 e.1
          ]
        ],
      )

  pub built_more : (first second : ℕ) (up up' : Bool) (implied conflicting : List (List ℕ)) → IsClimb orders first up p q → IsClimb orders second up' q r →
      first < length implied → second < length implied → IsBuilt orders T implied conflicting →
      IsBuilt orders T' (with_implied up up' first second implied) (with_conflicting up up' first second conflicting)
  built_more first second true true implied conflicting s s' lt lt' b = record {
    implied_many = length-with_next implied first second ∙ b.implied_many;
    conflicting_many = b.conflicting_many;
    implies = one_implied implied first second lt b.implies (p, q, r, s, s', there) (λ i j d. elim d [
      | inl t ↦ (proper.one i first p q t.0 s, proper.one j second q r t.1 s')
      | inr t ↦ absurd (proper.no_opposite i second r q t.0 s')
    ]);
    conflicts = none_conflicting conflicting b.conflicts (λ i j d. elim d [
      | inl t ↦ proper.no_opposite j second r q t.1 s'
      | inr t ↦ proper.no_opposite i second r q t.0 s'
    ]);
  }
  built_more first second false false implied conflicting s s' lt lt' b = record {
    implied_many = length-with_next implied second first ∙ b.implied_many;
    conflicting_many = b.conflicting_many;
    implies = one_implied implied second first lt' b.implies (r, q, p, s', s, back) (λ i j d. elim d [
      | inl t ↦ absurd (proper.no_opposite i first p q t.0 s)
      | inr t ↦ (proper.one i second r q t.0 s', proper.one j first q p t.1 s)
    ]);
    conflicts = none_conflicting conflicting b.conflicts (λ i j d. elim d [
      | inl t ↦ proper.no_opposite i first p q t.0 s
      | inr t ↦ proper.no_opposite j first p q t.1 s
    ]);
  }
  built_more first second true false implied conflicting s s' lt lt' b = record {
    implied_many = b.implied_many;
    conflicting_many = length-with_next (with_next conflicting first second) second first ∙ length-with_next conflicting first second ∙ b.conflicting_many;
    implies = none_implied implied b.implies (λ i j d. elim d [
      | inl t ↦ proper.no_opposite j second q r t.1 s'
      | inr t ↦ proper.no_opposite j first q p t.1 s
    ]);
    conflicts = two_conflicting conflicting first second (omega (arith, b.implied_many, b.conflicting_many)) (omega (arith, b.implied_many, b.conflicting_many)) b.conflicts
        (p, q, r, s, s', there) (r, q, p, s', s, back) (λ i j d. elim d [
          | inl t ↦ inl (proper.one i first p q t.0 s, proper.one j second r q t.1 s')
          | inr t ↦ inr (proper.one i second r q t.0 s', proper.one j first p q t.1 s)
        ]);
  }
  built_more first second false true implied conflicting s s' lt lt' b = record {
    implied_many = b.implied_many;
    conflicting_many = b.conflicting_many;
    implies = none_implied implied b.implies (λ i j d. elim d [
      | inl t ↦ proper.no_opposite i first p q t.0 s
      | inr t ↦ proper.no_opposite i second r q t.0 s'
    ]);
    conflicts = none_conflicting conflicting b.conflicts (λ i j d. elim d [
      | inl t ↦ proper.no_opposite i first p q t.0 s
      | inr t ↦ proper.no_opposite i second r q t.0 s'
    ]);
  }

-- the same triples
pub built_same : (orders : List (ℕ × ℕ)) (T T' : ℕ → ℕ → ℕ → Type 0) (implied conflicting : List (List ℕ)) → ((x y z : ℕ) → T x y z ↔ T' x y z) → IsBuilt orders T implied conflicting
    → IsBuilt orders T' implied conflicting
built_same orders T T' implied conflicting same b = record {
  implied_many = b.implied_many;
  conflicting_many = b.conflicting_many;
  implies = λ i j. (
    λ n. let c = (b.implies i j).0 n in (c.0, c.1, c.2, c.3, c.4, (same c.0 c.1 c.2).0 c.5),
    λ c. (b.implies i j).1 (c.0, c.1, c.2, c.3, c.4, (same c.0 c.1 c.2).1 c.5),
  );
  conflicts = λ i j. (
    λ n. let c = (b.conflicts i j).0 n in (c.0, c.1, c.2, c.3, c.4, (same c.0 c.1 c.2).0 c.5),
    λ c. (b.conflicts i j).1 (c.0, c.1, c.2, c.3, c.4, (same c.0 c.1 c.2).1 c.5),
  );
}

-- ---- triples of a path, place by place

pub before_begin : (paths : List (List ℕ)) (path : List ℕ) (end : ℕ) → end ≤ 2 → (x y z : ℕ) → IsTriple paths x y z ↔ TripleBefore paths path end x y z
before_begin paths path end few x y z = (
  λ t. inl t,
  λ t. elim t [ inl h ↦ h | inr h ↦ absurd (too_early h.0 h.1 h.2) ],
)
  where
    too_early : (at : ℕ) → at < end → TripleAt path at x y z → ⊥
    too_early at lt (inl s) = let w = (index-from_StandAt path at x y z s).0 in omega arith
    too_early at lt (inr s) = let w = (index-from_StandAt path at z y x s).0 in omega arith

pub before_more : (paths : List (List ℕ)) (path : List ℕ) (at : ℕ) → 2 ≤ at → at < length path → (x y z : ℕ) →
    TripleBefore paths path (at + 1) x y z ↔ (TripleBefore paths path at x y z ⊎ Also (slice_index path (at - 2)) (slice_index path (at - 1)) (slice_index path at) x y z)
before_more paths path at two within x y z = (
  λ t. elim t [
    | inl h ↦ inl (inl h)
    | inr h ↦ elim (cases_lt h.0 at) [
      | inl lt ↦ inl (inr (h.0, lt, h.2))
      | inr ge ↦ let lt = h.1 in let e : h.0 ≡ at = omega arith in inr (here (subst (λ k. TripleAt path k x y z) e h.2))
    ]
  ],
  λ t. elim t [
    | inl h ↦ elim h [ inl g ↦ inl g | inr g ↦ let lt = g.1 in inr (g.0, omega arith, g.2) ]
    | inr h ↦ inr (at, omega arith, stands h)
  ],
)
  where
    here : TripleAt path at x y z → Also (slice_index path (at - 2)) (slice_index path (at - 1)) (slice_index path at) x y z
    here (inl s) = let w = index-from_StandAt path at x y z s in inl (sym w.2, sym w.3, sym w.4)
    here (inr s) = let w = index-from_StandAt path at z y x s in inr (sym w.4, sym w.3, sym w.2)

    stands : Also (slice_index path (at - 2)) (slice_index path (at - 1)) (slice_index path at) x y z → TripleAt path at x y z
    stands (inl e) = inl (StandAt-from_index path at x y z two within (sym e.0) (sym e.1) (sym e.2))
    stands (inr e) = inr (StandAt-from_index path at z y x two within (sym e.2) (sym e.1) (sym e.0))

pub before_end : (paths : List (List ℕ)) (path : List ℕ) (end : ℕ) → length path ≤ end → (x y z : ℕ) → TripleBefore paths path end x y z ↔ IsTriple (paths ++ path ∷ []) x y z
before_end paths path end all x y z = (
  λ t. elim t [
    | inl h ↦ (h.0, Contains-append_left paths (path ∷ []) h.0 h.1, h.2)
    | inr h ↦ (path, Contains-push paths path, (h.0, h.2))
  ],
  λ t. elim (Contains-push_cases paths path t.0 t.1) [
    | inl c ↦ inl (t.0, c, t.2)
    | inr e ↦ let u = subst (λ l. TripleAt l t.2.0 x y z) (sym e) t.2.1 in inr (t.2.0, early t.2.0 u, u)
  ],
)
  where
    early : (at : ℕ) → TripleAt path at x y z → at < end
    early at (inl s) = let w = (index-from_StandAt path at x y z s).1 in omega arith
    early at (inr s) = let w = (index-from_StandAt path at z y x s).1 in omega arith

-- ---- one place more on a path

pub length-with_implied : (up up' : Bool) (first second : ℕ) (rows : List (List ℕ)) → length (with_implied up up' first second rows) ≡ length rows
length-with_implied true true first second rows = length-with_next rows first second
length-with_implied false false first second rows = length-with_next rows second first
length-with_implied true false first second rows = refl
length-with_implied false true first second rows = refl

pub length-with_conflicting : (up up' : Bool) (first second : ℕ) (rows : List (List ℕ)) → length (with_conflicting up up' first second rows) ≡ length rows
length-with_conflicting true true first second rows = refl
length-with_conflicting false false first second rows = refl
length-with_conflicting true false first second rows = length-with_next (with_next rows first second) second first ∙ length-with_next rows first second
length-with_conflicting false true first second rows = refl

pub many_implied : (up up' : Bool) (first second n : ℕ) (rows new : List (List ℕ)) → new ≡ with_implied up up' first second rows → length rows ≡ n → length new ≡ n
many_implied up up' first second n rows new e h = ap length e ∙ length-with_implied up up' first second rows ∙ h

pub many_conflicting : (up up' : Bool) (first second n : ℕ) (rows new : List (List ℕ)) → new ≡ with_conflicting up up' first second rows → length rows ≡ n → length new ≡ n
many_conflicting up up' first second n rows new e h = ap length e ∙ length-with_conflicting up up' first second rows ∙ h

pub step_on : (orders : List (ℕ × ℕ)) (path : List ℕ) (edge at : ℕ) (up : Bool) → 2 ≤ at → IsClimb orders edge up (slice_index path (at - 1)) (slice_index path at) →
    IsClimb orders edge up (slice_index path (at + 1 - 2)) (slice_index path (at + 1 - 1))
step_on orders path edge at up two s =
    let e : at - 1 ≡ at + 1 - 2 = omega arith in
    let e' : at ≡ at + 1 - 1 = omega arith in
    subst (λ k. IsClimb orders edge up (slice_index path k) (slice_index path (at + 1 - 1))) e (subst (λ k. IsClimb orders edge up (slice_index path (at - 1)) (slice_index path k)) e' s)

-- the rows of the triples before the next place, and of the one there
pub path_more : (orders : List (ℕ × ℕ)) (path : List ℕ) (at first second : ℕ) (up up' : Bool) (implied conflicting implied' conflicting' : List (List ℕ)) → IsProper orders → 2 ≤ at
    → at < length path →
    IsClimb orders first up (slice_index path (at - 2)) (slice_index path (at - 1)) → IsClimb orders second up' (slice_index path (at - 1)) (slice_index path at) →
    first < length implied → second < length implied → implied' ≡ with_implied up up' first second implied → conflicting' ≡ with_conflicting up up' first second conflicting →
    (paths : List (List ℕ)) → IsBuilt orders (TripleBefore paths path at) implied conflicting → IsBuilt orders (TripleBefore paths path (at + 1)) implied' conflicting'
path_more orders path at first second up up' implied conflicting implied' conflicting' proper two within s s' lt lt' e e' paths b =
    subst (λ l. IsBuilt orders (TripleBefore paths path (at + 1)) l conflicting') (sym e)
    (subst (λ l. IsBuilt orders (TripleBefore paths path (at + 1)) (with_implied up up' first second implied) l) (sym e')
    (built_more orders proper (TripleBefore paths path at) (TripleBefore paths path (at + 1)) (slice_index path (at - 2)) (slice_index path (at - 1)) (slice_index path at)
    (before_more paths path at two within)
    first second up up' implied conflicting s s' lt lt' b))

pub path_begin : (orders : List (ℕ × ℕ)) (path : List ℕ) (implied conflicting : List (List ℕ)) (paths : List (List ℕ)) → IsBuilt orders (IsTriple paths) implied conflicting
    → IsBuilt orders (TripleBefore paths path 2) implied conflicting
path_begin orders path implied conflicting paths b = built_same orders (IsTriple paths) (TripleBefore paths path 2) implied conflicting (before_begin paths path 2 (omega arith)) b

pub path_end : (orders : List (ℕ × ℕ)) (path : List ℕ) (end : ℕ) (implied conflicting : List (List ℕ)) → length path ≤ end → (paths : List (List ℕ))
    → IsBuilt orders (TripleBefore paths path end) implied conflicting → IsBuilt orders (IsTriple (paths ++ path ∷ [])) implied conflicting
path_end orders path end implied conflicting all paths b = built_same orders (TripleBefore paths path end) (IsTriple (paths ++ path ∷ [])) implied conflicting (before_end paths path end all) b

-- ---- what stands in the rows

pub inside_implied : (orders : List (ℕ × ℕ)) (T : ℕ → ℕ → ℕ → Type 0) (implied conflicting : List (List ℕ)) → IsBuilt orders T implied conflicting → EachHasRow implied
inside_implied orders T implied conflicting b i j h =
    let c = (b.implies i j).0 h in
    omega (arith, slice_get_within orders j (c.1, c.2) c.4, b.implied_many)

pub inside_conflicting : (orders : List (ℕ × ℕ)) (T : ℕ → ℕ → ℕ → Type 0) (implied conflicting : List (List ℕ)) → IsBuilt orders T implied conflicting → EachHasRow conflicting
inside_conflicting orders T implied conflicting b i j h =
    let c = (b.conflicts i j).0 h in
    omega (arith, slice_get_within orders j (c.2, c.1) c.4, b.conflicting_many)

pub flipping_within : (orders : List (ℕ × ℕ)) (T : ℕ → ℕ → ℕ → Type 0) (implied conflicting : List (List ℕ)) (k x y : ℕ) → IsBuilt orders T implied conflicting → FlipsTo orders k x y
    → k < length implied
flipping_within orders T implied conflicting k x y b t = omega (arith, slice_get_within orders k (x, y) t, b.implied_many)
