-- Which edges have an order that is shown.
use Rattle.std.proofs.Common.{◌≡◌, ◌⊎◌, inl, inr, ℕ, suc, ◌-◌, ◌<◌, ◌≤◌, min, max, Bool, true, false, List, [], ◌∷◌, ◌++◌, Some, length, set, slice_get, slice_index, refl, sym, ap, ◌∙◌, subst, arith}
use Rattle.std.proofs.Common.{Contains, replicate, nat_eq, append-nil, append_assoc}
use Rattle.std.proofs.lemmas.Bool.{false≢true, cases_Bool, cases_order, eqb-true, eq-eqb, both_ways}
use Rattle.std.proofs.lemmas.Option.{get_or_from_slice_get, same_Some, slice_get_within}
use Rattle.std.proofs.lemmas.List.{get_or-replicate, length-replicate}
use Rattle.std.proofs.lemmas.List.Elements.{Contains-push, Contains-push_cases, Contains-append_left}
use Rattle.relationships.specs.Graph.{Edge, edge_of}
use Rattle.relationships.specs.declared.walk.Walk.{Walk}
use Rattle.result_text.specs.declared.file.EdgeLine.{EdgeLine}
use Rattle.result_rules.specs.File.{last_two, shown_orders}
use Rattle.line_rules.specs.EdgeLines.{edges_of, AreApart}
use Rattle.line_rules.specs.Serving.{IsShownBy}
use Rattle.tor_arena.proofs.Gets.{slice_get-map, slice_get-set_cases, slice_get-set_other, slice_get-set_same, All-get, Contains-from_has, Contains-none}
use Rattle.line_rules.proofs.OrderPlaces.{pair, edge_of-rising, edge_of-falling}

-- the orders of an edge are two
pub two_orders : (a b low high : ℕ) → edge_of a b ≡ (low, high) → (◌≡◌ {A = ℕ × ℕ} (a, b) (low, high)) ⊎ (◌≡◌ {A = ℕ × ℕ} (a, b) (high, low))
two_orders a b low high e =
    let l : min a b ≡ low = ap (λ (p : ℕ × ℕ). p.0) e in
    let h : max a b ≡ high = ap (λ (p : ℕ × ℕ). p.1) e in
    elim (cases_order a b) [
      | inl same ↦ (let p : a ≡ low = omega arith in let q : b ≡ high = omega arith in inl (pair p q))
      | inr o ↦ elim o [
        | inl lt ↦ (let p : a ≡ low = omega arith in let q : b ≡ high = omega arith in inl (pair p q))
        | inr lt ↦ (let p : a ≡ high = omega arith in let q : b ≡ low = omega arith in inr (pair p q))
      ]
    ]

-- one of the orders of the line's edge is among them
abbrev HasOne : List (ℕ × ℕ) → EdgeLine → Type 0
HasOne orders line = Contains orders (line.low, line.high) ⊎ Contains orders (line.high, line.low)

still_one : (orders : List (ℕ × ℕ)) (p : ℕ × ℕ) (line : EdgeLine) → HasOne orders line → HasOne (orders ++ p ∷ []) line
still_one orders p line (inl c) = inl (Contains-append_left orders (p ∷ []) (line.low, line.high) c)
still_one orders p line (inr c) = inr (Contains-append_left orders (p ∷ []) (line.high, line.low) c)

-- where no edge is shown, no order is
pub shown-none : (lines : List EdgeLine) (shown : List Bool) (n : ℕ) → shown ≡ replicate n false → IsShownBy lines [] shown
shown-none lines shown n e k line at = (
  λ t.
      let all : slice_get (replicate n false) k ≡ Some true = subst (λ (l : List Bool). slice_get l k ≡ Some true) e t in
      let lt : k < n = omega (arith, slice_get_within (replicate n false) k true all, length-replicate n false) in
      absurd (false≢true (sym (get_or-replicate n k false false lt) ∙ get_or_from_slice_get (replicate n false) k true false all)),
  λ one. elim one [ inl c ↦ absurd (Contains-none (line.low, line.high) c) | inr c ↦ absurd (Contains-none (line.high, line.low) c) ],
)

module _ (lines : List EdgeLine) (ok : AreApart lines) where
  edge_at : (k : ℕ) (line : EdgeLine) → slice_get lines k ≡ Some line → slice_get (edges_of lines) k ≡ Some (line.low, line.high)
  edge_at k line at = slice_get-map (λ (e : EdgeLine). (e.low, e.high)) lines k line at

  -- an order more is one of the line's edge, or there was one before
  one_cases : (orders : List (ℕ × ℕ)) (a b k : ℕ) (line : EdgeLine) → slice_get lines k ≡ Some line → HasOne (orders ++ (a, b) ∷ []) line → HasOne orders line ⊎ (edge_of a b ≡ (line.low, line.high))
  one_cases orders a b k line at (inl c) = elim (Contains-push_cases orders (a, b) (line.low, line.high) c) [
    | inl h ↦ inl (inl h)
    | inr e ↦ inr (ap (λ (p : ℕ × ℕ). edge_of p.0 p.1) e ∙ edge_of-rising line.low line.high (All-get (λ (l : EdgeLine). l.low < l.high) lines k line ok.rising at))
  ]
  one_cases orders a b k line at (inr c) = elim (Contains-push_cases orders (a, b) (line.high, line.low) c) [
    | inl h ↦ inl (inr h)
    | inr e ↦ inr (ap (λ (p : ℕ × ℕ). edge_of p.0 p.1) e ∙ edge_of-falling line.low line.high (All-get (λ (l : EdgeLine). l.low < l.high) lines k line ok.rising at))
  ]

  one_last : (orders : List (ℕ × ℕ)) (a b : ℕ) (line : EdgeLine) → edge_of a b ≡ (line.low, line.high) → HasOne (orders ++ (a, b) ∷ []) line
  one_last orders a b line e = elim (two_orders a b line.low line.high e) [
    | inl same ↦ inl (subst (Contains (orders ++ (a, b) ∷ [])) same (Contains-push orders (a, b)))
    | inr same ↦ inr (subst (Contains (orders ++ (a, b) ∷ [])) same (Contains-push orders (a, b)))
  ]

  pub shown-absent : (orders : List (ℕ × ℕ)) (a b : ℕ) (shown : List Bool) → (Contains (edges_of lines) (edge_of a b) → ⊥) → IsShownBy lines orders shown
      → IsShownBy lines (orders ++ (a, b) ∷ []) shown
  shown-absent orders a b shown none h k line at = (
    λ t. still_one orders (a, b) line ((h k line at).0 t),
    λ one. elim (one_cases orders a b k line at one) [
      | inl o ↦ (h k line at).1 o
      | inr e ↦ absurd (none (subst (Contains (edges_of lines)) (sym e) (Contains-from_has (edges_of lines) (line.low, line.high) (k, edge_at k line at))))
    ],
  )

  pub shown-more : (orders : List (ℕ × ℕ)) (a b place : ℕ) (shown new : List Bool) → slice_get (edges_of lines) place ≡ Some (edge_of a b) → place < length shown → new ≡ set shown place true →
      IsShownBy lines orders shown → IsShownBy lines (orders ++ (a, b) ∷ []) new
  shown-more orders a b place shown new at_place lt e h = rw e (λ k line at. (
    λ t. elim (slice_get-set_cases shown place true k true t) [
      | inl p ↦ one_last orders a b line (same_Some (edge_of a b) (line.low, line.high) (sym at_place ∙ ap (slice_get (edges_of lines)) (sym p.0) ∙ edge_at k line at))
      | inr p ↦ still_one orders (a, b) line ((h k line at).0 p.1)
    ],
    λ one. elim (one_cases orders a b k line at one) [
      | inl o ↦ kept k ((h k line at).1 o)
      | inr same ↦
          let is : place ≡ k = ok.once place k (edge_of a b) at_place (edge_at k line at ∙ ap (λ (p : Edge). Some p) (sym same)) in
          subst (λ i. slice_get (set shown place true) i ≡ Some true) is (slice_get-set_same shown place true lt)
    ],
  ))
    where
      kept : (k : ℕ) → slice_get shown k ≡ Some true → slice_get (set shown place true) k ≡ Some true
      kept k s = elim (cases_Bool (nat_eq k place)) [
        | inl t ↦ subst (λ i. slice_get (set shown place true) i ≡ Some true) (sym (eqb-true k place t)) (slice_get-set_same shown place true lt)
        | inr n ↦ slice_get-set_other shown place true k (λ e. both_ways (nat_eq k place) n (eq-eqb k place e)) ∙ s
      ]

-- ---- the last two ASes of a walk

pub last_two-few : (ases : List ℕ) → length ases < 2 → last_two ases ≡ []
last_two-few [] lt = refl
last_two-few (a ∷ []) lt = refl
last_two-few (a ∷ b ∷ ases) lt = absurd (omega arith)

pub last_two-is : (ases : List ℕ) → 2 ≤ length ases → last_two ases ≡ (slice_index ases (length ases - 2), slice_index ases (length ases - 1)) ∷ []
last_two-is [] le = absurd (omega arith)
last_two-is (a ∷ []) le = absurd (omega arith)
last_two-is (a ∷ b ∷ []) le = refl
last_two-is (a ∷ b ∷ d ∷ ases) le =
    let e : length (a ∷ b ∷ d ∷ ases) - 2 ≡ suc (length (b ∷ d ∷ ases) - 2) = omega arith in
    let e' : length (a ∷ b ∷ d ∷ ases) - 1 ≡ suc (length (b ∷ d ∷ ases) - 1) = omega arith in
    last_two-is (b ∷ d ∷ ases) (omega arith) ∙
    ap (λ (p : ℕ × ℕ). p ∷ []) (pair (ap (slice_index (a ∷ b ∷ d ∷ ases)) (sym e)) (ap (slice_index (a ∷ b ∷ d ∷ ases)) (sym e')))

pub orders_more : (whys : List Walk) (w : Walk) → shown_orders (whys ++ w ∷ []) ≡ shown_orders whys ++ last_two w.ases
orders_more [] w = append-nil (last_two w.ases)
orders_more (v ∷ whys) w = ap (λ l. last_two v.ases ++ l) (orders_more whys w) ∙ sym (append_assoc (last_two v.ases) (shown_orders whys) (last_two w.ases))
