-- The literal "x over y" among the edges of paths, and what it says.
use Rattle.std.proofs.Common.{◌≡◌, ◌≢◌, ℕ, zero, suc, ◌+◌, ◌<◌, ◌⊎◌, inl, inr, min, max, true, false, not, List, [], ◌∷◌, ◌++◌, Some, length, flat_map, filter, refl, sym, ap, ap₂, ◌∙◌, subst, arith}
use Rattle.std.proofs.Common.{lt-ltb, le-ltb}
use Rattle.std.specs.Prelude.{slice_get}
use Rattle.std.specs.List.{position_or_len}
use Rattle.std.proofs.lemmas.Bool.{cases_Bool, cases_order, false≢true}
use Rattle.std.proofs.lemmas.Option.{slice_get_within, same_Some}
use Rattle.relationships.specs.Steps.{end_left}
use Rattle.relationships.specs.declared.label.End.{End}
use Rattle.relationships.specs.Relationship.{opposite, label_of, labels_of, is_low, is_high, is_over}
use Rattle.relationships.specs.Graph.{Edge, edge_of, is_same, edges_from, edges_on, distinct, edges, orientation}
use Rattle.relationships.proofs.Edges.{same_edge}
use Rattle.relationships.proofs.Slopes.{over_parts, over-low, over-high}
use Rattle.tor_arena.proofs.Gets.{slice_get-some}
use Rattle.tor_clauses.specs.Literals.{Literal, negated, over, Says, Holds}
use Rattle.tor_clauses.proofs.LiteralLemmas.{lit_with}
use Rattle.tor_clauses.proofs.Members.{In, In-flat_map, get-In}
use Rattle.tor_clauses.proofs.Distincts.{distinct_by, Apart, apart-distinct, In-distinct}
use Rattle.tor_clauses.proofs.Sames.{edge_same}

-- ---- edges

distinct_edges : (es : List Edge) → distinct es ≡ distinct_by is_same es
distinct_edges [] = refl
distinct_edges (e ∷ es) = ap (λ (l : List Edge). e ∷ filter (λ f. not (is_same e f)) l) (distinct_edges es)

pub edges-apart : (graph : List (List ℕ)) → Apart is_same (edges graph)
edges-apart graph = subst (Apart is_same) (sym (distinct_edges (flat_map edges_on graph))) (apart-distinct is_same (flat_map edges_on graph))

edge_reversed : (e f : Edge) → is_same e f ≡ true → is_same f e ≡ true
edge_reversed e f h = edge_same f e (sym (same_edge e f h))

edge_chained : (e f g : Edge) → is_same e f ≡ true → is_same f g ≡ true → is_same e g ≡ true
edge_chained e f g h k = edge_same e g (same_edge e f h ∙ same_edge f g k)

In-distinct_edges : (e : Edge) (es : List Edge) → In e es → In e (distinct es)
In-distinct_edges e es h =
    let r = In-distinct is_same (λ f. edge_same f f refl) edge_reversed edge_chained e es h in
    subst (λ f. In f (distinct es)) (same_edge r.0 e r.2) (subst (In r.0) (sym (distinct_edges es)) r.1)

edge_along : (a : ℕ) (before : List ℕ) (x y : ℕ) (after : List ℕ) → In (edge_of x y) (edges_from a (before ++ (x ∷ y ∷ after)))
edge_along a [] x y after = inr (inl refl)
edge_along a (b ∷ before) x y after = inr (edge_along b before x y after)

edge_on : (before : List ℕ) (x y : ℕ) (after : List ℕ) → In (edge_of x y) (edges_on (before ++ (x ∷ y ∷ after)))
edge_on [] x y after = inl refl
edge_on (b ∷ before) x y after = edge_along b before x y after

-- neighbours on a path are an edge
pub edge-In : (graph : List (List ℕ)) (path : List ℕ) (before : List ℕ) (x y : ℕ) (after : List ℕ) → In path graph → path ≡ before ++ (x ∷ y ∷ after) → In (edge_of x y) (edges graph)
edge-In graph path before x y after h e =
    In-distinct_edges (edge_of x y) (flat_map edges_on graph)
    (In-flat_map edges_on path (edge_of x y) graph h (subst (λ p. In (edge_of x y) (edges_on p)) (sym e) (edge_on before x y after)))

-- ---- its place

pub place_found : (e : Edge) (es : List Edge) → In e es → slice_get es (position_or_len (is_same e) es) ≡ Some e
place_found e [] h = absurd h
place_found e (f ∷ es) h = elim (cases_Bool (is_same e f)) [
  | inl t ↦ rw t (ap Some (sym (same_edge e f t)))
  | inr n ↦ rw n (behind (place_found e es) n h)
]
  where
    behind : (In e es → slice_get es (position_or_len (is_same e) es) ≡ Some e) → is_same e f ≡ false → (f ≡ e) ⊎ In e es → slice_get (f ∷ es) (1 + position_or_len (is_same e) es) ≡ Some e
    behind rest n (inl g) = absurd (false≢true (sym n ∙ edge_same e f (sym g)))
    behind rest n (inr h) = let k : 1 + position_or_len (is_same e) es ≡ suc (position_or_len (is_same e) es) = omega arith in rw k (rest h)

pub place_is : (es : List Edge) (k : ℕ) (e : Edge) → Apart is_same es → slice_get es k ≡ Some e → position_or_len (is_same e) es ≡ k
place_is [] k e a h = absurd (cc h)
place_is (f ∷ es) zero e a h = rw (edge_same e f (sym (same_Some _ _ h))) refl
place_is (f ∷ es) (suc k) e a h =
    let n : is_same e f ≡ false = other (cases_Bool (is_same e f)) in
    let i = place_is es k e a.1 h in
    rw n (omega (arith, i))
  where
    other : (is_same e f ≡ true) ⊎ (is_same e f ≡ false) → is_same e f ≡ false
    other (inl t) = absurd (false≢true (sym (a.0 e (get-In es k e h)) ∙ edge_reversed e f t))
    other (inr n) = n

-- an edge stands at one place
pub one_place : (graph : List (List ℕ)) (j k : ℕ) (e : Edge) → slice_get (edges graph) j ≡ Some e → slice_get (edges graph) k ≡ Some e → j ≡ k
one_place graph j k e at there = sym (place_is (edges graph) j e (edges-apart graph) at) ∙ place_is (edges graph) k e (edges-apart graph) there

-- ---- the two orders

pub end_reversed : (x y : ℕ) → x ≢ y → end_left y x ≡ opposite (end_left x y)
end_reversed x y ne = elim (cases_order x y) [
  | inl e ↦ absurd (ne e)
  | inr o ↦ elim o [
    | inl lt ↦ rw (lt-ltb x y lt, le-ltb y x (omega (arith, lt))) refl
    | inr lt ↦ rw (lt-ltb y x lt, le-ltb x y (omega (arith, lt))) refl
  ]
]

abbrev edge_with : ℕ → ℕ → Edge
edge_with a b = (a, b)

pub edge_reverse : (x y : ℕ) → edge_of y x ≡ edge_of x y
edge_reverse x y = let e : min y x ≡ min x y = omega arith in let f : max y x ≡ max x y = omega arith in ap₂ edge_with e f

pub over-reversed : (es : List Edge) (x y : ℕ) → x ≢ y → over es y x ≡ negated (over es x y)
over-reversed es x y ne = ap₂ lit_with (ap (λ e. position_or_len (is_same e) es) (edge_reverse x y)) (end_reversed x y ne)

pub Says-over : (es : List Edge) (x y : ℕ) → In (edge_of x y) es → x ≢ y → Says es (over es x y) x y
Says-over es x y h ne = record { edge = place_found (edge_of x y) es h; end = refl; two = ne }

-- the negation says the other order
pub Says-negated : (es : List Edge) (l : Literal) (x y : ℕ) → Says es l x y → Says es (negated l) y x
Says-negated es l x y s = record {
  edge = s.edge ∙ ap Some (sym (edge_reverse x y));
  end = ap opposite s.end ∙ sym (end_reversed x y s.two);
  two = λ e. s.two (sym e);
}

-- a literal says one order only
pub Says-one : (es : List Edge) (l : Literal) (x y a b : ℕ) → Says es l x y → Says es l a b → (x ≡ a) × (y ≡ b)
Says-one es l x y a b s t = elim (cases_order x y) [
  | inl e ↦ absurd (s.two e)
  | inr o ↦ elim (cases_order a b) [
    | inl e ↦ absurd (t.two e)
    | inr p ↦ elim o [
      | inl lt ↦ elim p [
        | inl lu ↦ (omega (arith, lt, lu, lows, highs), omega (arith, lt, lu, lows, highs))
        | inr lu ↦ absurd (low_high (low_left x y lt) (high_left a b lu) ends)
      ]
      | inr lt ↦ elim p [
        | inl lu ↦ absurd (low_high (low_left a b lu) (high_left x y lt) (sym ends))
        | inr lu ↦ (omega (arith, lt, lu, lows, highs), omega (arith, lt, lu, lows, highs))
      ]
    ]
  ]
]
  where
    first_same : {e f : Edge} → e ≡ f → e.0 ≡ f.0
    first_same h = ap (λ (g : Edge). g.0) h

    second_same : {e f : Edge} → e ≡ f → e.1 ≡ f.1
    second_same h = ap (λ (g : Edge). g.1) h

    lows : min x y ≡ min a b
    lows = first_same (same_Some _ _ (sym s.edge ∙ t.edge))

    highs : max x y ≡ max a b
    highs = second_same (same_Some _ _ (sym s.edge ∙ t.edge))

    ends : end_left x y ≡ end_left a b
    ends = sym s.end ∙ t.end

    low_left : (c d : ℕ) → c < d → end_left c d ≡ End.Low
    low_left c d lt = rw (lt-ltb c d lt) refl

    high_left : (c d : ℕ) → d < c → end_left c d ≡ End.High
    high_left c d lt = rw (le-ltb c d (omega (arith, lt))) refl

    low_high : {e f : End} → e ≡ End.Low → f ≡ End.High → e ≡ f → ⊥
    low_high h k g = cc

-- ---- what holds

provider : (es : List Edge) (ends : List End) (k : ℕ) (e : Edge) (end : End) → Apart is_same es → slice_get es k ≡ Some e → slice_get ends k ≡ Some end → orientation es ends e.0 e.1 ≡ end
provider [] ends k e end a h g = absurd (cc h)
provider (f ∷ es) [] k e end a h g = absurd (cc g)
provider (f ∷ es) (one ∷ ends) zero e end a h g = rw (edge_same f (e.0, e.1) (same_Some _ _ h)) (same_Some _ _ g)
provider (f ∷ es) (one ∷ ends) (suc k) e end a h g = rw (a.0 e (get-In es k e h)) (provider es ends k e end a.1 h g)

is_low-end : (e : End) → is_low (label_of e) ≡ true → e ≡ End.Low
is_low-end End.Low h = refl
is_low-end End.High h = absurd (false≢true h)

is_high-end : (e : End) → is_high (label_of e) ≡ true → e ≡ End.High
is_high-end End.Low h = absurd (false≢true h)
is_high-end End.High h = refl

module _ (es : List Edge) (ends : List End) (apart : Apart is_same es) where
  pub over-holds : (l : Literal) (x y : ℕ) → Says es l x y → Holds ends l → is_over (labels_of (orientation es ends)) x y ≡ true
  over-holds l x y s h =
      let p = provider es ends l.edge (edge_of x y) l.over apart s.edge h in
      elim (cases_order x y) [
        | inl e ↦ absurd (s.two e)
        | inr o ↦ elim o [
          | inl lt ↦
              let e : min x y ≡ x = omega (arith, lt) in let f : max x y ≡ y = omega (arith, lt) in
              let q : orientation es ends x y ≡ End.Low = ap₂ (λ a b. orientation es ends a b) (sym e) (sym f) ∙ p ∙ s.end ∙ low_left x y lt in
              over-low (labels_of (orientation es ends)) x y lt (ap (λ a. is_low (label_of a)) q)
          | inr lt ↦
              let e : min x y ≡ y = omega (arith, lt) in let f : max x y ≡ x = omega (arith, lt) in
              let q : orientation es ends y x ≡ End.High = ap₂ (λ a b. orientation es ends a b) (sym e) (sym f) ∙ p ∙ s.end ∙ high_left x y lt in
              over-high (labels_of (orientation es ends)) y x lt (ap (λ a. is_high (label_of a)) q)
        ]
      ]
    where
      low_left : (c d : ℕ) → c < d → end_left c d ≡ End.Low
      low_left c d lt = rw (lt-ltb c d lt) refl

      high_left : (c d : ℕ) → d < c → end_left c d ≡ End.High
      high_left c d lt = rw (le-ltb c d (omega (arith, lt))) refl

  pub holds-over : length ends ≡ length es → (l : Literal) (x y : ℕ) → Says es l x y → is_over (labels_of (orientation es ends)) x y ≡ true → Holds ends l
  holds-over same l x y s h =
      let lt = slice_get_within es l.edge (edge_of x y) s.edge in
      let r = slice_get-some ends l.edge (omega (arith, lt, same)) in
      let p = provider es ends l.edge (edge_of x y) r.0 apart s.edge r.1 in
      let q : r.0 ≡ end_left x y = elim (over_parts (labels_of (orientation es ends)) x y h) [
        | inl o ↦
            let e : min x y ≡ x = omega (arith, o.0) in let f : max x y ≡ y = omega (arith, o.0) in
            let g : orientation es ends x y ≡ r.0 = ap₂ (λ a b. orientation es ends a b) (sym e) (sym f) ∙ p in
            sym g ∙ is_low-end (orientation es ends x y) o.1 ∙ sym (low_left x y o.0)
        | inr o ↦
            let e : min x y ≡ y = omega (arith, o.0) in let f : max x y ≡ x = omega (arith, o.0) in
            let g : orientation es ends y x ≡ r.0 = ap₂ (λ a b. orientation es ends a b) (sym e) (sym f) ∙ p in
            sym g ∙ is_high-end (orientation es ends y x) o.1 ∙ sym (high_left x y o.0)
      ] in
      r.1 ∙ ap Some (q ∙ sym s.end)
    where
      low_left : (c d : ℕ) → c < d → end_left c d ≡ End.Low
      low_left c d lt = rw (lt-ltb c d lt) refl

      high_left : (c d : ℕ) → d < c → end_left c d ≡ End.High
      high_left c d lt = rw (le-ltb c d (omega (arith, lt))) refl
