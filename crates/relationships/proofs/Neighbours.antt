-- What the edges of paths are, and in which order: the two laws of edges.
use Rattle.std.proofs.Common.{◌≡◌, ◌≢◌, ℕ, true, not, inl, inr, List, [], ◌∷◌, ◌++◌, flat_map, filter, refl, sym, ap, ◌∙◌, subst, arith, append_assoc, append-nil, Contains, eq-eqb}
use Rattle.std.specs.List.{AllByRecursion, AllPairs}
use Rattle.std.proofs.lemmas.Bool.{cases_Bool, both_ways}
use Rattle.std.proofs.lemmas.List.Concat.{flat_map-append}
use Rattle.std.proofs.lemmas.List.Elements.{All-contains, All-contains_itself, All-from_recursion, Contains-append_left, Contains-append_right, filter-append}
use Rattle.std.proofs.lemmas.List.Kept.{AllPairs-cons, AllPairs-filter}
use Rattle.relationships.specs.Graph.{Edge, edge_of, is_same, edges_from, edges_on, distinct, edges}
use Rattle.relationships.specs.Laws.Graph.{AreNeighbours, EdgeLaw, EdgeOrderLaw}
use Rattle.relationships.proofs.Edges.{along_each}

-- ---- no edge stands twice

same_itself : (e : Edge) → is_same e e ≡ true
same_itself e = rw (eq-eqb e.0 e.0 refl, eq-eqb e.1 e.1 refl)

others_differ : (e : Edge) (es : List Edge) → AllByRecursion (λ f. e ≢ f) (filter (λ f. not (is_same e f)) es)
others_differ e [] = tt
others_differ e (f ∷ es) =
    elim (cases_Bool (is_same e f)) [
      | inl t ↦ rw t (others_differ e es)
      | inr n ↦ rw n ((λ h. both_ways (is_same e f) n (subst (λ (g : Edge). is_same e g ≡ true) h (same_itself e))), others_differ e es)
    ]

pub distinct-apart : (es : List Edge) → AllPairs ◌≢◌ (distinct es)
distinct-apart [] = λ i j d lt within. absurd (omega arith)
distinct-apart (e ∷ es) =
    AllPairs-cons ◌≢◌ e (filter (λ f. not (is_same e f)) (distinct es))
    (All-from_recursion (λ f. e ≢ f) (filter (λ f. not (is_same e f)) (distinct es)) (others_differ e (distinct es)))
    (AllPairs-filter ◌≢◌ (λ f. not (is_same e f)) (distinct es) (distinct-apart es))

-- ---- the edges are those of neighbours

module _ (P : Edge → Type 0) where
  filtered : (x : Edge) (es : List Edge) → AllByRecursion P es → AllByRecursion P (filter (λ f. not (is_same x f)) es)
  filtered x [] h = tt
  filtered x (f ∷ es) h = elim (cases_Bool (is_same x f)) [ inl t ↦ rw t (filtered x es h.1) | inr n ↦ rw n (h.0, filtered x es h.1) ]

  distinct_ones : (es : List Edge) → AllByRecursion P es → AllByRecursion P (distinct es)
  distinct_ones [] h = tt
  distinct_ones (e ∷ es) h = (h.0, filtered e (distinct es) (distinct_ones es h.1))

  joined : (es fs : List Edge) → AllByRecursion P es → AllByRecursion P fs → AllByRecursion P (es ++ fs)
  joined [] fs h k = k
  joined (e ∷ es) fs h k = (h.0, joined es fs h.1 k)

  -- what holds along a path holds of the edge of two neighbours
  along : (a : ℕ) (before : List ℕ) (x y : ℕ) (after : List ℕ) → AllByRecursion P (edges_from a (before ++ (x ∷ y ∷ after))) → P (edge_of x y)
  along a [] x y after h = h.1.0
  along a (b ∷ before) x y after h = along b before x y after h.1

  at_pair : (before : List ℕ) (x y : ℕ) (after : List ℕ) → AllByRecursion P (edges_on (before ++ (x ∷ y ∷ after))) → P (edge_of x y)
  at_pair [] x y after h = h.0
  at_pair (b ∷ before) x y after h = along b before x y after h

module _ (paths : List (List ℕ)) where
  -- the edge of two neighbours on the paths
  abbrev IsOfNeighbours : Edge → Type 0
  IsOfNeighbours e = (a b : ℕ) × AreNeighbours paths a b × (e ≡ edge_of a b)

  from_pairs : (path : List ℕ) → Contains paths path → (before : List ℕ) (a : ℕ) (rest : List ℕ) → path ≡ before ++ (a ∷ rest) → AllByRecursion IsOfNeighbours (edges_from a rest)
  from_pairs path c before a [] e = tt
  from_pairs path c before a (b ∷ rest) e = (
    (a, b, (path, c, (before, rest, e)), refl),
    from_pairs path c (before ++ a ∷ []) b rest (e ∙ sym (append_assoc before (a ∷ []) (b ∷ rest))),
  )

  on_path : (path : List ℕ) → Contains paths path → AllByRecursion IsOfNeighbours (edges_on path)
  on_path [] c = tt
  on_path (a ∷ path) c = from_pairs (a ∷ path) c [] a path refl

  on_paths : (some : List (List ℕ)) → ((path : List ℕ) → Contains some path → Contains paths path) → AllByRecursion IsOfNeighbours (flat_map edges_on some)
  on_paths [] among = tt
  on_paths (path ∷ some) among =
      joined IsOfNeighbours (edges_on path) (flat_map edges_on some)
      (on_path path (among path (Contains-append_left (path ∷ []) some path (0, omega arith, refl))))
      (on_paths some (λ p c. among p (Contains-append_right (path ∷ []) some p c)))

  pub edge-neighbours : (e : Edge) → Contains (edges paths) e → IsOfNeighbours e
  edge-neighbours e c =
      All-contains IsOfNeighbours (edges paths) e
      (All-from_recursion IsOfNeighbours (edges paths) (distinct_ones IsOfNeighbours (flat_map edges_on paths) (on_paths paths (λ path h. h)))) c

  -- neighbours on a path are an edge
  pub neighbours-edge : (a b : ℕ) → AreNeighbours paths a b → Contains (edges paths) (edge_of a b)
  neighbours-edge a b (path, c, (before, after, e)) =
      let each = All-from_recursion (λ p. AllByRecursion (Contains (edges paths)) (edges_on p)) paths
      (along_each (Contains (edges paths)) paths (All-contains_itself (edges paths))) in
      let here = All-contains (λ p. AllByRecursion (Contains (edges paths)) (edges_on p)) paths path each c in
      at_pair (Contains (edges paths)) before a b after (subst (λ p. AllByRecursion (Contains (edges paths)) (edges_on p)) e here)

pub edge_law : EdgeLaw
edge_law paths = (
  distinct-apart (flat_map edges_on paths),
  λ e. (edge-neighbours paths e, λ h. subst (Contains (edges paths)) (sym h.3) (neighbours-edge paths h.0 h.1 h.2)),
)

-- ---- their order

distinct-prefix : (es more : List Edge) → (later : List Edge) × (distinct (es ++ more) ≡ distinct es ++ later)
distinct-prefix [] more = (distinct more, refl)
distinct-prefix (e ∷ es) more =
    let r = distinct-prefix es more in
    let kept : Edge → _ = λ f. not (is_same e f) in
    (filter kept r.0, ap (λ (l : List Edge). e ∷ l) (ap (filter kept) r.1 ∙ filter-append kept (distinct es) r.0))

edges_from-prefix : (a : ℕ) (prefix back : List ℕ) → (later : List Edge) × (edges_from a (prefix ++ back) ≡ edges_from a prefix ++ later)
edges_from-prefix a [] back = (edges_from a back, refl)
edges_from-prefix a (b ∷ prefix) back = let r = edges_from-prefix b prefix back in (r.0, ap (λ (l : List Edge). edge_of a b ∷ l) r.1)

edges_on-prefix : (prefix back : List ℕ) → (later : List Edge) × (edges_on (prefix ++ back) ≡ edges_on prefix ++ later)
edges_on-prefix [] back = (edges_on back, refl)
edges_on-prefix (a ∷ prefix) back = edges_from-prefix a prefix back

pub edge_order_law : EdgeOrderLaw
edge_order_law paths prefix back more =
    let before = flat_map edges_on paths in
    let behind = flat_map edges_on more in
    let on = edges_on-prefix prefix back in
    let whole : flat_map edges_on (paths ++ (prefix ++ back) ∷ more) ≡ (before ++ edges_on prefix) ++ (on.0 ++ behind) =
    flat_map-append edges_on paths ((prefix ++ back) ∷ more) ∙
    ap (λ (l : List Edge). before ++ (l ++ behind)) on.1 ∙
    ap (λ (l : List Edge). before ++ l) (append_assoc (edges_on prefix) on.0 behind) ∙
    sym (append_assoc before (edges_on prefix) (on.0 ++ behind)) in
    let start : flat_map edges_on (paths ++ prefix ∷ []) ≡ before ++ edges_on prefix =
    flat_map-append edges_on paths (prefix ∷ []) ∙ ap (λ (l : List Edge). before ++ l) (append-nil (edges_on prefix)) in
    let r = distinct-prefix (before ++ edges_on prefix) (on.0 ++ behind) in
    (r.0, ap distinct whole ∙ r.1 ∙ ap (λ (es : List Edge). distinct es ++ r.0) (sym start))
