-- Which labels of edges decide whether paths are valley-free.
use Rattle.std.proofs.Common.{◌≡◌, ℕ, zero, suc, ◌<◌, ◌≤◌, ◌^◌, ◌==◌, ◌||◌, inl, inr, true, false, not, List, [], ◌∷◌, ◌++◌, length, get_or, set, map, filter, refl, sym, ap, ◌∙◌, subst, arith, All}
use Rattle.std.proofs.Common.{Contains, slice_get, Some, if◌then◌else◌}
use Rattle.std.specs.List.{list_any, AllByRecursion}
use Rattle.std.proofs.lemmas.Bool.{cases_Bool, or_parts, false_from_ne_true, false≢true}
use Rattle.std.proofs.lemmas.List.{length-map, get_or-map}
use Rattle.std.proofs.lemmas.List.Elements.{All-contains, All-cons, All-nil, All-head, All-from_recursion, Contains-get_or}
use Rattle.std.proofs.lemmas.List.Sums.{count_by-le-length}
use Rattle.relationships.specs.declared.label.Label.{Label}
use Rattle.relationships.specs.declared.label.End.{End}
use Rattle.relationships.specs.Relationship.{Labelling, label_of, ValleyFree}
use Rattle.relationships.specs.Graph.{Edge, is_same, edges_on, distinct, edges, degree, labelling}
use Rattle.relationships.specs.Preference.{with_peer}
use Rattle.relationships.proofs.Edges.{same_edge, relaxing_law}
use Rattle.relationships.proofs.Neighbours.{edge_law}
use Rattle.as_graph.specs.Paths.{path_at, paths_at}
use Rattle.as_graph.proofs.Labelled.{NoneTwice, none_at, same_itself}

-- ---- the label of one edge is changed

pub swapped : (e f : Edge) → is_same e f ≡ is_same f e
swapped e f =
    elim (cases_Bool (is_same e f)) [
      | inl t ↦ t ∙ sym (subst (λ (g : Edge). is_same g e ≡ true) (same_edge e f t) (same_itself e))
      | inr n ↦ n ∙ sym (false_from_ne_true (is_same f e) (λ t.
          false≢true (sym n ∙ subst (λ (g : Edge). is_same g f ≡ true) (same_edge f e t) (same_itself f))))
    ]

pub labelling-set : (es : List Edge) (labels : List Label) (k : ℕ) (e : Edge) (x : Label) → NoneTwice es → slice_get es k ≡ Some e → k < length labels → (low high : ℕ) →
    labelling es (set labels k x) low high ≡ (if is_same (low, high) e then x else labelling es labels low high)
labelling-set [] labels k e x once is lt low high = absurd (cc is)
labelling-set (f ∷ es) [] k e x once is lt low high = absurd (omega arith)
labelling-set (f ∷ es) (l ∷ labels) zero e x once is lt low high =
    let here : f ≡ e = cc is in
    let same : is_same (low, high) e ≡ is_same f (low, high) = swapped (low, high) e ∙ sym (ap (λ (g : Edge). is_same g (low, high)) here) in
    elim (cases_Bool (is_same f (low, high))) [ inl t ↦ rw (same, t) refl | inr n ↦ rw (same, n) refl ]
labelling-set (f ∷ es) (l ∷ labels) (suc k) e x once is lt low high =
    elim (cases_Bool (is_same f (low, high))) [
      | inl t ↦
          let other : is_same (low, high) e ≡ false = subst (λ (g : Edge). is_same g e ≡ false) (same_edge f (low, high) t) (none_at f es k e once.0 is) in
          rw (t, other) refl
      | inr n ↦ rw n (labelling-set es labels k e x once.1 is (omega arith) low high)
    ]

-- ---- labels that are the same at the edges of the paths

pub free_by : (L L' : Labelling) (paths : List (List ℕ)) → ((e : Edge) → Contains (edges paths) e → L e.0 e.1 ≡ L' e.0 e.1) → All (ValleyFree L) paths → All (ValleyFree L') paths
free_by L L' paths same h =
    relaxing_law L L' paths
    (λ k d within.
    let c = Contains-get_or (edges paths) k d within in
    (λ e. sym (same (get_or (edges paths) k d) c) ∙ e, λ e. sym (same (get_or (edges paths) k d) c) ∙ e)) h

one_free_by : (L L' : Labelling) (path : List ℕ) → ((e : Edge) → Contains (edges (path ∷ [])) e → L e.0 e.1 ≡ L' e.0 e.1) → ValleyFree L path → ValleyFree L' path
one_free_by L L' path same h = All-head (ValleyFree L') path [] (free_by L L' (path ∷ []) same (All-cons (ValleyFree L) path [] h (All-nil (ValleyFree L))))

pub free_same : (L L' : Labelling) (path : List ℕ) → ((low high : ℕ) → L low high ≡ L' low high) → ValleyFree L path → ValleyFree L' path
free_same L L' path same h = one_free_by L L' path (λ e c. same e.0 e.1) h

-- ---- an edge that is not on the path

filtered : (P : Edge → Type 0) (x : Edge) (es : List Edge) → AllByRecursion P es → AllByRecursion P (filter (λ f. not (is_same x f)) es)
filtered P x [] h = tt
filtered P x (f ∷ es) h = elim (cases_Bool (is_same x f)) [ inl t ↦ rw t (filtered P x es h.1) | inr n ↦ rw n (h.0, filtered P x es h.1) ]

distinct_ones : (P : Edge → Type 0) (es : List Edge) → AllByRecursion P es → AllByRecursion P (distinct es)
distinct_ones P [] h = tt
distinct_ones P (e ∷ es) h = (h.0, filtered P e (distinct es) (distinct_ones P es h.1))

none_same : (e : Edge) (es : List Edge) → list_any (is_same e) es ≡ false → AllByRecursion (λ f. is_same e f ≡ false) (es ++ [])
none_same e [] h = tt
none_same e (f ∷ es) h = let p = or_parts (is_same e f) (list_any (is_same e) es) h in (p.0, none_same e es p.1)

pub free_without : (L : Labelling) (e : Edge) (path : List ℕ) → list_any (is_same e) (edges_on path) ≡ false → ValleyFree L path → ValleyFree (with_peer L e) path
free_without L e path none h =
    one_free_by L (with_peer L e) path (λ f c.
    let apart : is_same e f ≡ false =
    All-contains (λ g. is_same e g ≡ false) (edges (path ∷ [])) f
    (All-from_recursion (λ g. is_same e g ≡ false) (edges (path ∷ [])) (distinct_ones (λ g. is_same e g ≡ false) (edges_on path ++ []) (none_same e (edges_on path) none))) c in
    rw (swapped (f.0, f.1) e, apart) refl) h

-- ---- the paths of some places

pub all_at : (P : List ℕ → Type 0) (paths : List (List ℕ)) (places : List ℕ) (q : ℕ) → All P (paths_at paths places) → Contains places q → P (path_at paths q)
all_at P paths places q h c =
    let n = length-map places (path_at paths) in
    let lt = c.1 in
    subst P (get_or-map (path_at paths) places c.0 q (path_at paths q) c.1 ∙ ap (path_at paths) c.2) (h c.0 (path_at paths q) (omega (arith, n, lt)))

-- their edges are edges of all the paths
pub edge_among : (paths : List (List ℕ)) (places : List ℕ) (e : Edge) → All (λ q. q < length paths) places → Contains (edges (paths_at paths places)) e → Contains (edges paths) e
edge_among paths places e there c =
    let near = ((edge_law (paths_at paths places)).1 e).0 c in
    let n = length-map places (path_at paths) in
    let path = near.2.0 in
    let within = near.2.1 in
    let at = near.2.2 in
    ((edge_law paths).1 e).1 (near.0, near.1, (near.2.0, among near.2.0 near.2.1, near.2.2), near.3)
  where
    among : (path : List ℕ) → Contains (paths_at paths places) path → Contains paths path
    among path c =
        let n = length-map places (path_at paths) in
        let lt = c.1 in
        let k_lt : c.0 < length places = omega (arith, n, lt) in
        let is : path_at paths (get_or places c.0 0) ≡ path = sym (get_or-map (path_at paths) places c.0 0 path k_lt) ∙ c.2 in
        subst (Contains paths) is (Contains-get_or paths (get_or places c.0 0) [] (there c.0 0 k_lt))

-- ---- places and degrees

pub degree_small : (paths : List (List ℕ)) (a : ℕ) → length (edges paths) < 2 ^ 26 → degree paths a ≤ 2 ^ 26
degree_small paths a few = let le = count_by-le-length (λ (e : Edge). (e.0 == a) || (e.1 == a)) (edges paths) in omega (arith, le, few)

-- a list that is changed at a place and then changed back
pub set_back : {X : Type 0} (xs : List X) (k : ℕ) (x d : X) → set (set xs k x) k (get_or xs k d) ≡ xs
set_back [] k x d = refl
set_back (y ∷ xs) zero x d = refl
set_back (y ∷ xs) (suc k) x d = ap (λ l. y ∷ l) (set_back xs k x d)

-- the labels of providers are no peerings
pub no_peers_at_first : (ends : List End) (k : ℕ) → get_or (map label_of ends) k Label.Low ≡ Label.Peer → ⊥
no_peers_at_first [] k p = cc p
no_peers_at_first (End.Low ∷ ends) zero p = cc p
no_peers_at_first (End.High ∷ ends) zero p = cc p
no_peers_at_first (end ∷ ends) (suc k) p = no_peers_at_first ends k p
