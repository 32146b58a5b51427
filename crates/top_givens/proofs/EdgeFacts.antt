-- Whether edges stand in lists, and how many there are.
use Rattle.std.proofs.Common.{◌≡◌, ℕ, zero, suc, ◌<◌, ◌≤◌, inl, inr, Bool, true, false, not, ◌||◌, min, max, List, [], ◌∷◌, ◌++◌, length, take, get_or, filter, flat_map, sum_by, refl, sym, ap, ◌∙◌, subst, arith}
use Rattle.std.proofs.Common.{length-append}
use Rattle.std.specs.List.{list_any, AllByRecursion}
use Rattle.std.proofs.lemmas.Bool.{cases_Bool}
use Rattle.std.proofs.lemmas.List.Sums.{sum_by-cons}
use Rattle.relationships.specs.Graph.{Edge, edge_of, is_same, edges_from, edges_on, distinct, edges}
use Rattle.relationships.proofs.Edges.{same_edge}
use Rattle.tor_numbers.specs.Edges.{with_edge}
use Rattle.tor_numbers.proofs.EdgeLists.{with_edge-same, with_edge-new}

-- ---- some of a list

pub or_false : (b : Bool) → (b || false) ≡ b
or_false true = refl
or_false false = refl

pub or_assoc : (a b c : Bool) → ((a || b) || c) ≡ (a || (b || c))
or_assoc true b c = refl
or_assoc false b c = refl

pub any_append : {X : Type 0} (p : X → Bool) (xs ys : List X) → list_any p (xs ++ ys) ≡ (list_any p xs || list_any p ys)
any_append p [] ys = refl
any_append p (x ∷ xs) ys = elim (cases_Bool (p x)) [ inl t ↦ rw t refl | inr f ↦ rw f (any_append p xs ys) ]

pub any_with_edge : (es : List Edge) (f e : Edge) → list_any (is_same e) (with_edge es f) ≡ (list_any (is_same e) es || is_same e f)
any_with_edge es f e =
    elim (cases_Bool (list_any (is_same f) es)) [
      | inl t ↦ ap (list_any (is_same e)) (with_edge-same es f t) ∙ known t
      | inr n ↦ ap (list_any (is_same e)) (with_edge-new es f n) ∙ any_append (is_same e) es (f ∷ []) ∙ ap (λ b. list_any (is_same e) es || b) (or_false (is_same e f))
    ]
  where
    known : list_any (is_same f) es ≡ true → list_any (is_same e) es ≡ (list_any (is_same e) es || is_same e f)
    known t =
        elim (cases_Bool (is_same e f)) [
          | inl same ↦
              let there : list_any (is_same e) es ≡ true = subst (λ (g : Edge). list_any (is_same g) es ≡ true) (sym (same_edge e f same)) t in
              rw there refl
          | inr n ↦ rw n (sym (or_false (list_any (is_same e) es)))
        ]

any_filtered : (q : Edge → Bool) (x : Edge) (es : List Edge) → q x ≡ false → list_any q (filter (λ f. not (is_same x f)) es) ≡ list_any q es
any_filtered q x [] h = refl
any_filtered q x (f ∷ es) h =
    elim (cases_Bool (is_same x f)) [
      | inl t ↦ (let out : q f ≡ false = subst (λ (g : Edge). q g ≡ false) (same_edge x f t) h in rw (t, out) (any_filtered q x es h))
      | inr n ↦ rw n (ap (λ b. q f || b) (any_filtered q x es h))
    ]

pub any_distinct : (q : Edge → Bool) (es : List Edge) → list_any q (distinct es) ≡ list_any q es
any_distinct q [] = refl
any_distinct q (x ∷ es) =
    elim (cases_Bool (q x)) [ inl t ↦ rw t refl | inr n ↦ rw n (any_filtered q x (distinct es) n ∙ any_distinct q es) ]

-- ---- which of distinct edges are chosen

filter_filtered : (p : Edge → Bool) (x : Edge) (es : List Edge) → p x ≡ false → filter p (filter (λ f. not (is_same x f)) es) ≡ filter p es
filter_filtered p x [] h = refl
filter_filtered p x (f ∷ es) h =
    elim (cases_Bool (is_same x f)) [
      | inl t ↦ (let out : p f ≡ false = subst (λ (g : Edge). p g ≡ false) (same_edge x f t) h in rw (t, out) (filter_filtered p x es h))
      | inr n ↦ rw n (elim (cases_Bool (p f)) [ inl t ↦ rw t (ap (λ (l : List Edge). f ∷ l) (filter_filtered p x es h)) | inr m ↦ rw m (filter_filtered p x es h) ])
    ]

-- none of the first edges is chosen
pub chosen_behind : (p : Edge → Bool) (es fs : List Edge) → AllByRecursion (λ e. p e ≡ false) es → filter p (distinct (es ++ fs)) ≡ filter p (distinct fs)
chosen_behind p [] fs h = refl
chosen_behind p (e ∷ es) fs h = rw h.0 (filter_filtered p e (distinct (es ++ fs)) h.0 ∙ chosen_behind p es fs h.1)

pub none_chosen : (p : Edge → Bool) (es : List Edge) → AllByRecursion (λ e. p e ≡ false) es → filter p (distinct es) ≡ []
none_chosen p [] h = refl
none_chosen p (e ∷ es) h = rw h.0 (filter_filtered p e (distinct es) h.0 ∙ none_chosen p es h.1)

-- ---- edges have their lower end first

abbrev pub IsEdge : Edge → Type 0
IsEdge e = edge_of e.0 e.1 ≡ e

pub is_edge : (a b : ℕ) → IsEdge (edge_of a b)
is_edge a b =
    let e₁ : min (min a b) (max a b) ≡ min a b = omega arith in let e₂ : max (min a b) (max a b) ≡ max a b = omega arith in pair e₁ e₂
  where
    pair : {a b c d : ℕ} → a ≡ c → b ≡ d → ◌≡◌ {A = Edge} (a, b) (c, d)
    pair e f = cc

are_edges_from : (a : ℕ) (path : List ℕ) → AllByRecursion IsEdge (edges_from a path)
are_edges_from a [] = tt
are_edges_from a (b ∷ path) = (is_edge a b, are_edges_from b path)

are_edges_on : (path : List ℕ) → AllByRecursion IsEdge (edges_on path)
are_edges_on [] = tt
are_edges_on (a ∷ path) = are_edges_from a path

all_joined : (P : Edge → Type 0) (es fs : List Edge) → AllByRecursion P es → AllByRecursion P fs → AllByRecursion P (es ++ fs)
all_joined P [] fs h k = k
all_joined P (e ∷ es) fs h k = (h.0, all_joined P es fs h.1 k)

pub are_edges : (paths : List (List ℕ)) → AllByRecursion IsEdge (flat_map edges_on paths)
are_edges [] = tt
are_edges (path ∷ paths) = all_joined IsEdge (edges_on path) (flat_map edges_on paths) (are_edges_on path) (are_edges paths)

all_filtered : (P : Edge → Type 0) (p : Edge → Bool) (es : List Edge) → AllByRecursion P es → AllByRecursion P (filter p es)
all_filtered P p [] h = tt
all_filtered P p (e ∷ es) h = elim (cases_Bool (p e)) [ inl t ↦ rw t (h.0, all_filtered P p es h.1) | inr f ↦ rw f (all_filtered P p es h.1) ]

pub all_distinct : (P : Edge → Type 0) (es : List Edge) → AllByRecursion P es → AllByRecursion P (distinct es)
all_distinct P [] h = tt
all_distinct P (e ∷ es) h = (h.0, all_filtered P (λ f. not (is_same e f)) (distinct es) (all_distinct P es h.1))

-- ---- how many there are

length_filtered : (p : Edge → Bool) (es : List Edge) → length (filter p es) ≤ length es
length_filtered p [] = omega arith
length_filtered p (e ∷ es) =
    let rest = length_filtered p es in elim (cases_Bool (p e)) [ inl t ↦ rw t (omega (arith, rest)) | inr f ↦ rw f (omega (arith, rest)) ]

length_distinct : (es : List Edge) → length (distinct es) ≤ length es
length_distinct [] = omega arith
length_distinct (e ∷ es) =
    let rest = length_distinct es in let kept = length_filtered (λ f. not (is_same e f)) (distinct es) in omega (arith, rest, kept)

length_from : (a : ℕ) (path : List ℕ) → length (edges_from a path) ≡ length path
length_from a [] = refl
length_from a (b ∷ path) = ap suc (length_from b path)

length_on : (path : List ℕ) → length (edges_on path) ≤ length path
length_on [] = omega arith
length_on (a ∷ path) = let same = length_from a path in omega (arith, same)

length_flat : (paths : List (List ℕ)) → length (flat_map edges_on paths) ≤ sum_by length paths
length_flat [] = omega arith
length_flat (path ∷ paths) =
    let rest = length_flat paths in
    let first = length_on path in
    let sum = sum_by-cons length path paths in
    let whole = length-append (edges_on path) (flat_map edges_on paths) in
    omega (arith, rest, first, sum, whole)

pub few_chosen : (p : Edge → Bool) (paths : List (List ℕ)) → length (filter p (edges paths)) ≤ sum_by length paths
few_chosen p paths =
    let a = length_filtered p (edges paths) in let b = length_distinct (flat_map edges_on paths) in let c = length_flat paths in omega (arith, a, b, c)

-- ---- one step more

edges_from-more : (a : ℕ) (path : List ℕ) (i : ℕ) → i < length path →
    edges_from a (take (suc i) path) ≡ edges_from a (take i path) ++ edge_of (get_or (a ∷ path) i 0) (get_or path i 0) ∷ []
edges_from-more a [] i lt = absurd (omega arith)
edges_from-more a (b ∷ path) zero lt = refl
edges_from-more a (b ∷ path) (suc i) lt = ap (λ (l : List Edge). edge_of a b ∷ l) (edges_from-more b path i (omega arith))

pub edges_on-more : (path : List ℕ) (i : ℕ) → suc i < length path →
    edges_on (take (suc (suc i)) path) ≡ edges_on (take (suc i) path) ++ edge_of (get_or path i 0) (get_or path (suc i) 0) ∷ []
edges_on-more [] i lt = absurd (omega arith)
edges_on-more (a ∷ path) i lt = edges_from-more a path i (omega arith)
