-- How many paths hold an edge, counted step by step.
use Rattle.std.proofs.Common.{◌≡◌, ◌≢◌, ℕ, zero, suc, ◌+◌, ◌<◌, ◌≤◌, inl, inr, true, false, cond, List, [], ◌∷◌, ◌++◌, length, get_or, take, map, replicate, min, max, refl, sym, ap, ap₂, ◌∙◌}
use Rattle.std.proofs.Common.{subst, arith, All, nat_eq, slice_get, Some, eq-eqb}
use Rattle.std.specs.List.{list_any, count_by, AllPairs}
use Rattle.std.proofs.lemmas.Bool.{cases_Bool, cases_eq, false_from_ne_true, ne_eqb, eqb-true, or_parts, or_cases, false≢true}
use Rattle.std.proofs.lemmas.Option.{slice_get-get_or, same_Some}
use Rattle.std.proofs.lemmas.List.{length-map, map-append, get_or-map, ext_get_or, take_more}
use Rattle.std.proofs.lemmas.List.Elements.{All-map, All-get_or, All-weaker, All-head, All-tail}
use Rattle.std.proofs.lemmas.List.Sums.{sum_by_push, count_by-le-length}
use Rattle.std.proofs.lemmas.Map.Keys.{IsDistinct-from_apart}
use Rattle.std.proofs.lemmas.Map.Steps.{length-le_from_distinct_below}
use Rattle.tor_arena.proofs.Counting.{one, count-cons}
use Rattle.tor_arena.specs.Distinct.{AllDistinct}
use Rattle.relationships.specs.Graph.{Edge, edge_of, is_same, edges_from, edges_on, support}
use Rattle.relationships.proofs.Edges.{same_edge}
use Rattle.as_graph.specs.declared.step.Step.{Step}
use Rattle.as_graph.specs.Paths.{path_at, paths_at}
use Rattle.as_graph.specs.Steps.{AreStepsFrom, AreSteps}
use Rattle.as_graph.proofs.Labelled.{NoneTwice, none_at, same_itself}

zero_plus : (n : ℕ) → 0 + n ≡ n
zero_plus n = omega arith

-- ---- a path of distinct ASes holds an edge at most once

-- no edge of a path that does not hold a has the end a
ends_apart : (a b x y : ℕ) → a ≢ x → a ≢ y → is_same (edge_of a b) (edge_of x y) ≡ false
ends_apart a b x y ne nf = false_from_ne_true (is_same (edge_of a b) (edge_of x y)) (λ t.
    let e = same_edge (edge_of a b) (edge_of x y) t in
    let low : min a b ≡ min x y = ap (λ (e : Edge). e.0) e in
    let high : max a b ≡ max x y = ap (λ (e : Edge). e.1) e in
    go low high)
  where
    go : min a b ≡ min x y → max a b ≡ max x y → ⊥
    go low high =
        elim (cases_eq a x) [
          | inl e ↦ ne e
          | inr n ↦ elim (cases_eq a y) [ inl e ↦ nf e | inr m ↦ absurd (omega (arith, low, high)) ]
        ]

none_behind : (a b x : ℕ) (path : List ℕ) → a ≢ x → ((k : ℕ) → k < length path → a ≢ get_or path k 0) → list_any (is_same (edge_of a b)) (edges_from x path) ≡ false
none_behind a b x [] ne h = refl
none_behind a b x (y ∷ path) ne h =
    let nf : a ≢ y = h 0 (omega arith) in
    rw (ends_apart a b x y ne nf) (none_behind a b y path nf (λ k lt. h (suc k) (omega arith)))

count_none : (e : Edge) (es : List Edge) → list_any (is_same e) es ≡ false → count_by (is_same e) es ≡ 0
count_none e [] h = refl
count_none e (f ∷ es) h =
    let p = or_parts (is_same e f) (list_any (is_same e) es) h in count-cons (is_same e) f es ∙ ap₂ (λ b n. one b + n) p.0 (count_none e es p.1)

count_from : (e : Edge) (a : ℕ) (path : List ℕ) → AllDistinct (a ∷ path) → count_by (is_same e) (edges_from a path) ≡ one (list_any (is_same e) (edges_from a path))
count_from e a [] apart = refl
count_from e a (b ∷ path) apart =
    let behind : list_any (is_same (edge_of a b)) (edges_from b path) ≡ false =
    none_behind a b b path (apart 0 1 0 (omega arith) (omega arith)) (λ k lt. apart 0 (suc (suc k)) 0 (omega arith) (omega arith)) in
    let rest = count_from e b path (λ i j d lt within. apart (suc i) (suc j) d (omega arith) (omega arith)) in
    count-cons (is_same e) (edge_of a b) (edges_from b path) ∙ elim (cases_Bool (is_same e (edge_of a b))) [
      | inl t ↦
          let none : list_any (is_same e) (edges_from b path) ≡ false =
          subst (λ (f : Edge). list_any (is_same f) (edges_from b path) ≡ false) (sym (same_edge e (edge_of a b) t)) behind in
          rw t (ap (λ n. 1 + n) (count_none e (edges_from b path) none))
      | inr n ↦ rw n (zero_plus (count_by (is_same e) (edges_from b path)) ∙ rest)
    ]

-- ---- the steps with an edge

-- the edges of the steps are those of the path
steps_with : (es : List Edge) (k : ℕ) (e : Edge) (a : ℕ) (path : List ℕ) (steps : List Step) → NoneTwice es → slice_get es k ≡ Some e → AreStepsFrom es a path steps →
    count_by (λ (s : Step). nat_eq s.edge k) steps ≡ count_by (is_same e) (edges_from a path)
steps_with es k e a [] [] once is h = refl
steps_with es k e a [] (step ∷ steps) once is h = absurd h
steps_with es k e a (b ∷ path) [] once is h = absurd h
steps_with es k e a (b ∷ path) (step ∷ steps) once is h =
    count-cons (λ (s : Step). nat_eq s.edge k) step steps ∙
    ap₂ (λ t n. one t + n) (same_place es step.edge k (edge_of a b) e once h.0.0 is) (steps_with es k e b path steps once is h.1) ∙
    sym (count-cons (is_same e) (edge_of a b) (edges_from b path))
  where
    ne_step : (i k : ℕ) → nat_eq (suc i) (suc k) ≡ nat_eq i k
    ne_step i k =
        elim (cases_eq i k) [
          | inl e ↦ eq-eqb (suc i) (suc k) (ap suc e) ∙ sym (eq-eqb i k e)
          | inr n ↦ ne_eqb (suc i) (suc k) (λ e. n (omega arith)) ∙ sym (ne_eqb i k n)
        ]

    same_place : (es : List Edge) (i k : ℕ) (f e : Edge) → NoneTwice es → slice_get es i ≡ Some f → slice_get es k ≡ Some e → nat_eq i k ≡ is_same e f
    same_place [] i k f e once h is = absurd (cc h)
    same_place (x ∷ es) zero zero f e once h is =
        let s : f ≡ e = same_Some _ _ (sym h ∙ is) in sym (subst (λ (g : Edge). is_same g f ≡ true) s (same_itself f))
    same_place (x ∷ es) zero (suc k) f e once h is =
        let s : x ≡ f = same_Some _ _ h in
        ne_eqb zero (suc k) (λ d. absurd (omega (arith, d))) ∙
        sym (false_from_ne_true (is_same e f) (λ t.
        let g : e ≡ x = same_edge e f t ∙ sym s in
        false≢true (sym (none_at x es k e once.0 is) ∙ subst (λ (y : Edge). is_same x y ≡ true) (sym g) (same_itself x))))
    same_place (x ∷ es) (suc i) zero f e once h is =
        let s : x ≡ e = same_Some _ _ is in ne_eqb (suc i) zero (λ d. absurd (omega (arith, d))) ∙ sym (subst (λ (y : Edge). is_same y f ≡ false) s (none_at x es i f once.0 h))
    same_place (x ∷ es) (suc i) (suc k) f e once h is = ne_step i k ∙ same_place es i k f e once.1 h is

-- as many steps of a path have an edge as it holds that edge
pub counts_same : (es : List Edge) (k : ℕ) (e : Edge) (path : List ℕ) (steps : List Step) → NoneTwice es → slice_get es k ≡ Some e → AreSteps es path steps →
    count_by (λ (s : Step). nat_eq s.edge k) steps ≡ count_by (is_same e) (edges_on path)
counts_same es k e [] steps once is h = ap (count_by (λ (s : Step). nat_eq s.edge k)) h
counts_same es k e (a ∷ path) steps once is h = steps_with es k e a path steps once is h

-- so the steps of a path with an edge are one, or none
pub once_each : (es : List Edge) (k : ℕ) (e : Edge) (path : List ℕ) (steps : List Step) → NoneTwice es → slice_get es k ≡ Some e → AllDistinct path → AreSteps es path steps →
    count_by (λ (s : Step). nat_eq s.edge k) steps ≡ one (list_any (is_same e) (edges_on path))
once_each es k e [] steps once is apart h = ap (count_by (λ (s : Step). nat_eq s.edge k)) h
once_each es k e (a ∷ path) steps once is apart h = steps_with es k e a path steps once is h ∙ count_from e a path apart

-- ---- a path more

support-push : (paths : List (List ℕ)) (path : List ℕ) (e : Edge) → support (paths ++ path ∷ []) e ≡ support paths e + one (list_any (is_same e) (edges_on path))
support-push paths path e = sum_by_push (λ p. cond (list_any (is_same e) (edges_on p)) 1 0) paths path

-- the counts after some of the kept paths
abbrev pub counts_of : List (List ℕ) → List ℕ → List Edge → List ℕ
counts_of paths kept es = map (support (paths_at paths kept)) es

pub counts_begin : (paths : List (List ℕ)) (es : List Edge) (n : ℕ) (counts : List ℕ) → n ≡ length es → counts ≡ replicate n 0 → counts ≡ counts_of paths [] es
counts_begin paths es n counts same none =
    none ∙ ap (λ m. replicate m 0) same ∙ go es
  where
    go : (fs : List Edge) → replicate (length fs) 0 ≡ counts_of paths [] fs
    go [] = refl
    go (f ∷ fs) = ap (λ (l : List ℕ). 0 ∷ l) (go fs)

pub counts_more : (paths : List (List ℕ)) (kept : List ℕ) (i id : ℕ) (es : List Edge) (steps : List Step) (counts new : List ℕ) → NoneTwice es → i < length kept → get_or kept i id ≡ id →
    AllDistinct (path_at paths id) → AreSteps es (path_at paths id) steps → counts ≡ counts_of paths (take i kept) es → length new ≡ length counts →
    ((k : ℕ) → get_or new k 0 ≡ get_or counts k 0 + count_by (λ (s : Step). nat_eq s.edge k) steps) → new ≡ counts_of paths (take (i + 1) kept) es
counts_more paths kept i id es steps counts new once lt at apart are so_far long each =
    let n = ap length so_far in
    let m = length-map es (support before) in
    ext_get_or 0 new (counts_of paths (take (i + 1) kept) es) (long ∙ n ∙ m ∙ sym (length-map es (support (paths_at paths (take (i + 1) kept))))) (λ k k_lt.
    let within : k < length es = omega (arith, n, m, long, k_lt) in
    let e : Edge = get_or es k (0, 0) in
    let was = ap (λ c. get_or c k 0) so_far ∙ get_or-map (support before) es k (0, 0) 0 within in
    let more = once_each es k e path steps once (slice_get-get_or es k (0, 0) within) apart are in
    each k ∙ ap₂ (λ x y. x + y) was more ∙ sym (support-push before path e) ∙ ap (λ ps. support ps e) (sym next) ∙
    sym (get_or-map (support (paths_at paths (take (i + 1) kept))) es k (0, 0) 0 within))
  where
    before : List (List ℕ)
    before = paths_at paths (take i kept)

    path : List ℕ
    path = path_at paths id

    next : paths_at paths (take (i + 1) kept) ≡ before ++ path ∷ []
    next = ap (paths_at paths) (take_more kept i id lt) ∙ map-append (path_at paths) (take i kept) (get_or kept i id ∷ []) ∙ ap (λ q. before ++ path_at paths q ∷ []) at

-- ---- no more than there are paths

pub support_small : (paths : List (List ℕ)) (kept : List ℕ) (es : List Edge) (n : ℕ) → length kept ≤ n → All (λ c. c ≤ n) (counts_of paths kept es)
support_small paths kept es n few =
    All-map (λ c. c ≤ n) (support (paths_at paths kept)) es (λ k d lt.
    let le = count_by-le-length (λ path. list_any (is_same (get_or es k d)) (edges_on path)) (paths_at paths kept) in
    let same = length-map kept (path_at paths) in
    omega (arith, le, same, few))

-- what holds of the paths at some places holds of each
pub at_place : (P : List ℕ → Type 0) (paths : List (List ℕ)) (kept : List ℕ) → All P (paths_at paths kept) → (k d : ℕ) → k < length kept → P (path_at paths (get_or kept k d))
at_place P paths kept all k d lt =
    let many = length-map kept (path_at paths) in
    subst P (get_or-map (path_at paths) kept k d [] lt) (All-get_or P (paths_at paths kept) k [] (omega (arith, many, lt)) all)

-- what holds of all paths holds of those at some places
pub all_places : (P : List ℕ → Type 0) (paths : List (List ℕ)) (kept : List ℕ) → All P paths → All (λ place. place < length paths) kept → All P (paths_at paths kept)
all_places P paths kept all there =
    All-map P (path_at paths) kept
    (All-weaker (λ place. place < length paths) (λ place. P (path_at paths place)) (λ place below. All-get_or P paths place [] below all) kept there)

any_below : (xs : List ℕ) (n q : ℕ) → All (λ x. x < n) xs → list_any (nat_eq q) xs ≡ true → q < n
any_below [] n q below h = absurd (false≢true h)
any_below (x ∷ xs) n q below h =
    elim (or_cases (nat_eq q x) (list_any (nat_eq q) xs) h) [
      | inl t ↦ let e = eqb-true q x t in let lt = All-head (λ y. y < n) x xs below in omega (arith, e, lt)
      | inr t ↦ any_below xs n q (All-tail (λ y. y < n) x xs below) t
    ]

-- there are no more than n numbers below n, no two the same
pub distinct_below : (xs : List ℕ) (n : ℕ) → AllPairs ◌≢◌ xs → All (λ x. x < n) xs → length xs ≤ n
distinct_below xs n apart below =
    length-le_from_distinct_below xs n (IsDistinct-from_apart nat_eq xs (λ i j d lt within. ne_eqb (get_or xs i d) (get_or xs j d) (apart i j d lt within)))
    (λ q h. any_below xs n q below h)
