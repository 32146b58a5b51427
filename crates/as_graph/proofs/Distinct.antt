-- Edges that are added one by one, each only once.
use Rattle.std.proofs.Common.{◌≡◌, ℕ, zero, suc, ◌+◌, ◌<◌, ◌≤◌, ◌^◌, inl, inr, false, not, ◌||◌, List, [], ◌∷◌, ◌++◌, length, refl, sym, ap, ◌∙◌, subst, arith, All, slice_get, Some, filter}
use Rattle.std.proofs.Common.{append_assoc, append-nil, length-append}
use Rattle.std.specs.List.{list_any, flat_map, sum_by}
use Rattle.std.proofs.lemmas.Bool.{cases_Bool}
use Rattle.std.proofs.lemmas.List.Elements.{All-head, All-tail}
use Rattle.std.proofs.lemmas.List.Sums.{sum_by-cons}
use Rattle.relationships.specs.Graph.{Edge, is_same, edges_from, edges_on, distinct, edges}
use Rattle.relationships.proofs.Edges.{same_edge}
use Rattle.relationships.proofs.Places.{distinct-push_new, distinct-push_old}
use Rattle.tor_numbers.specs.Edges.{with_edge, with_edges}
use Rattle.tor_numbers.proofs.EdgeLists.{with_edge-same, with_edge-new}

-- ---- with more edges

pub with_edges-push : (es more : List Edge) (e : Edge) → with_edges es (more ++ e ∷ []) ≡ with_edge (with_edges es more) e
with_edges-push es [] e = refl
with_edges-push es (f ∷ more) e = with_edges-push (with_edge es f) more e

length-with_edge : (es : List Edge) (e : Edge) → length (with_edge es e) ≤ length es + 1
length-with_edge es e =
    elim (cases_Bool (list_any (is_same e) es)) [
      | inl t ↦ rw (with_edge-same es e t) (omega arith)
      | inr f ↦ rw (with_edge-new es e f) (let n = length-append es (e ∷ []) in omega (arith, n))
    ]

pub length-with_edges : (es more : List Edge) → length (with_edges es more) ≤ length es + length more
length-with_edges es [] = omega arith
length-with_edges es (e ∷ more) =
    let h = length-with_edges (with_edge es e) more in let k = length-with_edge es e in omega (arith, h, k)

-- an edge keeps its place
slice_get-prefix : (es more : List Edge) (k : ℕ) (e : Edge) → slice_get es k ≡ Some e → slice_get (es ++ more) k ≡ Some e
slice_get-prefix [] more k e h = absurd (cc h)
slice_get-prefix (x ∷ es) more zero e h = h
slice_get-prefix (x ∷ es) more (suc k) e h = slice_get-prefix es more k e h

pub stays : (es : List Edge) (e : Edge) (k : ℕ) (f : Edge) → slice_get es k ≡ Some f → slice_get (with_edge es e) k ≡ Some f
stays es e k f h =
    elim (cases_Bool (list_any (is_same e) es)) [
      | inl t ↦ rw (with_edge-same es e t) h
      | inr n ↦ rw (with_edge-new es e n) (slice_get-prefix es (e ∷ []) k f h)
    ]

-- ---- in order of first appearance

any_filtered : (e x : Edge) (es : List Edge) → is_same e x ≡ false → list_any (is_same e) (filter (λ f. not (is_same x f)) es) ≡ list_any (is_same e) es
any_filtered e x [] h = refl
any_filtered e x (f ∷ es) h =
    elim (cases_Bool (is_same x f)) [
      | inl t ↦
          let out : is_same e f ≡ false = subst (λ (g : Edge). is_same e g ≡ false) (same_edge x f t) h in
          rw (t, out) (any_filtered e x es h)
      | inr n ↦ rw n (ap (λ b. is_same e f || b) (any_filtered e x es h))
    ]

pub any_distinct : (e : Edge) (es : List Edge) → list_any (is_same e) (distinct es) ≡ list_any (is_same e) es
any_distinct e [] = refl
any_distinct e (x ∷ es) =
    elim (cases_Bool (is_same e x)) [
      | inl t ↦ rw t refl
      | inr n ↦ rw n (any_filtered e x (distinct es) n ∙ any_distinct e es)
    ]

distinct-push : (es : List Edge) (e : Edge) → distinct (es ++ e ∷ []) ≡ with_edge (distinct es) e
distinct-push es e =
    elim (cases_Bool (list_any (is_same e) es)) [
      | inl t ↦ distinct-push_old es e t ∙ sym (with_edge-same (distinct es) e (any_distinct e es ∙ t))
      | inr n ↦ distinct-push_new es e n ∙ sym (with_edge-new (distinct es) e (any_distinct e es ∙ n))
    ]

distinct-append : (es more : List Edge) → distinct (es ++ more) ≡ with_edges (distinct es) more
distinct-append es [] = ap distinct (append-nil es)
distinct-append es (e ∷ more) =
    ap distinct (sym (append_assoc es (e ∷ []) more)) ∙ distinct-append (es ++ e ∷ []) more ∙ ap (λ fs. with_edges fs more) (distinct-push es e)

flat-push : (paths : List (List ℕ)) (path : List ℕ) → flat_map edges_on (paths ++ path ∷ []) ≡ flat_map edges_on paths ++ edges_on path
flat-push [] path = append-nil (edges_on path)
flat-push (p ∷ paths) path = ap (λ (l : List Edge). edges_on p ++ l) (flat-push paths path) ∙ sym (append_assoc (edges_on p) (flat_map edges_on paths) (edges_on path))

-- a path more adds its edges
pub edges-push : (paths : List (List ℕ)) (path : List ℕ) → edges (paths ++ path ∷ []) ≡ with_edges (edges paths) (edges_on path)
edges-push paths path = ap distinct (flat-push paths path) ∙ distinct-append (flat_map edges_on paths) (edges_on path)

-- ---- how many edges there are

length-filtered : (x : Edge) (es : List Edge) → length (filter (λ f. not (is_same x f)) es) ≤ length es
length-filtered x [] = omega arith
length-filtered x (f ∷ es) =
    let h = length-filtered x es in
    elim (cases_Bool (is_same x f)) [ inl t ↦ rw t (omega (arith, h)) | inr n ↦ rw n (omega (arith, h)) ]

length-distinct : (es : List Edge) → length (distinct es) ≤ length es
length-distinct [] = omega arith
length-distinct (e ∷ es) = let h = length-filtered e (distinct es) in let k = length-distinct es in omega (arith, h, k)

pub length-edges_from : (a : ℕ) (path : List ℕ) → length (edges_from a path) ≡ length path
length-edges_from a [] = refl
length-edges_from a (b ∷ path) = ap suc (length-edges_from b path)

length-edges_on : (path : List ℕ) → 2 ≤ length path → length (edges_on path) + 1 ≡ length path
length-edges_on [] two = absurd (omega arith)
length-edges_on (a ∷ path) two = let h = length-edges_from a path in omega (arith, h)

length-flat : (paths : List (List ℕ)) → All (λ path. 2 ≤ length path) paths → length (flat_map edges_on paths) + length paths ≤ sum_by length paths
length-flat [] two = omega arith
length-flat (path ∷ paths) two =
    let h = length-flat paths (All-tail (λ p. 2 ≤ length p) path paths two) in
    let k = length-edges_on path (All-head (λ p. 2 ≤ length p) path paths two) in
    let n = length-append (edges_on path) (flat_map edges_on paths) in
    let s = sum_by-cons length path paths in
    omega (arith, h, k, n, s)

pub few_edges : (paths : List (List ℕ)) → All (λ path. 2 ≤ length path) paths → sum_by length paths ≤ 2 ^ 26 → length (edges paths) < 2 ^ 26
few_edges [] two short = omega arith
few_edges (path ∷ paths) two short =
    let h = length-flat (path ∷ paths) two in let k = length-distinct (flat_map edges_on (path ∷ paths)) in omega (arith, h, k, short)

-- each path has one edge less than numbers at most
pub edges_and_paths : (paths : List (List ℕ)) → All (λ path. 2 ≤ length path) paths → length (edges paths) + length paths ≤ sum_by length paths
edges_and_paths paths two =
    let h = length-flat paths two in let k = length-distinct (flat_map edges_on paths) in omega (arith, h, k)

pub edges_within : (paths : List (List ℕ)) → All (λ path. 2 ≤ length path) paths → length (edges paths) ≤ sum_by length paths
edges_within paths two = let h = edges_and_paths paths two in omega (arith, h)
