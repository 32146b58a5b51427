-- What the rules on paths and on edge lines give of a file: distinct ASes on each path, and its edges.
use Rattle.std.proofs.Common.{◌≡◌, inl, inr, ℕ, zero, suc, ◌+◌, ◌-◌, ◌<◌, ◌≤◌, max, Bool, true, false, not, List, [], ◌∷◌, ◌++◌, Some, None, length, map, flat_map, filter, take, sum_by}
use Rattle.std.proofs.Common.{get_or, slice_get, slice_index, refl, sym, ap, ◌∙◌, subst, arith, All, Contains, length-append, eq-eqb}
use Rattle.std.proofs.Math.Dec.{lit≤}
use Rattle.std.specs.List.{AllByRecursion}
use Rattle.std.proofs.lemmas.Bool.{cases_lt, cases_Bool, cases_order, both_ways}
use Rattle.std.proofs.lemmas.Option.{same_Some, slice_get-get_or, slice_get_past, slice_get_within}
use Rattle.std.proofs.lemmas.List.{length-map, take_all}
use Rattle.std.proofs.lemmas.List.Elements.{All-contains_itself, All-cons, All-nil, All-head, All-tail}
use Rattle.std.proofs.lemmas.List.Sums.{sum_by-cons}
use Rattle.tor_arena.specs.Limits.{most_places}
use Rattle.relationships.specs.Graph.{Edge, edge_of, is_same, edges_from, edges_on, distinct, edges}
use Rattle.tor_arena.specs.Distinct.{AllDistinct}
use Rattle.relationships.proofs.Edges.{along_each}
use Rattle.relationships.proofs.Serving.{Apart, Apart-from_differing, differ_if_distinct}
use Rattle.path_clean.proofs.GraphPaths.{apart_if_cleaned}
use Rattle.result_text.specs.declared.file.PathLine.{PathLine}
use Rattle.result_text.specs.declared.file.EdgeLine.{EdgeLine}
use Rattle.result_text.specs.declared.file.ResultFile.{ResultFile}
use Rattle.result_rules.specs.File.{its_paths, its_edges}
use Rattle.result_rules.specs.declared.rule.Rule.TheVariants.{PathsCleaned, EdgesListed}
use Rattle.result_rules.specs.Rules.{IsMet}
use Rattle.line_rules.specs.EdgeLines.{edges_of, IsListed, AreApart}
use Rattle.tor_arena.proofs.Gets.{slice_get-some, slice_get-map, slice_get-unmap}

-- ---- lists

same_lists : {X : Type 0} (xs ys : List X) → ((k : ℕ) → slice_get xs k ≡ slice_get ys k) → xs ≡ ys
same_lists [] [] h = refl
same_lists [] (y ∷ ys) h = (let bad : None ≡ Some y = h 0 in cc)
same_lists (x ∷ xs) [] h = (let bad : Some x ≡ None = h 0 in cc)
same_lists (x ∷ xs) (y ∷ ys) h = let e : x ≡ y = same_Some x y (h 0) in let r = same_lists xs ys (λ k. h (suc k)) in cc

-- ---- each path has distinct ASes

module _ (file : ResultFile) (cleaned : IsMet file PathsCleaned) where
  path_distinct : (k : ℕ) (line : PathLine) → slice_get file.paths k ≡ Some line → AllDistinct line.path
  path_distinct k line at = apart_if_cleaned line.path (cleaned k (slice_get_within file.paths k line at) line at).cleaned

  pub lines_distinct : All (λ line. AllDistinct line.path) file.paths
  lines_distinct i d lt = path_distinct i (get_or file.paths i d) (slice_get-get_or file.paths i d lt)

-- ---- the edges

-- no more than the numbers
few_from : (a : ℕ) (path : List ℕ) → length (edges_from a path) ≡ length path
few_from a [] = refl
few_from a (b ∷ path) = ap suc (few_from b path)

few_on : (path : List ℕ) → length (edges_on path) ≤ length path
few_on [] = omega arith
few_on (a ∷ path) = let e = few_from a path in omega arith

few_flat : (paths : List (List ℕ)) → length (flat_map edges_on paths) ≤ sum_by length paths
few_flat [] = omega arith
few_flat (path ∷ paths) =
    omega (arith, few_on path, few_flat paths, length-append (edges_on path) (flat_map edges_on paths), sum_by-cons length path paths)

few_filtered : (p : Edge → Bool) (es : List Edge) → length (filter p es) ≤ length es
few_filtered p [] = omega arith
few_filtered p (e ∷ es) =
    let r = few_filtered p es in
    elim (cases_Bool (p e)) [ inl t ↦ rw t (omega arith) | inr n ↦ rw n (omega arith) ]

few_distinct : (es : List Edge) → length (distinct es) ≤ length es
few_distinct [] = omega arith
few_distinct (e ∷ es) = omega (arith, few_filtered (λ f. not (is_same e f)) (distinct es), few_distinct es)

few_edges : (paths : List (List ℕ)) → length (edges paths) ≤ sum_by length paths
few_edges paths = omega (arith, few_distinct (flat_map edges_on paths), few_flat paths)

-- each of them once

pub at_recursion : (P : Edge → Type 0) (es : List Edge) (k : ℕ) (e : Edge) → AllByRecursion P es → slice_get es k ≡ Some e → P e
at_recursion P [] k e h at = cc
at_recursion P (f ∷ es) zero e h at = let same : f ≡ e = cc in subst P same h.0
at_recursion P (f ∷ es) (suc k) e h at = at_recursion P es k e h.1 at

both_parts : (P : Edge → Type 0) (es fs : List Edge) → AllByRecursion P es → AllByRecursion P fs → AllByRecursion P (es ++ fs)
both_parts P [] fs h k = k
both_parts P (e ∷ es) fs h k = (h.0, both_parts P es fs h.1 k)

filtered : (P : Edge → Type 0) (p : Edge → Bool) (es : List Edge) → AllByRecursion P es → AllByRecursion P (filter p es)
filtered P p [] h = tt
filtered P p (e ∷ es) h = elim (cases_Bool (p e)) [ inl t ↦ rw t (h.0, filtered P p es h.1) | inr f ↦ rw f (filtered P p es h.1) ]

distinct_keeps : (P : Edge → Type 0) (es : List Edge) → AllByRecursion P es → AllByRecursion P (distinct es)
distinct_keeps P [] h = tt
distinct_keeps P (e ∷ es) h = (h.0, filtered P (λ f. not (is_same e f)) (distinct es) (distinct_keeps P es h.1))

abbrev pub Once : List Edge → Type 0
Once [] = Unit {0}
Once (e ∷ es) = AllByRecursion (λ f. is_same e f ≡ false) es × Once es

filtered_once : (p : Edge → Bool) (es : List Edge) → Once es → Once (filter p es)
filtered_once p [] h = tt
filtered_once p (e ∷ es) h =
    elim (cases_Bool (p e)) [
      | inl t ↦ rw t (filtered (λ f. is_same e f ≡ false) p es h.0, filtered_once p es h.1)
      | inr f ↦ rw f (filtered_once p es h.1)
    ]

passing : (e : Edge) (es : List Edge) → AllByRecursion (λ f. is_same e f ≡ false) (filter (λ f. not (is_same e f)) es)
passing e [] = tt
passing e (f ∷ es) = elim (cases_Bool (is_same e f)) [ inl t ↦ rw t (passing e es) | inr n ↦ rw n (n, passing e es) ]

pub distinct_once : (es : List Edge) → Once (distinct es)
distinct_once [] = tt
distinct_once (e ∷ es) = (passing e (distinct es), filtered_once (λ f. not (is_same e f)) (distinct es) (distinct_once es))

pub same_itself : (e f : Edge) → e ≡ f → is_same e f ≡ true
same_itself e f h = subst (λ g. is_same e g ≡ true) h (rw (eq-eqb e.0 e.0 refl, eq-eqb e.1 e.1 refl))

once_at : (es : List Edge) → Once es → (i j : ℕ) (e : Edge) → slice_get es i ≡ Some e → slice_get es j ≡ Some e → i ≡ j
once_at [] h i j e at at' = cc
once_at (f ∷ es) h zero zero e at at' = refl
once_at (f ∷ es) h zero (suc j) e at at' =
    let same : f ≡ e = cc in absurd (both_ways (is_same f e) (at_recursion (λ g. is_same f g ≡ false) es j e h.0 at') (same_itself f e same))
once_at (f ∷ es) h (suc i) zero e at at' =
    let same : f ≡ e = cc in absurd (both_ways (is_same f e) (at_recursion (λ g. is_same f g ≡ false) es i e h.0 at) (same_itself f e same))
once_at (f ∷ es) h (suc i) (suc j) e at at' = ap suc (once_at es h.1 i j e at at')

-- the lower number first

rising_from : (a : ℕ) (path : List ℕ) → Apart a path → AllByRecursion (λ (e : Edge). e.0 < e.1) (edges_from a path)
rising_from a [] h = tt
rising_from a (b ∷ path) h =
    (elim (cases_order a b) [ inl e ↦ absurd (h.0 e) | inr o ↦ elim o [ inl lt ↦ omega arith | inr lt ↦ omega arith ] ], rising_from b path h.1)

rising_on : (path : List ℕ) → AllDistinct path → AllByRecursion (λ (e : Edge). e.0 < e.1) (edges_on path)
rising_on [] h = tt
rising_on (a ∷ path) h = rising_from a path (Apart-from_differing a path (differ_if_distinct (a ∷ path) h))

rising_all : (lines : List PathLine) → All (λ line. AllDistinct line.path) lines → AllByRecursion (λ (e : Edge). e.0 < e.1) (flat_map edges_on (map (λ (p : PathLine). p.path) lines))
rising_all [] h = tt
rising_all (line ∷ lines) h =
    both_parts (λ (e : Edge). e.0 < e.1) (edges_on line.path) (flat_map edges_on (map (λ (p : PathLine). p.path) lines)) (rising_on line.path (All-head (λ line. AllDistinct line.path) line lines h))
    (rising_all lines (All-tail (λ line. AllDistinct line.path) line lines h))

-- and each two neighbours are one of them

listed_from : (P : Edge → Type 0) (a : ℕ) (path : List ℕ) (k : ℕ) → AllByRecursion P (edges_from a path) → k < length path → P (edge_of (slice_index (a ∷ path) k) (slice_index path k))
listed_from P a [] k h lt = absurd (omega arith)
listed_from P a (b ∷ path) zero h lt = h.0
listed_from P a (b ∷ path) (suc k) h lt = listed_from P b path k h.1 (omega arith)

listed_on : (es : List Edge) (path : List ℕ) → AllByRecursion (Contains es) (edges_on path) → IsListed es path
listed_on es [] h k lt = absurd (omega arith)
listed_on es (a ∷ path) h k lt =
    let e : k + 1 ≡ suc k = omega arith in
    subst (λ i. Contains es (edge_of (slice_index (a ∷ path) k) (slice_index (a ∷ path) i))) (sym e) (listed_from (Contains es) a path k h (omega arith))

listed_each : (es : List Edge) (lines : List PathLine) → AllByRecursion (λ path. AllByRecursion (Contains es) (edges_on path)) (map (λ (p : PathLine). p.path) lines)
    → All (λ line. IsListed es line.path) lines
listed_each es [] h = All-nil (λ line. IsListed es line.path)
listed_each es (line ∷ lines) h = All-cons (λ line. IsListed es line.path) line lines (listed_on es line.path h.0) (listed_each es lines h.1)

module _ (file : ResultFile) (cleaned : IsMet file PathsCleaned) (listed : IsMet file EdgesListed) where
  many_edges : length (its_edges file) ≡ length file.edges
  many_edges = length-map file.edges (λ (e : EdgeLine). (e.low, e.high))

  -- the edge lines are those of the edges of the paths
  pub its_edges_are : its_edges file ≡ edges (its_paths file)
  its_edges_are = same_lists (its_edges file) (edges (its_paths file)) (λ k. elim (cases_lt k (max (length file.edges) (length (edges (its_paths file))))) [
    | inl lt ↦ listed k lt
    | inr ge ↦
        let past : length (its_edges file) ≤ k = omega (arith, many_edges) in
        let past' : length (edges (its_paths file)) ≤ k = omega arith in
        slice_get_past (its_edges file) k past ∙ sym (slice_get_past (edges (its_paths file)) k past')
  ])

  numbers_few : sum_by length (its_paths file) ≤ 67108864
  numbers_few = elim (cases_lt 0 (length file.paths)) [
    | inl some ↦
        let k = length file.paths - 1 in
        let e : k + 1 ≡ length file.paths = omega arith in
        let line = slice_get-some file.paths k (omega arith) in
        let few = (cleaned k (omega arith) line.0 line.1).numbers in
        let all : take (k + 1) (its_paths file) ≡ its_paths file = take_all (k + 1) (its_paths file) (omega (arith, length-map file.paths (λ (p : PathLine). p.path))) in
        subst (λ l. sum_by length l ≤ 67108864) all few
    | inr none ↦ no_paths file.paths (omega arith)
  ]
    where
      no_paths : (lines : List PathLine) → length lines ≤ 0 → sum_by length (map (λ (p : PathLine). p.path) lines) ≤ 67108864
      no_paths [] h = lit≤ tt
      no_paths (line ∷ lines) h = absurd (omega arith)

  pub edges_few : length file.edges ≤ most_places
  edges_few = omega (arith, few_edges (its_paths file), numbers_few, ap length its_edges_are, many_edges)

  pub edges_apart : AreApart file.edges
  edges_apart = record {
    rising = λ i d lt.
        let line = get_or file.edges i d in
        let at = slice_get-map (λ (e : EdgeLine). (e.low, e.high)) file.edges i line (slice_get-get_or file.edges i d lt) in
        at_recursion (λ (e : Edge). e.0 < e.1) (edges (its_paths file)) i (line.low, line.high)
        (distinct_keeps (λ (e : Edge). e.0 < e.1) (flat_map edges_on (its_paths file)) (rising_all file.paths (lines_distinct file cleaned)))
        (ap (λ l. slice_get l i) (sym its_edges_are) ∙ at);
    once = λ i j e at at'. once_at (edges (its_paths file)) (distinct_once (flat_map edges_on (its_paths file))) i j e
        (ap (λ l. slice_get l i) (sym its_edges_are) ∙ at) (ap (λ l. slice_get l j) (sym its_edges_are) ∙ at');
  }

  pub lines_listed : All (λ line. IsListed (its_edges file) line.path) file.paths
  lines_listed =
      subst (λ es. All (λ line. IsListed es line.path) file.paths) (sym its_edges_are)
      (listed_each (edges (its_paths file)) file.paths (along_each (Contains (edges (its_paths file))) (its_paths file) (All-contains_itself (edges (its_paths file)))))

-- ---- edge lines

pub within_lines : (lines : List EdgeLine) (place : ℕ) (e : Edge) → slice_get (edges_of lines) place ≡ Some e → place < length lines
within_lines lines place e at = let w = slice_get-unmap (λ (l : EdgeLine). (l.low, l.high)) lines place e at in slice_get_within lines place w.0 w.1
