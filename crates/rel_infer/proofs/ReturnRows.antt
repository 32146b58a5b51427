-- The rows of the returns behind the paths of a graph: their places, and the numbers of their givens.
use Rattle.std.proofs.Common.{◌≡◌, ◌≢◌, ℕ, zero, suc, ◌+◌, ◌-◌, ◌<◌, ◌≤◌, inl, inr, Bool, true, false, if◌then◌else◌, List, [], ◌∷◌, ◌++◌, length, take, get_or, Some, slice_get, refl, sym, ap}
use Rattle.std.proofs.Common.{◌∙◌, subst, arith, Contains}
use Rattle.std.specs.List.{AllByRecursion}
use Rattle.std.proofs.lemmas.Bool.{cases_Bool}
use Rattle.relationships.specs.declared.given.Given.{Given}
use Rattle.relationships.specs.Evidence.{kept_from}
use Rattle.relationships.specs.Givens.{names_edge, return_of, returns}
use Rattle.relationships.specs.GivenEvidence.{IsGiven, AreReturnRows}
use Rattle.relationships.proofs.Deciding.{PairsByRecursion}
use Rattle.relationships.proofs.GivenLemmas.{with_return, without_return}
use Rattle.as_graph.specs.Paths.{path_at}
use Rattle.tor_clauses.specs.Formulas.{numbered}
use Rattle.path_select.specs.Behind.{places_from}
use Rattle.path_select.proofs.BehindLemmas.{at_behind, places_all}
use Rattle.rel_infer.specs.Returns.{numbers_from}

-- ---- places

pub places_apart : (n k : ℕ) → PairsByRecursion ◌≢◌ (places_from n k)
places_apart n zero = tt
places_apart n (suc k) = (places_all (λ i. n ≢ i) (n + 1) k (λ i le lt same. absurd (omega (arith, le, same))), places_apart (n + 1) k)

-- ---- numbers

module _ (paths : List (List ℕ)) where
  number_if : (n : ℕ) (g : Given) (b : Bool) → names_edge paths g ≡ b → (rest : List Given) →
      numbers_from paths n (g ∷ rest) ≡ (if b then n ∷ numbers_from paths (n + 1) rest else numbers_from paths (n + 1) rest)
  number_if n g b is rest = rw is refl

  abbrev number_alone : ℕ → Given → List ℕ
  number_alone n g = if names_edge paths g then n ∷ [] else []

  pub numbers_push : (n : ℕ) (givens : List Given) (g : Given) →
      numbers_from paths n (givens ++ g ∷ []) ≡ numbers_from paths n givens ++ number_alone (n + length givens) g
  numbers_push n [] g =
      let e : n ≡ n + 0 = omega arith in ap (λ m. number_alone m g) e
  numbers_push n (h ∷ givens) g =
      let e : n + 1 + length givens ≡ n + suc (length givens) = omega arith in
      let rest = numbers_push (n + 1) givens g ∙ ap (λ m. numbers_from paths (n + 1) givens ++ number_alone m g) e in
      elim (cases_Bool (names_edge paths h)) [
        | inl t ↦ number_if n h true t (givens ++ g ∷ []) ∙ ap (λ (l : List ℕ). n ∷ l) rest ∙
            ap (λ (l : List ℕ). l ++ number_alone (n + suc (length givens)) g) (sym (number_if n h true t givens))
        | inr f ↦ number_if n h false f (givens ++ g ∷ []) ∙ rest ∙
            ap (λ (l : List ℕ). l ++ number_alone (n + suc (length givens)) g) (sym (number_if n h false f givens))
      ]

  -- the j-th row is the return of the given that the j-th number names
  abbrev IsRow : List Given → List ℕ → List (List ℕ) → ℕ → Type 0
  IsRow all numbers rows j = (g : Given) × IsGiven all (get_or numbers j 0) g × (path_at rows j ≡ return_of g)

  row_named : (all : List Given) (n : ℕ) (givens : List Given) → ((i : ℕ) (g : Given) → slice_get givens i ≡ Some g → IsGiven all (n + i) g) →
      (j : ℕ) → j < length (returns paths givens) → IsRow all (numbers_from paths n givens) (returns paths givens) j
  row_named all n [] named j lt = absurd (omega (arith, lt))
  row_named all n (g ∷ givens) named j lt =
      let later : (i : ℕ) (h : Given) → slice_get givens i ≡ Some h → IsGiven all (n + 1 + i) h =
      λ i h at. let e : n + suc i ≡ n + 1 + i = omega arith in subst (λ m. IsGiven all m h) e (named (suc i) h at) in
      let e₀ : n + 0 ≡ n = omega arith in
      let own : IsGiven all n g = subst (λ m. IsGiven all m g) e₀ (named zero g refl) in
      elim (cases_Bool (names_edge paths g)) [
        | inl t ↦ subst (λ ns. IsRow all ns (returns paths (g ∷ givens)) j) (sym (number_if n g true t givens))
            (subst (λ rows. IsRow all (n ∷ numbers_from paths (n + 1) givens) rows j) (sym (with_return paths g givens t))
            (first j (subst (λ (rows : List (List ℕ)). j < length rows) (with_return paths g givens t) lt) own (row_named all (n + 1) givens later)))
        | inr f ↦ subst (λ ns. IsRow all ns (returns paths (g ∷ givens)) j) (sym (number_if n g false f givens))
            (subst (λ rows. IsRow all (numbers_from paths (n + 1) givens) rows j) (sym (without_return paths g givens f))
            (row_named all (n + 1) givens later j (subst (λ (rows : List (List ℕ)). j < length rows) (without_return paths g givens f) lt)))
      ]
    where
      first : (j : ℕ) → j < suc (length (returns paths givens)) → IsGiven all n g →
          ((j : ℕ) → j < length (returns paths givens) → IsRow all (numbers_from paths (n + 1) givens) (returns paths givens) j) →
          IsRow all (n ∷ numbers_from paths (n + 1) givens) (return_of g ∷ returns paths givens) j
      first zero lt own rest = (g, own, refl)
      first (suc j) lt own rest = rest j (omega (arith, lt))

in_rows : (graph : List (List ℕ)) (n k m : ℕ) (path : List ℕ) → Contains (numbered graph (places_from n k)) (m, path) →
    (j : ℕ) × (j < k) × (m ≡ n + j + 1) × (path ≡ path_at graph (n + j))
in_rows graph n zero m path c = absurd (omega (arith, c.1))
in_rows graph n (suc k) m path (zero, lt, e) =
    let same : n + 1 ≡ m = ap (λ (q : ℕ × List ℕ). q.0) e in
    let e₀ : n ≡ n + 0 = omega arith in
    (0, omega arith, omega (arith, same), sym (ap (λ (q : ℕ × List ℕ). q.1) e) ∙ ap (path_at graph) e₀)
in_rows graph n (suc k) m path (suc i, lt, e) =
    let (j, within, at, is) = in_rows graph (n + 1) k m path (i, omega (arith, lt), e) in
    let e₀ : n + 1 + j ≡ n + suc j = omega arith in
    (suc j, omega (arith, within), omega (arith, at), is ∙ ap (path_at graph) e₀)

pub are_rows : (givens : List Given) (paths : List (List ℕ)) →
    AreReturnRows givens (length paths) (numbers_from paths 1 givens) (numbered (paths ++ returns paths givens) (places_from (length paths) (length (returns paths givens))))
are_rows givens paths m path c =
    let n = length paths in
    let rows = returns paths givens in
    let (j, within, at, is) = in_rows (paths ++ rows) n (length rows) m path c in
    let (g, named, row) = row_named paths givens 1 givens own j within in
    let e : j ≡ m - (n + 1) = omega (arith, at) in
    (omega (arith, at), (g, subst (λ i. IsGiven givens (get_or (numbers_from paths 1 givens) i 0) g) e named, is ∙ at_behind paths rows j ∙ row))
  where
    own : (i : ℕ) (g : Given) → slice_get givens i ≡ Some g → IsGiven givens (1 + i) g
    own i g at = let e : i ≡ 1 + i - 1 = omega arith in (omega arith, subst (λ k. slice_get givens k ≡ Some g) e at)

-- ---- the numbers of kept paths

pub numbers_below : (top n : ℕ) (paths : List (List ℕ)) (keeps : List Bool) → n + length paths ≤ suc top → AllByRecursion (λ (p : ℕ × List ℕ). p.0 ≤ top) (kept_from n paths keeps)
numbers_below top n [] keeps le = tt
numbers_below top n (path ∷ paths) [] le = tt
numbers_below top n (path ∷ paths) (true ∷ keeps) le = (omega (arith, le), numbers_below top (n + 1) paths keeps (omega (arith, le)))
numbers_below top n (path ∷ paths) (false ∷ keeps) le = numbers_below top (n + 1) paths keeps (omega (arith, le))

pub take_front : (xs ys : List (List ℕ)) → take (length xs) (xs ++ ys) ≡ xs
take_front [] ys = refl
take_front (x ∷ xs) ys = ap (λ (l : List (List ℕ)). x ∷ l) (take_front xs ys)
