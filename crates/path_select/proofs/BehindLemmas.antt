-- The places behind the first paths of a graph, and the paths there.
use Rattle.std.proofs.Common.{◌≡◌, ℕ, zero, suc, ◌+◌, ◌<◌, ◌≤◌, List, [], ◌∷◌, ◌++◌, length, refl, sym, ap, ap₂, ◌∙◌, arith, append_assoc, length-append}
use Rattle.std.specs.List.{AllByRecursion}
use Rattle.as_graph.specs.Paths.{path_at, paths_at}
use Rattle.path_select.specs.Behind.{places_from}

pub places_push : (n k : ℕ) → places_from n (suc k) ≡ places_from n k ++ (n + k) ∷ []
places_push n zero = let e : n ≡ n + 0 = omega arith in ap (λ m. m ∷ []) e
places_push n (suc k) =
    let e : n + 1 + k ≡ n + suc k = omega arith in
    ap (λ (l : List ℕ). n ∷ l) (places_push (n + 1) k ∙ ap (λ m. places_from (n + 1) k ++ m ∷ []) e)

pub places_all : (P : ℕ → Type 0) (n k : ℕ) → ((i : ℕ) → n ≤ i → i < n + k → P i) → AllByRecursion P (places_from n k)
places_all P n zero h = tt
places_all P n (suc k) h = (h n (omega arith) (omega arith), places_all P (n + 1) k (λ i le lt. h i (omega (arith, le)) (omega (arith, lt))))

pub at_behind : (xs ys : List (List ℕ)) (j : ℕ) → path_at (xs ++ ys) (length xs + j) ≡ path_at ys j
at_behind [] ys j = let e : 0 + j ≡ j = omega arith in ap (path_at ys) e
at_behind (x ∷ xs) ys j =
    let e : suc (length xs) + j ≡ suc (length xs + j) = omega arith in
    ap (path_at (x ∷ xs ++ ys)) e ∙ at_behind xs ys j

at_end : (xs ys : List (List ℕ)) (y : List ℕ) → path_at (xs ++ y ∷ ys) (length xs) ≡ y
at_end [] ys y = refl
at_end (x ∷ xs) ys y = at_end xs ys y

pub rows_behind : (xs ys : List (List ℕ)) → paths_at (xs ++ ys) (places_from (length xs) (length ys)) ≡ ys
rows_behind xs [] = refl
rows_behind xs (y ∷ ys) =
    let longer : length (xs ++ y ∷ []) ≡ length xs + 1 = length-append xs (y ∷ []) in
    let rest : paths_at (xs ++ (y ∷ ys)) (places_from (length xs + 1) (length ys)) ≡ ys =
    ap₂ (λ (l : List (List ℕ)) (n : ℕ). paths_at l (places_from n (length ys))) (sym (append_assoc xs (y ∷ []) ys)) (sym longer) ∙ rows_behind (xs ++ y ∷ []) ys in
    ap₂ (λ (p : List ℕ) (ps : List (List ℕ)). p ∷ ps) (at_end xs ys y) rest
