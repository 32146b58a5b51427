-- The places of kept paths, behind those that are kept first: no two are the same.
use Rattle.std.proofs.Common.{◌≡◌, ◌≢◌, ℕ, zero, suc, ◌+◌, ◌≤◌, ◌<◌, Bool, true, false, if◌then◌else◌, List, [], ◌∷◌, ◌++◌, length, drop, refl, sym, ap, ap₂, ◌∙◌, subst, arith, length-append, All}
use Rattle.std.specs.List.{AllByRecursion, AllPairs}
use Rattle.std.proofs.lemmas.List.Elements.{All-from_recursion, recursion_from_All}
use Rattle.relationships.specs.Evidence.{kept_from, paths_of}
use Rattle.relationships.specs.Selection.{KeepsFrom}
use Rattle.relationships.proofs.Deciding.{PairsByRecursion, AllPairs-from_recursion}
use Rattle.relationships.proofs.Checked.{kept_all}
use Rattle.as_graph.specs.Paths.{path_at, paths_at}
use Rattle.tor_clauses.specs.Formulas.{numbered}
use Rattle.tor_clauses.proofs.Exacts.{numbered_paths}
use Rattle.path_select.specs.Behind.{places_from}
use Rattle.path_select.proofs.BehindLemmas.{places_all}
use Rattle.rel_infer.proofs.ReturnRows.{numbers_below, places_apart}

-- the numbers begin with that of the first path, and rise

above : (m n : ℕ) (paths : List (List ℕ)) (keeps : List Bool) → m ≤ n → AllByRecursion (λ (p : ℕ × List ℕ). m ≤ p.0) (kept_from n paths keeps)
above m n [] keeps le = tt
above m n (path ∷ paths) [] le = tt
above m n (path ∷ paths) (true ∷ keeps) le = (le, above m (n + 1) paths keeps (omega (arith, le)))
above m n (path ∷ paths) (false ∷ keeps) le = above m (n + 1) paths keeps (omega (arith, le))

rising : (n : ℕ) (paths : List (List ℕ)) (keeps : List Bool) → PairsByRecursion (λ (p q : ℕ × List ℕ). p.0 + 1 ≤ q.0) (kept_from n paths keeps)
rising n [] keeps = tt
rising n (path ∷ paths) [] = tt
rising n (path ∷ paths) (true ∷ keeps) = (above (n + 1) (n + 1) paths keeps (omega arith), rising (n + 1) paths keeps)
rising n (path ∷ paths) (false ∷ keeps) = rising (n + 1) paths keeps

module _ (graph : List (List ℕ)) where
  others : (place : ℕ) (places : List ℕ) → AllByRecursion (λ (q : ℕ × List ℕ). place + 1 + 1 ≤ q.0) (numbered graph places) →
      AllByRecursion (λ other. place ≢ other) places
  others place [] h = tt
  others place (other ∷ places) h =
      ((λ e. let le = h.0 in absurd (omega (arith, e, le))), others place places h.1)

  apart : (places : List ℕ) → PairsByRecursion (λ (p q : ℕ × List ℕ). p.0 + 1 ≤ q.0) (numbered graph places) → PairsByRecursion ◌≢◌ places
  apart [] h = tt
  apart (place ∷ places) h = (others place places h.0, apart places h.1)

  places_below : (top : ℕ) (places : List ℕ) → AllByRecursion (λ (p : ℕ × List ℕ). p.0 ≤ top) (numbered graph places) → AllByRecursion (λ place. place < top) places
  places_below top [] h = tt
  places_below top (place ∷ places) h = (let le = h.0 in omega (arith, le), places_below top places h.1)

  module _ (paths : List (List ℕ)) (places : List ℕ) (keeps : List Bool) (same : numbered graph places ≡ kept_from 1 paths keeps) where
    kept_pairs : PairsByRecursion ◌≢◌ places
    kept_pairs = apart places (subst (PairsByRecursion (λ (p q : ℕ × List ℕ). p.0 + 1 ≤ q.0)) (sym same) (rising 1 paths keeps))

    pub kept_apart : AllPairs ◌≢◌ places
    kept_apart = AllPairs-from_recursion ◌≢◌ places kept_pairs

    kept_below : AllByRecursion (λ place. place < length paths) places
    kept_below =
        places_below (length paths) places
        (subst (AllByRecursion (λ (p : ℕ × List ℕ). p.0 ≤ length paths)) (sym same) (numbers_below (length paths) 1 paths keeps (omega arith)))

    -- nor is one of them one of those behind the paths
    pub all_apart : (first : List ℕ) → PairsByRecursion ◌≢◌ first → AllByRecursion (λ place. length paths ≤ place) first → PairsByRecursion ◌≢◌ (first ++ places)
    all_apart [] pairs behind = kept_pairs
    all_apart (f ∷ first) pairs behind = (both first pairs.0, all_apart first pairs.1 behind.1)
      where
        below : (ps : List ℕ) → AllByRecursion (λ place. place < length paths) ps → AllByRecursion (λ other. f ≢ other) ps
        below [] h = tt
        below (p ∷ ps) h = ((λ e. let lt = h.0 in let le = behind.0 in absurd (omega (arith, e, lt, le))), below ps h.1)

        both : (fs : List ℕ) → AllByRecursion (λ other. f ≢ other) fs → AllByRecursion (λ other. f ≢ other) (fs ++ places)
        both [] h = below places kept_below
        both (g ∷ fs) h = (h.0, both fs h.1)

  -- ---- what stands behind those that are kept first

  pub rest_is : (all first : List ℕ) (kept : List (ℕ × List ℕ)) → numbered graph all ≡ numbered graph first ++ kept → numbered graph (drop (length first) all) ≡ kept
  rest_is all [] kept h = h
  rest_is [] (f ∷ first) kept h = absurd cc
  rest_is (p ∷ all) (f ∷ first) kept h = rest_is all first kept (cons_tail (p + 1, path_at graph p) (f + 1, path_at graph f) (numbered graph all) (numbered graph first ++ kept) h)
    where
      cons_tail : (x y : ℕ × List ℕ) (xs ys : List (ℕ × List ℕ)) → x ∷ xs ≡ y ∷ ys → xs ≡ ys
      cons_tail x y xs ys e = cc

  pub all_is : (all first : List ℕ) (kept : List (ℕ × List ℕ)) → numbered graph all ≡ numbered graph first ++ kept → all ≡ first ++ drop (length first) all
  all_is all [] kept h = refl
  all_is [] (f ∷ first) kept h = absurd cc
  all_is (p ∷ all) (f ∷ first) kept h =
      let same : p + 1 ≡ f + 1 = cons_head (p + 1) (f + 1) (path_at graph p) (path_at graph f) (numbered graph all) (numbered graph first ++ kept) h in
      let e : p ≡ f = omega (arith, same) in
      ap₂ (λ (q : ℕ) (qs : List ℕ). q ∷ qs) e
      (all_is all first kept (cons_tail (p + 1, path_at graph p) (f + 1, path_at graph f) (numbered graph all) (numbered graph first ++ kept) h))
    where
      cons_tail : (x y : ℕ × List ℕ) (xs ys : List (ℕ × List ℕ)) → x ∷ xs ≡ y ∷ ys → xs ≡ ys
      cons_tail x y xs ys e = cc

      cons_head : (m n : ℕ) (a b : List ℕ) (xs ys : List (ℕ × List ℕ)) → (m, a) ∷ xs ≡ (n, b) ∷ ys → m ≡ n
      cons_head m n a b xs ys e = ap (λ (q : ℕ × List ℕ). q.0) (head (m, a) (n, b) xs ys e)
        where
          head : (x y : ℕ × List ℕ) (xs ys : List (ℕ × List ℕ)) → x ∷ xs ≡ y ∷ ys → x ≡ y
          head x y xs ys e = cc

-- the counted places, behind the first ones
module _ (graph paths : List (List ℕ)) (all : List ℕ) (n k : ℕ) (keeps : List Bool) (same : numbered graph all ≡ numbered graph (places_from n k) ++ kept_from 1 paths keeps) where
  abbrev pub first : List ℕ
  first = places_from n k

  abbrev pub counted : List ℕ
  counted = drop (length first) all

  pub split : all ≡ first ++ counted
  split = all_is graph all first (kept_from 1 paths keeps) same

  pub numbered_counted : numbered graph counted ≡ kept_from 1 paths keeps
  numbered_counted = rest_is graph all first (kept_from 1 paths keeps) same

  pub first_fits : length first ≤ length all
  first_fits = let e = ap length split in let sum = length-append first counted in omega (arith, e, sum)

  pub counted_once : AllPairs ◌≢◌ counted
  counted_once = kept_apart graph paths counted keeps numbered_counted

  pub all_once : length paths ≤ n → AllPairs ◌≢◌ all
  all_once le =
      subst (AllPairs ◌≢◌) (sym split)
      (AllPairs-from_recursion ◌≢◌ (first ++ counted)
      (all_apart graph paths counted keeps numbered_counted first (places_apart n k) (places_all (λ place. length paths ≤ place) n k (λ i low high. omega (arith, low, le)))))

  pub counted_paths : paths_at graph counted ≡ paths_of (kept_from 1 paths keeps)
  counted_paths = sym (numbered_paths graph counted) ∙ ap paths_of numbered_counted

  pub counted_distinct : (P : List ℕ → Type 0) → All P paths → All P (paths_at graph counted)
  counted_distinct P h =
      subst (All P) (sym counted_paths)
      (All-from_recursion P (paths_of (kept_from 1 paths keeps)) (kept_all P 1 paths keeps (recursion_from_All P paths h)))

-- there are so many places
pub places_many : (n k : ℕ) → length (places_from n k) ≡ k
places_many n zero = refl
places_many n (suc k) = ap suc (places_many (n + 1) k)

-- there is a flag for each path
pub keeps_many : (kept paths : List (List ℕ)) (keeps : List Bool) → KeepsFrom kept paths keeps → length keeps ≡ length paths
keeps_many kept [] [] h = refl
keeps_many kept [] (keep ∷ keeps) h = absurd h
keeps_many kept (path ∷ paths) [] h = absurd h
keeps_many kept (path ∷ paths) (keep ∷ keeps) h = ap suc (keeps_many (if keep then kept ++ path ∷ [] else kept) paths keeps h.1)
