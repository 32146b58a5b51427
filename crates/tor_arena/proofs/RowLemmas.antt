-- Rows and their ends.
use Rattle.std.proofs.Common.{◌≡◌, ◌∙◌, ◌+◌, ◌-◌, ◌<◌, ◌≤◌, ℕ, zero, suc, List, [], ◌∷◌, ◌++◌, take, drop, length, refl, sym, ap, ap₂, subst, arith}
use Rattle.std.proofs.Common.{slice_get, slice_index, Some, length-drop, length-append, sum_by}
use Rattle.std.proofs.lemmas.List.{length-take-le, take_all, take-append-le, drop-append-le, take-take, drop-take}
use Rattle.std.proofs.lemmas.List.Sums.{sum_by-cons}
use Rattle.std.proofs.lemmas.Option.{same_Some}
use Rattle.std.proofs.Math.Seq.{drop-append_seam}
use Rattle.tor_arena.specs.RowLists.{Rises, ArePartedBy, with_end, between, last_end, rows_from, rows_between}

pub Rises-le : (most start : ℕ) (ends : List ℕ) → Rises most start ends → start ≤ most
Rises-le most start [] r = r
Rises-le most start (e ∷ es) r = let below = Rises-le most e es r.1 in let first = r.0 in omega (arith, below, first)

-- a row begins no later than it ends, and ends within the items
pub Rises-at : (most start : ℕ) (ends : List ℕ) (k : ℕ) → Rises most start ends → k < length ends
    → (last_end start (take k ends) ≤ slice_index ends k) × (slice_index ends k ≤ most)
Rises-at most start [] k r lt = absurd (omega arith)
Rises-at most start (e ∷ es) zero r lt = (r.0, Rises-le most e es r.1)
Rises-at most start (e ∷ es) (suc k) r lt = Rises-at most e es k r.1 (omega arith)

-- a row begins where the one before it ends
pub last_end-at : (start : ℕ) (ends : List ℕ) (k : ℕ) → k ≤ length ends → last_end start (take k ends) ≡ slice_index (start ∷ ends) k
last_end-at start ends zero le = refl
last_end-at start [] (suc k) le = absurd (omega arith)
last_end-at start (e ∷ es) (suc k) le = last_end-at e es k (omega arith)

pub last_end-push : (start : ℕ) (ends : List ℕ) (e : ℕ) → last_end start (ends ++ e ∷ []) ≡ e
last_end-push start [] e = refl
last_end-push start (x ∷ xs) e = last_end-push x xs e

pub Rises-push : (most more start : ℕ) (ends : List ℕ) (e : ℕ) → Rises most start ends → last_end start ends ≤ e → e ≤ more → Rises more start (ends ++ e ∷ [])
Rises-push most more start [] e r low high = (low, high)
Rises-push most more start (x ∷ xs) e r low high = (r.0, Rises-push most more x xs e r.1 low high)

-- the first rows end within the items
pub last_end-le : (most start : ℕ) (ends : List ℕ) (k : ℕ) → Rises most start ends → last_end start (take k ends) ≤ most
last_end-le most start ends zero r = Rises-le most start ends r
last_end-le most start [] (suc k) r = r
last_end-le most start (e ∷ es) (suc k) r = last_end-le most e es k r.1

-- and rise to their own end
pub Rises-take : (most start : ℕ) (ends : List ℕ) (k : ℕ) → Rises most start ends → Rises (last_end start (take k ends)) start (take k ends)
Rises-take most start ends zero r = omega arith
Rises-take most start [] (suc k) r = omega arith
Rises-take most start (e ∷ es) (suc k) r = (r.0, Rises-take most e es k r.1)

-- each bound is at most the next one, and this at most the number of items
pub bounds-rise : (bounds : List ℕ) (count k : ℕ) → ArePartedBy bounds count → suc k < length bounds
    → (slice_index bounds k ≤ slice_index bounds (suc k)) × (slice_index bounds (suc k) ≤ count)
bounds-rise [] count k parted lt = absurd (omega arith)
bounds-rise (s ∷ es) count k parted lt =
    let at = Rises-at count s es k parted.0 (omega arith) in
    let start = last_end-at s es k (omega arith) in
    let low = at.0 in
    let high = at.1 in
    (omega (arith, start, low), high)

pub bound-le : (bounds : List ℕ) (count k : ℕ) → ArePartedBy bounds count → k < length bounds → slice_index bounds k ≤ count
bound-le [] count k parted lt = absurd (omega arith)
bound-le (s ∷ es) count k parted lt =
    let low = last_end-le count s es k parted.0 in
    let start = last_end-at s es k (omega arith) in
    omega (arith, start, low)

pub parted-push : (bounds : List ℕ) (count more : ℕ) → ArePartedBy bounds count → ArePartedBy (with_end bounds (count + more)) (count + more)
parted-push [] count more parted = ((omega arith, omega arith), refl)
parted-push (s ∷ es) count more parted = (
  Rises-push count (count + more) s es (count + more) parted.0 (let last = parted.1 in omega (arith, last)) (omega arith),
  last_end-push s es (count + more),
)

pub length-with_end : (bounds : List ℕ) (end : ℕ) → length (with_end bounds end) ≡ length bounds - 1 + 2
length-with_end [] end = refl
length-with_end (s ∷ es) end = let many : length (es ++ end ∷ []) ≡ length es + 1 = length-append es (end ∷ []) in omega (arith, many)

pub parted-cut : (bounds : List ℕ) (count k : ℕ) → ArePartedBy bounds count → k < length bounds → ArePartedBy (take (suc k) bounds) (slice_index bounds k)
parted-cut [] count k parted lt = absurd (omega arith)
parted-cut (s ∷ es) count k parted lt =
    subst (λ end. Rises end s (take k es) × (last_end s (take k es) ≡ end)) (last_end-at s es k (omega arith)) (Rises-take count s es k parted.0, refl)

module _ {T : Type 0} where
  pub length-rows_from : (items : List T) (start : ℕ) (ends : List ℕ) → length (rows_from items start ends) ≡ length ends
  length-rows_from items start [] = refl
  length-rows_from items start (e ∷ es) = ap suc (length-rows_from items e es)

  pub slice_get-rows_from : (items : List T) (start : ℕ) (ends : List ℕ) (k : ℕ) → k < length ends
      → slice_get (rows_from items start ends) k ≡ Some (between items (last_end start (take k ends)) (slice_index ends k))
  slice_get-rows_from items start [] k lt = absurd (omega arith)
  slice_get-rows_from items start (e ∷ es) zero lt = refl
  slice_get-rows_from items start (e ∷ es) (suc k) lt = slice_get-rows_from items e es k (omega arith)

  between-old : (items row : List T) (start end : ℕ) → start ≤ end → end ≤ length items → between (items ++ row) start end ≡ between items start end
  between-old items row start end low high =
      let rest = length-drop start items in
      ap (take (end - start)) (drop-append-le start items row (omega arith))
      ∙ take-append-le (end - start) (drop start items) row (omega (arith, rest))

  between-new : (items row : List T) (start : ℕ) → start ≡ length items → between (items ++ row) start (length items + length row) ≡ row
  between-new items row start is =
      ap₂ take refl (ap (λ k. drop k (items ++ row)) is ∙ drop-append_seam items row) ∙ take_all (length items + length row - start) row (omega arith)

  -- a row that is added last
  pub rows_from-push : (items row : List T) (start : ℕ) (ends : List ℕ) → Rises (length items) start ends → last_end start ends ≡ length items
      → rows_from (items ++ row) start (ends ++ (length items + length row) ∷ []) ≡ rows_from items start ends ++ row ∷ []
  rows_from-push items row start [] r at = ap (λ t. t ∷ []) (between-new items row start at)
  rows_from-push items row start (e ∷ es) r at =
      ap₂ (λ t ts. t ∷ ts) (between-old items row start e r.0 (Rises-le (length items) e es r.1)) (rows_from-push items row e es r.1 at)

  between-cut : (items : List T) (cut start end : ℕ) → start ≤ end → end ≤ cut → between (take cut items) start end ≡ between items start end
  between-cut items cut start end low high =
      let whole : start + (cut - start) ≡ cut = omega (arith, low, high) in
      ap (λ n. take (end - start) (drop start (take n items))) (sym whole) ∙ ap (take (end - start)) (drop-take start (cut - start) items)
      ∙ take-take (end - start) (cut - start) (drop start items) (omega (arith, low, high))

  rows_from-cut : (items : List T) (cut start : ℕ) (ends : List ℕ) → Rises cut start ends → rows_from (take cut items) start ends ≡ rows_from items start ends
  rows_from-cut items cut start [] r = refl
  rows_from-cut items cut start (e ∷ es) r =
      ap₂ (λ t ts. t ∷ ts) (between-cut items cut start e r.0 (Rises-le cut e es r.1)) (rows_from-cut items cut e es r.1)

  rows_from-first : (items : List T) (start : ℕ) (ends : List ℕ) (k : ℕ) → rows_from items start (take k ends) ≡ take k (rows_from items start ends)
  rows_from-first items start ends zero = refl
  rows_from-first items start [] (suc k) = refl
  rows_from-first items start (e ∷ es) (suc k) = ap (λ ts. between items start e ∷ ts) (rows_from-first items e es k)

  -- the first rows, where the items behind them are cut
  pub rows_from-take : (items : List T) (start : ℕ) (ends : List ℕ) (k : ℕ) → Rises (length items) start ends
      → rows_from (take (last_end start (take k ends)) items) start (take k ends) ≡ take k (rows_from items start ends)
  rows_from-take items start ends k r =
      rows_from-cut items (last_end start (take k ends)) start (take k ends) (Rises-take (length items) start ends k r) ∙ rows_from-first items start ends k

  pub length-rows_between : (items : List T) (bounds : List ℕ) → length (rows_between items bounds) ≡ length bounds - 1
  length-rows_between items [] = refl
  length-rows_between items (s ∷ es) = let many = length-rows_from items s es in omega (arith, many)

  length-between : (items : List T) (start end : ℕ) → start ≤ end → end ≤ length items → length (between items start end) ≡ end - start
  length-between items start end low high =
      let rest = length-drop start items in
      length-take-le (end - start) (drop start items) (omega (arith, low, high, rest))

  -- the rows have all items but those before the first one
  sum-rows_from : (items : List T) (start : ℕ) (ends : List ℕ) → Rises (length items) start ends → sum_by length (rows_from items start ends) + start ≡ last_end start ends
  sum-rows_from items start [] r = omega arith
  sum-rows_from items start (e ∷ es) r =
      let low = r.0 in
      let one = length-between items start e low (Rises-le (length items) e es r.1) in
      let more = sum-rows_from items e es r.1 in
      let both = sum_by-cons length (between items start e) (rows_from items e es) in
      omega (arith, low, one, more, both)

  pub sum-rows_between : (items : List T) (bounds : List ℕ) (start : ℕ) → slice_get bounds 0 ≡ Some start → ArePartedBy bounds (length items)
      → sum_by length (rows_between items bounds) + start ≡ length items
  sum-rows_between items [] start is parted = absurd cc
  sum-rows_between items (s ∷ es) start is parted =
      let same : s ≡ start = same_Some s start is in
      ap (λ k. sum_by length (rows_from items s es) + k) (sym same) ∙ sum-rows_from items s es parted.0 ∙ parted.1

  pub slice_get-rows_between : (items : List T) (bounds : List ℕ) (k : ℕ) → suc k < length bounds
      → slice_get (rows_between items bounds) k ≡ Some (between items (slice_index bounds k) (slice_index bounds (suc k)))
  slice_get-rows_between items [] k lt = absurd (omega arith)
  slice_get-rows_between items (s ∷ es) k lt =
      slice_get-rows_from items s es k (omega arith) ∙ ap (λ start. Some (between items start (slice_index es k))) (last_end-at s es k (omega arith))

  pub rows_between-push : (items row : List T) (bounds : List ℕ) → ArePartedBy bounds (length items)
      → rows_between (items ++ row) (with_end bounds (length items + length row)) ≡ rows_between items bounds ++ row ∷ []
  rows_between-push items row [] parted = rows_from-push items row 0 [] (omega arith) (sym parted)
  rows_between-push items row (s ∷ es) parted = rows_from-push items row s es parted.0 parted.1

  -- the first rows, where the items behind them are cut
  pub rows_between-cut : (items : List T) (bounds : List ℕ) (k : ℕ) → ArePartedBy bounds (length items) → k < length bounds
      → rows_between (take (slice_index bounds k) items) (take (suc k) bounds) ≡ take k (rows_between items bounds)
  rows_between-cut items [] k parted lt = absurd (omega arith)
  rows_between-cut items (s ∷ es) k parted lt =
      ap (λ end. rows_from (take end items) s (take k es)) (sym (last_end-at s es k (omega arith))) ∙ rows_from-take items s es k parted.0
