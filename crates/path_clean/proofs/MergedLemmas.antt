-- Paths that lie one behind the other.
use Rattle.std.proofs.Common.{◌≡◌, ◌∙◌, ◌+◌, ◌-◌, ◌<◌, ◌≤◌, ℕ, zero, suc, List, [], ◌∷◌, ◌++◌, take, drop, length, refl, sym, ap, ap₂, subst, arith}
use Rattle.std.proofs.Common.{slice_get, slice_index, Option, Some, length-drop, length-append}
use Rattle.std.proofs.lemmas.List.{take_all, take-append-le, drop-append-le}
use Rattle.std.proofs.Math.Seq.{drop-append_seam}
use Rattle.tor_arena.specs.RowLists.{Rises, ArePartedBy, between, last_end, rows_from}
use Rattle.path_clean.specs.declared.cleaned.Cause.{Cause}
use Rattle.path_clean.specs.declared.cleaned.Cleaned.{Cleaned}
use Rattle.path_clean.specs.Behind.{IsPutBehind, IsMergedBehind}

Rises-le : (most start : ℕ) (ends : List ℕ) → Rises most start ends → start ≤ most
Rises-le most start [] r = r
Rises-le most start (e ∷ es) r = let below = Rises-le most e es r.1 in let first = r.0 in omega (arith, below, first)

-- a path begins no later than it ends, and ends within the numbers
pub Rises-at : (most start : ℕ) (ends : List ℕ) (k : ℕ) → Rises most start ends → k < length ends
    → (last_end start (take k ends) ≤ slice_index ends k) × (slice_index ends k ≤ most)
Rises-at most start [] k r lt = absurd (omega arith)
Rises-at most start (e ∷ es) zero r lt = (r.0, Rises-le most e es r.1)
Rises-at most start (e ∷ es) (suc k) r lt = Rises-at most e es k r.1 (omega arith)

-- a path begins where the one before it ends
pub begins-at : (start : ℕ) (ends : List ℕ) (k : ℕ) → k < length ends → last_end start (take (suc k) ends) ≡ slice_index ends k
begins-at start [] k lt = absurd (omega arith)
begins-at start (e ∷ es) zero lt = refl
begins-at start (e ∷ es) (suc k) lt = begins-at e es k (omega arith)

last_end-push : (start : ℕ) (ends : List ℕ) (e : ℕ) → last_end start (ends ++ e ∷ []) ≡ e
last_end-push start [] e = refl
last_end-push start (x ∷ xs) e = last_end-push x xs e

Rises-push : (most more start : ℕ) (ends : List ℕ) (e : ℕ) → Rises most start ends → last_end start ends ≤ e → e ≤ more → Rises more start (ends ++ e ∷ [])
Rises-push most more start [] e r low high = (low, high)
Rises-push most more start (x ∷ xs) e r low high = (r.0, Rises-push most more x xs e r.1 low high)

pub length-paths : (numbers : List ℕ) (start : ℕ) (ends : List ℕ) → length (rows_from numbers start ends) ≡ length ends
length-paths numbers start [] = refl
length-paths numbers start (e ∷ es) = ap suc (length-paths numbers e es)

pub path-at : (numbers : List ℕ) (start : ℕ) (ends : List ℕ) (k : ℕ) → k < length ends
    → slice_get (rows_from numbers start ends) k ≡ Some (between numbers (last_end start (take k ends)) (slice_index ends k))
path-at numbers start [] k lt = absurd (omega arith)
path-at numbers start (e ∷ es) zero lt = refl
path-at numbers start (e ∷ es) (suc k) lt = path-at numbers e es k (omega arith)

pub same-part : (xs ys : List ℕ) (a b c d : ℕ) → xs ≡ ys → a ≡ c → b ≡ d → take (b - a) (drop a xs) ≡ between ys c d
same-part xs ys a b c d lists starts ends =
    ap (λ zs. take (b - a) (drop a zs)) lists ∙ ap (λ k. take (b - k) (drop k ys)) starts ∙ ap (λ k. take (k - c) (drop c ys)) ends

between-old : (numbers path : List ℕ) (start end : ℕ) → start ≤ end → end ≤ length numbers → between (numbers ++ path) start end ≡ between numbers start end
between-old numbers path start end low high =
    let rest = length-drop start numbers in
    ap (take (end - start)) (drop-append-le start numbers path (omega arith)) ∙ take-append-le (end - start) (drop start numbers) path (omega (arith, rest))

between-new : (numbers path : List ℕ) (start : ℕ) → start ≡ length numbers → between (numbers ++ path) start (length numbers + length path) ≡ path
between-new numbers path start is =
    ap₂ take refl (ap (λ k. drop k (numbers ++ path)) is ∙ drop-append_seam numbers path) ∙ take_all (length numbers + length path - start) path (omega arith)

-- a path that is added last
paths-push : (numbers path : List ℕ) (start : ℕ) (ends : List ℕ) → Rises (length numbers) start ends → last_end start ends ≡ length numbers
    → rows_from (numbers ++ path) start (ends ++ (length numbers + length path) ∷ []) ≡ rows_from numbers start ends ++ path ∷ []
paths-push numbers path start [] r at = ap (λ t. t ∷ []) (between-new numbers path start at)
paths-push numbers path start (e ∷ es) r at =
    ap₂ (λ t ts. t ∷ ts) (between-old numbers path start e r.0 (Rises-le (length numbers) e es r.1)) (paths-push numbers path e es r.1 at)

-- ---- a path that went behind the numbers

length-put : (old new : List ℕ) (merged : Cleaned) (cause : Option Cause) (put : IsPutBehind old new merged cause) → length new ≡ length old + length put.path
length-put old new merged cause put = ap length put.behind ∙ length-append old put.path

pub merged-last : (old ends new ends' : List ℕ) (merged : Cleaned) (cause : Option Cause) → IsPutBehind old new merged cause → ends' ≡ ends ++ length new ∷ []
    → ArePartedBy (0 ∷ ends) (length old) → IsMergedBehind (rows_from old 0 ends) (rows_from new 0 ends') merged cause
merged-last old ends new ends' merged cause put end parted =
    let last = end ∙ ap (λ e. ends ++ e ∷ []) (length-put old new merged cause put) in record {
      path = put.path;
      behind = ap₂ (λ ns es. rows_from ns 0 es) put.behind last ∙ paths-push old put.path 0 ends parted.0 parted.1;
      same = put.same;
    }

pub parted-last : (old ends new ends' : List ℕ) (merged : Cleaned) (cause : Option Cause) → IsPutBehind old new merged cause → ends' ≡ ends ++ length new ∷ []
    → ArePartedBy (0 ∷ ends) (length old) → ArePartedBy (0 ∷ ends') (length new)
parted-last old ends new ends' merged cause put end parted =
    let many = length-put old new merged cause put in
    let whole = parted.1 in
    subst (λ es. ArePartedBy (0 ∷ es) (length new)) (sym end)
    (Rises-push (length old) (length new) 0 ends (length new) parted.0 (omega (arith, whole, many)) (omega arith), last_end-push 0 ends (length new))
