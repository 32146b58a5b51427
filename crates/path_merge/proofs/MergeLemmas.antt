-- Numbers that go onto a path one by one are the numbers with equal neighbours merged.
use Rattle.std.proofs.Common.{◌≡◌, ℕ, suc, take, not, ◌+◌, ◌-◌, ◌<◌, ◌≤◌, ◌&&◌, ◌||◌, Bool, true, false, cond, nat_eq, List, [], ◌∷◌, ◌++◌, length, refl}
use Rattle.std.proofs.Common.{sym, ap, ◌∙◌, arith, append_assoc, length-append}
use Rattle.std.specs.Prelude.{slice_index}
use Rattle.std.specs.List.{fold, dedup, dedup_from, flat_map, before_first, prefix_len, list_any}
use Rattle.std.proofs.lemmas.Bool.{lt-ltb, le-ltb, eqb-true}
use Rattle.std.proofs.Math.Seq.{get_or-append_seam}
use Rattle.std.proofs.lemmas.List.Sums.{fold-append}
use Rattle.std.proofs.lemmas.List.{append-nil}
use Rattle.std.proofs.lemmas.List.Concat.{flat_map-cons}
use Rattle.path_segments.specs.declared.as_path.Segment.{Segment}
use Rattle.path_segments.specs.PathOf.{is_confed}
use Rattle.path_merge.specs.Merging.{is_mixed_set, ases_of, ends_behind, merged_behind, with_run, GoesBehind}

last-is : (start : ℕ) (path : List ℕ) (k x : ℕ) → start ≤ length path → ends_behind start (path ++ k ∷ []) x ≡ nat_eq x k
last-is start path k x le =
    let len : length (path ++ k ∷ []) ≡ length path + 1 = length-append path (k ∷ []) in
    let some : start < length (path ++ k ∷ []) = omega (arith, le, len) in
    let place : length (path ++ k ∷ []) - 1 ≡ length path = omega (arith, len) in
    ap (λ b. b && nat_eq x (slice_index (path ++ k ∷ []) (length (path ++ k ∷ []) - 1))) (lt-ltb start (length (path ++ k ∷ [])) some)
    ∙ ap (λ i. nat_eq x (slice_index (path ++ k ∷ []) i)) place ∙ ap (nat_eq x) (get_or-append_seam path k [] 0)

fold-from : (start : ℕ) (path xs : List ℕ) (k : ℕ) → start ≤ length path → fold (merged_behind start) (path ++ k ∷ []) xs ≡ path ++ dedup_from nat_eq k xs
fold-from start path [] k le = refl
fold-from start path (x ∷ xs) k le =
    let len : length (path ++ k ∷ []) ≡ length path + 1 = length-append path (k ∷ []) in
    ap (λ same. fold (merged_behind start) (cond same (path ++ k ∷ []) ((path ++ k ∷ []) ++ x ∷ [])) xs) (last-is start path k x le)
    ∙ by (nat_eq x k) (fold-from start path xs k le) (fold-from start (path ++ k ∷ []) xs x (omega (arith, le, len)))
  where
    by : (same : Bool) → fold (merged_behind start) (path ++ k ∷ []) xs ≡ path ++ dedup_from nat_eq k xs
        → fold (merged_behind start) ((path ++ k ∷ []) ++ x ∷ []) xs ≡ (path ++ k ∷ []) ++ dedup_from nat_eq x xs
        → fold (merged_behind start) (cond same (path ++ k ∷ []) ((path ++ k ∷ []) ++ x ∷ [])) xs ≡ path ++ cond same (dedup_from nat_eq k xs) (k ∷ dedup_from nat_eq x xs)
    by true ih ih' = ih
    by false ih ih' = ih' ∙ append_assoc path (k ∷ []) (dedup_from nat_eq x xs)

-- numbers that go behind others one by one go there with equal neighbours merged
pub merged-dedup : (old xs : List ℕ) → fold (merged_behind (length old)) old xs ≡ old ++ dedup nat_eq xs
merged-dedup old [] = sym (append-nil old)
merged-dedup old (x ∷ xs) =
    ap (λ b. fold (merged_behind (length old)) (cond (b && nat_eq x (slice_index old (length old - 1))) old (old ++ x ∷ [])) xs) (le-ltb (length old) (length old) (omega arith))
    ∙ fold-from (length old) old xs x (omega arith)

-- one number more, behind a run that isn't put yet
pub one_number : (numbers left : List ℕ) (last number : ℕ) → with_run numbers last number ++ dedup_from nat_eq number left ≡ numbers ++ dedup_from nat_eq last (number ∷ left)
one_number numbers left last number = by (nat_eq number last) refl
  where
    by : (same : Bool) → nat_eq number last ≡ same
        → cond same numbers (numbers ++ last ∷ []) ++ dedup_from nat_eq number left ≡ numbers ++ cond same (dedup_from nat_eq last left) (last ∷ dedup_from nat_eq number left)
    by true is = ap (λ n. numbers ++ dedup_from nat_eq n left) (eqb-true number last is)
    by false is = append_assoc numbers (last ∷ []) (dedup_from nat_eq number left)

-- what goes onto a path leaves what stands before it
pub goes-behind : (start : ℕ) (old xs : List ℕ) → GoesBehind old (fold (merged_behind start) old xs)
goes-behind start old [] = ([], sym (append-nil old))
goes-behind start old (x ∷ xs) = by (ends_behind start old x) (goes-behind start old xs) (goes-behind start (old ++ x ∷ []) xs)
  where
    by : (there : Bool) → GoesBehind old (fold (merged_behind start) old xs) → GoesBehind (old ++ x ∷ []) (fold (merged_behind start) (old ++ x ∷ []) xs)
        → GoesBehind old (fold (merged_behind start) (cond there old (old ++ x ∷ [])) xs)
    by true ih ih' = ih
    by false ih ih' = (x ∷ ih'.0, ih'.1 ∙ append_assoc old (x ∷ []) ih'.0)

pub goes-on : (old mid new : List ℕ) → GoesBehind old mid → GoesBehind mid new → GoesBehind old new
goes-on old mid new first second = (first.0 ++ second.0, second.1 ∙ ap (λ xs. xs ++ second.0) first.1 ∙ append_assoc old first.0 second.0)

before_first-next : (s : Segment) (left : List Segment) → is_mixed_set s ≡ false → before_first is_mixed_set (s ∷ left) ≡ s ∷ before_first is_mixed_set left
before_first-next s left plain =
    let n = prefix_len (λ x. not (is_mixed_set x)) left in
    let e : 1 + n ≡ suc n = omega arith in
    ap (λ (b : Bool). take (cond (not b) (1 + n) 0) (s ∷ left)) plain ∙ ap (λ k. take k (s ∷ left)) e

-- one segment more, which is no AS_SET whose members differ
pub one_segment : (start : ℕ) (path path' : List ℕ) (s : Segment) (left : List Segment) → is_mixed_set s ≡ false → path' ≡ fold (merged_behind start) path (ases_of s)
    → fold (merged_behind start) path' (flat_map ases_of (before_first is_mixed_set left)) ≡ fold (merged_behind start) path (flat_map ases_of (before_first is_mixed_set (s ∷ left)))
one_segment start path path' s left plain is =
    ap (λ p. fold (merged_behind start) p (flat_map ases_of (before_first is_mixed_set left))) is
    ∙ sym (fold-append (merged_behind start) path (ases_of s) (flat_map ases_of (before_first is_mixed_set left)))
    ∙ ap (fold (merged_behind start) path) (sym (flat_map-cons ases_of s (before_first is_mixed_set left)))
    ∙ sym (ap (λ xs. fold (merged_behind start) path (flat_map ases_of xs)) (before_first-next s left plain))

pub none_mixed : (s : Segment) (left : List Segment) → is_mixed_set s ≡ false → list_any is_mixed_set left ≡ list_any is_mixed_set (s ∷ left)
none_mixed s left plain = sym (ap (λ b. b || list_any is_mixed_set left) plain)

pub none_confed : (s : Segment) (left : List Segment) → is_confed s.kind ≡ false
    → list_any (λ segment. is_confed segment.kind) left ≡ list_any (λ segment. is_confed segment.kind) (s ∷ left)
none_confed s left outside = sym (ap (λ b. b || list_any (λ segment. is_confed segment.kind) left) outside)
