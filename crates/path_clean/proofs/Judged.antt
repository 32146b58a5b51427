-- What a route is cleaned to, and clean paths.
use Rattle.std.proofs.Common.{◌≡◌, ℕ, zero, suc, Bool, true, false, not, cond, ◌&&◌, ◌||◌, nat_eq, ltb, leb, List, [], ◌∷◌, ◌++◌, length, refl, ap, ap₂, subst, ◌∙◌, arith}
use Rattle.std.specs.List.{list_any, dedup, dedup_from}
use Rattle.std.proofs.lemmas.Bool.{ltb-true, leb-true, le-leb}
use Rattle.std.proofs.lemmas.List.{append-nil}
use Rattle.path_segments.specs.PathOf.{is_confed, path_of}
use Rattle.path_segments.specs.declared.path.PathOf.{PathOf}
use Rattle.path_segments.specs.declared.path.PathOf.TheVariants.{Absent, Malformed, Segments}
use Rattle.path_segments.specs.declared.as_path.Segment.{Segment}
use Rattle.path_merge.specs.Merging.{is_mixed_set, merged_path}
use Rattle.path_clean.specs.declared.cleaned.Sets.{Sets}
use Rattle.path_clean.specs.declared.cleaned.Sets.TheVariants.{Cut, Skip}
use Rattle.path_clean.specs.declared.cleaned.Cause.{Cause}
use Rattle.path_clean.specs.declared.cleaned.Cause.TheVariants.{Confed, Reserved, Loop, Short}
use Rattle.path_clean.specs.declared.cleaned.Cleaned.TheVariants.{Path, Aside}
use Rattle.tor_arena.specs.Distinct.{is_distinct}
use Rattle.path_clean.specs.Paths.{is_reserved, is_cleaned}
use Rattle.path_clean.specs.Clean.{is_skip, judged, clean_segments, clean_path, merge_path, judge_merged, PathsAreClean, CleanPathsStay, JudgedLast}

long_enough : (n : ℕ) → ltb n 2 ≡ false → leb 2 n ≡ true
long_enough zero e = absurd cc
long_enough (suc zero) e = absurd cc
long_enough (suc (suc n)) e = le-leb 2 (suc (suc n)) (omega arith)

not_short : (n : ℕ) → leb 2 n ≡ true → ltb n 2 ≡ false
not_short n e = by (ltb n 2) refl
  where
    by : (b : Bool) → ltb n 2 ≡ b → ltb n 2 ≡ false
    by true t = absurd (omega (arith, ltb-true n 2 t, leb-true 2 n e))
    by false t = t

pub judged-clean : (m path : List ℕ) → judged m ≡ Path path → is_cleaned path ≡ true
judged-clean m path h = by (list_any is_reserved m) (is_distinct m) (ltb (length m) 2) refl refl refl h
  where
    by : (r d s : Bool) → list_any is_reserved m ≡ r → is_distinct m ≡ d → ltb (length m) 2 ≡ s
        → cond r (Aside Reserved) (cond (not d) (Aside Loop) (cond s (Aside Short) (Path m))) ≡ Path path → is_cleaned path ≡ true
    by true d s er ed es h = absurd cc
    by false false s er ed es h = absurd cc
    by false true true er ed es h = absurd cc
    by false true false er ed es h =
        let same : m ≡ path = cc in
        subst (λ p. is_cleaned p ≡ true) same
        (ap (λ b. b && is_distinct m && not (list_any is_reserved m)) (long_enough (length m) es) ∙ ap₂ (λ a b. a && not b) ed er)

segments-clean : (sets : Sets) (segments : List Segment) (path : List ℕ) → clean_segments sets segments ≡ Path path → is_cleaned path ≡ true
segments-clean sets segments path h = by (list_any (λ s. is_confed s.kind) segments) (is_skip sets && list_any is_mixed_set segments) h
  where
    by : (confed skips : Bool) → cond confed (Aside Confed) (cond skips (Aside Cause.Sets) (judged (merged_path segments))) ≡ Path path → is_cleaned path ≡ true
    by true skips h = absurd cc
    by false true h = absurd cc
    by false false h = judged-clean (merged_path segments) path h

path-clean : (sets : Sets) (found : PathOf) (path : List ℕ) → clean_path sets found ≡ Path path → is_cleaned path ≡ true
path-clean sets Absent path h = absurd cc
path-clean sets Malformed path h = absurd cc
path-clean sets (Segments segments) path h = segments-clean sets segments path h

pub paths_are_clean : PathsAreClean
paths_are_clean sets width attrs path h = path-clean sets (path_of width attrs) path h

judged-last : (sets : Sets) (found : PathOf) → clean_path sets found ≡ judge_merged (merge_path sets found)
judged-last sets Absent = refl
judged-last sets Malformed = refl
judged-last sets (Segments segments) = by (list_any (λ s. is_confed s.kind) segments) (is_skip sets && list_any is_mixed_set segments) (merged_path segments)
  where
    by : (confed skips : Bool) (path : List ℕ)
        → cond confed (Aside Confed) (cond skips (Aside Cause.Sets) (judged path)) ≡ judge_merged (cond confed (Aside Confed) (cond skips (Aside Cause.Sets) (Path path)))
    by true skips path = refl
    by false true path = refl
    by false false path = refl

pub judged_last : JudgedLast
judged_last sets width attrs = judged-last sets (path_of width attrs)

-- where no number stands twice, none is merged
dedup-distinct : (k : ℕ) (xs : List ℕ) → list_any (λ y. nat_eq y k) xs ≡ false → is_distinct xs ≡ true → dedup_from nat_eq k xs ≡ k ∷ xs
dedup-distinct k [] none once = refl
dedup-distinct k (x ∷ xs) none once = by (λ e o. dedup-distinct x xs e o) (nat_eq x k) (list_any (λ y. nat_eq y x) xs) refl refl none once
  where
    by : (list_any (λ y. nat_eq y x) xs ≡ false → is_distinct xs ≡ true → dedup_from nat_eq x xs ≡ x ∷ xs) → (same behind : Bool) → nat_eq x k ≡ same
        → list_any (λ y. nat_eq y x) xs ≡ behind → (same || list_any (λ y. nat_eq y k) xs) ≡ false → (not behind && is_distinct xs) ≡ true
        → cond same (dedup_from nat_eq k xs) (k ∷ dedup_from nat_eq x xs) ≡ k ∷ (x ∷ xs)
    by ih true behind es eb n o = absurd cc
    by ih false true es eb n o = absurd cc
    by ih false false es eb n o = ap (λ (t : List ℕ). k ∷ t) (ih eb o)

merged-distinct : (path : List ℕ) → is_distinct path ≡ true → dedup nat_eq path ≡ path
merged-distinct [] once = refl
merged-distinct (x ∷ xs) once = by (list_any (λ y. nat_eq y x) xs) refl once
  where
    by : (behind : Bool) → list_any (λ y. nat_eq y x) xs ≡ behind → (not behind && is_distinct xs) ≡ true → dedup_from nat_eq x xs ≡ x ∷ xs
    by true eb o = absurd cc
    by false eb o = dedup-distinct x xs eb o

-- the parts of a clean path
pub record IsClean (path : List ℕ) : Type 0 where
  pub long : leb 2 (length path) ≡ true
  pub once : is_distinct path ≡ true
  pub free : list_any is_reserved path ≡ false

clean-parts : (path : List ℕ) → is_cleaned path ≡ true → IsClean path
clean-parts path h = by (leb 2 (length path)) (is_distinct path) (list_any is_reserved path) refl refl refl h
  where
    by : (l d r : Bool) → leb 2 (length path) ≡ l → is_distinct path ≡ d → list_any is_reserved path ≡ r → (l && d && not r) ≡ true → IsClean path
    by false d r el ed er h = absurd cc
    by true false r el ed er h = absurd cc
    by true true true el ed er h = absurd cc
    by true true false el ed er h = record { long = el; once = ed; free = er }

pub judged-stays : (path : List ℕ) → is_cleaned path ≡ true → judged path ≡ Path path
judged-stays path h =
    let parts = clean-parts path h in
    ap (λ r. cond r (Aside Reserved) (cond (not (is_distinct path)) (Aside Loop) (cond (ltb (length path) 2) (Aside Short) (Path path)))) parts.free
    ∙ ap (λ d. cond (not d) (Aside Loop) (cond (ltb (length path) 2) (Aside Short) (Path path))) parts.once
    ∙ ap (λ s. cond s (Aside Short) (Path path)) (not_short (length path) parts.long)

none-skipped : (sets : Sets) → (is_skip sets && false) ≡ false
none-skipped Cut = refl
none-skipped Skip = refl

pub clean_paths_stay : CleanPathsStay
clean_paths_stay sets width attrs path is clean =
    let parts = clean-parts path clean in
    ap (clean_path sets) is
    ∙ ap (λ skips. cond skips (Aside Cause.Sets) (judged (dedup nat_eq (path ++ [])))) (none-skipped sets)
    ∙ ap (λ p. judged (dedup nat_eq p)) (append-nil path) ∙ ap judged (merged-distinct path parts.once) ∙ judged-stays path clean
