-- One path more: the distinct paths and their times, counted path by path.
use Rattle.std.proofs.Common.{◌≡◌, ℕ, ◌+◌, ◌-◌, ◌^◌, min, Bool, true, false, not, cond, List, [], ◌∷◌, ◌++◌, map, bytes_eq, refl, sym, ap, subst, ◌∙◌, arith, append_assoc}
use Rattle.std.specs.Prelude.{count_by, filter, fold}
use Rattle.std.proofs.lemmas.Slice.Eq.{bytes_eq-Decides}
use Rattle.std.proofs.lemmas.Bool.{both_ways}
use Rattle.std.proofs.lemmas.List.{append-nil}
use Rattle.std.proofs.lemmas.List.Sums.{sum_by-append, sum_by-cons}
use Rattle.path_table.specs.Rows.{Counted}
use Rattle.path_table.specs.Table.{with_path, distinct_paths, counted, CountingLaw}

eq_true : (x y : List ℕ) → bytes_eq x y ≡ true → x ≡ y
eq_true x y e = (bytes_eq-Decides x y).0 e

eq_self : (x : List ℕ) → bytes_eq x x ≡ true
eq_self x = (bytes_eq-Decides x x).1 refl

eq_flip : (x y : List ℕ) (b : Bool) → bytes_eq x y ≡ b → bytes_eq y x ≡ b
eq_flip x y true e = subst (λ (t : List ℕ). bytes_eq t x ≡ true) (eq_true x y e) (eq_self x)
eq_flip x y false e = by (bytes_eq y x) refl
  where
    by : (c : Bool) → bytes_eq y x ≡ c → bytes_eq y x ≡ false
    by true f = absurd (both_ways (bytes_eq x y) e (subst (λ (t : List ℕ). bytes_eq t y ≡ true) (eq_true y x f) (eq_self y)))
    by false f = f

-- whether a path stands there
mem : List ℕ → List (List ℕ) → Bool
mem p [] = false
mem p (x ∷ xs) = cond (bytes_eq x p) true (mem p xs)

abbrev others : List ℕ → List (List ℕ) → List (List ℕ)
others x paths = filter (λ other. not (bytes_eq other x)) paths

mem_others : (p x : List ℕ) (ds : List (List ℕ)) → bytes_eq p x ≡ false → mem p (others x ds) ≡ mem p ds
unfolding mem
mem_others p x [] ne = refl
mem_others p x (d ∷ ds) ne = by (mem_others p x ds ne) (bytes_eq d x) refl
  where
    by : mem p (others x ds) ≡ mem p ds → (b : Bool) → bytes_eq d x ≡ b → mem p (cond (not (bytes_eq d x)) (d ∷ others x ds) (others x ds)) ≡ cond (bytes_eq d p) true (mem p ds)
    by ih true e =
        let apart : bytes_eq d p ≡ false = subst (λ (t : List ℕ). bytes_eq t p ≡ false) (sym (eq_true d x e)) (eq_flip p x false ne) in
        ap (λ c. mem p (cond (not c) (d ∷ others x ds) (others x ds))) e ∙ ih ∙ ap (λ c. cond c true (mem p ds)) (sym apart)
    by ih false e = ap (λ c. mem p (cond (not c) (d ∷ others x ds) (others x ds))) e ∙ ap (cond (bytes_eq d p) true) ih

mem_itself : (x : List ℕ) (ds : List (List ℕ)) → mem x (others x ds) ≡ false
unfolding mem
mem_itself x [] = refl
mem_itself x (d ∷ ds) = by (mem_itself x ds) (bytes_eq d x) refl
  where
    by : mem x (others x ds) ≡ false → (b : Bool) → bytes_eq d x ≡ b → mem x (cond (not (bytes_eq d x)) (d ∷ others x ds) (others x ds)) ≡ false
    by ih true e = ap (λ c. mem x (cond (not c) (d ∷ others x ds) (others x ds))) e ∙ ih
    by ih false e = ap (λ c. mem x (cond (not c) (d ∷ others x ds) (others x ds))) e ∙ ap (λ c. cond c true (mem x (others x ds))) e ∙ ih

NoTwice : List (List ℕ) → Type 0
NoTwice [] = Unit {0}
NoTwice (x ∷ xs) = (mem x xs ≡ false) × NoTwice xs

others_once : (x : List ℕ) (ds : List (List ℕ)) → NoTwice ds → NoTwice (others x ds)
unfolding NoTwice
others_once x [] once = tt
others_once x (d ∷ ds) once = by (others_once x ds once.1) (bytes_eq d x) refl
  where
    by : NoTwice (others x ds) → (b : Bool) → bytes_eq d x ≡ b → NoTwice (cond (not (bytes_eq d x)) (d ∷ others x ds) (others x ds))
    by ih true e = subst (λ c. NoTwice (cond (not c) (d ∷ others x ds) (others x ds))) (sym e) ih
    by ih false e = subst (λ c. NoTwice (cond (not c) (d ∷ others x ds) (others x ds))) (sym e) (mem_others d x ds e ∙ once.0, ih)

distinct_once : (paths : List (List ℕ)) → NoTwice (distinct_paths paths)
unfolding NoTwice
distinct_once [] = tt
distinct_once (x ∷ xs) = (mem_itself x (distinct_paths xs), others_once x (distinct_paths xs) (distinct_once xs))

-- ---- how often

abbrev count : List (List ℕ) → List ℕ → ℕ
count paths q = count_by (λ other. bytes_eq other q) paths

abbrev one : List ℕ → List ℕ → ℕ
one p q = cond (bytes_eq p q) 1 0

count_push : (paths : List (List ℕ)) (p q : List ℕ) → count (paths ++ p ∷ []) q ≡ count paths q + one p q
count_push paths p q = omega (arith, sum_by-append (λ other. cond (bytes_eq other q) 1 0) paths (p ∷ []), sum_by-cons (λ other. cond (bytes_eq other q) 1 0) p [])

count_cons : (x : List ℕ) (paths : List (List ℕ)) (q : List ℕ) → count (x ∷ paths) q ≡ one x q + count paths q
count_cons x paths q = sum_by-cons (λ other. cond (bytes_eq other q) 1 0) x paths

count_absent : (paths : List (List ℕ)) (p : List ℕ) → mem p (distinct_paths paths) ≡ false → count paths p ≡ 0
unfolding mem
count_absent [] p none = refl
count_absent (x ∷ xs) p none = by (λ h. count_absent xs p h) (bytes_eq x p) refl
  where
    by : (mem p (distinct_paths xs) ≡ false → count xs p ≡ 0) → (b : Bool) → bytes_eq x p ≡ b → count (x ∷ xs) p ≡ 0
    by ih true e = absurd (both_ways (cond (bytes_eq x p) true (mem p (others x (distinct_paths xs)))) none (ap (λ c. cond c true (mem p (others x (distinct_paths xs)))) e))
    by ih false e =
        let rest : mem p (others x (distinct_paths xs)) ≡ false = ap (λ c. cond c true (mem p (others x (distinct_paths xs)))) (sym e) ∙ none in
        let before : count xs p ≡ 0 = ih (sym (mem_others p x (distinct_paths xs) (eq_flip x p false e)) ∙ rest) in
        let here : one x p ≡ 0 = ap (λ c. cond c 1 0) e in
        count_cons x xs p ∙ omega arith

-- ---- the distinct paths

others_push : (x : List ℕ) (ds : List (List ℕ)) (p : List ℕ) → others x (ds ++ p ∷ []) ≡ others x ds ++ others x (p ∷ [])
others_push x [] p = refl
others_push x (d ∷ ds) p = by (others_push x ds p) (bytes_eq d x)
  where
    by : others x (ds ++ p ∷ []) ≡ others x ds ++ others x (p ∷ []) → (b : Bool)
        → cond (not b) (d ∷ others x (ds ++ p ∷ [])) (others x (ds ++ p ∷ [])) ≡ cond (not b) (d ∷ others x ds) (others x ds) ++ others x (p ∷ [])
    by ih true = ih
    by ih false = ap (λ (t : List (List ℕ)). d ∷ t) ih

abbrev pushed : List ℕ → List (List ℕ) → List (List ℕ)
pushed p ds = cond (mem p ds) ds (ds ++ p ∷ [])

others_pushed : (x p : List ℕ) (ds : List (List ℕ)) → x ∷ others x (pushed p ds) ≡ pushed p (x ∷ others x ds)
unfolding mem
others_pushed x p ds = by (bytes_eq x p) refl
  where
    same : (c : Bool) → bytes_eq x p ≡ true → x ∷ others x (cond c ds (ds ++ p ∷ [])) ≡ x ∷ others x ds
    same true e = refl
    same false e = ap (λ (t : List (List ℕ)). x ∷ t) (others_push x ds p ∙ ap (λ c. others x ds ++ cond (not c) (p ∷ []) []) (eq_flip x p true e) ∙ append-nil (others x ds))

    other : (c : Bool) → bytes_eq x p ≡ false → x ∷ others x (cond c ds (ds ++ p ∷ [])) ≡ cond c (x ∷ others x ds) (x ∷ others x ds ++ p ∷ [])
    other true e = refl
    other false e = ap (λ (t : List (List ℕ)). x ∷ t) (others_push x ds p ∙ ap (λ c. others x ds ++ cond (not c) (p ∷ []) []) (eq_flip x p false e))

    by : (b : Bool) → bytes_eq x p ≡ b → x ∷ others x (pushed p ds) ≡ cond (cond (bytes_eq x p) true (mem p (others x ds))) (x ∷ others x ds) (x ∷ others x ds ++ p ∷ [])
    by true e = same (mem p ds) e ∙ ap (λ c. cond (cond c true (mem p (others x ds))) (x ∷ others x ds) (x ∷ others x ds ++ p ∷ [])) (sym e)
    by false e =
        other (mem p ds) e ∙ ap (λ c. cond c (x ∷ others x ds) (x ∷ others x ds ++ p ∷ [])) (sym (mem_others p x ds (eq_flip x p false e)))
        ∙ ap (λ c. cond (cond c true (mem p (others x ds))) (x ∷ others x ds) (x ∷ others x ds ++ p ∷ [])) (sym e)

distinct_push : (paths : List (List ℕ)) (p : List ℕ) → distinct_paths (paths ++ p ∷ []) ≡ pushed p (distinct_paths paths)
unfolding mem
distinct_push [] p = refl
distinct_push (x ∷ xs) p = ap (λ (t : List (List ℕ)). x ∷ others x t) (distinct_push xs p) ∙ others_pushed x p (distinct_paths xs)

-- ---- the rows

abbrev most : ℕ
most = 2 ^ 64 - 1

abbrev rows_by : (List ℕ → ℕ) → List (List ℕ) → List Counted
rows_by f ds = map (λ q. record { path = q; times = min (f q) most }) ds

rows_same : (f g : List ℕ → ℕ) (ds : List (List ℕ)) → ((q : List ℕ) → f q ≡ g q) → rows_by f ds ≡ rows_by g ds
rows_same f g [] same = refl
rows_same f g (d ∷ ds) same = ap (λ n. record { path = d; times = min n most } ∷ rows_by f ds) (same d)
    ∙ ap (λ (t : List Counted). record { path = d; times = min (g d) most } ∷ t) (rows_same f g ds same)

abbrev bumped : (List ℕ → ℕ) → List ℕ → List ℕ → ℕ
bumped f p q = f q + one p q

one_false : (p d : List ℕ) → bytes_eq d p ≡ false → one p d ≡ 0
one_false p d e = ap (λ c. cond c 1 0) (eq_flip d p false e)

one_true : (p d : List ℕ) → bytes_eq d p ≡ true → one p d ≡ 1
one_true p d e = ap (λ c. cond c 1 0) (eq_flip d p true e)

unchanged : (f : List ℕ → ℕ) (p : List ℕ) (ds : List (List ℕ)) → mem p ds ≡ false → rows_by (bumped f p) ds ≡ rows_by f ds
unfolding mem
unchanged f p [] none = refl
unchanged f p (d ∷ ds) none = by (λ h. unchanged f p ds h) (bytes_eq d p) refl
  where
    by : (mem p ds ≡ false → rows_by (bumped f p) ds ≡ rows_by f ds) → (b : Bool) → bytes_eq d p ≡ b → rows_by (bumped f p) (d ∷ ds) ≡ rows_by f (d ∷ ds)
    by ih true e = absurd (both_ways (cond (bytes_eq d p) true (mem p ds)) none (ap (λ c. cond c true (mem p ds)) e))
    by ih false e =
        let rest : mem p ds ≡ false = ap (λ c. cond c true (mem p ds)) (sym e) ∙ none in
        let zero' : f d + one p d ≡ f d = omega (arith, one_false p d e) in
        ap (λ n. record { path = d; times = min n most } ∷ rows_by (bumped f p) ds) zero' ∙ ap (λ (t : List Counted). record { path = d; times = min (f d) most } ∷ t) (ih rest)

with_new : (f : List ℕ → ℕ) (p : List ℕ) (ds : List (List ℕ)) → mem p ds ≡ false → with_path (rows_by f ds) p ≡ rows_by f ds ++ record { path = p; times = 1 } ∷ []
unfolding mem
with_new f p [] none = refl
with_new f p (d ∷ ds) none = by (λ h. with_new f p ds h) (bytes_eq d p) refl
  where
    by : (mem p ds ≡ false → with_path (rows_by f ds) p ≡ rows_by f ds ++ record { path = p; times = 1 } ∷ []) → (b : Bool) → bytes_eq d p ≡ b
        → with_path (rows_by f (d ∷ ds)) p ≡ rows_by f (d ∷ ds) ++ record { path = p; times = 1 } ∷ []
    by ih true e = absurd (both_ways (cond (bytes_eq d p) true (mem p ds)) none (ap (λ c. cond c true (mem p ds)) e))
    by ih false e =
        let rest : mem p ds ≡ false = ap (λ c. cond c true (mem p ds)) (sym e) ∙ none in
        rw e (ap (λ (t : List Counted). record { path = d; times = min (f d) most } ∷ t) (ih rest))

with_again : (f : List ℕ → ℕ) (p : List ℕ) (ds : List (List ℕ)) → mem p ds ≡ true → NoTwice ds → with_path (rows_by f ds) p ≡ rows_by (bumped f p) ds
unfolding mem NoTwice
with_again f p [] some once = absurd cc
with_again f p (d ∷ ds) some once = by (λ h. with_again f p ds h once.1) (bytes_eq d p) refl
  where
    by : (mem p ds ≡ true → with_path (rows_by f ds) p ≡ rows_by (bumped f p) ds) → (b : Bool) → bytes_eq d p ≡ b → with_path (rows_by f (d ∷ ds)) p ≡ rows_by (bumped f p) (d ∷ ds)
    by ih true e =
        let n : min (min (f d) most + 1) most ≡ min (f d + one p d) most = omega (arith, one_true p d e) in
        let absent : mem p ds ≡ false = subst (λ (t : List ℕ). mem t ds ≡ false) (eq_true d p e) once.0 in
        rw e (ap (λ k. record { path = d; times = k } ∷ rows_by f ds) n ∙ ap (λ (t : List Counted). record { path = d; times = min (f d + one p d) most } ∷ t) (sym (unchanged f p ds absent)))
    by ih false e =
        let rest : mem p ds ≡ true = ap (λ c. cond c true (mem p ds)) (sym e) ∙ some in
        let n : f d ≡ f d + one p d = omega (arith, one_false p d e) in
        rw e (ap (λ k. record { path = d; times = min k most } ∷ with_path (rows_by f ds) p) n ∙ ap (λ (t : List Counted). record { path = d; times = min (f d + one p d) most } ∷ t) (ih rest))

rows_append : (f : List ℕ → ℕ) (ds : List (List ℕ)) (p : List ℕ) → rows_by f (ds ++ p ∷ []) ≡ rows_by f ds ++ record { path = p; times = min (f p) most } ∷ []
rows_append f [] p = refl
rows_append f (d ∷ ds) p = ap (λ (t : List Counted). record { path = d; times = min (f d) most } ∷ t) (rows_append f ds p)

pub counted_push : (paths : List (List ℕ)) (path : List ℕ) → counted (paths ++ path ∷ []) ≡ with_path (counted paths) path
counted_push paths path = by (mem path (distinct_paths paths)) refl
  where
    by : (b : Bool) → mem path (distinct_paths paths) ≡ b → counted (paths ++ path ∷ []) ≡ with_path (counted paths) path
    by true e =
        rows_same (count (paths ++ path ∷ [])) (bumped (count paths) path) (distinct_paths (paths ++ path ∷ [])) (count_push paths path)
        ∙ ap (rows_by (bumped (count paths) path)) (distinct_push paths path ∙ ap (λ c. cond c (distinct_paths paths) (distinct_paths paths ++ path ∷ [])) e)
        ∙ sym (with_again (count paths) path (distinct_paths paths) e (distinct_once paths))
    by false e =
        let once : min (count paths path + one path path) most ≡ 1 = omega (arith, count_absent paths path e, one_true path path (eq_self path)) in
        rows_same (count (paths ++ path ∷ [])) (bumped (count paths) path) (distinct_paths (paths ++ path ∷ [])) (count_push paths path)
        ∙ ap (rows_by (bumped (count paths) path)) (distinct_push paths path ∙ ap (λ c. cond c (distinct_paths paths) (distinct_paths paths ++ path ∷ [])) e)
        ∙ rows_append (bumped (count paths) path) (distinct_paths paths) path
        ∙ ap (λ k. rows_by (bumped (count paths) path) (distinct_paths paths) ++ record { path = path; times = k } ∷ []) once
        ∙ ap (λ (t : List Counted). t ++ record { path = path; times = 1 } ∷ []) (unchanged (count paths) path (distinct_paths paths) e)
        ∙ sym (with_new (count paths) path (distinct_paths paths) e)

counting_from : (done more : List (List ℕ)) → fold with_path (counted done) more ≡ counted (done ++ more)
counting_from done [] = ap counted (sym (append-nil done))
counting_from done (path ∷ more) =
    ap (λ rows. fold with_path rows more) (sym (counted_push done path)) ∙ counting_from (done ++ path ∷ []) more ∙ ap counted (append_assoc done (path ∷ []) more)

pub counting : CountingLaw
counting paths = counting_from [] paths
