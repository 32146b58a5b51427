-- ASes that are added one by one, each only once.
use Rattle.std.proofs.Common.{◌≡◌, ℕ, inl, inr, Bool, true, false, not, cond, ◌||◌, ◌==◌, List, [], ◌∷◌, ◌++◌, length, max, filter, refl, sym, ap, ◌∙◌, arith, if◌then◌else◌, append_assoc, append-nil}
use Rattle.std.specs.List.{list_any, flat_map}
use Rattle.std.proofs.lemmas.Bool.{cases_Bool, false≢true, both_ways}
use Rattle.std.proofs.lemmas.Cmp.{nat_eq_equiv}
use Rattle.std.proofs.lemmas.List.Elements.{filter-append}
use Rattle.tor_survey.specs.Figures.{distinct_ases, ases, longest}
use Rattle.tor_survey.specs.Sets.{with_as, with_ases}

-- ---- an AS more

or_parts : (s t : Bool) → (s || t) ≡ false → (s ≡ false) × (t ≡ false)
or_parts true t h = absurd (false≢true (sym h))
or_parts false t h = (refl, h)

first_of_or : (s t : Bool) → (s || t) ≡ true → t ≡ false → s ≡ true
first_of_or true t h n = refl
first_of_or false t h n = absurd (both_ways t n h)

kept_last : (x : ℕ) (ns : List ℕ) (n : ℕ) → (x == n) ≡ false → filter (λ m. not (x == m)) (ns ++ n ∷ []) ≡ filter (λ m. not (x == m)) ns ++ n ∷ []
kept_last x ns n h = filter-append (λ m. not (x == m)) ns (n ∷ []) ∙ ap (λ b. filter (λ m. not (x == m)) ns ++ cond (not b) (n ∷ []) []) h

dropped_last : (x : ℕ) (ns : List ℕ) (n : ℕ) → (x == n) ≡ true → filter (λ m. not (x == m)) (ns ++ n ∷ []) ≡ filter (λ m. not (x == m)) ns
dropped_last x ns n h =
    filter-append (λ m. not (x == m)) ns (n ∷ []) ∙ ap (λ b. filter (λ m. not (x == m)) ns ++ cond (not b) (n ∷ []) []) h ∙
    append-nil (filter (λ m. not (x == m)) ns)

push_new : (ns : List ℕ) (n : ℕ) → list_any (λ m. n == m) ns ≡ false → distinct_ases (ns ++ n ∷ []) ≡ distinct_ases ns ++ n ∷ []
push_new [] n h = refl
push_new (x ∷ ns) n h =
    let p = or_parts (n == x) (list_any (λ m. n == m) ns) h in
    let apart : (x == n) ≡ false = nat_eq_equiv.symm x n ∙ p.0 in
    ap (λ (l : List ℕ). x ∷ l) (ap (filter (λ m. not (x == m))) (push_new ns n p.1) ∙ kept_last x (distinct_ases ns) n apart)

push_old : (ns : List ℕ) (n : ℕ) → list_any (λ m. n == m) ns ≡ true → distinct_ases (ns ++ n ∷ []) ≡ distinct_ases ns
push_old [] n h = absurd (false≢true h)
push_old (x ∷ ns) n h =
    elim (cases_Bool (list_any (λ m. n == m) ns)) [
      | inl t ↦ ap (λ (l : List ℕ). x ∷ filter (λ m. not (x == m)) l) (push_old ns n t)
      | inr f ↦
          let same : (x == n) ≡ true = nat_eq_equiv.symm x n ∙ first_of_or (n == x) (list_any (λ m. n == m) ns) h f in
          ap (λ (l : List ℕ). x ∷ l) (ap (filter (λ m. not (x == m))) (push_new ns n f) ∙ dropped_last x (distinct_ases ns) n same)
    ]

any_filtered : (n x : ℕ) (ns : List ℕ) → (n == x) ≡ false → list_any (λ m. n == m) (filter (λ m. not (x == m)) ns) ≡ list_any (λ m. n == m) ns
any_filtered n x [] h = refl
any_filtered n x (m ∷ ns) h =
    elim (cases_Bool (x == m)) [
      | inl t ↦
          let out : (n == m) ≡ false = nat_eq_equiv.symm n m ∙ sym (nat_eq_equiv.congr x m n t) ∙ nat_eq_equiv.symm x n ∙ h in
          rw (t, out) (any_filtered n x ns h)
      | inr f ↦ rw f (ap (λ b. (n == m) || b) (any_filtered n x ns h))
    ]

any_distinct : (n : ℕ) (ns : List ℕ) → list_any (λ m. n == m) (distinct_ases ns) ≡ list_any (λ m. n == m) ns
any_distinct n [] = refl
any_distinct n (x ∷ ns) =
    elim (cases_Bool (n == x)) [
      | inl t ↦ rw t refl
      | inr f ↦ rw f (any_filtered n x (distinct_ases ns) f ∙ any_distinct n ns)
    ]

pub with_as-known : (known : List ℕ) (n : ℕ) → list_any (λ m. n == m) known ≡ true → with_as known n ≡ known
with_as-known known n h = ap (λ b. if b then known else known ++ n ∷ []) h

pub with_as-new : (known : List ℕ) (n : ℕ) → list_any (λ m. n == m) known ≡ false → with_as known n ≡ known ++ n ∷ []
with_as-new known n h = ap (λ b. if b then known else known ++ n ∷ []) h

distinct-push : (ns : List ℕ) (n : ℕ) → distinct_ases (ns ++ n ∷ []) ≡ with_as (distinct_ases ns) n
distinct-push ns n =
    elim (cases_Bool (list_any (λ m. n == m) ns)) [
      | inl t ↦ push_old ns n t ∙ sym (with_as-known (distinct_ases ns) n (any_distinct n ns ∙ t))
      | inr f ↦ push_new ns n f ∙ sym (with_as-new (distinct_ases ns) n (any_distinct n ns ∙ f))
    ]

distinct-append : (ns more : List ℕ) → distinct_ases (ns ++ more) ≡ with_ases (distinct_ases ns) more
distinct-append ns [] = ap distinct_ases (append-nil ns)
distinct-append ns (n ∷ more) =
    ap distinct_ases (sym (append_assoc ns (n ∷ []) more)) ∙ distinct-append (ns ++ n ∷ []) more ∙ ap (λ ms. with_ases ms more) (distinct-push ns n)

-- ---- a path more

flat-push : (paths : List (List ℕ)) (path : List ℕ) → flat_map (λ (p : List ℕ). p) (paths ++ path ∷ []) ≡ flat_map (λ (p : List ℕ). p) paths ++ path
flat-push [] path = append-nil path
flat-push (p ∷ paths) path = ap (λ (l : List ℕ). p ++ l) (flat-push paths path) ∙ sym (append_assoc p (flat_map (λ (p : List ℕ). p) paths) path)

pub ases-push : (paths : List (List ℕ)) (path : List ℕ) → ases (paths ++ path ∷ []) ≡ with_ases (ases paths) path
ases-push paths path = ap distinct_ases (flat-push paths path) ∙ distinct-append (flat_map (λ (p : List ℕ). p) paths) path

pub longest-push : (paths : List (List ℕ)) (path : List ℕ) → longest (paths ++ path ∷ []) ≡ max (length path) (longest paths)
longest-push [] path = refl
longest-push (p ∷ paths) path = let h = longest-push paths path in omega (arith, h)
