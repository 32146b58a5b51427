-- Preferences one by one, and sorted.
use Rattle.std.proofs.Common.{◌≡◌, ℕ, suc, ◌+◌, ◌-◌, ◌^◌, ◌<◌, ◌≤◌, ◌⊎◌, inl, inr, false, List, [], ◌∷◌, ◌++◌, length, get_or, take, map, refl, sym, ap, ◌∙◌, subst, arith, All}
use Rattle.std.proofs.Common.{lt-ltb, le-ltb, eq-eqb, length-append}
use Rattle.std.specs.Prelude.{pos, negsuc, ◌-ℤ◌}
use Rattle.std.specs.Int.RustNames.{unsigned_abs}
use Rattle.std.specs.List.Sorted.{IsSortedByKey}
use Rattle.std.specs.Ordering.{nat_cmp, ordering_then, is_lt}
use Rattle.std.proofs.Common.{Ordering, Less, Equal}
use Rattle.std.specs.Cmp.{IsTotalOrder}
use Rattle.std.proofs.lemmas.Bool.{cases_eq, cases_order, false≢true}
use Rattle.std.proofs.lemmas.Cmp.{then_total, on_total, nat_cmp_total}
use Rattle.std.proofs.lemmas.Int.{ints}
use Rattle.std.proofs.lemmas.List.{take_more, map_push, get_or_push, get_or_append_left}
use Rattle.std.proofs.lemmas.List.Elements.{All-push}
use Rattle.std.proofs.lemmas.List.Sorted.{ranks_by, sorted_far}
use Rattle.relationships.specs.Graph.{Edge}
use Rattle.gao_prefs.specs.declared.per_end.PerEnd.{PerEnd}
use Rattle.gao_prefs.specs.declared.preferring.Pref.{Pref}
use Rattle.gao_prefs.specs.Ends.{degrees_of}
use Rattle.gao_prefs.specs.Preferences.{key_of, IsPref, NotAfter}

-- ---- the degrees of one edge more

pub degrees_more : (paths : List (List ℕ)) (es : List Edge) (place : ℕ) (table new : List PerEnd) → place < length es → table ≡ map (degrees_of paths) (take place es) →
    new ≡ table ++ degrees_of paths (get_or es place (0, 0)) ∷ [] → new ≡ map (degrees_of paths) (take (place + 1) es)
degrees_more paths es place table new lt so_far is =
    is ∙ ap (λ (t : List PerEnd). t ++ degrees_of paths (get_or es place (0, 0)) ∷ []) so_far ∙ sym (map_push (degrees_of paths) (take place es) (get_or es place (0, 0))) ∙
    ap (map (degrees_of paths)) (sym (take_more es place (0, 0) lt))

-- ---- the absolute lean

pub lead_abs : (a b : ℕ) → unsigned_abs (pos a -ℤ pos b) ≡ (a - b) + (b - a)
lead_abs a b =
    elim (cases_order a b) [
      | inl e ↦ high (omega arith)
      | inr o ↦ elim o [ inl lt ↦ low lt | inr lt ↦ high (omega arith) ]
    ]
  where
    high : b ≤ a → unsigned_abs (pos a -ℤ pos b) ≡ (a - b) + (b - a)
    high le =
        let e : pos a -ℤ pos b ≡ pos (a - b) = omega (arith, ints) in
        let s : a - b ≡ (a - b) + (b - a) = omega arith in ap unsigned_abs e ∙ s

    low : a < b → unsigned_abs (pos a -ℤ pos b) ≡ (a - b) + (b - a)
    low lt =
        let e : pos a -ℤ pos b ≡ negsuc (b - a - 1) = omega (arith, ints) in
        let s : suc (b - a - 1) ≡ (a - b) + (b - a) = omega arith in ap unsigned_abs e ∙ s

-- ---- sorted by absolute lean and edge

first_less : (x y : ℕ) → x < y → nat_cmp x y ≡ Less
first_less x y lt = rw (lt-ltb x y lt) refl

both_same : (x y : ℕ) → x ≡ y → nat_cmp x y ≡ Equal
both_same x y e = let ge : y ≤ x = omega arith in rw (le-ltb x y ge, eq-eqb x y e) refl

not_lower : (x y u v : ℕ) → is_lt (ordering_then (nat_cmp x y) (nat_cmp u v)) ≡ false → (y < x) ⊎ ((x ≡ y) × (v ≤ u))
not_lower x y u v h =
    elim (cases_order x y) [
      | inl e ↦ inr (e, behind (subst (λ o. is_lt (ordering_then o (nat_cmp u v)) ≡ false) (both_same x y e) h))
      | inr o ↦ elim o [
        | inl lt ↦ absurd (false≢true (sym (subst (λ o. is_lt (ordering_then o (nat_cmp u v)) ≡ false) (first_less x y lt) h)))
        | inr gt ↦ inl gt
      ]
    ]
  where
    behind : is_lt (nat_cmp u v) ≡ false → v ≤ u
    behind k =
        elim (cases_order u v) [
          | inl e ↦ omega arith
          | inr o ↦ elim o [ inl lt ↦ absurd (false≢true (sym (subst (λ o. is_lt o ≡ false) (first_less u v lt) k))) | inr gt ↦ omega arith ]
        ]

abbrev pub pair_cmp : ℕ × ℕ → ℕ × ℕ → Ordering
pair_cmp x y = ordering_then (nat_cmp x.0 y.0) (nat_cmp x.1 y.1)

pair_total : IsTotalOrder pair_cmp
pair_total = then_total (on_total (λ (p : ℕ × ℕ). p.0) nat_cmp_total) (on_total (λ (p : ℕ × ℕ). p.1) nat_cmp_total)

not_after : (p q : Pref) → unsigned_abs p.lean ≤ 2 ^ 26 → unsigned_abs q.lean ≤ 2 ^ 26 → is_lt (pair_cmp (key_of q) (key_of p)) ≡ false → NotAfter p q
not_after p q small small' h =
    elim (not_lower (key_of q).0 (key_of p).0 (key_of q).1 (key_of p).1 h) [
      | inl lt ↦ inl (omega (arith, lt, small, small'))
      | inr (e, le) ↦ inr (omega (arith, e, small, small'), le)
    ]

pub sorted_is : (xs : List Pref) → All (λ (p : Pref). unsigned_abs p.lean ≤ 2 ^ 26) xs → IsSortedByKey key_of pair_cmp xs →
    (i j : ℕ) (d : Pref) → i ≤ j → j < length xs → NotAfter (get_or xs i d) (get_or xs j d)
sorted_is xs small up i j d le lt =
    not_after (get_or xs i d) (get_or xs j d) (small i d (omega arith)) (small j d lt)
    (sorted_far (λ (x y : Pref). is_lt (pair_cmp (key_of x) (key_of y))) (ranks_by pair_total key_of) xs up i j d le lt)

-- ---- the preference of one edge more

-- the preferences of the first n edges
pub record ArePrefs (votes degrees : List PerEnd) (n : ℕ) (prefs : List Pref) : Type 0 where
  pub long : length prefs ≡ n
  pub small : All (λ (p : Pref). unsigned_abs p.lean ≤ 2 ^ 26) prefs
  pub each : (k : ℕ) (d : Pref) → k < length prefs → IsPref votes degrees k (get_or prefs k d)

pub prefs_more : (votes degrees : List PerEnd) (n : ℕ) (prefs : List Pref) (pref : Pref) → ArePrefs votes degrees n prefs → unsigned_abs pref.lean ≤ 2 ^ 26 → IsPref votes degrees n pref →
    ArePrefs votes degrees (n + 1) (prefs ++ pref ∷ [])
prefs_more votes degrees n prefs pref so_far small is = record {
  long = let m = so_far.long in let a = length-append prefs (pref ∷ []) in omega (arith, m, a);
  small = All-push (λ (p : Pref). unsigned_abs p.lean ≤ 2 ^ 26) prefs pref so_far.small small;
  each = each;
}
  where
    each : (k : ℕ) (d : Pref) → k < length (prefs ++ pref ∷ []) → IsPref votes degrees k (get_or (prefs ++ pref ∷ []) k d)
    each k d lt =
        let m = so_far.long in
        let a = length-append prefs (pref ∷ []) in
        elim (cases_eq k n) [
          | inl e ↦
              subst (IsPref votes degrees k) (sym (get_or_push prefs pref d k (omega (arith, m, e)))) (subst (λ j. IsPref votes degrees j pref) (sym e) is)
          | inr ne ↦
              let within : k < length prefs = omega (arith, m, a, lt, ne) in subst (IsPref votes degrees k) (sym (get_or_append_left prefs (pref ∷ []) d k within)) (so_far.each k d within)
        ]
