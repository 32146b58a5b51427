-- What a consistent closure allows.
use Rattle.std.proofs.Common.{◌≡◌, ◌≢◌, ◌↔◌, ℕ, zero, suc, ◌<◌, ◌⊎◌, inl, inr, Bool, true, false, List, [], ◌∷◌, ◌++◌, length, get_or, refl, sym, ap, ◌∙◌, subst, arith, append_assoc, IsTrue, flat_map}
use Rattle.std.proofs.Common.{◌==◌, ◌&&◌, ◌||◌}
use Rattle.std.proofs.lemmas.Bool.{cases_Bool, cases_order, and_parts, or_cases, both_ways, eqb-true, eq-eqb}
use Rattle.relationships.specs.declared.label.End.{End}
use Rattle.relationships.specs.Relationship.{Orientation, label_of, labels_of, is_low, is_high, is_over}
use Rattle.relationships.specs.Evidence.{TripleAt, IsTriple, Closure, start, imply, IsConsistent}
use Rattle.relationships.specs.Laws.Serving.{SatisfiesTriples}
use Rattle.relationships.specs.Laws.Evidence.{changed, ClosureLaw, AllowedLaw, ConsistencyLaw}
use Rattle.relationships.proofs.Slopes.{over_one_way, over-low, over-high, over-same}
use Rattle.relationships.proofs.Serving.{serves_satisfies, satisfies_serves}

reversed : (path : List ℕ) (at x y z : ℕ) → TripleAt path at x y z → TripleAt path at z y x
reversed path at x y z (inl s) = inr s
reversed path at x y z (inr s) = inl s

pub reversed_triple : (paths : List (List ℕ)) (x y z : ℕ) → IsTriple paths x y z → IsTriple paths z y x
reversed_triple paths x y z t = (t.0, t.1, (t.2.0, reversed t.0 t.2.0 x y z t.2.1))

-- what the change leaves at two ASes
module _ (O : Orientation) (found : ℕ → ℕ → Bool) where
  found_low : (low high : ℕ) → found low high ≡ true → changed O found low high ≡ End.Low
  found_low low high h = rw h

  found_high : (low high : ℕ) → found low high ≡ false → found high low ≡ true → changed O found low high ≡ End.High
  found_high low high h k = rw (h, k)

  found_none : (low high : ℕ) → found low high ≡ false → found high low ≡ false → changed O found low high ≡ O low high
  found_none low high h k = rw (h, k)

  same_none : (low high : ℕ) → found low high ≡ false → found high low ≡ false → is_over (labels_of (changed O found)) low high ≡ is_over (labels_of O) low high
  same_none low high h k =
      over-same (labels_of (changed O found)) (labels_of O) low high (ap label_of (found_none low high h k)) (ap label_of (found_none high low k h))

  over_found : (y z : ℕ) → y ≢ z → found y z ≡ true → found z y ≡ false → is_over (labels_of (changed O found)) y z ≡ true
  over_found y z ne h k =
      elim (cases_order y z) [
        | inl e ↦ absurd (ne e)
        | inr o ↦ elim o [
          | inl lt ↦ over-low (labels_of (changed O found)) y z lt (ap (λ e. is_low (label_of e)) (found_low y z h))
          | inr lt ↦ over-high (labels_of (changed O found)) z y lt (ap (λ e. is_high (label_of e)) (found_high z y k h))
        ]
      ]

module _ (O : Orientation) (paths : List (List ℕ)) (a b : ℕ) (found : ℕ → ℕ → Bool) (consistent : IsConsistent paths a b)
    (exact : (y z : ℕ) → IsTrue (found y z) ↔ Closure paths a b y z) where
  put_in : (y z : ℕ) → Closure paths a b y z → is_over (labels_of (changed O found)) y z ≡ true
  put_in y z c =
      over_found O found y z (λ e. consistent y z c (subst (λ w. Closure paths a b w y) e (subst (λ w. Closure paths a b y w) (sym e) c))) ((exact y z).1 c)
      (elim (cases_Bool (found z y)) [ inl t ↦ absurd (consistent y z c ((exact z y).0 t)) | inr f ↦ f ])

  still_satisfies : SatisfiesTriples O paths → SatisfiesTriples (changed O found) paths
  still_satisfies satisfies x y z t o =
      elim (cases_Bool (found x y)) [
        | inl xy ↦ put_in y z (imply ((exact x y).0 xy) t)
        | inr no_xy ↦ elim (cases_Bool (found y x)) [
          | inl yx ↦ absurd (over_one_way (labels_of (changed O found)) x y o (put_in y x ((exact y x).0 yx)))
          | inr no_yx ↦
              let o' = satisfies x y z t (sym (same_none O found x y no_xy no_yx) ∙ o) in
              elim (cases_Bool (found y z)) [
                | inl yz ↦ put_in y z ((exact y z).0 yz)
                | inr no_yz ↦ elim (cases_Bool (found z y)) [
                  | inl zy ↦ absurd (both_ways (found y x) no_yx ((exact y x).1 (imply ((exact z y).0 zy) (reversed_triple paths x y z t))))
                  | inr no_zy ↦ same_none O found y z no_yz no_zy ∙ o'
                ]
              ]
        ]
      ]

pub closure_law : ClosureLaw
closure_law O paths a b found distinct consistent exact serves = (
  satisfies_serves (changed O found) paths distinct (still_satisfies O paths a b found consistent exact (serves_satisfies O paths serves)),
  put_in O paths a b found consistent exact,
)

-- ---- a closure is finite, so that a test finds its orders

abbrev In : ℕ × ℕ → List (ℕ × ℕ) → Type 0
In p [] = ⊥
In p (q ∷ qs) = (q ≡ p) ⊎ In p qs

In-append_left : (p : ℕ × ℕ) (qs rs : List (ℕ × ℕ)) → In p qs → In p (qs ++ rs)
In-append_left p [] rs h = absurd h
In-append_left p (q ∷ qs) rs (inl e) = inl e
In-append_left p (q ∷ qs) rs (inr h) = inr (In-append_left p qs rs h)

In-append_right : (p : ℕ × ℕ) (qs rs : List (ℕ × ℕ)) → In p rs → In p (qs ++ rs)
In-append_right p [] rs h = h
In-append_right p (q ∷ qs) rs h = inr (In-append_right p qs rs h)

-- the pairs of neighbours on a path, in both orders
abbrev both_from : ℕ → List ℕ → List (ℕ × ℕ)
both_from a [] = []
both_from a (b ∷ path) = (a, b) ∷ (b, a) ∷ both_from b path

abbrev both : List ℕ → List (ℕ × ℕ)
both [] = []
both (a ∷ path) = both_from a path

In-both_from : (a : ℕ) (before : List ℕ) (x y : ℕ) (after : List ℕ) → In (x, y) (both_from a (before ++ (x ∷ y ∷ after))) × In (y, x) (both_from a (before ++ (x ∷ y ∷ after)))
In-both_from a [] x y after = (inr (inr (inl refl)), inr (inr (inr (inl refl))))
In-both_from a (b ∷ before) x y after = let h = In-both_from b before x y after in (inr (inr h.0), inr (inr h.1))

In-both : (before : List ℕ) (x y : ℕ) (after : List ℕ) → In (x, y) (both (before ++ (x ∷ y ∷ after))) × In (y, x) (both (before ++ (x ∷ y ∷ after)))
In-both [] x y after = (inl refl, inr (inl refl))
In-both (a ∷ before) x y after = In-both_from a before x y after

In-both_triple : (path : List ℕ) (at x y z : ℕ) → TripleAt path at x y z → In (y, z) (both path)
In-both_triple path at x y z (inl s) =
    let e = s.whole ∙ sym (append_assoc s.before (x ∷ []) (y ∷ z ∷ s.after)) in
    subst (λ l. In (y, z) (both l)) (sym e) (In-both (s.before ++ (x ∷ [])) y z s.after).0
In-both_triple path at x y z (inr s) =
    subst (λ l. In (y, z) (both l)) (sym s.whole) (In-both s.before z y (x ∷ s.after)).1

In-flat : (paths : List (List ℕ)) (k : ℕ) (path : List ℕ) (p : ℕ × ℕ) → k < length paths → get_or paths k path ≡ path → In p (both path) → In p (flat_map both paths)
In-flat [] k path p lt e h = absurd (omega arith)
In-flat (q ∷ paths) zero path p lt e h = In-append_left p (both q) (flat_map both paths) (subst (λ l. In p (both l)) (sym e) h)
In-flat (q ∷ paths) (suc k) path p lt e h = In-append_right p (both q) (flat_map both paths) (In-flat paths k path p (omega arith) e h)

candidates : List (List ℕ) → ℕ → ℕ → List (ℕ × ℕ)
candidates paths a b = (a, b) ∷ flat_map both paths

In-candidates : (paths : List (List ℕ)) (a b : ℕ) {y z : ℕ} → Closure paths a b y z → In (y, z) (candidates paths a b)
unfolding candidates
In-candidates paths a b start = inl refl
In-candidates paths a b (imply {x = x} {y = y} {z = z} c t) =
    inr (In-flat paths t.1.0 t.0 (y, z) t.1.1 t.1.2 (In-both_triple t.0 t.2.0 x y z t.2.1))

-- each pair is in or out
abbrev Decided : (ℕ × ℕ → Type 0) → List (ℕ × ℕ) → Type 0
Decided C [] = Unit {0}
Decided C (p ∷ ps) = (C p ⊎ (C p → ⊥)) × Decided C ps

not_undecided : (C : ℕ × ℕ → Type 0) (ps : List (ℕ × ℕ)) → (Decided C ps → ⊥) → ⊥
not_undecided C [] k = k tt
not_undecided C (p ∷ ps) k = not_undecided C ps (λ ds. (λ (out : C p → ⊥). k (inr out, ds)) (λ c. k (inl c, ds)))

found_in : (C : ℕ × ℕ → Type 0) (ps : List (ℕ × ℕ)) → Decided C ps → ℕ → ℕ → Bool
found_in C [] ds y z = false
found_in C (p ∷ ps) (inl c, ds) y z = ((p.0 == y) && (p.1 == z)) || found_in C ps ds y z
found_in C (p ∷ ps) (inr out, ds) y z = found_in C ps ds y z

found_holds : (C : ℕ × ℕ → Type 0) (ps : List (ℕ × ℕ)) (ds : Decided C ps) (y z : ℕ) → found_in C ps ds y z ≡ true → C (y, z)
unfolding found_in
found_holds C [] ds y z h = absurd (cc h)
found_holds C (p ∷ ps) (inl c, ds) y z h =
    elim (or_cases ((p.0 == y) && (p.1 == z)) (found_in C ps ds y z) h) [
      | inl e ↦
          let u = and_parts (p.0 == y) (p.1 == z) e in
          subst (λ w. C (y, w)) (eqb-true p.1 z u.1) (subst (λ w. C (w, p.1)) (eqb-true p.0 y u.0) c)
      | inr e ↦ found_holds C ps ds y z e
    ]
found_holds C (p ∷ ps) (inr out, ds) y z h = found_holds C ps ds y z h

holds_found : (C : ℕ × ℕ → Type 0) (ps : List (ℕ × ℕ)) (ds : Decided C ps) (y z : ℕ) → In (y, z) ps → C (y, z) → found_in C ps ds y z ≡ true
unfolding found_in
holds_found C [] ds y z i c = absurd i
holds_found C (p ∷ ps) (inl d, ds) y z (inl e) c = rw (eq-eqb p.0 y (ap (λ q. q.0) e), eq-eqb p.1 z (ap (λ q. q.1) e))
holds_found C (p ∷ ps) (inl d, ds) y z (inr i) c = or_right ((p.0 == y) && (p.1 == z)) (found_in C ps ds y z) (holds_found C ps ds y z i c)
  where
    or_right : (s t : Bool) → t ≡ true → (s || t) ≡ true
    or_right true t h = refl
    or_right false t h = h
holds_found C (p ∷ ps) (inr out, ds) y z (inl e) c = absurd (out (subst C (sym e) c))
holds_found C (p ∷ ps) (inr out, ds) y z (inr i) c = holds_found C ps ds y z i c

pub allowed_law : AllowedLaw
allowed_law O paths a b distinct consistent serves y z c ruled_out =
    let C : ℕ × ℕ → Type 0 = λ p. Closure paths a b p.0 p.1 in
    let ps = candidates paths a b in
    not_undecided C ps (λ ds.
    let found = found_in C ps ds in
    let exact : (y z : ℕ) → IsTrue (found y z) ↔ Closure paths a b y z =
    λ y z. (found_holds C ps ds y z, λ c. holds_found C ps ds y z (In-candidates paths a b c) c) in
    let r = closure_law O paths a b found distinct consistent exact serves in
    over_one_way (labels_of (changed O found)) y z (r.1 y z c) (ruled_out (changed O found) r.0))

-- ---- closures run both ways

Closure-joined : (paths : List (List ℕ)) (a b c d : ℕ) {y z : ℕ} → Closure paths a b c d → Closure paths c d y z → Closure paths a b y z
Closure-joined paths a b c d h start = h
Closure-joined paths a b c d h (imply k t) = imply (Closure-joined paths a b c d h k) t

-- from "y over z" follows "b over a" the other way round
Closure-back : (paths : List (List ℕ)) (a b : ℕ) {y z : ℕ} → Closure paths a b y z → Closure paths z y b a
Closure-back paths a b start = start
Closure-back paths a b (imply {x = x} {y = y} {z = z} h t) =
    Closure-joined paths z y y x (imply start (reversed_triple paths x y z t)) (Closure-back paths a b h)

pub consistency_law : ConsistencyLaw
consistency_law paths a b not_back y z h k = not_back (Closure-joined paths a b y z h (Closure-back paths a b k))
