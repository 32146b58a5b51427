-- Returns of givens: what is said of paths is said of givens by them.
use Rattle.std.proofs.Common.{◌≡◌, ◌≢◌, ◌↔◌, ℕ, zero, suc, ◌<◌, ◌≤◌, ◌⊎◌, inl, inr, Bool, true, false, not, min, max, List, [], ◌∷◌, ◌++◌, length, get_or, map, filter, flat_map, if◌then◌else◌, refl}
use Rattle.std.proofs.Common.{sym, ap, ap₂, ◌∙◌, subst, arith, append_assoc, append-nil, lt-ltb, le-ltb, eq-eqb, All, Contains, IsTrue}
use Rattle.std.specs.List.{list_any, AllByRecursion}
use Rattle.std.proofs.lemmas.Bool.{cases_Bool, cases_order, false_from_ne_true, false≢true}
use Rattle.std.proofs.lemmas.List.Elements.{All-append, All-from_recursion, All-from_get_or, recursion_from_All, Contains-get_or, Contains-append_left, Contains-append_right, Contains-append_cases}
use Rattle.std.proofs.lemmas.List.Concat.{flat_map-append}
use Rattle.relationships.specs.declared.given.Given.{Given}
use Rattle.relationships.specs.declared.label.End.{End}
use Rattle.relationships.specs.Relationship.{Orientation, Labelling, label_of, labels_of, is_low, is_high, is_over, Slope, ValleyFree, Serves}
use Rattle.relationships.specs.Graph.{Edge, edge_of, is_same, edges_on, distinct, edges}
use Rattle.relationships.specs.Evidence.{StandAt, TripleAt, IsTriple, NeighboursDiffer, Closure}
use Rattle.relationships.specs.Evidence.Closure.{start as closure_start, imply as closure_imply}
use Rattle.relationships.specs.Selection.{IsServable, IsForced}
use Rattle.relationships.specs.Givens.{names_edge, LabelsSay, AgreesWith, return_of, returns, NameTwo, NameOnce, end_by, by_givens, IsReturn, GivenClosure}
use Rattle.relationships.specs.Givens.GivenClosure.{start, imply, force}
use Rattle.relationships.specs.Laws.Givens.{GivenServingLaw, GivenClosureLaw, GivenEdgesLaw, GivensServableLaw, AllGivensLaw}
use Rattle.relationships.proofs.Slopes.{slope-up, slope-down, over-up, over-down, over-low, over-high, over_parts, Free-from_valley_free}
use Rattle.relationships.proofs.Edges.{same_edge, reading_law}
use Rattle.relationships.proofs.Checked.{over_low, over_high}
use Rattle.relationships.proofs.Places.{distinct-push_old}

-- ---- a return is valley-free exactly where its given holds

pub return_free : (L : Labelling) (g : Given) → LabelsSay L g → ValleyFree L (return_of g)
return_free L g h =
    (1, 1, inl (ap₂ (λ s (ss : List Slope). s ∷ ss) (slope-up L g.under g.over h) (ap (λ (s : Slope). s ∷ []) (slope-down L g.over g.under h))))

pub return_holds : (L : Labelling) (g : Given) → ValleyFree L (return_of g) → LabelsSay L g
return_holds L g v =
    elim (Free-from_valley_free L (return_of g) v) [ inl p ↦ over-up L g.under g.over p.0 | inr f ↦ over-down L g.over g.under f.0 ]

module _ (paths : List (List ℕ)) where
  pub with_return : (g : Given) (givens : List Given) → names_edge paths g ≡ true → returns paths (g ∷ givens) ≡ return_of g ∷ returns paths givens
  with_return g givens h = rw h refl

  pub without_return : (g : Given) (givens : List Given) → names_edge paths g ≡ false → returns paths (g ∷ givens) ≡ returns paths givens
  without_return g givens h = rw h refl

  -- what holds of the return of each given whose two are neighbours holds of each return, and the other way round
  module _ (P : List ℕ → Type 0) where
    each_return : (givens : List Given) → AllByRecursion (λ g. IsTrue (names_edge paths g) → P (return_of g)) givens → AllByRecursion P (returns paths givens)
    each_return [] h = tt
    each_return (g ∷ givens) h =
        elim (cases_Bool (names_edge paths g)) [
          | inl t ↦ subst (AllByRecursion P) (sym (with_return g givens t)) (h.0 t, each_return givens h.1)
          | inr f ↦ subst (AllByRecursion P) (sym (without_return g givens f)) (each_return givens h.1)
        ]

    each_given : (givens : List Given) → AllByRecursion P (returns paths givens) → AllByRecursion (λ g. IsTrue (names_edge paths g) → P (return_of g)) givens
    each_given [] h = tt
    each_given (g ∷ givens) h =
        elim (cases_Bool (names_edge paths g)) [
          | inl t ↦ let k = subst (AllByRecursion P) (with_return g givens t) h in ((λ _. k.0), each_given givens k.1)
          | inr f ↦ ((λ t. absurd (false≢true (sym f ∙ t))), each_given givens (subst (AllByRecursion P) (without_return g givens f) h))
        ]

  weaker : (P Q : Given → Type 0) → ((g : Given) → P g → Q g) → (givens : List Given) → AllByRecursion P givens → AllByRecursion Q givens
  weaker P Q f [] h = tt
  weaker P Q f (g ∷ givens) h = (f g h.0, weaker P Q f givens h.1)

  pub agrees_free : (L : Labelling) (givens : List Given) → AgreesWith givens paths L → All (ValleyFree L) (returns paths givens)
  agrees_free L givens h =
      All-from_recursion (ValleyFree L) (returns paths givens)
      (each_return (ValleyFree L) givens
      (weaker (λ g. IsTrue (names_edge paths g) → LabelsSay L g) (λ g. IsTrue (names_edge paths g) → ValleyFree L (return_of g)) (λ g f t. return_free L g (f t)) givens
      (recursion_from_All (λ g. IsTrue (names_edge paths g) → LabelsSay L g) givens h)))

  pub free_agrees : (L : Labelling) (givens : List Given) → All (ValleyFree L) (returns paths givens) → AgreesWith givens paths L
  free_agrees L givens h =
      All-from_recursion (λ g. IsTrue (names_edge paths g) → LabelsSay L g) givens
      (weaker (λ g. IsTrue (names_edge paths g) → ValleyFree L (return_of g)) (λ g. IsTrue (names_edge paths g) → LabelsSay L g) (λ g f t. return_holds L g (f t)) givens
      (each_given (ValleyFree L) givens (recursion_from_All (ValleyFree L) (returns paths givens) h)))

parts : {X : Type 0} (P : X → Type 0) (xs ys : List X) → AllByRecursion P (xs ++ ys) → AllByRecursion P xs × AllByRecursion P ys
parts P [] ys h = (tt, h)
parts P (x ∷ xs) ys h = let k = parts P xs ys h.1 in ((h.0, k.0), k.1)

pub all_parts : {X : Type 0} (P : X → Type 0) (xs ys : List X) → All P (xs ++ ys) → All P xs × All P ys
all_parts P xs ys h =
    let k = parts P xs ys (recursion_from_All P (xs ++ ys) h) in (All-from_recursion P xs k.0, All-from_recursion P ys k.1)

pub given_serving_law : GivenServingLaw
given_serving_law givens paths = (
  λ L. (agrees_free paths L givens, free_agrees paths L givens),
  λ O some. (
    (λ h. All-append (ValleyFree (labels_of O)) (returns paths givens) some (agrees_free paths (labels_of O) givens h.0) h.1),
    (λ h. let k = all_parts (ValleyFree (labels_of O)) (returns paths givens) some h in (free_agrees paths (labels_of O) givens k.0, k.1)),
  ),
)

-- ---- the triples of returns

-- a list that contains the return of a given that names an edge
abbrev HasGiven : List (List ℕ) → List Given → List ℕ → Type 0
HasGiven paths givens path = (g : Given) × Contains givens g × IsTrue (names_edge paths g) × (path ≡ return_of g)

behind_first : {X : Type 0} (x : X) (xs : List X) (y : X) → Contains xs y → Contains (x ∷ xs) y
behind_first x xs y c = Contains-append_right (x ∷ []) xs y c

at_first : {X : Type 0} (x : X) (xs : List X) → Contains (x ∷ xs) x
at_first x xs = (0, omega arith, refl)

first_or_behind : {X : Type 0} (x : X) (xs : List X) (y : X) → Contains (x ∷ xs) y → (y ≡ x) ⊎ Contains xs y
first_or_behind x xs y c =
    elim (Contains-append_cases (x ∷ []) xs y c) [ inl h ↦ inl (only h) | inr h ↦ inr h ]
  where
    only : Contains (x ∷ []) y → y ≡ x
    only (zero, lt, e) = sym e
    only (suc k, lt, e) = absurd (omega (arith, lt))

module _ (paths : List (List ℕ)) where
  return_of_some : (givens : List Given) (path : List ℕ) → Contains (returns paths givens) path → HasGiven paths givens path
  return_of_some [] path c = let lt = c.1 in absurd (omega (arith, lt))
  return_of_some (g ∷ givens) path c =
      elim (cases_Bool (names_edge paths g)) [
        | inl t ↦ elim (first_or_behind (return_of g) (returns paths givens) path (subst (λ l. Contains l path) (with_return paths g givens t) c)) [
          | inl e ↦ (g, at_first g givens, t, e)
          | inr h ↦ later (return_of_some givens path h)
        ]
        | inr f ↦ later (return_of_some givens path (subst (λ l. Contains l path) (without_return paths g givens f) c))
      ]
    where
      later : HasGiven paths givens path → HasGiven paths (g ∷ givens) path
      later (h, c, t, e) = (h, behind_first g givens h c, t, e)

  has_return : (givens : List Given) (h : Given) → Contains givens h → names_edge paths h ≡ true → Contains (returns paths givens) (return_of h)
  has_return [] h c t = let lt = c.1 in absurd (omega (arith, lt))
  has_return (g ∷ givens) h c t =
      elim (first_or_behind g givens h c) [
        | inl e ↦
            let u : names_edge paths g ≡ true = subst (λ (k : Given). names_edge paths k ≡ true) e t in
            subst (λ l. Contains l (return_of h)) (sym (with_return paths g givens u))
            (subst (λ (k : Given). Contains (return_of g ∷ returns paths givens) (return_of k)) (sym e) (at_first (return_of g) (returns paths givens)))
        | inr i ↦
            let k = has_return givens h i t in
            elim (cases_Bool (names_edge paths g)) [
              | inl u ↦ subst (λ l. Contains l (return_of h)) (sym (with_return paths g givens u)) (behind_first (return_of g) (returns paths givens) (return_of h) k)
              | inr f ↦ subst (λ l. Contains l (return_of h)) (sym (without_return paths g givens f)) k
            ]
      ]

-- the only three on a return
only_three : (b a x y z : ℕ) (before after : List ℕ) → b ∷ a ∷ b ∷ [] ≡ before ++ (x ∷ y ∷ z ∷ after) → (x ≡ b) × (y ≡ a) × (z ≡ b)
only_three b a x y z [] after e = (cc, cc, cc)
only_three b a x y z (c ∷ []) after e = absurd (cc e)
only_three b a x y z (c ∷ d ∷ []) after e = absurd (cc e)
only_three b a x y z (c ∷ d ∷ f ∷ []) after e = absurd (cc e)
only_three b a x y z (c ∷ d ∷ f ∷ g ∷ before) after e = absurd (cc e)

pub three_on : (b a at x y z : ℕ) → TripleAt (b ∷ a ∷ b ∷ []) at x y z → (x ≡ b) × (y ≡ a) × (z ≡ b)
three_on b a at x y z (inl s) = only_three b a x y z s.before s.after s.whole
three_on b a at x y z (inr s) = let r = only_three b a z y x s.before s.after s.whole in (r.2, r.1, r.0)

module _ (givens : List Given) (paths some : List (List ℕ)) where
  pub triple_split : (x y z : ℕ) → IsTriple (returns paths givens ++ some) x y z → IsReturn paths givens x y z ⊎ IsTriple some x y z
  triple_split x y z (path, c, (at, t)) =
      elim (Contains-append_cases (returns paths givens) some path c) [
        | inl h ↦ (
            let (g, there, named, e) = return_of_some paths givens path h in
            let r = three_on g.under g.over at x y z (subst (λ p. TripleAt p at x y z) e t) in
            inl (record { given = g; there = there; named = named; first = r.0; second = r.1; third = r.2 })
            )
        | inr h ↦ inr (path, h, (at, t))
      ]

  pub triple_of_return : (x y z : ℕ) → IsReturn paths givens x y z → IsTriple (returns paths givens ++ some) x y z
  triple_of_return x y z r =
      let g = r.given in
      let stand : StandAt (return_of g) 2 x y z = record {
        before = [];
        after = [];
        whole = ap (λ n. n ∷ g.over ∷ g.under ∷ []) (sym r.first) ∙ ap (λ n. x ∷ n ∷ g.under ∷ []) (sym r.second) ∙ ap (λ n. x ∷ y ∷ n ∷ []) (sym r.third);
        place = refl;
      } in
      (return_of g, Contains-append_left (returns paths givens) some (return_of g) (has_return paths givens g r.there r.named), (2, inl stand))

  pub triple_of_some : (x y z : ℕ) → IsTriple some x y z → IsTriple (returns paths givens ++ some) x y z
  triple_of_some x y z t = (t.0, Contains-append_right (returns paths givens) some t.0 t.1, t.2)

  to_given : (a b : ℕ) {y z : ℕ} → Closure (returns paths givens ++ some) a b y z → GivenClosure givens paths some a b y z
  to_given a b closure_start = start
  to_given a b (closure_imply {x = x} {y = y} {z = z} c t) = elim (triple_split x y z t) [ inl r ↦ force (to_given a b c) r | inr u ↦ imply (to_given a b c) u ]

  from_given : (a b : ℕ) {y z : ℕ} → GivenClosure givens paths some a b y z → Closure (returns paths givens ++ some) a b y z
  from_given a b start = closure_start
  from_given a b (imply {x = x} {y = y} {z = z} c t) = closure_imply (from_given a b c) (triple_of_some x y z t)
  from_given a b (force {x = x} {y = y} {z = z} c r) = closure_imply (from_given a b c) (triple_of_return x y z r)

pub given_closure_law : GivenClosureLaw
given_closure_law givens paths some = (
  λ x y z. (
    triple_split givens paths some x y z,
    λ h. elim h [ inl r ↦ triple_of_return givens paths some x y z r | inr t ↦ triple_of_some givens paths some x y z t ],
  ),
  λ a b y z. (to_given givens paths some a b, from_given givens paths some a b),
)

-- ---- no edge more

any_append : {X : Type 0} (p : X → Bool) (xs ys : List X) → list_any p xs ≡ true → list_any p (xs ++ ys) ≡ true
any_append p [] ys h = absurd (false≢true h)
any_append p (x ∷ xs) ys h =
    elim (cases_Bool (p x)) [ inl t ↦ rw t refl | inr f ↦ rw f (any_append p xs ys (rw f at h)) ]

any_unfiltered : {X : Type 0} (p q : X → Bool) (xs : List X) → list_any p (filter q xs) ≡ true → list_any p xs ≡ true
any_unfiltered p q [] h = h
any_unfiltered p q (x ∷ xs) h =
    elim (cases_Bool (p x)) [
      | inl t ↦ rw t refl
      | inr f ↦ rw f (any_unfiltered p q xs (elim (cases_Bool (q x)) [ inl u ↦ (let k = rw u at h in rw f at k) | inr n ↦ rw n at h ]))
    ]

any_undistinct : (p : Edge → Bool) (es : List Edge) → list_any p (distinct es) ≡ true → list_any p es ≡ true
any_undistinct p [] h = h
any_undistinct p (e ∷ es) h =
    elim (cases_Bool (p e)) [
      | inl t ↦ rw t refl
      | inr f ↦ rw f (any_undistinct p es (any_unfiltered p (λ f. not (is_same e f)) (distinct es) (rw f at h)))
    ]

no_more : (fs es : List Edge) → AllByRecursion (λ f. list_any (is_same f) es ≡ true) fs → distinct (es ++ fs) ≡ distinct es
no_more [] es h = ap distinct (append-nil es)
no_more (f ∷ fs) es h =
    ap distinct (sym (append_assoc es (f ∷ []) fs)) ∙ no_more fs (es ++ f ∷ []) (still fs h.1) ∙ distinct-push_old es f h.0
  where
    still : (fs : List Edge) → AllByRecursion (λ f. list_any (is_same f) es ≡ true) fs → AllByRecursion (λ g. list_any (is_same g) (es ++ f ∷ []) ≡ true) fs
    still [] h = tt
    still (g ∷ fs) h = (any_append (is_same g) es (f ∷ []) h.0, still fs h.1)

pub edge_back : (a b : ℕ) → edge_of a b ≡ edge_of b a
edge_back a b = let e₁ : min a b ≡ min b a = omega arith in let e₂ : max a b ≡ max b a = omega arith in pair e₁ e₂
  where
    pair : {a b c d : ℕ} → a ≡ c → b ≡ d → ◌≡◌ {A = Edge} (a, b) (c, d)
    pair e f = cc

module _ (paths : List (List ℕ)) where
  named_edge : (g : Given) → names_edge paths g ≡ true → AllByRecursion (λ f. list_any (is_same f) (flat_map edges_on paths) ≡ true) (edges_on (return_of g))
  named_edge g t =
      let there = any_undistinct (is_same (edge_of g.over g.under)) (flat_map edges_on paths) t in
      (subst (λ (e : Edge). list_any (is_same e) (flat_map edges_on paths) ≡ true) (edge_back g.over g.under) there, (there, tt))

  both : (P : Edge → Type 0) (es fs : List Edge) → AllByRecursion P es → AllByRecursion P fs → AllByRecursion P (es ++ fs)
  both P [] fs h k = k
  both P (e ∷ es) fs h k = (h.0, both P es fs h.1 k)

  return_edges : (some : List (List ℕ)) → AllByRecursion (λ path. AllByRecursion (λ f. list_any (is_same f) (flat_map edges_on paths) ≡ true) (edges_on path)) some →
      AllByRecursion (λ f. list_any (is_same f) (flat_map edges_on paths) ≡ true) (flat_map edges_on some)
  return_edges [] h = tt
  return_edges (path ∷ some) h =
      both (λ f. list_any (is_same f) (flat_map edges_on paths) ≡ true) (edges_on path) (flat_map edges_on some) h.0 (return_edges some h.1)

  all_named : (givens : List Given) → AllByRecursion (λ g. IsTrue (names_edge paths g) → AllByRecursion (λ f. list_any (is_same f) (flat_map edges_on paths) ≡ true) (edges_on (return_of g))) givens
  all_named [] = tt
  all_named (g ∷ givens) = (named_edge g, all_named givens)

  pub same_edges : (givens : List Given) → edges (paths ++ returns paths givens) ≡ edges paths
  same_edges givens =
      ap distinct (flat_map-append edges_on paths (returns paths givens)) ∙
      no_more (flat_map edges_on (returns paths givens)) (flat_map edges_on paths)
      (return_edges (returns paths givens)
      (each_return paths (λ path. AllByRecursion (λ f. list_any (is_same f) (flat_map edges_on paths) ≡ true) (edges_on path)) givens (all_named givens)))

-- ---- no two neighbours on a return are the same

pub return_differs : (g : Given) → g.over ≢ g.under → NeighboursDiffer (return_of g)
return_differs g two = record { differ = λ x y p. go x y p.1 p.0 p.2 }
  where
    go : (x y : ℕ) (after before : List ℕ) → return_of g ≡ before ++ (x ∷ y ∷ after) → x ≢ y
    go x y after [] e same = two cc
    go x y after (c ∷ []) e same = two cc
    go x y after (c ∷ d ∷ []) e same = absurd (cc e)
    go x y after (c ∷ d ∷ f ∷ []) e same = absurd (cc e)
    go x y after (c ∷ d ∷ f ∷ h ∷ before) e same = absurd (cc e)

pub returns_differ : (givens : List Given) (paths : List (List ℕ)) → NameTwo givens → All NeighboursDiffer (returns paths givens)
returns_differ givens paths two =
    All-from_recursion NeighboursDiffer (returns paths givens)
    (each_return paths NeighboursDiffer givens
    (weaker paths (λ g. g.over ≢ g.under) (λ g. IsTrue (names_edge paths g) → NeighboursDiffer (return_of g)) (λ g h _. return_differs g h) givens
    (recursion_from_All (λ g. g.over ≢ g.under) givens two)))

pub given_edges_law : GivenEdgesLaw
given_edges_law givens paths = (same_edges paths givens, returns_differ givens paths)

-- ---- some orientation agrees with all givens

over_by : (O : Orientation) (a b : ℕ) → a ≢ b → O (min a b) (max a b) ≡ end_by a b → is_over (labels_of O) a b ≡ true
over_by O a b two e =
    elim (cases_order a b) [
      | inl same ↦ absurd (two same)
      | inr o ↦ elim o [
        | inl lt ↦
            let e₁ : min a b ≡ a = omega arith in let e₂ : max a b ≡ b = omega arith in
            let is : O a b ≡ End.Low = ap₂ O (sym e₁) (sym e₂) ∙ e ∙ ap (λ t. if t then End.Low else End.High) (lt-ltb a b lt) in
            over-low (labels_of O) a b lt (ap (λ v. is_low (label_of v)) is)
        | inr lt ↦
            let e₁ : min a b ≡ b = omega arith in let e₂ : max a b ≡ a = omega arith in
            let ge : b ≤ a = omega arith in
            let is : O b a ≡ End.High = ap₂ O (sym e₁) (sym e₂) ∙ e ∙ ap (λ t. if t then End.Low else End.High) (le-ltb a b ge) in
            over-high (labels_of O) b a lt (ap (λ v. is_high (label_of v)) is)
      ]
    ]

-- and the other way round
pub over_end : (O : Orientation) (a b : ℕ) → is_over (labels_of O) a b ≡ true → O (min a b) (max a b) ≡ end_by a b
over_end O a b o =
    elim (over_parts (labels_of O) a b o) [
      | inl p ↦
          let lt = p.0 in
          let e₁ : min a b ≡ a = omega (arith, lt) in let e₂ : max a b ≡ b = omega (arith, lt) in
          ap₂ O e₁ e₂ ∙ over_low O a b lt o ∙ sym (ap (λ t. if t then End.Low else End.High) (lt-ltb a b lt))
      | inr p ↦
          let lt = p.0 in
          let e₁ : min a b ≡ b = omega (arith, lt) in let e₂ : max a b ≡ a = omega (arith, lt) in
          let ge : b ≤ a = omega (arith, lt) in
          ap₂ O e₁ e₂ ∙ over_high O b a lt o ∙ sym (ap (λ t. if t then End.Low else End.High) (le-ltb a b ge))
    ]

by_first : (g : Given) (givens : List Given) → by_givens (g ∷ givens) (min g.over g.under) (max g.over g.under) ≡ end_by g.over g.under
by_first g givens = rw (eq-eqb (min g.over g.under) (min g.over g.under) refl, eq-eqb (max g.over g.under) (max g.over g.under) refl) refl

by_later : (h : Given) (givens : List Given) (low high : ℕ) → is_same (edge_of h.over h.under) (low, high) ≡ false → by_givens (h ∷ givens) low high ≡ by_givens givens low high
by_later h givens low high n = rw n refl

-- no other of the givens is of these two ASes
abbrev pub Others : Given → List Given → Type 0
Others g givens = AllByRecursion (λ h. edge_of g.over g.under ≢ edge_of h.over h.under) givens

abbrev pub Once : List Given → Type 0
Once [] = Unit {0}
Once (g ∷ givens) = Others g givens × Once givens

others_all : (g : Given) (givens : List Given) → ((j : ℕ) → (d : Given) → j < length givens → edge_of g.over g.under ≢ edge_of (get_or givens j d).over (get_or givens j d).under) → Others g givens
others_all g [] h = tt
others_all g (k ∷ givens) h = (h 0 g (omega arith), others_all g givens (λ j d lt. h (suc j) d (omega (arith, lt))))

pub once_all : (givens : List Given) → NameOnce givens → Once givens
once_all [] h = tt
once_all (g ∷ givens) h =
    (others_all g givens (λ j d lt. h 0 (suc j) d (omega arith) (omega (arith, lt))), once_all givens (λ i j d lt within. h (suc i) (suc j) d (omega (arith, lt)) (omega (arith, within))))

-- each given has its end
abbrev pub HasEnd : Orientation → Given → Type 0
HasEnd O g = O (min g.over g.under) (max g.over g.under) ≡ end_by g.over g.under

pub each_end : (givens : List Given) → Once givens → AllByRecursion (HasEnd (by_givens givens)) givens
each_end [] h = tt
each_end (g ∷ givens) h = (by_first g givens, later givens h.0 (each_end givens h.1))
  where
    later : (some : List Given) → Others g some → AllByRecursion (HasEnd (by_givens givens)) some → AllByRecursion (HasEnd (by_givens (g ∷ givens))) some
    later [] o k = tt
    later (h ∷ some) o k = (
      by_later g givens (min h.over h.under) (max h.over h.under)
          (false_from_ne_true (is_same (edge_of g.over g.under) (edge_of h.over h.under)) (λ t. o.0 (same_edge (edge_of g.over g.under) (edge_of h.over h.under) t))) ∙ k.0,
      later some o.1 k.1,
    )

-- an orientation that has the end of each given agrees with all
pub ends_hold : (O : Orientation) (givens : List Given) → AllByRecursion (λ g. g.over ≢ g.under) givens → AllByRecursion (HasEnd O) givens → AllByRecursion (LabelsSay (labels_of O)) givens
ends_hold O [] two h = tt
ends_hold O (g ∷ givens) two h = (over_by O g.over g.under two.0 h.0, ends_hold O givens two.1 h.1)

-- what a list holds is found in it
pub any_there : (fs : List Edge) (e : Edge) → Contains fs e → list_any (is_same e) fs ≡ true
any_there [] e c = let lt = c.1 in absurd (omega (arith, lt))
any_there (f ∷ fs) e c =
    elim (first_or_behind f fs e c) [
      | inl same ↦
          let t : is_same e f ≡ true = subst (λ (g : Edge). is_same e g ≡ true) same (rw (eq-eqb e.0 e.0 refl, eq-eqb e.1 e.1 refl) refl) in rw t refl
      | inr h ↦ elim (cases_Bool (is_same e f)) [ inl t ↦ rw t refl | inr n ↦ rw n (any_there fs e h) ]
    ]

-- the orientation with the ends of givens at all but these edges
abbrev outside : List Edge → Orientation → List Given → Orientation
outside es O givens low high = if list_any (is_same (low, high)) es then O low high else by_givens givens low high

module _ (paths some : List (List ℕ)) (givens : List Given) (two : NameTwo givens) (once : NameOnce givens) (among : (e : Edge) → Contains (edges some) e → Contains (edges paths) e) where
  abbrev es : List Edge
  es = edges paths

  abbrev all_served : List (List ℕ)
  all_served = map return_of givens ++ some

  abbrev served : List (List ℕ)
  served = returns paths givens ++ some

  inside_same : (O : Orientation) (low high : ℕ) → list_any (is_same (low, high)) es ≡ true → outside es O givens low high ≡ O low high
  inside_same O low high t = rw t refl

  outside_same : (O : Orientation) (low high : ℕ) → list_any (is_same (low, high)) es ≡ false → outside es O givens low high ≡ by_givens givens low high
  outside_same O low high f = rw f refl

  there : (e : Edge) → Contains es e → list_any (is_same e) es ≡ true
  there e c = any_there es e c

  -- it serves what O serves, since no edge of that is changed
  still_serves : (O : Orientation) → Serves O some → Serves (outside es O givens) some
  still_serves O serves =
      reading_law O (outside es O givens) some
      (All-from_get_or (λ (f : Edge). O f.0 f.1 ≡ outside es O givens f.0 f.1) (edges some) (0, 0)
      (λ i within.
      let f = get_or (edges some) i (0, 0) in
      sym (inside_same O f.0 f.1 (there f (among f (Contains-get_or (edges some) i (0, 0) within))))))
      serves

  each_holds : (O : Orientation) → AgreesWith givens paths (labels_of O) → AllByRecursion (LabelsSay (labels_of (outside es O givens))) givens
  each_holds O agrees =
      go givens (recursion_from_All (λ g. g.over ≢ g.under) givens two) (recursion_from_All (λ g. IsTrue (names_edge paths g) →
      LabelsSay (labels_of O) g) givens agrees) (each_end givens (once_all givens once))
    where
      go : (gs : List Given) → AllByRecursion (λ g. g.over ≢ g.under) gs → AllByRecursion (λ g. IsTrue (names_edge paths g) → LabelsSay (labels_of O) g) gs →
          AllByRecursion (HasEnd (by_givens givens)) gs →
          AllByRecursion (LabelsSay (labels_of (outside es O givens))) gs
      go [] t a h = tt
      go (g ∷ gs) t a h = (
        elim (cases_Bool (names_edge paths g)) [
          | inl named ↦ over_by (outside es O givens) g.over g.under t.0
              (inside_same O (min g.over g.under) (max g.over g.under) named ∙ over_end O g.over g.under (a.0 named))
          | inr out ↦ over_by (outside es O givens) g.over g.under t.0 (outside_same O (min g.over g.under) (max g.over g.under) out ∙ h.0)
        ],
        go gs t.1 a.1 h.1,
      )

  served_all : (O : Orientation) → Serves O served → Serves (outside es O givens) all_served
  served_all O serves =
      let k = (given_serving_law givens paths).1 O some in
      let both = k.1 serves in
      All-append (ValleyFree (labels_of (outside es O givens))) (map return_of givens) some
      (All-from_recursion (ValleyFree (labels_of (outside es O givens))) (map return_of givens) (free_all givens (each_holds O both.0)))
      (still_serves O both.1)
    where
      free_all : (gs : List Given) → AllByRecursion (LabelsSay (labels_of (outside es O givens))) gs → AllByRecursion (ValleyFree (labels_of (outside es O givens))) (map return_of gs)
      free_all [] h = tt
      free_all (g ∷ gs) h = (return_free (labels_of (outside es O givens)) g h.0, free_all gs h.1)

  all_serve : (O : Orientation) → Serves O all_served → Serves O served
  all_serve O serves =
      let k = all_parts (ValleyFree (labels_of O)) (map return_of givens) some serves in
      All-append (ValleyFree (labels_of O)) (returns paths givens) some
      (All-from_recursion (ValleyFree (labels_of O)) (returns paths givens)
      (each_return paths (ValleyFree (labels_of O)) givens (some_of givens (recursion_from_All (ValleyFree (labels_of O)) (map return_of givens) k.0)))) k.1
    where
      some_of : (gs : List Given) → AllByRecursion (ValleyFree (labels_of O)) (map return_of gs) → AllByRecursion (λ g. IsTrue (names_edge paths g) → ValleyFree (labels_of O) (return_of g)) gs
      some_of [] h = tt
      some_of (g ∷ gs) h = ((λ _. h.0), some_of gs h.1)

  pub same_servable : IsServable served ↔ IsServable all_served
  same_servable = ((λ s. (outside es s.0 givens, served_all s.0 s.1)), (λ s. (s.0, all_serve s.0 s.1)))

  pub same_forced : (low high : ℕ) → Contains es (low, high) → IsForced served low high ↔ IsForced all_served low high
  same_forced low high c = (
    (λ forced O O' serves serves'. forced O O' (all_serve O serves) (all_serve O' serves')),
    (λ forced O O' serves serves'.
        let t = there (low, high) c in
        sym (inside_same O low high t) ∙ forced (outside es O givens) (outside es O' givens) (served_all O serves) (served_all O' serves') ∙ inside_same O' low high t),
  )

pub all_givens_law : AllGivensLaw
all_givens_law givens paths some two once among = (
  same_servable paths some givens two once among,
  λ low high c. same_forced paths some givens two once among low high c,
)

pub givens_servable_law : GivensServableLaw
givens_servable_law givens paths two once = (
  by_givens givens,
  agrees_free paths (labels_of (by_givens givens)) givens
      (All-from_recursion (λ g. IsTrue (names_edge paths g) → LabelsSay (labels_of (by_givens givens)) g) givens
      (weaker paths (LabelsSay (labels_of (by_givens givens))) (λ g. IsTrue (names_edge paths g) → LabelsSay (labels_of (by_givens givens)) g) (λ g h _. h) givens
      (ends_hold (by_givens givens) givens (recursion_from_All (λ g. g.over ≢ g.under) givens two) (each_end givens (once_all givens once))))),
)
