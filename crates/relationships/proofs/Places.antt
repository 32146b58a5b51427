-- The facts of `specs/` by the places in a list, for code that reads by index.
use Rattle.std.proofs.Common.{◌≡◌, ℕ, zero, suc, ◌+◌, ◌-◌, ◌<◌, ◌≤◌, inl, inr, Bool, true, false, not, cond, ◌||◌, List, [], ◌∷◌, ◌++◌, length, get_or, map, filter, refl, sym, ap, ◌∙◌, subst, arith}
use Rattle.std.proofs.Common.{append-nil, length-append, Contains, eq-eqb}
use Rattle.std.specs.List.{list_any, AllByRecursion}
use Rattle.std.proofs.lemmas.Bool.{cases_Bool, false≢true, both_ways}
use Rattle.std.proofs.lemmas.List.Elements.{All-from_recursion, filter-append}
use Rattle.relationships.specs.Relationship.{Orientation, Serves}
use Rattle.relationships.specs.Graph.{Edge, SameOn, is_same, distinct, edges, orientation}
use Rattle.relationships.specs.Evidence.{StandAt, Numbered, Fits, IsLinked, kept_from}
use Rattle.relationships.specs.declared.walk.Link.{Link}
use Rattle.relationships.proofs.Edges.{same_edge, reading_law}

-- ---- three ASes at a place

pub StandAt-from_index : (path : List ℕ) (at x y z : ℕ) → 2 ≤ at → at < length path →
    get_or path (at - 2) 0 ≡ x → get_or path (at - 1) 0 ≡ y → get_or path at 0 ≡ z → StandAt path at x y z
StandAt-from_index path at x y z two within h k l =
    let r = go path (at - 2) (omega arith) in
    let e₁ : at - 2 + 1 ≡ at - 1 = omega arith in
    let e₂ : at - 2 + 2 ≡ at = omega arith in
    let n : length r.0 ≡ at - 2 = r.2 in
    record {
      before = r.0;
      after = r.1;
      whole = r.3 ∙ ap₃ (λ p q s. r.0 ++ (p ∷ q ∷ s ∷ r.1)) h (ap (λ i. get_or path i 0) e₁ ∙ k) (ap (λ i. get_or path i 0) e₂ ∙ l);
      place = omega arith;
    }
  where
    ap₃ : (f : ℕ → ℕ → ℕ → List ℕ) {a b c d e g : ℕ} → a ≡ b → c ≡ d → e ≡ g → f a c e ≡ f b d g
    ap₃ f p q s = rw (p, q, s)

    go : (path : List ℕ) (i : ℕ) → i + 2 < length path →
        (before after : List ℕ) × (length before ≡ i) × (path ≡ before ++ (get_or path i 0 ∷ get_or path (i + 1) 0 ∷ get_or path (i + 2) 0 ∷ after))
    go [] i lt = absurd (omega arith)
    go (a ∷ []) i lt = absurd (omega arith)
    go (a ∷ b ∷ []) i lt = absurd (omega arith)
    go (a ∷ b ∷ c ∷ path) zero lt = ([], path, refl, refl)
    go (a ∷ b ∷ c ∷ path) (suc i) lt =
        let r = go (b ∷ c ∷ path) i (omega arith) in
        let e₁ : suc i + 1 ≡ suc (i + 1) = omega arith in
        let e₂ : suc i + 2 ≡ suc (i + 2) = omega arith in
        (a ∷ r.0, r.1, ap suc r.2, rw (e₁, e₂) (ap (λ (l : List ℕ). a ∷ l) r.3))

pub index-from_StandAt : (path : List ℕ) (at x y z : ℕ) → StandAt path at x y z →
    (2 ≤ at) × (at < length path) × (get_or path (at - 2) 0 ≡ x) × (get_or path (at - 1) 0 ≡ y) × (get_or path at 0 ≡ z)
index-from_StandAt path at x y z s =
    let n = s.place in
    let e₀ : at - 2 ≡ length s.before + 0 = omega arith in
    let e₁ : at - 1 ≡ length s.before + 1 = omega arith in
    let l : length path ≡ length (s.before ++ (x ∷ y ∷ z ∷ s.after)) = ap length s.whole in (
      omega arith,
      omega (arith, length-append s.before (x ∷ y ∷ z ∷ s.after)),
      ap (λ i. get_or path i 0) e₀ ∙ ap (λ p. get_or p (length s.before + 0) 0) s.whole ∙ at_seam s.before x (y ∷ z ∷ s.after) 0 refl,
      ap (λ i. get_or path i 0) e₁ ∙ ap (λ p. get_or p (length s.before + 1) 0) s.whole ∙ at_seam s.before x (y ∷ z ∷ s.after) 1 refl,
      ap (λ i. get_or path i 0) n ∙ ap (λ p. get_or p (length s.before + 2) 0) s.whole ∙ at_seam s.before x (y ∷ z ∷ s.after) 2 refl,
    )
  where
    at_seam : (before : List ℕ) (a : ℕ) (more : List ℕ) (i : ℕ) {v : ℕ} → get_or (a ∷ more) i 0 ≡ v → get_or (before ++ (a ∷ more)) (length before + i) 0 ≡ v
    at_seam [] a more i h = let e : zero + i ≡ i = omega arith in rw e h
    at_seam (b ∷ before) a more i h = let e : suc (length before) + i ≡ suc (length before + i) = omega arith in rw e (at_seam before a more i h)

-- ---- the kept paths, by their numbers

pub kept_from-in : (n : ℕ) (paths : List (List ℕ)) (keeps : List Bool) (i : ℕ) (path : List ℕ) (d : Bool) → i < length paths → i < length keeps →
    get_or paths i path ≡ path → get_or keeps i d ≡ true → Contains (kept_from n paths keeps) (n + i, path)
kept_from-in n [] keeps i path d lt lt' h k = absurd (omega arith)
kept_from-in n (p ∷ paths) [] i path d lt lt' h k = absurd (omega arith)
kept_from-in n (p ∷ paths) (true ∷ keeps) zero path d lt lt' h k =
    let e : n ≡ n + 0 = omega arith in (0, omega arith, pair e h)
  where
    pair : {a b : ℕ} {c d : List ℕ} → a ≡ b → c ≡ d → ◌≡◌ {A = ℕ × List ℕ} (a, c) (b, d)
    pair e f = cc
kept_from-in n (p ∷ paths) (false ∷ keeps) zero path d lt lt' h k = absurd (false≢true k)
kept_from-in n (p ∷ paths) (true ∷ keeps) (suc i) path d lt lt' h k =
    let e : n + 1 + i ≡ n + suc i = omega arith in
    let c = subst (λ m. Contains (kept_from (n + 1) paths keeps) (m, path)) e (kept_from-in (n + 1) paths keeps i path d (omega arith) (omega arith) h k) in
    (suc c.0, omega (arith, c.1), c.2)
kept_from-in n (p ∷ paths) (false ∷ keeps) (suc i) path d lt lt' h k =
    let e : n + 1 + i ≡ n + suc i = omega arith in
    subst (λ m. Contains (kept_from (n + 1) paths keeps) (m, path)) e (kept_from-in (n + 1) paths keeps i path d (omega arith) (omega arith) h k)

pub kept_from-out : (n : ℕ) (paths : List (List ℕ)) (keeps : List Bool) (m : ℕ) (path : List ℕ) → Contains (kept_from n paths keeps) (m, path) →
    (i : ℕ) × (m ≡ n + i) × (i < length paths) × (i < length keeps) × (get_or paths i path ≡ path) × ((d : Bool) → get_or keeps i d ≡ true)
kept_from-out n [] keeps m path c = absurd (omega (arith, c.1))
kept_from-out n (p ∷ paths) [] m path c = absurd (omega (arith, c.1))
kept_from-out n (p ∷ paths) (true ∷ keeps) m path (zero, lt, e) =
    let e₀ : n ≡ m = ap (λ (q : ℕ × List ℕ). q.0) e in
    (0, omega arith, omega arith, omega arith, ap (λ (q : ℕ × List ℕ). q.1) e, λ d. refl)
kept_from-out n (p ∷ paths) (true ∷ keeps) m path (suc k, lt, e) =
    let r = kept_from-out (n + 1) paths keeps m path (k, omega arith, e) in
    (suc r.0, omega (arith, r.1), omega (arith, r.2), omega (arith, r.3), r.4, r.5)
kept_from-out n (p ∷ paths) (false ∷ keeps) m path c =
    let r = kept_from-out (n + 1) paths keeps m path c in
    (suc r.0, omega (arith, r.1), omega (arith, r.2), omega (arith, r.3), r.4, r.5)

-- ---- a walk, link by link

pub IsLinked-from_index : (A : Numbered) (ases : List ℕ) (links : List Link) → length ases ≡ length links + 2 →
    ((i : ℕ) (d : Link) → i < length links → Fits A (get_or links i d) (get_or ases i 0) (get_or ases (i + 1) 0) (get_or ases (i + 2) 0)) → IsLinked A ases links
IsLinked-from_index A [] links n h = absurd (omega arith)
IsLinked-from_index A (x ∷ []) links n h = absurd (omega arith)
IsLinked-from_index A (x ∷ y ∷ []) [] n h = tt
IsLinked-from_index A (x ∷ y ∷ []) (l ∷ links) n h = absurd (omega arith)
IsLinked-from_index A (x ∷ y ∷ z ∷ ases) [] n h = absurd (omega arith)
IsLinked-from_index A (x ∷ y ∷ z ∷ ases) (l ∷ links) n h = (
  h 0 l (omega arith),
  IsLinked-from_index A (y ∷ z ∷ ases) links (omega arith) (λ i d lt.
      let e₁ : suc i + 1 ≡ suc (i + 1) = omega arith in
      let e₂ : suc i + 2 ≡ suc (i + 2) = omega arith in
      let f = h (suc i) d (omega arith) in
      rw (e₁, e₂) at f),
)

pub index-from_IsLinked : (A : Numbered) (ases : List ℕ) (links : List Link) → IsLinked A ases links →
    (length ases ≡ length links + 2) × ((i : ℕ) (d : Link) → i < length links → Fits A (get_or links i d) (get_or ases i 0) (get_or ases (i + 1) 0) (get_or ases (i + 2) 0))
index-from_IsLinked A [] links h = absurd h
index-from_IsLinked A (x ∷ []) links h = absurd h
index-from_IsLinked A (x ∷ y ∷ []) [] h = (refl, λ i d lt. absurd (omega arith))
index-from_IsLinked A (x ∷ y ∷ []) (l ∷ links) h = absurd h
index-from_IsLinked A (x ∷ y ∷ z ∷ ases) [] h = absurd h
index-from_IsLinked A (x ∷ y ∷ z ∷ ases) (l ∷ links) h =
    let r = index-from_IsLinked A (y ∷ z ∷ ases) links h.1 in (omega (arith, r.0), at r.1)
  where
    at : ((i : ℕ) (d : Link) → i < length links → Fits A (get_or links i d) (get_or (y ∷ z ∷ ases) i 0) (get_or (y ∷ z ∷ ases) (i + 1) 0) (get_or (y ∷ z ∷ ases) (i + 2) 0)) →
        (i : ℕ) (d : Link) → i < length (l ∷ links) → Fits A (get_or (l ∷ links) i d) (get_or (x ∷ y ∷ z ∷ ases) i 0) (get_or (x ∷ y ∷ z ∷ ases) (i + 1) 0) (get_or (x ∷ y ∷ z ∷ ases) (i + 2) 0)
    at rest zero d lt = h.0
    at rest (suc i) d lt =
        let e₁ : suc i + 1 ≡ suc (i + 1) = omega arith in
        let e₂ : suc i + 2 ≡ suc (i + 2) = omega arith in
        let f = rest i d (omega arith) in
        rw (e₁, e₂) f

-- ---- an orientation as a list of ends

listed_each : (O : Orientation) (es : List Edge) → AllByRecursion (λ (f : Edge). orientation es (map (λ (e : Edge). O e.0 e.1) es) f.0 f.1 ≡ O f.0 f.1) es
listed_each O [] = tt
listed_each O (e ∷ es) =
    (rw (eq-eqb e.0 e.0 refl, eq-eqb e.1 e.1 refl), behind es (listed_each O es))
  where
    behind : (fs : List Edge) → AllByRecursion (λ (f : Edge). orientation es (map (λ (e : Edge). O e.0 e.1) es) f.0 f.1 ≡ O f.0 f.1) fs →
        AllByRecursion (λ (f : Edge). orientation (e ∷ es) (map (λ (e : Edge). O e.0 e.1) (e ∷ es)) f.0 f.1 ≡ O f.0 f.1) fs
    behind [] h = tt
    behind (f ∷ fs) h = (
      elim (cases_Bool (is_same e (f.0, f.1))) [
        | inl t ↦ rw t (ap (λ (g : Edge). O g.0 g.1) (same_edge e (f.0, f.1) t))
        | inr n ↦ rw n h.0
      ],
      behind fs h.1,
    )

-- each orientation is that of a list of ends, at the edges
pub listed : (O : Orientation) (es : List Edge) → SameOn es O (orientation es (map (λ (e : Edge). O e.0 e.1) es))
listed O es = All-from_recursion (λ (f : Edge). O f.0 f.1 ≡ orientation es (map (λ (e : Edge). O e.0 e.1) es) f.0 f.1) es (reversed es (listed_each O es))
  where
    reversed : (fs : List Edge) → AllByRecursion (λ (f : Edge). orientation es (map (λ (e : Edge). O e.0 e.1) es) f.0 f.1 ≡ O f.0 f.1) fs →
        AllByRecursion (λ (f : Edge). O f.0 f.1 ≡ orientation es (map (λ (e : Edge). O e.0 e.1) es) f.0 f.1) fs
    reversed [] h = tt
    reversed (f ∷ fs) h = (sym h.0, reversed fs h.1)

pub listed_serves : (O : Orientation) (paths : List (List ℕ)) → Serves O paths → Serves (orientation (edges paths) (map (λ (e : Edge). O e.0 e.1) (edges paths))) paths
listed_serves O paths s = reading_law O (orientation (edges paths) (map (λ (e : Edge). O e.0 e.1) (edges paths))) paths (listed O (edges paths)) s

-- ---- an edge more

same_reversed : (e f : Edge) → is_same e f ≡ true → is_same f e ≡ true
same_reversed e f t = let h = same_edge e f t in subst (λ (g : Edge). is_same g e ≡ true) h (rw (eq-eqb e.0 e.0 refl, eq-eqb e.1 e.1 refl))

or_parts : (s t : Bool) → (s || t) ≡ false → (s ≡ false) × (t ≡ false)
or_parts true t h = absurd (false≢true (sym h))
or_parts false t h = (refl, h)

kept_last : (x : Edge) (fs : List Edge) (e : Edge) → is_same x e ≡ false → filter (λ f. not (is_same x f)) (fs ++ e ∷ []) ≡ filter (λ f. not (is_same x f)) fs ++ e ∷ []
kept_last x fs e h = filter-append (λ f. not (is_same x f)) fs (e ∷ []) ∙ ap (λ b. filter (λ f. not (is_same x f)) fs ++ cond (not b) (e ∷ []) []) h

dropped_last : (x : Edge) (fs : List Edge) (e : Edge) → is_same x e ≡ true → filter (λ f. not (is_same x f)) (fs ++ e ∷ []) ≡ filter (λ f. not (is_same x f)) fs
dropped_last x fs e h =
    filter-append (λ f. not (is_same x f)) fs (e ∷ []) ∙ ap (λ b. filter (λ f. not (is_same x f)) fs ++ cond (not b) (e ∷ []) []) h ∙
    append-nil (filter (λ f. not (is_same x f)) fs)

pub distinct-push_new : (es : List Edge) (e : Edge) → list_any (is_same e) es ≡ false → distinct (es ++ e ∷ []) ≡ distinct es ++ e ∷ []
distinct-push_new [] e h = refl
distinct-push_new (x ∷ es) e h =
    let p = or_parts (is_same e x) (list_any (is_same e) es) h in
    let apart : is_same x e ≡ false =
    elim (cases_Bool (is_same x e)) [ inl t ↦ absurd (both_ways (is_same e x) p.0 (same_reversed x e t)) | inr n ↦ n ] in
    ap (λ (l : List Edge). x ∷ l) (ap (filter (λ f. not (is_same x f))) (distinct-push_new es e p.1) ∙ kept_last x (distinct es) e apart)

pub distinct-push_old : (es : List Edge) (e : Edge) → list_any (is_same e) es ≡ true → distinct (es ++ e ∷ []) ≡ distinct es
distinct-push_old [] e h = absurd (false≢true h)
distinct-push_old (x ∷ es) e h =
    elim (cases_Bool (list_any (is_same e) es)) [
      | inl t ↦ ap (λ (l : List Edge). x ∷ filter (λ f. not (is_same x f)) l) (distinct-push_old es e t)
      | inr n ↦
          let same : is_same e x ≡ true = first_of_or (is_same e x) (list_any (is_same e) es) h n in
          ap (λ (l : List Edge). x ∷ l) (ap (filter (λ f. not (is_same x f))) (distinct-push_new es e n) ∙ dropped_last x (distinct es) e (same_reversed e x same))
    ]
  where
    first_of_or : (s t : Bool) → (s || t) ≡ true → t ≡ false → s ≡ true
    first_of_or true t h n = refl
    first_of_or false t h n = absurd (both_ways t n h)
