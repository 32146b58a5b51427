-- Links into the rows behind the paths are changed to name givens, and all others are left as they are.
use Rattle.std.proofs.Common.{◌≡◌, ℕ, zero, suc, ◌+◌, ◌-◌, ◌<◌, ◌≤◌, inl, inr, List, [], ◌∷◌, ◌++◌, length, get_or, map, Option, Some, None, option_map, refl, sym}
use Rattle.std.proofs.Common.{ap, ap₂, subst, arith, append_assoc, lt-ltb, le-ltb, Contains}
use Rattle.std.proofs.lemmas.List.Elements.{Contains-append_cases}
use Rattle.relationships.specs.declared.given.Given.{Given}
use Rattle.relationships.specs.declared.walk.Link.{Link}
use Rattle.relationships.specs.declared.walk.Walk.{Walk}
use Rattle.relationships.specs.Evidence.{TripleAt, Numbered, Fits, IsLinked, Refutes}
use Rattle.relationships.specs.Checking.{LostFrom}
use Rattle.relationships.specs.Flat.{walk_with}
use Rattle.relationships.specs.GivenEvidence.{given_link, with_given_links, AreReturnRows, AreUpTo, FitsGiven, FitsWith, IsLinkedWith, RefutesWith, LostFromWith}
use Rattle.relationships.proofs.GivenLemmas.{three_on}

pub nothing_above : (n : ℕ) → AreUpTo n []
nothing_above n m path c = let lt = c.1 in absurd (omega (arith, lt))

module _ (givens : List Given) (n : ℕ) (numbers : List ℕ) where
  up_to_more : (A : Numbered) (m : ℕ) (path : List ℕ) → m ≤ n → AreUpTo n A → AreUpTo n (A ++ (m, path) ∷ [])
  up_to_more A m path le below k p c =
      elim (Contains-append_cases A ((m, path) ∷ []) (k, p) c) [
        | inl i ↦ below k p i
        | inr i ↦ only i
      ]
    where
      only : Contains {X = ℕ × List ℕ} ((m, path) ∷ []) (k, p) → k ≤ n
      only (zero, lt, e) = let same : m ≡ k = ap (λ (q : ℕ × List ℕ). q.0) e in omega (arith, same, le)
      only (suc j, lt, e) = absurd (omega (arith, lt))

  -- ---- no link of a walk that names givens and paths is changed

  link_left : (link : Link) → link.path ≤ n → given_link n numbers link ≡ link
  link_left link le = rw (le-ltb n link.path le) refl

  module _ (A : Numbered) (below : AreUpTo n A) where
    fits_left : (link : Link) (x y z : ℕ) → FitsWith givens A link x y z → given_link n numbers link ≡ link
    fits_left link x y z (inl r) = let none = r.apart in link_left link (omega (arith, none))
    fits_left link x y z (inr (path, c, t)) = link_left link (below link.path path c)

    linked_left : (ases : List ℕ) (links : List Link) → IsLinkedWith givens A ases links → map (given_link n numbers) links ≡ links
    linked_left [] links h = absurd h
    linked_left (x ∷ []) links h = absurd h
    linked_left (x ∷ y ∷ []) [] h = refl
    linked_left (x ∷ y ∷ []) (link ∷ links) h = absurd h
    linked_left (x ∷ y ∷ z ∷ ases) [] h = absurd h
    linked_left (x ∷ y ∷ z ∷ ases) (link ∷ links) h = ap₂ (λ (l : Link) (ls : List Link). l ∷ ls) (fits_left link x y z h.0) (linked_left (y ∷ z ∷ ases) links h.1)

    walk_left : (w : Walk) → RefutesWith givens A w → with_given_links n numbers w ≡ w
    walk_left w r = ap (walk_with w.ases) (linked_left w.ases w.links r.walk)

  pub lost_left : (m : ℕ) (A : Numbered) (paths : List (List ℕ)) (walks : List (Option Walk)) → AreUpTo n A → m + length paths ≤ n + 1 → LostFromWith givens m A paths walks →
      map (option_map (with_given_links n numbers)) walks ≡ walks
  lost_left m A [] [] below le h = refl
  lost_left m A [] (w ∷ walks) below le h = absurd h
  lost_left m A (path ∷ paths) [] below le h = absurd h
  lost_left m A (path ∷ paths) (None ∷ walks) below le h =
      ap (λ (l : List (Option Walk)). None ∷ l)
      (lost_left (m + 1) (A ++ (m, path) ∷ []) paths walks (up_to_more A m path (omega (arith, le)) below) (omega (arith, le)) h)
  lost_left m A (path ∷ paths) (Some w ∷ walks) below le h =
      ap₂ (λ (v : Walk) (l : List (Option Walk)). Some v ∷ l) (walk_left (A ++ (m, path) ∷ []) (up_to_more A m path (omega (arith, le)) below) w h.0)
      (lost_left (m + 1) A paths walks below (omega (arith, le)) h.1)

  -- ---- a walk over rows of returns and paths names givens then

  module _ (rows : Numbered) (are : AreReturnRows givens n numbers rows) where
    link_changed : (link : Link) → n < link.path → given_link n numbers link ≡ record { path = 0; at = get_or numbers (link.path - (n + 1)) 0 }
    link_changed link lt = rw (lt-ltb n link.path lt) refl

    module _ (A : Numbered) (below : AreUpTo n A) where
      fits_changed : (link : Link) (x y z : ℕ) → Fits (rows ++ A) link x y z → FitsWith givens A (given_link n numbers link) x y z
      fits_changed link x y z (path, c, t) =
          elim (Contains-append_cases rows A (link.path, path) c) [
            | inl i ↦ (
                let (lt, (g, named, e)) = are link.path path i in
                let three = three_on g.under g.over link.at x y z (subst (λ p. TripleAt p link.at x y z) e t) in
                let fits : FitsGiven givens (record { path = 0; at = get_or numbers (link.path - (n + 1)) 0 }) x y z =
                record { apart = refl; given = g; named = named; first = three.0; second = three.1; third = three.2 } in
                subst (λ (l : Link). FitsWith givens A l x y z) (sym (link_changed link lt)) (inl fits)
                )
            | inr i ↦ subst (λ (l : Link). FitsWith givens A l x y z) (sym (link_left link (below link.path path i))) (inr (path, i, t))
          ]

      linked_changed : (ases : List ℕ) (links : List Link) → IsLinked (rows ++ A) ases links → IsLinkedWith givens A ases (map (given_link n numbers) links)
      linked_changed [] links h = absurd h
      linked_changed (x ∷ []) links h = absurd h
      linked_changed (x ∷ y ∷ []) [] h = tt
      linked_changed (x ∷ y ∷ []) (link ∷ links) h = absurd h
      linked_changed (x ∷ y ∷ z ∷ ases) [] h = absurd h
      linked_changed (x ∷ y ∷ z ∷ ases) (link ∷ links) h = (fits_changed link x y z h.0, linked_changed (y ∷ z ∷ ases) links h.1)

      walk_changed : (w : Walk) → Refutes (rows ++ A) w → RefutesWith givens A (with_given_links n numbers w)
      walk_changed w r =
          record { x = r.x; y = r.y; two = r.two; walk = linked_changed w.ases w.links r.walk; begins = r.begins; flips = r.flips; ends = r.ends }

    pub lost_changed : (m : ℕ) (A : Numbered) (paths : List (List ℕ)) (walks : List (Option Walk)) → AreUpTo n A → m + length paths ≤ n + 1 → LostFrom m (rows ++ A) paths walks →
        LostFromWith givens m A paths (map (option_map (with_given_links n numbers)) walks)
    lost_changed m A [] [] below le h = tt
    lost_changed m A [] (w ∷ walks) below le h = absurd h
    lost_changed m A (path ∷ paths) [] below le h = absurd h
    lost_changed m A (path ∷ paths) (None ∷ walks) below le h =
        lost_changed (m + 1) (A ++ (m, path) ∷ []) paths walks (up_to_more A m path (omega (arith, le)) below) (omega (arith, le))
        (subst (λ (B : Numbered). LostFrom (m + 1) B paths walks) (append_assoc rows A ((m, path) ∷ [])) h)
    lost_changed m A (path ∷ paths) (Some w ∷ walks) below le h = (
      walk_changed (A ++ (m, path) ∷ []) (up_to_more A m path (omega (arith, le)) below) w (subst (λ (B : Numbered). Refutes B w) (append_assoc rows A ((m, path) ∷ [])) h.0),
      lost_changed (m + 1) A paths walks below (omega (arith, le)) h.1,
    )
