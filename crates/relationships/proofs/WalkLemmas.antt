-- What walks show: the refuting law and the showing law.
use Rattle.std.proofs.Common.{◌≡◌, ◌≢◌, ℕ, ◌<◌, ◌≤◌, inl, inr, true, List, [], ◌∷◌, ◌++◌, length, map, refl, sym, ap, ◌∙◌, subst, arith, append_assoc, length-append, All, Contains}
use Rattle.std.proofs.lemmas.List.Elements.{All-contains, All-cons, All-nil, All-push}
use Rattle.std.proofs.lemmas.List.{get_or-map, length-map}
use Rattle.relationships.specs.declared.walk.Link.{Link}
use Rattle.relationships.specs.declared.walk.Walk.{Walk}
use Rattle.relationships.specs.Relationship.{Orientation, labels_of, is_over, Serves}
use Rattle.relationships.specs.Evidence.{TripleAt, IsTriple, NeighboursDiffer, Numbered, paths_of, Fits, IsLinked, HasPair, BeginsWith, EndsWith, Refutes, Shows, ShowFrom}
use Rattle.relationships.specs.Laws.Evidence.{RefutingLaw, ShowingLaw}
use Rattle.relationships.proofs.Slopes.{over_one_way, over_one_of}
use Rattle.relationships.proofs.Serving.{serves_satisfies}

pub Contains-paths_of : (A : Numbered) (n : ℕ) (path : List ℕ) → Contains A (n, path) → Contains (paths_of A) path
Contains-paths_of A n path c =
    let within : c.0 < length (map (λ (p : ℕ × List ℕ). p.1) A) = rw length-map c.1 in
    (c.0, within, get_or-map (λ (p : ℕ × List ℕ). p.1) A c.0 (n, path) path c.1 ∙ ap (λ (p : ℕ × List ℕ). p.1) c.2)

pub triple_of_fit : (A : Numbered) (link : Link) (x y z : ℕ) → Fits A link x y z → IsTriple (paths_of A) x y z
triple_of_fit A link x y z f = (f.0, Contains-paths_of A link.path f.0 f.1, (link.at, f.2))

too_short : (x y b : ℕ) (before : List ℕ) (u v : ℕ) (after : List ℕ) → x ∷ y ∷ [] ≡ b ∷ (before ++ (u ∷ v ∷ after)) → ⊥
too_short x y b before u v after e =
    let n : length (x ∷ y ∷ []) ≡ length (b ∷ (before ++ (u ∷ v ∷ after))) = ap length e in
    omega (arith, length-append before (u ∷ v ∷ after))

-- the rest of a walk is a walk
tail_linked : (A : Numbered) (b : ℕ) (rest : List ℕ) (links : List Link) → 2 ≤ length rest → IsLinked A (b ∷ rest) links →
    (links' : List Link) × IsLinked A rest links'
tail_linked A b [] links n h = absurd (omega arith)
tail_linked A b (c ∷ []) links n h = absurd (omega arith)
tail_linked A b (c ∷ d ∷ rest) [] n h = absurd h
tail_linked A b (c ∷ d ∷ rest) (link ∷ links) n h = (links, h.1)

rest_linked : (A : Numbered) (before : List ℕ) (u v : ℕ) (after : List ℕ) (links : List Link) → IsLinked A (before ++ (u ∷ v ∷ after)) links →
    (links' : List Link) × IsLinked A (u ∷ v ∷ after) links'
rest_linked A [] u v after links h = (links, h)
rest_linked A (b ∷ before) u v after links h =
    let t = tail_linked A b (before ++ (u ∷ v ∷ after)) links (omega (arith, length-append before (u ∷ v ∷ after))) h in
    rest_linked A before u v after t.0 t.1

ends_too : (before before' : List ℕ) (u v : ℕ) (after : List ℕ) (x y : ℕ) → before ++ (u ∷ v ∷ after) ≡ before' ++ (x ∷ y ∷ []) → EndsWith (u ∷ v ∷ after) x y
ends_too [] before' u v after x y e = (before', e)
ends_too (b ∷ before) [] u v after x y e = absurd (too_short x y b before u v after (sym e))
ends_too (b ∷ before) (c ∷ before') u v after x y e =
    let e' : before ++ (u ∷ v ∷ after) ≡ before' ++ (x ∷ y ∷ []) = cc in ends_too before before' u v after x y e'

module _ (O : Orientation) (A : Numbered) (serves : Serves O (paths_of A)) where
  -- along a walk each "over" is satisfied on
  satisfied_along : (x y : ℕ) (rest : List ℕ) (links : List Link) → IsLinked A (x ∷ y ∷ rest) links → is_over (labels_of O) x y ≡ true →
      (before : List ℕ) (u v : ℕ) (after : List ℕ) → x ∷ y ∷ rest ≡ before ++ (u ∷ v ∷ after) → is_over (labels_of O) u v ≡ true
  satisfied_along x y rest links h o [] u v after e =
      let e₁ : x ≡ u = cc in let e₂ : y ≡ v = cc in subst (λ w. is_over (labels_of O) w v ≡ true) e₁ (subst (λ w. is_over (labels_of O) x w ≡ true) e₂ o)
  satisfied_along x y [] links h o (b ∷ before) u v after e = absurd (too_short x y b before u v after e)
  satisfied_along x y (z ∷ rest) [] h o (b ∷ before) u v after e = absurd h
  satisfied_along x y (z ∷ rest) (link ∷ links) h o (b ∷ before) u v after e =
      let e' : y ∷ z ∷ rest ≡ before ++ (u ∷ v ∷ after) = cc in
      satisfied_along y z rest links h.1 (serves_satisfies O (paths_of A) serves x y z (triple_of_fit A link x y z h.0) o) before u v after e'

  along : (ases : List ℕ) (links : List Link) (x y u v : ℕ) → IsLinked A ases links → BeginsWith ases x y → is_over (labels_of O) x y ≡ true → HasPair ases u v → is_over (labels_of O) u v ≡ true
  along ases links x y u v h b o p =
      satisfied_along x y b.0 links (subst (λ l. IsLinked A l links) b.1 h) o p.0 u v p.1 (sym b.1 ∙ p.2)

  refuted : (w : Walk) → Refutes A w → ⊥
  refuted w r =
      elim (over_one_of O r.x r.y r.two) [
        | inl o ↦ over_one_way (labels_of O) r.x r.y o (along w.ases w.links r.x r.y r.y r.x r.walk r.begins o r.flips)
        | inr o ↦
            let back = rest_linked A r.flips.0 r.y r.x r.flips.1 w.links (subst (λ l. IsLinked A l w.links) r.flips.2 r.walk) in
            let end = ends_too r.flips.0 r.ends.0 r.y r.x r.flips.1 r.x r.y (sym r.flips.2 ∙ r.ends.1) in
            over_one_way (labels_of O) r.x r.y (satisfied_along r.y r.x r.flips.1 back.0 back.1 o end.0 r.x r.y [] end.1) o
      ]

pub refuting_law : RefutingLaw
refuting_law A w r O serves = refuted O A serves w r

-- the first two ASes of a triple differ
pub apart_at : (before : List ℕ) (x y : ℕ) (after : List ℕ) → NeighboursDiffer (before ++ (x ∷ y ∷ after)) → x ≢ y
apart_at before x y after h = h.differ x y (before, after, refl)

pub apart_next : (before : List ℕ) (x y z : ℕ) (after : List ℕ) → NeighboursDiffer (before ++ (x ∷ y ∷ z ∷ after)) → y ≢ z
apart_next before x y z after h =
    apart_at (before ++ (x ∷ [])) y z after (subst NeighboursDiffer (sym (append_assoc before (x ∷ []) (y ∷ z ∷ after))) h)

pub triple_apart : (path : List ℕ) (at x y z : ℕ) → NeighboursDiffer path → TripleAt path at x y z → x ≢ y
triple_apart path at x y z h (inl s) = apart_at s.before x y (z ∷ s.after) (subst NeighboursDiffer s.whole h)
triple_apart path at x y z h (inr s) = λ e. apart_next s.before z y x s.after (subst NeighboursDiffer s.whole h) (sym e)

-- a pair of two ASes, the first of which is over the second
abbrev IsOver : Orientation → ℕ × ℕ → Type 0
IsOver O p = p.0 ≢ p.1 → is_over (labels_of O) p.0 p.1 ≡ true

module _ (O : Orientation) (A : Numbered) (distinct : All NeighboursDiffer (paths_of A)) (serves : Serves O (paths_of A)) where
  -- the only walk over paths without equal neighbours that begins with one AS twice is the walk of that AS twice
  not_twice : (c d : ℕ) (after : List ℕ) (links : List Link) (a b : ℕ) → IsLinked A (c ∷ d ∷ after) links → EndsWith (c ∷ d ∷ after) a b → a ≢ b → c ≢ d
  not_twice c d [] links a b h (before, e) ne = ends_twice before e
    where
      ends_twice : (before : List ℕ) → c ∷ d ∷ [] ≡ before ++ (a ∷ b ∷ []) → c ≢ d
      ends_twice [] e = λ same. ne (cc)
      ends_twice (x ∷ before) e = absurd (too_short c d x before a b [] e)
  not_twice c d (z ∷ after) [] a b h e ne = absurd h
  not_twice c d (z ∷ after) (link ∷ links) a b h e ne =
      let t = triple_of_fit A link c d z h.0 in
      triple_apart t.0 t.2.0 c d z (All-contains NeighboursDiffer (paths_of A) t.0 distinct t.1) t.2.1

  shows_over : (shown : List (ℕ × ℕ)) (w : Walk) (a b : ℕ) → All (IsOver O) shown → Shows A shown w a b → a ≢ b → is_over (labels_of O) a b ≡ true
  shows_over shown w a b before s ne =
      elim s.begins [
        | inl begins ↦ elim (over_one_of O a b ne) [
          | inl o ↦ o
          | inr o ↦ along O A serves w.ases w.links b a a b s.walk begins o (s.ends.0, [], s.ends.1)
        ]
        | inr from ↦
            let apart = not_twice from.0 from.1 from.2.0 w.links a b (subst (λ l. IsLinked A l w.links) from.2.1 s.walk) (s.ends.0, sym from.2.1 ∙ s.ends.1) ne in
            let o = All-contains (IsOver O) shown (from.0, from.1) before from.3 apart in
            along O A serves w.ases w.links from.0 from.1 a b s.walk from.2 o (s.ends.0, [], s.ends.1)
      ]

  show_over : (shown : List (ℕ × ℕ)) (walks : List Walk) (orders : List (ℕ × ℕ)) → All (IsOver O) shown → ShowFrom A shown walks orders → All (IsOver O) orders
  show_over shown [] [] before h = All-nil (IsOver O)
  show_over shown [] (p ∷ orders) before h = absurd h
  show_over shown (w ∷ walks) [] before h = absurd h
  show_over shown (w ∷ walks) ((a, b) ∷ orders) before h =
      let o = shows_over shown w a b before h.0 in
      All-cons (IsOver O) (a, b) orders o (show_over (shown ++ (a, b) ∷ []) walks orders (All-push (IsOver O) shown (a, b) before o) h.1)

pub showing_law : ShowingLaw
showing_law A walks orders distinct h O serves a b ne c =
    All-contains (IsOver O) orders (a, b) (show_over O A distinct serves [] walks orders (All-nil (IsOver O)) h) c ne
