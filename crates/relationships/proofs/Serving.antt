-- The serving law.
use Rattle.std.proofs.Common.{◌≡◌, ◌≢◌, ℕ, zero, suc, ◌+◌, ◌-◌, ◌<◌, inl, inr, true, List, [], ◌∷◌, ◌++◌, length, get_or, refl, sym, ap, ◌∙◌, subst, arith, append_assoc, All}
use Rattle.std.proofs.lemmas.List.Elements.{All-contains, All-weaker, Contains-get_or, All-from_get_or}
use Rattle.tor_arena.specs.Distinct.{AllDistinct}
use Rattle.relationships.specs.Relationship.{Orientation, Labelling, labels_of, is_over, Slope, Up, Down, slope, slopes_from, slopes, ValleyFree, Serves}
use Rattle.relationships.specs.Evidence.{StandAt, TripleAt, HasPair, NeighboursDiffer}
use Rattle.relationships.specs.Laws.Serving.{SatisfiesTriples, ServingLaw}
use Rattle.relationships.proofs.Slopes.{slope-up, slope-down, over-up, over-down, over_one_of, Falls, Free, Free-from_valley_free, ValleyFree-from_free}

-- behind a down there are only downs
down_then_down : (pre : List Slope) (s t : Slope) (post : List Slope) → Free (pre ++ (s ∷ t ∷ post)) → s ≡ Down → t ≡ Down
down_then_down [] s t post (inl p) e = absurd (cc p.0)
down_then_down [] s t post (inr f) e = f.0
down_then_down (u ∷ pre) s t post (inl p) e = down_then_down pre s t post p.1 e
down_then_down (u ∷ pre) s t post (inr f) e = falls_at pre s t post f
  where
    falls_at : (pre : List Slope) (s t : Slope) (post : List Slope) → Falls (pre ++ (s ∷ t ∷ post)) → t ≡ Down
    falls_at [] s t post h = h.1.0
    falls_at (u ∷ pre) s t post h = falls_at pre s t post h.1

-- before an up there are only ups
up_before_up : (pre : List Slope) (s t : Slope) (post : List Slope) → Free (pre ++ (s ∷ t ∷ post)) → t ≡ Up → s ≡ Up
up_before_up [] s t post (inl p) e = p.0
up_before_up [] s t post (inr f) e = absurd (cc f.0)
up_before_up (u ∷ pre) s t post (inl p) e = up_before_up pre s t post p.1 e
up_before_up (u ∷ pre) s t post (inr f) e = absurd (not_up pre s t post f e)
  where
    not_up : (pre : List Slope) (s t : Slope) (post : List Slope) → Falls (pre ++ (s ∷ t ∷ post)) → t ≡ Up → ⊥
    not_up [] s t post h e = cc h.1.0
    not_up (u ∷ pre) s t post h e = not_up pre s t post h.1 e

-- the two steps of three consecutive ASes, among the steps of their path
steps_at : (L : Labelling) (a : ℕ) (before : List ℕ) (x y z : ℕ) (after : List ℕ) →
    (pre : List Slope) × (slopes_from L a (before ++ (x ∷ y ∷ z ∷ after)) ≡ pre ++ (slope L x y ∷ slope L y z ∷ slopes_from L z after))
steps_at L a [] x y z after = (slope L a x ∷ [], refl)
steps_at L a (b ∷ before) x y z after =
    let h = steps_at L b before x y z after in (slope L a b ∷ h.0, ap (λ (l : List Slope). slope L a b ∷ l) h.1)

steps_in : (L : Labelling) (path : List ℕ) (at x y z : ℕ) → StandAt path at x y z →
    (pre : List Slope) × (post : List Slope) × (slopes L path ≡ pre ++ (slope L x y ∷ slope L y z ∷ post))
steps_in L path at x y z s =
    let h = whole_steps s.before in (h.0, slopes_from L z s.after, ap (slopes L) s.whole ∙ h.1)
  where
    whole_steps : (before : List ℕ) →
        (pre : List Slope) × (slopes L (before ++ (x ∷ y ∷ z ∷ s.after)) ≡ pre ++ (slope L x y ∷ slope L y z ∷ slopes_from L z s.after))
    whole_steps [] = ([], refl)
    whole_steps (a ∷ before) = steps_at L a before x y z s.after

-- on a valley-free path each "over" is satisfied on along the triples
pub satisfied : (L : Labelling) (path : List ℕ) (at x y z : ℕ) → ValleyFree L path → TripleAt path at x y z → is_over L x y ≡ true → is_over L y z ≡ true
satisfied L path at x y z v (inl s) h =
    let st = steps_in L path at x y z s in
    let free = subst Free st.2 (Free-from_valley_free L path v) in
    over-down L y z (down_then_down st.0 (slope L x y) (slope L y z) st.1 free (slope-down L x y h))
satisfied L path at x y z v (inr s) h =
    let st = steps_in L path at z y x s in
    let free = subst Free st.2 (Free-from_valley_free L path v) in
    over-up L z y (up_before_up st.0 (slope L z y) (slope L y x) st.1 free (slope-up L y x h))

-- each AS of the path differs from the next
abbrev pub Apart : ℕ → List ℕ → Type 0
Apart a [] = Unit {0}
Apart a (b ∷ path) = (a ≢ b) × Apart b path

pub AllDistinct-tail : (a : ℕ) (path : List ℕ) → AllDistinct (a ∷ path) → AllDistinct path
AllDistinct-tail a path h = λ i j d lt within. h (suc i) (suc j) d (omega arith) (omega arith)

pub NeighboursDiffer-tail : (a : ℕ) (path : List ℕ) → NeighboursDiffer (a ∷ path) → NeighboursDiffer path
NeighboursDiffer-tail a path h = record { differ = λ x y p. h.differ x y (a ∷ p.0, p.1, ap (λ (l : List ℕ). a ∷ l) p.2) }

pub Apart-from_differing : (a : ℕ) (path : List ℕ) → NeighboursDiffer (a ∷ path) → Apart a path
Apart-from_differing a [] h = tt
Apart-from_differing a (b ∷ path) h =
    (h.differ a b ([], path, refl), Apart-from_differing b path (NeighboursDiffer-tail a (b ∷ path) h))

-- distinct ASes differ from their neighbours
distinct_pair : (before : List ℕ) (x y : ℕ) (after : List ℕ) → AllDistinct (before ++ (x ∷ y ∷ after)) → x ≢ y
distinct_pair [] x y after h = h 0 1 x (omega arith) (omega arith)
distinct_pair (b ∷ before) x y after h = distinct_pair before x y after (AllDistinct-tail b (before ++ (x ∷ y ∷ after)) h)

pub differ_if_distinct : (path : List ℕ) → AllDistinct path → NeighboursDiffer path
differ_if_distinct path h = record { differ = λ x y p. distinct_pair p.0 x y p.1 (subst AllDistinct p.2 h) }

pair_at : (path : List ℕ) (k d : ℕ) → suc k < length path → HasPair path (get_or path k d) (get_or path (suc k) d)
pair_at [] k d lt = absurd (omega (arith, lt))
pair_at (a ∷ []) k d lt = absurd (omega (arith, lt))
pair_at (a ∷ b ∷ path) zero d lt = ([], path, refl)
pair_at (a ∷ b ∷ path) (suc k) d lt =
    let p = pair_at (b ∷ path) k d (omega (arith, lt)) in (a ∷ p.0, p.1, ap (λ (l : List ℕ). a ∷ l) p.2)

-- two ASes at places that follow each other differ
pub differ_at : (path : List ℕ) (k d : ℕ) → NeighboursDiffer path → suc k < length path → get_or path k d ≢ get_or path (suc k) d
differ_at path k d h lt = h.differ (get_or path k d) (get_or path (suc k) d) (pair_at path k d lt)

pub differ_before : (path : List ℕ) (k d : ℕ) → NeighboursDiffer path → 0 < k → k < length path → get_or path (k - 1) d ≢ get_or path k d
differ_before path zero d h pos lt = absurd (omega (arith, pos))
differ_before path (suc k) d h pos lt = let e : suc k - 1 ≡ k = omega arith in rw e (differ_at path k d h lt)

pub all_differ_if_distinct : (paths : List (List ℕ)) → All AllDistinct paths → All NeighboursDiffer paths
all_differ_if_distinct paths h = All-weaker AllDistinct NeighboursDiffer differ_if_distinct paths h

module _ (O : Orientation) where
  -- each "over" is satisfied on along the path
  abbrev Satisfied : ℕ → List ℕ → Type 0
  Satisfied a [] = Unit {0}
  Satisfied a (b ∷ []) = Unit {0}
  Satisfied a (b ∷ c ∷ path) = (is_over (labels_of O) a b ≡ true → is_over (labels_of O) b c ≡ true) × Satisfied b (c ∷ path)

  falls_on : (a b : ℕ) (path : List ℕ) → Satisfied a (b ∷ path) → is_over (labels_of O) a b ≡ true → Falls (slopes_from (labels_of O) b path)
  falls_on a b [] h o = tt
  falls_on a b (c ∷ path) h o = (slope-down (labels_of O) b c (h.0 o), falls_on b c path h.1 (h.0 o))

  tail_satisfied : (a b : ℕ) (path : List ℕ) → Satisfied a (b ∷ path) → Satisfied b path
  tail_satisfied a b [] h = tt
  tail_satisfied a b (c ∷ path) h = h.1

  free_from_satisfied : (a : ℕ) (path : List ℕ) → Apart a path → Satisfied a path → Free (slopes_from (labels_of O) a path)
  free_from_satisfied a [] ap h = tt
  free_from_satisfied a (b ∷ path) ap h =
      elim (over_one_of O a b ap.0) [
        | inl o ↦ inr (falls_on a b path h o)
        | inr o ↦ inl (slope-up (labels_of O) a b o, free_from_satisfied b path ap.1 (tail_satisfied a b path h))
      ]

  satisfied_from_triples : (a : ℕ) (path before : List ℕ) →
      ((at x y z : ℕ) → StandAt (before ++ (a ∷ path)) at x y z → is_over (labels_of O) x y ≡ true → is_over (labels_of O) y z ≡ true) → Satisfied a path
  satisfied_from_triples a [] before h = tt
  satisfied_from_triples a (b ∷ []) before h = tt
  satisfied_from_triples a (b ∷ c ∷ path) before h = (
    h (length before + 2) a b c (record { before = before; after = path; whole = refl; place = refl }),
    satisfied_from_triples b (c ∷ path) (before ++ (a ∷ []))
        (λ at x y z s. h at x y z (record { before = s.before; after = s.after; whole = sym (append_assoc before (a ∷ []) (b ∷ c ∷ path)) ∙ s.whole; place = s.place })),
  )

  valley_free_from_triples : (path : List ℕ) → NeighboursDiffer path →
      ((at x y z : ℕ) → StandAt path at x y z → is_over (labels_of O) x y ≡ true → is_over (labels_of O) y z ≡ true) → ValleyFree (labels_of O) path
  valley_free_from_triples [] apart h = (0, 0, inl refl)
  valley_free_from_triples (a ∷ path) apart h =
      ValleyFree-from_free (labels_of O) (a ∷ path) (free_from_satisfied a path (Apart-from_differing a path apart) (satisfied_from_triples a path [] h))

  pub serves_satisfies : (paths : List (List ℕ)) → Serves O paths → SatisfiesTriples O paths
  serves_satisfies paths s x y z t o =
      satisfied (labels_of O) t.0 t.2.0 x y z (All-contains (ValleyFree (labels_of O)) paths t.0 s t.1) t.2.1 o

  pub satisfies_serves : (paths : List (List ℕ)) → All NeighboursDiffer paths → SatisfiesTriples O paths → Serves O paths
  satisfies_serves paths apart c =
      All-from_get_or (ValleyFree (labels_of O)) paths []
      (λ i within. valley_free_from_triples (get_or paths i []) (apart i [] within)
      (λ at x y z s o. c x y z (get_or paths i [], Contains-get_or paths i [] within, (at, inl s)) o))

pub serving_law : ServingLaw
serving_law O paths apart = (serves_satisfies O paths, satisfies_serves O paths apart)
