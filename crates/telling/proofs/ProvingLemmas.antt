-- What walks prove holds in every orientation that serves.
use Rattle.std.proofs.Common.{◌≡◌, ◌≢◌, ℕ, ◌-◌, inl, inr, true, List, [], ◌∷◌, ◌++◌, length, map, refl, sym, ap, ◌∙◌, subst, arith, length-append, All, Contains}
use Rattle.std.proofs.lemmas.Option.{get_or_from_slice_get, slice_get_within}
use Rattle.std.proofs.lemmas.List.Elements.{All-append, All-contains, All-from_recursion, recursion_from_All, Contains-append_left, Contains-append_right}
use Rattle.std.specs.List.{AllByRecursion}
use Rattle.tor_arena.proofs.Gets.{Contains-map}
use Rattle.relationships.specs.declared.given.Given.{Given}
use Rattle.relationships.specs.declared.walk.Link.{Link}
use Rattle.relationships.specs.declared.walk.Walk.{Walk}
use Rattle.relationships.specs.Relationship.{Orientation, labels_of, is_over, Serves}
use Rattle.relationships.specs.Evidence.{StandAt, IsTriple, NeighboursDiffer, Numbered, paths_of}
use Rattle.relationships.specs.Givens.{return_of, NameTwo}
use Rattle.relationships.specs.GivenEvidence.{FitsWith, IsLinkedWith, served_with}
use Rattle.relationships.proofs.Slopes.{over_one_of}
use Rattle.relationships.proofs.Serving.{serves_satisfies}
use Rattle.relationships.proofs.WalkLemmas.{triple_of_fit, triple_apart}
use Rattle.relationships.proofs.GivenLemmas.{return_differs}
use Rattle.relationships.specs.Telling.{Leads, LeadOn}
use Rattle.telling.specs.Laws.Telling.{ProvingLaw}

pub stand_on : (g : Given) (x y z : ℕ) → x ≡ g.under → y ≡ g.over → z ≡ g.under → StandAt (return_of g) 2 x y z
stand_on g x y z e f h = record {
  before = [];
  after = [];
  whole = ap (λ n. n ∷ g.over ∷ g.under ∷ []) (sym e) ∙ ap (λ n. x ∷ n ∷ g.under ∷ []) (sym f) ∙ ap (λ n. x ∷ y ∷ n ∷ []) (sym h);
  place = refl;
}

-- what a link names is a triple of what is served
pub triple_served : (givens : List Given) (A : Numbered) (link : Link) (x y z : ℕ) → FitsWith givens A link x y z → IsTriple (served_with givens (paths_of A)) x y z
triple_served givens A link x y z (inl r) =
    let g = r.given in
    let at = r.named.1 in
    let there : Contains givens g = (link.at - 1, slice_get_within givens (link.at - 1) g at, get_or_from_slice_get givens (link.at - 1) g g at) in
    (return_of g, Contains-append_left (map return_of givens) (paths_of A) (return_of g) (Contains-map return_of givens g there), (2, inl (stand_on g x y z r.first r.second r.third)))
triple_served givens A link x y z (inr f) =
    let t = triple_of_fit A link x y z f in
    (t.0, Contains-append_right (map return_of givens) (paths_of A) t.0 t.1, t.2)

returns_differ : (givens : List Given) → AllByRecursion (λ g. g.over ≢ g.under) givens → AllByRecursion NeighboursDiffer (map return_of givens)
returns_differ [] h = tt
returns_differ (g ∷ givens) h = (return_differs g h.0, returns_differ givens h.1)

pub served_differ : (givens : List Given) (paths : List (List ℕ)) → NameTwo givens → All NeighboursDiffer paths → All NeighboursDiffer (served_with givens paths)
served_differ givens paths two differ =
    All-append NeighboursDiffer (map return_of givens) paths
    (All-from_recursion NeighboursDiffer (map return_of givens) (returns_differ givens (recursion_from_All (λ g. g.over ≢ g.under) givens two))) differ

too_short : (x y b : ℕ) (before : List ℕ) (u v : ℕ) → x ∷ y ∷ [] ≡ b ∷ (before ++ (u ∷ v ∷ [])) → ⊥
too_short x y b before u v e =
    let n : length (x ∷ y ∷ []) ≡ length (b ∷ (before ++ (u ∷ v ∷ []))) = ap length e in
    omega (arith, length-append before (u ∷ v ∷ []))

module _ (givens : List Given) (A : Numbered) where
  -- what goes on along each link goes on along a walk
  module _ (P : ℕ → ℕ → Type 0) (on : (link : Link) (x y z : ℕ) → FitsWith givens A link x y z → P x y → P y z) where
    pub carried : (x y : ℕ) (rest : List ℕ) (links : List Link) → IsLinkedWith givens A (x ∷ y ∷ rest) links → P x y →
        (before : List ℕ) (a b : ℕ) → x ∷ y ∷ rest ≡ before ++ (a ∷ b ∷ []) → P a b
    carried x y rest links h p [] a b e =
        let e₁ : x ≡ a = cc in let e₂ : y ≡ b = cc in subst (λ w. P w b) e₁ (subst (λ w. P x w) e₂ p)
    carried x y [] links h p (c ∷ before) a b e = absurd (too_short x y c before a b e)
    carried x y (z ∷ rest) [] h p (c ∷ before) a b e = absurd h
    carried x y (z ∷ rest) (link ∷ links) h p (c ∷ before) a b e =
        let e' : y ∷ z ∷ rest ≡ before ++ (a ∷ b ∷ []) = cc in
        carried y z rest links h.1 (on link x y z h.0 p) before a b e'

    pub along : (w : Walk) (c d e f : ℕ) → Leads givens A w c d e f → P c d → P e f
    along w c d e f l p =
        carried c d l.begins.0 w.links (subst (λ ases. IsLinkedWith givens A ases w.links) l.begins.1 l.walk) p l.ends.0 e f (sym l.begins.1 ∙ l.ends.1)

  module _ (differ : All NeighboursDiffer (served_with givens (paths_of A))) where
    -- a walk that ends with two ASes begins with two
    apart_first : (x y : ℕ) (rest : List ℕ) (links : List Link) → IsLinkedWith givens A (x ∷ y ∷ rest) links →
        (before : List ℕ) (a b : ℕ) → x ∷ y ∷ rest ≡ before ++ (a ∷ b ∷ []) → a ≢ b → x ≢ y
    apart_first x y [] links h [] a b e ne = λ same. ne (cc (e, same))
    apart_first x y [] links h (c ∷ before) a b e ne = absurd (too_short x y c before a b e)
    apart_first x y (z ∷ rest) [] h before a b e ne = absurd h
    apart_first x y (z ∷ rest) (link ∷ links) h before a b e ne =
        let t = triple_served givens A link x y z h.0 in
        triple_apart t.0 t.2.0 x y z (All-contains NeighboursDiffer (served_with givens (paths_of A)) t.0 differ t.1) t.2.1

    apart_before : (w : Walk) (c d e f : ℕ) → Leads givens A w c d e f → e ≢ f → c ≢ d
    apart_before w c d e f l ne =
        apart_first c d l.begins.0 w.links (subst (λ ases. IsLinkedWith givens A ases w.links) l.begins.1 l.walk) l.ends.0 e f (sym l.begins.1 ∙ l.ends.1) ne

    apart_on : (walks : List Walk) (c d a b : ℕ) → LeadOn givens A walks c d a b → a ≢ b → c ≢ d
    apart_on [] c d a b h ne = λ same. ne (sym h.0 ∙ same ∙ h.1)
    apart_on (w ∷ walks) c d a b (e, f, l, h) ne = apart_before w c d e f l (apart_on walks e f a b h ne)

  module _ (O : Orientation) (serves : Serves O (served_with givens (paths_of A))) where
    abbrev Over : ℕ → ℕ → Type 0
    Over x y = is_over (labels_of O) x y ≡ true

    goes_on : (link : Link) (x y z : ℕ) → FitsWith givens A link x y z → Over x y → Over y z
    goes_on link x y z f o = serves_satisfies O (served_with givens (paths_of A)) serves x y z (triple_served givens A link x y z f) o

    over_on : (walks : List Walk) (c d a b : ℕ) → LeadOn givens A walks c d a b → Over c d → Over a b
    over_on [] c d a b h o = subst (λ w. Over w b) h.0 (subst (λ w. Over c w) h.1 o)
    over_on (w ∷ walks) c d a b (e, f, l, h) o = over_on walks e f a b h (along Over goes_on w c d e f l o)

pub proving_law : ProvingLaw
proving_law givens A [] a b two differ h ne O serves = absurd h
proving_law givens A (w ∷ walks) a b two differ (c, d, l, h) ne O serves =
    over_on givens A O serves walks c d a b h first
  where
    apart : c ≢ d
    apart = apart_on givens A (served_differ givens (paths_of A) two differ) walks c d a b h ne

    first : is_over (labels_of O) c d ≡ true
    first = elim (over_one_of O c d apart) [
      | inl o ↦ o
      | inr o ↦ along givens A (Over givens A O serves) (goes_on givens A O serves) w d c c d l o
    ]
