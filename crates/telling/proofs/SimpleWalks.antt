-- What is in the closure of an order is reached from it by a walk on which no order stands twice.
use Rattle.std.proofs.Common.{◌≡◌, ℕ, zero, suc, ◌+◌, ◌-◌, ◌⊎◌, inl, inr, List, [], ◌∷◌, ◌++◌, length, map, Some, slice_get, refl, sym, ap, ◌∙◌, subst, arith, Contains}
use Rattle.std.proofs.lemmas.Bool.{cases_eq}
use Rattle.std.proofs.lemmas.List.Elements.{Contains-append_cases}
use Rattle.std.proofs.lemmas.Option.{same_Some, slice_get_within}
use Rattle.tor_arena.proofs.Gets.{Contains-from_has, has-from_Contains, slice_get-unmap}
use Rattle.relationships.specs.declared.given.Given.{Given}
use Rattle.relationships.specs.declared.walk.Link.{Link}
use Rattle.relationships.specs.declared.walk.Walk.{Walk}
use Rattle.relationships.specs.Evidence.{TripleAt, IsTriple, Closure, start, imply, Numbered, paths_of, BeginsWith, EndsWith}
use Rattle.relationships.specs.Givens.{return_of}
use Rattle.relationships.specs.GivenEvidence.{FitsWith, IsLinkedWith, served_with}
use Rattle.relationships.specs.Telling.{Leads}
use Rattle.relationships.proofs.GivenLemmas.{three_on}
use Rattle.telling.specs.Labelling.{HasStep}
use Rattle.telling.specs.Told.{IsWithoutLoop}

-- a triple of what is served has a link
pub link_of : (givens : List Given) (A : Numbered) (x y z : ℕ) → IsTriple (served_with givens (paths_of A)) x y z → (link : Link) × FitsWith givens A link x y z
link_of givens A x y z (path, there, (at, t)) = elim (Contains-append_cases (map return_of givens) (paths_of A) path there) [
  | inl i ↦ (
      let k = has-from_Contains (map return_of givens) path i in
      let g = slice_get-unmap return_of givens k.0 path k.1 in
      let three = three_on g.0.under g.0.over at x y z (subst (λ p. TripleAt p at x y z) (sym g.2) t) in
      let n : k.0 ≡ k.0 + 1 - 1 = omega arith in (
        record { path = 0; at = k.0 + 1 },
        inl (record {
          apart = refl;
          given = g.0;
          named = (omega arith, subst (λ m. slice_get givens m ≡ Some g.0) n g.1);
          first = three.0;
          second = three.1;
          third = three.2;
        }),
      )
      )
  | inr i ↦ (
      let k = has-from_Contains (paths_of A) path i in
      let p = slice_get-unmap (λ (q : ℕ × List ℕ). q.1) A k.0 path k.1 in (
        record { path = p.0.0; at = at },
        inr (path, subst (λ l. Contains A (p.0.0, l)) p.2 (Contains-from_has A p.0 (k.0, p.1)), t),
      )
      )
]

-- an order is on a walk, or isn't
find : (x y : ℕ) (ases : List ℕ) → ((i : ℕ) × HasStep ases i x y) ⊎ ((i : ℕ) → HasStep ases i x y → ⊥)
find x y [] = inr (λ i h. absurd (cc h.0))
find x y (a ∷ []) = inr none
  where
    none : (i : ℕ) → HasStep (a ∷ []) i x y → ⊥
    none i h = let lt = slice_get_within (a ∷ []) (i + 1) y h.1 in absurd (omega (arith, lt))
find x y (a ∷ b ∷ ases) = both (cases_eq a x) (cases_eq b y) (find x y (b ∷ ases))
  where
    Found : List ℕ → Type 0
    Found l = ((i : ℕ) × HasStep l i x y) ⊎ ((i : ℕ) → HasStep l i x y → ⊥)

    on : (i : ℕ) → HasStep (b ∷ ases) i x y → HasStep (a ∷ b ∷ ases) (suc i) x y
    on i h = let e : suc i + 1 ≡ suc (i + 1) = omega arith in (h.0, rw e h.1)

    back : (i : ℕ) → HasStep (a ∷ b ∷ ases) (suc i) x y → HasStep (b ∷ ases) i x y
    back i h = let e : suc i + 1 ≡ suc (i + 1) = omega arith in (h.0, subst (λ n. slice_get (a ∷ b ∷ ases) n ≡ Some y) e h.1)

    elsewhere : ((a ≡ x) × (b ≡ y) → ⊥) → Found (b ∷ ases) → Found (a ∷ b ∷ ases)
    elsewhere not (inl (i, h)) = inl (suc i, on i h)
    elsewhere not (inr none) = inr here
      where
        here : (i : ℕ) → HasStep (a ∷ b ∷ ases) i x y → ⊥
        here zero h = not (same_Some a x h.0, same_Some b y h.1)
        here (suc i) h = none i (back i h)

    both : (a ≡ x) ⊎ (a ≡ x → ⊥) → (b ≡ y) ⊎ (b ≡ y → ⊥) → Found (b ∷ ases) → Found (a ∷ b ∷ ases)
    both (inl e) (inl f) rest = inl (0, (ap (λ n. Some n) e, ap (λ n. Some n) f))
    both (inr n) d rest = elsewhere (λ p. n p.0) rest
    both (inl e) (inr n) rest = elsewhere (λ p. n p.1) rest

module _ (givens : List Given) (A : Numbered) (e f : ℕ) where
  -- a walk from "x over y" to "e over f" on which no order stands twice
  pub record SimpleFrom (x y : ℕ) : Type 0 where
    pub walk : Walk
    pub leads : Leads givens A walk x y e f
    pub without_loop : IsWithoutLoop walk

  simple : (x y : ℕ) (ases : List ℕ) (links : List Link) → IsLinkedWith givens A ases links → BeginsWith ases x y → EndsWith ases e f →
      ((i j a b : ℕ) → HasStep ases i a b → HasStep ases j a b → i ≡ j) → SimpleFrom x y
  simple x y ases links linked begins ends once = record {
    walk = record { ases = ases; links = links };
    leads = record { walk = linked; begins = begins; ends = ends };
    without_loop = once;
  }

  -- the part of a walk that begins with an order on it
  from_step : (i x y : ℕ) (ases : List ℕ) (links : List Link) → IsLinkedWith givens A ases links → EndsWith ases e f →
      ((i j a b : ℕ) → HasStep ases i a b → HasStep ases j a b → i ≡ j) → HasStep ases i x y → SimpleFrom x y
  from_step i x y [] links linked ends once h = absurd linked
  from_step i x y (a ∷ []) links linked ends once h = absurd linked
  from_step zero x y (a ∷ b ∷ ases) links linked ends once h =
      simple x y (a ∷ b ∷ ases) links linked (ases, begins (same_Some a x h.0) (same_Some b y h.1)) ends once
    where
      begins : a ≡ x → b ≡ y → a ∷ b ∷ ases ≡ x ∷ y ∷ ases
      begins p q = cc
  from_step (suc i) x y (a ∷ b ∷ []) links linked ends once h = let lt = slice_get_within (a ∷ b ∷ []) (suc i + 1) y h.1 in absurd (omega (arith, lt))
  from_step (suc i) x y (a ∷ b ∷ c ∷ ases) [] linked ends once h = absurd linked
  from_step (suc i) x y (a ∷ b ∷ c ∷ ases) (link ∷ links) linked ends once h =
      from_step i x y (b ∷ c ∷ ases) links linked.1 (later ends.0 ends.1)
      (λ i j p q s t. let n : suc i ≡ suc j = once (suc i) (suc j) p q (on i p q s) (on j p q t) in omega (arith, n))
      (h.0, subst (λ n. slice_get (a ∷ b ∷ c ∷ ases) n ≡ Some y) next h.1)
    where
      next : suc i + 1 ≡ suc (i + 1)
      next = omega arith

      on : (j p q : ℕ) → HasStep (b ∷ c ∷ ases) j p q → HasStep (a ∷ b ∷ c ∷ ases) (suc j) p q
      on j p q s = let n : suc j + 1 ≡ suc (j + 1) = omega arith in (s.0, rw n s.1)

      later : (before : List ℕ) → a ∷ b ∷ c ∷ ases ≡ before ++ (e ∷ f ∷ []) → EndsWith (b ∷ c ∷ ases) e f
      later [] is = let n : length (a ∷ b ∷ c ∷ ases) ≡ length (e ∷ f ∷ []) = ap length is in absurd (omega (arith, n))
      later (d ∷ before) is = (before, let t : b ∷ c ∷ ases ≡ before ++ (e ∷ f ∷ []) = cc in t)

  -- one link before it
  one_before : (x y z : ℕ) (link : Link) → FitsWith givens A link x y z → SimpleFrom y z → SimpleFrom x y
  one_before x y z link fits s = elim (find x y s.walk.ases) [
    | inl (i, h) ↦ from_step i x y s.walk.ases s.walk.links s.leads.walk s.leads.ends s.without_loop h
    | inr none ↦ simple x y (x ∷ s.walk.ases) (link ∷ s.walk.links)
        (subst (λ (l : List ℕ). IsLinkedWith givens A (x ∷ l) (link ∷ s.walk.links)) (sym begins)
        (fits, subst (λ (l : List ℕ). IsLinkedWith givens A l s.walk.links) begins s.leads.walk))
        (z ∷ s.leads.begins.0, ap (λ (l : List ℕ). x ∷ l) begins)
        (x ∷ s.leads.ends.0, ap (λ (l : List ℕ). x ∷ l) s.leads.ends.1)
        (once none)
  ]
    where
      begins : s.walk.ases ≡ y ∷ z ∷ s.leads.begins.0
      begins = s.leads.begins.1

      first : (a b : ℕ) → HasStep (x ∷ s.walk.ases) 0 a b → (x ≡ a) × (y ≡ b)
      first a b h = (same_Some x a h.0, same_Some y b (subst (λ (l : List ℕ). slice_get l 0 ≡ Some b) begins h.1))

      back : (i a b : ℕ) → HasStep (x ∷ s.walk.ases) (suc i) a b → HasStep s.walk.ases i a b
      back i a b h = let n : suc i + 1 ≡ suc (i + 1) = omega arith in (h.0, subst (λ m. slice_get (x ∷ s.walk.ases) m ≡ Some b) n h.1)

      new : ((i : ℕ) → HasStep s.walk.ases i x y → ⊥) → (i a b : ℕ) → HasStep (x ∷ s.walk.ases) 0 a b → HasStep (x ∷ s.walk.ases) (suc i) a b → ⊥
      new none i a b h t =
          let same = first a b h in
          let r = back i a b t in
          none i (subst (λ n. slice_get s.walk.ases i ≡ Some n) (sym same.0) r.0, subst (λ n. slice_get s.walk.ases (i + 1) ≡ Some n) (sym same.1) r.1)

      once : ((i : ℕ) → HasStep s.walk.ases i x y → ⊥) → (i j a b : ℕ) → HasStep (x ∷ s.walk.ases) i a b → HasStep (x ∷ s.walk.ases) j a b → i ≡ j
      once none zero zero a b h t = refl
      once none zero (suc j) a b h t = absurd (new none j a b h t)
      once none (suc i) zero a b h t = absurd (new none i a b t h)
      once none (suc i) (suc j) a b h t = ap suc (s.without_loop i j a b (back i a b h) (back j a b t))

  at_end : SimpleFrom e f
  at_end = simple e f (e ∷ f ∷ []) [] tt ([], refl) ([], refl) once
    where
      here : (i a b : ℕ) → HasStep (e ∷ f ∷ []) i a b → i ≡ 0
      here i a b h = let lt = slice_get_within (e ∷ f ∷ []) (i + 1) b h.1 in omega (arith, lt)

      once : (i j a b : ℕ) → HasStep (e ∷ f ∷ []) i a b → HasStep (e ∷ f ∷ []) j a b → i ≡ j
      once i j a b h t = here i a b h ∙ sym (here j a b t)

  along_closure : (a b : ℕ) {x y : ℕ} → Closure (served_with givens (paths_of A)) a b x y → SimpleFrom x y → SimpleFrom a b
  along_closure a b start s = s
  along_closure a b (imply {x = x} {y = y} {z = z} c t) s =
      let link = link_of givens A x y z t in
      along_closure a b c (one_before x y z link.0 link.1 s)

-- from an order to each in its closure
pub simple_walk : (givens : List Given) (A : Numbered) (a b e f : ℕ) → Closure (served_with givens (paths_of A)) a b e f → SimpleFrom givens A e f a b
simple_walk givens A a b e f c = along_closure givens A e f a b c (at_end givens A e f)
