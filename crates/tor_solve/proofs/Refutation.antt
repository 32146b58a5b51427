-- The refutation law. Each order gets a number that says which orders lead to it. These numbers never fall along a triple, and
-- opposite orders have the same number only if each leads to the other.
use Rattle.std.proofs.Common.{◌≡◌, ◌≢◌, ℕ, zero, suc, ◌+◌, ◌*◌, ◌≤◌, ◌⊎◌, inl, inr, List, [], ◌∷◌, refl, sym, ap, subst, arith, All, Contains}
use Rattle.std.proofs.lemmas.List.Elements.{All-contains}
use Rattle.relationships.specs.declared.walk.Link.{Link}
use Rattle.relationships.specs.declared.walk.Walk.{Walk}
use Rattle.relationships.specs.Evidence.{NeighboursDiffer, HasPair, Numbered, paths_of, Refutes, Closure, start, imply}
use Rattle.relationships.specs.Selection.{IsServable}
use Rattle.relationships.specs.Laws.Components.{IsRanked, ranked}
use Rattle.relationships.proofs.WalkLemmas.{triple_apart, refuting_law}
use Rattle.relationships.proofs.Ranks.{rank_law}
use Rattle.tor_solve.specs.Laws.{RefutationLaw}
use Rattle.tor_clauses.specs.Leading.{Leads}
use Rattle.tor_clauses.proofs.Leadings.{leads_start, with_step, leads_step, HasPair-more, refutes}
use Rattle.tor_solve.proofs.Arcs.{Arc, In, arcs_of, has_arc, is_triple, decided_law}

-- 1 for a decision that it holds, 0 for one that it does not
abbrev digit : {P : Type 0} → P ⊎ (P → ⊥) → ℕ
digit (inl p) = 1
digit (inr n) = 0

digit_small : {P : Type 0} (d : P ⊎ (P → ⊥)) → digit d ≤ 1
digit_small (inl p) = omega arith
digit_small (inr n) = omega arith

digit_rises : {P Q : Type 0} (d : P ⊎ (P → ⊥)) (d' : Q ⊎ (Q → ⊥)) → (P → Q) → digit d ≤ digit d'
digit_rises (inl p) (inl q) f = omega arith
digit_rises (inl p) (inr n) f = absurd (n (f p))
digit_rises (inr n) d' f = omega arith

digit_holds : {P Q : Type 0} (d : P ⊎ (P → ⊥)) (d' : Q ⊎ (Q → ⊥)) → digit d ≡ digit d' → P → Q
digit_holds d (inl q) e p = q
digit_holds (inl p) (inr n) e h = absurd (omega (arith, e))
digit_holds (inr n) (inr n') e h = absurd (n h)

module _ (paths : List (List ℕ)) where
  -- which of these orders and of their opposites lead to "y over z"
  abbrev code : List Arc → ℕ → ℕ → ℕ
  code [] y z = 0
  code (e ∷ es) y z = digit (decided_law paths e.0 e.1 y z) + 2 * digit (decided_law paths e.1 e.0 y z) + 4 * code es y z

  code_rises : (es : List Arc) (x y y' z : ℕ) → ((a b : ℕ) → Closure paths a b x y → Closure paths a b y' z) → code es x y ≤ code es y' z
  code_rises [] x y y' z f = omega arith
  code_rises (e ∷ es) x y y' z f =
      let p = digit_rises (decided_law paths e.0 e.1 x y) (decided_law paths e.0 e.1 y' z) (f e.0 e.1) in
      let q = digit_rises (decided_law paths e.1 e.0 x y) (decided_law paths e.1 e.0 y' z) (f e.1 e.0) in
      let r = code_rises es x y y' z f in
      omega arith

  -- the same number: the same orders lead there
  code_same : (es : List Arc) (y z y' z' : ℕ) → code es y z ≡ code es y' z' → (a b c : ℕ) → In a b c es →
      (Closure paths a b y z → Closure paths a b y' z') × (Closure paths b a y' z' → Closure paths b a y z)
  code_same [] y z y' z' e a b c h = absurd h
  code_same (f ∷ es) y z y' z' e a b c h =
      let d = decided_law paths f.0 f.1 y z in let d' = decided_law paths f.0 f.1 y' z' in
      let g = decided_law paths f.1 f.0 y z in let g' = decided_law paths f.1 f.0 y' z' in
      let i = digit_small d in let i' = digit_small d' in let j = digit_small g in let j' = digit_small g' in
      let there : digit d ≡ digit d' = omega (arith, e) in
      let back : digit g' ≡ digit g = omega (arith, e) in
      let rest : code es y z ≡ code es y' z' = omega (arith, e) in
      elim h [
        | inl k ↦ moved k.0 k.1 (digit_holds d d' there, digit_holds g' g back)
        | inr k ↦ code_same es y z y' z' rest a b c k
      ]
    where
      moved : f.0 ≡ a → f.1 ≡ b → (Closure paths f.0 f.1 y z → Closure paths f.0 f.1 y' z') × (Closure paths f.1 f.0 y' z' → Closure paths f.1 f.0 y z) →
          (Closure paths a b y z → Closure paths a b y' z') × (Closure paths b a y' z' → Closure paths b a y z)
      moved p q h =
          subst (λ u. (Closure paths u b y z → Closure paths u b y' z') × (Closure paths b u y' z' → Closure paths b u y z)) p
          (subst (λ u. (Closure paths f.0 u y z → Closure paths f.0 u y' z') × (Closure paths u f.0 y' z' → Closure paths u f.0 y z)) q h)

  -- each of the two orders leads to the other
  abbrev Flips : ℕ → ℕ → Type 0
  Flips x y = Closure paths x y y x × Closure paths y x x y

  -- two orders of one of these arcs that flip, or none
  flipping : (es : List Arc) →
      ((x y z : ℕ) × In x y z es × Flips x y) ⊎ ((x y z : ℕ) → In x y z es → Flips x y → ⊥)
  flipping [] = inr (λ x y z h t. h)
  flipping (e ∷ es) = one_of (decided_law paths e.0 e.1 e.1 e.0) (decided_law paths e.1 e.0 e.0 e.1) (flipping es)
    where
      moved : (x y : ℕ) → e.0 ≡ x → e.1 ≡ y → Flips x y → Flips e.0 e.1
      moved x y p q t = subst (λ u. Flips u e.1) (sym p) (subst (λ u. Flips x u) (sym q) t)

      none : (Flips e.0 e.1 → ⊥) → ((x y z : ℕ) → In x y z es → Flips x y → ⊥) → (x y z : ℕ) → In x y z (e ∷ es) → Flips x y → ⊥
      none n ns x y z (inl h) t = n (moved x y h.0 h.1 t)
      none n ns x y z (inr h) t = ns x y z h t

      Found : List Arc → Type 0
      Found es = (x y z : ℕ) × In x y z es × Flips x y

      one_of : Closure paths e.0 e.1 e.1 e.0 ⊎ (Closure paths e.0 e.1 e.1 e.0 → ⊥) → Closure paths e.1 e.0 e.0 e.1 ⊎ (Closure paths e.1 e.0 e.0 e.1 → ⊥) →
          ((x y z : ℕ) × In x y z es × Flips x y) ⊎ ((x y z : ℕ) → In x y z es → Flips x y → ⊥) →
          ((x y z : ℕ) × In x y z (e ∷ es) × Flips x y) ⊎ ((x y z : ℕ) → In x y z (e ∷ es) → Flips x y → ⊥)
      one_of (inl t) (inl b) rest = inl (e.0, e.1, e.2, inl (refl, refl, refl), (t, b))
      one_of d d' (inl (x, y, z, h, t)) = inl (x, y, z, inr h, t)
      one_of (inr n) d (inr ns) = inr (none (λ t. n t.0) ns)
      one_of (inl t) (inr n) (inr ns) = inr (none (λ t. n t.1) ns)

  -- where no orders flip, the numbers are ranks
  are_ranks : ((x y z : ℕ) → In x y z (arcs_of paths) → Flips x y → ⊥) → IsRanked paths (code (arcs_of paths))
  are_ranks none = record {
    along = λ x y z t. code_rises (arcs_of paths) x y y z (λ a b c. imply c t);
    apart = λ x y z t e.
        let arc = has_arc paths x y z t in
        let h = code_same (arcs_of paths) x y y x e x y z arc in
        none x y z arc (h.0 start, h.1 start);
  }

-- ---- a closure as a walk

numbered : (A : Numbered) (path : List ℕ) → Contains (paths_of A) path → (n : ℕ) × Contains A (n, path)
numbered [] path (k, lt, e) = absurd (omega (arith, lt))
numbered (p ∷ A) path (zero, lt, e) = (p.0, (0, omega arith, ap (λ l. (p.0, l)) e))
numbered (p ∷ A) path (suc k, lt, e) = later (numbered A path (k, omega (arith, lt), e))
  where
    later : (n : ℕ) × Contains A (n, path) → (n : ℕ) × Contains (p ∷ A) (n, path)
    later (n, (k, lt, e)) = (n, (suc k, omega (arith, lt), e))

-- the walk goes on to "y over z", and keeps the neighbours that it has
pub record Onward (A : Numbered) (w : Walk) (a b y z : ℕ) : Type 0 where
  pub further : Walk
  pub leads : Leads A further a b y z
  pub kept : (u v : ℕ) → HasPair w.ases u v → HasPair further.ases u v

pub go_on : (A : Numbered) (w : Walk) (a b c d : ℕ) → Leads A w a b c d → {y z : ℕ} → Closure (paths_of A) c d y z → Onward A w a b y z
go_on A w a b c d h start = record { further = w; leads = h; kept = λ u v p. p }
go_on A w a b c d h (imply {x = x} {y = y} {z = z} k t) = one_more (go_on A w a b c d h k)
  where
    one_more : Onward A w a b x y → Onward A w a b y z
    one_more g =
        let n = numbered A t.0 t.1 in
        let link : Link = record { path = n.0; at = t.2.0 } in
        record {
          further = with_step g.further z link;
          leads = leads_step A g.further a b x y z link g.leads (t.0, n.1, t.2.1);
          kept = λ u v p. HasPair-more g.further.ases (z ∷ []) u v (g.kept u v p);
        }

refuting_walk : (A : Numbered) (x y : ℕ) → x ≢ y → Flips (paths_of A) x y → (w : Walk) × Refutes A w
refuting_walk A x y two t =
    let first : Walk = record { ases = x ∷ y ∷ []; links = [] } in
    let there = go_on A first x y x y (leads_start A x y) t.0 in
    let back = go_on A there.further x y y x there.leads t.1 in
    (back.further, refutes A back.further x y two back.leads (back.kept y x (there.leads.ends.0, [], there.leads.ends.1)))

-- some orientation serves, or some walk refutes
pub decision : (A : Numbered) → All NeighboursDiffer (paths_of A) → IsServable (paths_of A) ⊎ ((w : Walk) × Refutes A w)
decision A distinct = elim (flipping (paths_of A) (arcs_of (paths_of A))) [
  | inl (x, y, z, h, t) ↦
      let triple = is_triple (paths_of A) x y z h in
      let two = triple_apart triple.0 triple.2.0 x y z (All-contains NeighboursDiffer (paths_of A) triple.0 distinct triple.1) triple.2.1 in
      inr (refuting_walk A x y two t)
  | inr none ↦
      let rank = code (paths_of A) (arcs_of (paths_of A)) in
      inl (ranked rank, rank_law (paths_of A) rank distinct (are_ranks (paths_of A) none))
]

pub refutation_law : RefutationLaw
refutation_law A distinct = (
  λ none. elim (decision A distinct) [ inl s ↦ absurd (none s) | inr w ↦ w ],
  λ w s. refuting_law A w.0 w.1 s.0 s.1,
)
