-- Triples with the same two implications.
use Rattle.std.proofs.Common.{◌≡◌, ℕ, Some, ◌⊎◌, inl, inr, true, List, [], ◌∷◌, ◌++◌, filter, refl, sym, ap, ap₂, ◌∙◌, subst, ◌==◌, eq-eqb, not}
use Rattle.std.proofs.lemmas.Bool.{or_cases, or_left, or_right, and_from}
use Rattle.std.specs.Prelude.{slice_get}
use Rattle.relationships.specs.Graph.{Edge, is_same}
use Rattle.relationships.proofs.Edges.{same_edge}
use Rattle.tor_clauses.specs.declared.triple.Triple.{Triple}
use Rattle.tor_clauses.specs.Literals.{opposite_node}
use Rattle.tor_clauses.specs.Triples.{arc_of, partner_of, arcs_of, is_same_triple, distinct_triples}
use Rattle.tor_clauses.specs.Tables.{with_triple, with_triples}
use Rattle.tor_clauses.proofs.LiteralLemmas.{opposite_node-node, opposite_node_twice}
use Rattle.tor_clauses.proofs.Members.{In}
use Rattle.tor_clauses.proofs.Distincts.{distinct_by, with_one, with_all, Apart, apart-distinct, apart-once, distinct-In, In-distinct, IsMore, more-all, all-distinct, all-push}

abbrev arc : ℕ → ℕ → Edge
arc m n = (m, n)

-- the arc of the partner
abbrev pub reversed_arc : Edge → Edge
reversed_arc a = (opposite_node a.1, opposite_node a.0)

pub reversed_arc_twice : (a : Edge) → reversed_arc (reversed_arc a) ≡ a
reversed_arc_twice a = ap₂ arc (opposite_node_twice a.0) (opposite_node_twice a.1)

pub partner-reversed : (t : Triple) → reversed_arc (arc_of t) ≡ partner_of t
partner-reversed t = ap₂ arc (opposite_node-node t.second) (opposite_node-node t.first)

itself_edge : (e : Edge) → is_same e e ≡ true
itself_edge e = and_from (e.0 == e.0) (e.1 == e.1) (eq-eqb e.0 e.0 refl) (eq-eqb e.1 e.1 refl)

pub edge_same : (e f : Edge) → e ≡ f → is_same e f ≡ true
edge_same e f h = subst (λ g. is_same e g ≡ true) h (itself_edge e)

-- ---- the same, as equations

abbrev pub Same : Triple → Triple → Type 0
Same t u = (arc_of t ≡ arc_of u) ⊎ (arc_of t ≡ partner_of u)

pub Same-from_test : (t u : Triple) → is_same_triple t u ≡ true → Same t u
Same-from_test t u h = elim (or_cases (is_same (arc_of t) (arc_of u)) (is_same (arc_of t) (partner_of u)) h) [
  | inl a ↦ inl (same_edge (arc_of t) (arc_of u) a)
  | inr b ↦ inr (same_edge (arc_of t) (partner_of u) b)
]

pub test-from_Same : (t u : Triple) → Same t u → is_same_triple t u ≡ true
test-from_Same t u (inl e) = or_left (is_same (arc_of t) (arc_of u)) (is_same (arc_of t) (partner_of u)) (edge_same (arc_of t) (arc_of u) e)
test-from_Same t u (inr e) = or_right (is_same (arc_of t) (arc_of u)) (is_same (arc_of t) (partner_of u)) (edge_same (arc_of t) (partner_of u) e)

pub partner_same : (t u : Triple) → arc_of t ≡ partner_of u → partner_of t ≡ arc_of u
partner_same t u e = sym (partner-reversed t) ∙ ap reversed_arc (e ∙ sym (partner-reversed u)) ∙ reversed_arc_twice (arc_of u)

pub partner_arc : (t u : Triple) → arc_of t ≡ arc_of u → partner_of t ≡ partner_of u
partner_arc t u e = sym (partner-reversed t) ∙ ap reversed_arc e ∙ partner-reversed u

pub same_itself : (t : Triple) → is_same_triple t t ≡ true
same_itself t = test-from_Same t t (inl refl)

pub same_reversed : (t u : Triple) → is_same_triple t u ≡ true → is_same_triple u t ≡ true
same_reversed t u h = elim (Same-from_test t u h) [
  | inl e ↦ test-from_Same u t (inl (sym e))
  | inr e ↦ test-from_Same u t (inr (sym (partner_same t u e)))
]

pub same_chained : (t u v : Triple) → is_same_triple t u ≡ true → is_same_triple u v ≡ true → is_same_triple t v ≡ true
same_chained t u v h k = elim (Same-from_test t u h) [
  | inl e ↦ elim (Same-from_test u v k) [
    | inl f ↦ test-from_Same t v (inl (e ∙ f))
    | inr f ↦ test-from_Same t v (inr (e ∙ f))
  ]
  | inr e ↦ elim (Same-from_test u v k) [
    | inl f ↦ test-from_Same t v (inr (e ∙ partner_arc u v f))
    | inr f ↦ test-from_Same t v (inl (e ∙ partner_same u v f))
  ]
]

-- the two arcs of one triple are those of the same one
pub Same-arc : (t u : Triple) → is_same_triple t u ≡ true → In (arc_of u) (arcs_of t)
Same-arc t u h = elim (Same-from_test t u h) [ inl e ↦ inl e | inr e ↦ inr (inl (partner_same t u e)) ]

pub Same-partner : (t u : Triple) → is_same_triple t u ≡ true → In (partner_of u) (arcs_of t)
Same-partner t u h = elim (Same-from_test t u h) [ inl e ↦ inr (inl (partner_arc t u e)) | inr e ↦ inl e ]

-- ---- distinct triples

pub distinct_is : (ts : List Triple) → distinct_triples ts ≡ distinct_by is_same_triple ts
distinct_is [] = refl
distinct_is (t ∷ ts) = ap (λ (l : List Triple). t ∷ filter (λ u. not (is_same_triple t u)) l) (distinct_is ts)

pub all_is : (more ts : List Triple) → with_triples ts more ≡ with_all is_same_triple ts more
all_is [] ts = refl
all_is (t ∷ more) ts = all_is more (with_triple ts t)

pub with_triples-push : (more ts : List Triple) (t : Triple) → with_triples ts (more ++ t ∷ []) ≡ with_triple (with_triples ts more) t
with_triples-push more ts t =
    all_is (more ++ t ∷ []) ts ∙ all-push is_same_triple more ts t ∙ ap (λ (l : List Triple). with_one is_same_triple l t) (sym (all_is more ts))

pub with_triples-distinct : (more ts : List Triple) → with_triples (distinct_triples ts) more ≡ distinct_triples (ts ++ more)
with_triples-distinct more ts =
    all_is more (distinct_triples ts) ∙ ap (λ (l : List Triple). with_all is_same_triple l more) (distinct_is ts) ∙
    all-distinct is_same_triple same_itself same_reversed same_chained more ts ∙ sym (distinct_is (ts ++ more))

pub triple-In : (t : Triple) (ts : List Triple) → In t (distinct_triples ts) → In t ts
triple-In t ts h = distinct-In is_same_triple t ts (subst (In t) (distinct_is ts) h)

pub In-triple : (t : Triple) (ts : List Triple) → In t ts → (u : Triple) × In u (distinct_triples ts) × (is_same_triple u t ≡ true)
In-triple t ts h =
    let r = In-distinct is_same_triple same_itself same_reversed same_chained t ts h in
    (r.0, subst (In r.0) (sym (distinct_is ts)) r.1, r.2)

pub triples-apart : (ts : List Triple) → Apart is_same_triple (distinct_triples ts)
triples-apart ts = subst (Apart is_same_triple) (sym (distinct_is ts)) (apart-distinct is_same_triple ts)

pub triples-once : (ts : List Triple) (j k : ℕ) (t u : Triple) → slice_get (distinct_triples ts) j ≡ Some t → slice_get (distinct_triples ts) k ≡ Some u → Same t u → j ≡ k
triples-once ts j k t u h g s = apart-once is_same_triple same_reversed (distinct_triples ts) (triples-apart ts) j k t u h g (test-from_Same t u s)

pub triples-more : (more ts : List Triple) → IsMore is_same_triple ts more (with_triples ts more)
triples-more more ts = subst (IsMore is_same_triple ts more) (sym (all_is more ts)) (more-all is_same_triple more ts)
