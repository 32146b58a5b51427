-- Triples known by the pair of nodes that each shares with its reverse.
use Rattle.std.proofs.Common.{◌≡◌, ℕ, ◌≤◌, ◌⊎◌, inl, inr, Bool, true, false, List, [], ◌∷◌, length, map, take, refl, sym, ap, ap₂, ◌∙◌, subst, arith, ltb, lt-ltb, le-ltb, if◌then◌else◌, ◌||◌}
use Rattle.std.specs.List.{list_any}
use Rattle.std.specs.Prelude.{Contains, All, ◌^◌, ◌<◌, ◌↔◌}
use Rattle.std.proofs.lemmas.Bool.{cases_Bool, cases_order, false_from_ne_true}
use Rattle.std.proofs.lemmas.List.{take-map, length-take-le}
use Rattle.std.proofs.lemmas.List.Elements.{All-take, All-head, All-tail, Contains-append_left, Contains-append_right, Contains-append_cases}
use Rattle.relationships.specs.Graph.{Edge}
use Rattle.tor_clauses.specs.declared.triple.Triple.{Triple}
use Rattle.tor_clauses.specs.Literals.{Literal, negated, node_of, opposite_node}
use Rattle.tor_clauses.specs.Triples.{arc_of, partner_of, is_same_triple}
use Rattle.tor_clauses.specs.Tables.{HasNodes, AreTripleKeys, triple_key, key_of_arc, number_of_pair}
use Rattle.tor_numbers.specs.Slots.{IsInserted}
use Rattle.tor_numbers.proofs.SlotLemmas.{alone, contains_one, contains_none}
use Rattle.tor_clauses.proofs.LiteralLemmas.{opposite_node_twice, node_below}
use Rattle.tor_clauses.proofs.Sames.{Same, Same-from_test, test-from_Same, partner_same, partner_arc, reversed_arc, reversed_arc_twice, partner-reversed}

abbrev lesser : Edge → Edge → Edge
lesser e f = if ltb f.0 e.0 then f else e

-- ---- the lesser of a pair and its reverse is that of the reverse

-- a pair that begins as its reverse is its reverse
reversed_alike : (e : Edge) → (reversed_arc e).0 ≡ e.0 → reversed_arc e ≡ e
reversed_alike e h = ap₂ pair h (ap opposite_node (sym h) ∙ opposite_node_twice e.1)
  where
    pair : ℕ → ℕ → Edge
    pair m n = (m, n)

lesser_reversed : (e f : Edge) → (f.0 ≡ e.0 → f ≡ e) → lesser f e ≡ lesser e f
lesser_reversed e f alike = elim (cases_order e.0 f.0) [
  | inl same ↦ (let le : f.0 ≤ e.0 = omega (arith, same) in let ge : e.0 ≤ f.0 = omega (arith, same) in rw (le-ltb e.0 f.0 le, le-ltb f.0 e.0 ge) (alike (sym same)))
  | inr other ↦ elim other [
    | inl lt ↦ (let le : e.0 ≤ f.0 = omega (arith, lt) in rw (lt-ltb e.0 f.0 lt, le-ltb f.0 e.0 le) refl)
    | inr lt ↦ (let le : f.0 ≤ e.0 = omega (arith, lt) in rw (lt-ltb f.0 e.0 lt, le-ltb e.0 f.0 le) refl)
  ]
]

lesser_one : (e f : Edge) → (lesser e f ≡ e) ⊎ (lesser e f ≡ f)
lesser_one e f = elim (cases_Bool (ltb f.0 e.0)) [ inl t ↦ inr (rw t refl) | inr n ↦ inl (rw n refl) ]

reverse_alike : (t : Triple) → (partner_of t).0 ≡ (arc_of t).0 → partner_of t ≡ arc_of t
reverse_alike t h = sym (partner-reversed t) ∙ reversed_alike (arc_of t) (ap (λ (e : Edge). e.0) (partner-reversed t) ∙ h)

-- ---- triples are the same exactly if their keys are

key_same : (t u : Triple) → Same t u → triple_key t ≡ triple_key u
key_same t u (inl e) = ap₂ lesser e (partner_arc t u e)
key_same t u (inr e) = ap₂ lesser e (partner_same t u e) ∙ lesser_reversed (arc_of u) (partner_of u) (reverse_alike u)

same_key : (t u : Triple) → triple_key t ≡ triple_key u → Same t u
same_key t u e = elim (lesser_one (arc_of t) (partner_of t)) [
  | inl a ↦ elim (lesser_one (arc_of u) (partner_of u)) [
    | inl b ↦ inl (sym a ∙ e ∙ b)
    | inr b ↦ inr (sym a ∙ e ∙ b)
  ]
  | inr a ↦ elim (lesser_one (arc_of u) (partner_of u)) [
    | inl b ↦ inr (reversed t u (sym a ∙ e ∙ b))
    | inr b ↦ inl (reversed_both t u (sym a ∙ e ∙ b))
  ]
]
  where
    reversed : (t u : Triple) → partner_of t ≡ arc_of u → arc_of t ≡ partner_of u
    reversed t u h = sym (partner_same u t (sym h))

    reversed_both : (t u : Triple) → partner_of t ≡ partner_of u → arc_of t ≡ arc_of u
    reversed_both t u h = sym (reversed_arc_twice (arc_of t)) ∙ ap reversed_arc (partner-reversed t ∙ h ∙ sym (partner-reversed u)) ∙ reversed_arc_twice (arc_of u)

-- ---- pairs are the same exactly if their numbers are

abbrev pub key_number : Triple → ℕ
key_number t = number_of_pair (triple_key t)

same_pair : (e f : Edge) → e.1 < 2 ^ 32 → f.1 < 2 ^ 32 → number_of_pair e ≡ number_of_pair f → e ≡ f
same_pair e f a b h = ap₂ pair (omega (arith, a, b, h)) (omega (arith, a, b, h))
  where
    pair : ℕ → ℕ → Edge
    pair m n = (m, n)

node_small : (l : Literal) → l.edge < 2 ^ 27 → node_of l < 2 ^ 32
node_small l h = let n = node_below l (2 ^ 27) h in omega (arith, n)

key_small : (t : Triple) → HasNodes t → (triple_key t).1 < 2 ^ 32
key_small t h = elim (lesser_one (arc_of t) (partner_of t)) [
  | inl a ↦ subst (λ (e : Edge). e.1 < 2 ^ 32) (sym a) (node_small t.second h.1)
  | inr b ↦ subst (λ (e : Edge). e.1 < 2 ^ 32) (sym b) (node_small (negated t.first) h.0)
]

pub either : (a b : Bool) → a ≡ false → (a || b) ≡ true → b ≡ true
either true b f e = cc
either false b f e = e

pub left_or : (a b : Bool) → a ≡ true → (a || b) ≡ true
left_or a b e = rw e refl

pub right_or : (a b : Bool) → b ≡ true → (a || b) ≡ true
right_or true b e = refl
right_or false b e = e

-- the number is there where the triple or its reverse is
number_there : (t : Triple) (ts : List Triple) → list_any (is_same_triple t) ts ≡ true → Contains (map key_number ts) (key_number t)
number_there t [] e = cc
number_there t (u ∷ ts) e = elim (cases_Bool (is_same_triple t u)) [
  | inl is ↦ Contains-append_left (key_number u ∷ []) (map key_number ts) (key_number t)
      (subst (Contains (key_number u ∷ [])) (sym (ap number_of_pair (key_same t u (Same-from_test t u is)))) (contains_one (key_number u)))
  | inr other ↦ Contains-append_right (key_number u ∷ []) (map key_number ts) (key_number t)
      (number_there t ts (either (is_same_triple t u) (list_any (is_same_triple t) ts) other e))
]

triple_there : (t : Triple) (ts : List Triple) → HasNodes t → All HasNodes ts → Contains (map key_number ts) (key_number t) →
    list_any (is_same_triple t) ts ≡ true
triple_there t [] h all c = absurd (contains_none (key_number t) c)
triple_there t (u ∷ ts) h all c = elim (Contains-append_cases (key_number u ∷ []) (map key_number ts) (key_number t) c) [
  | inl a ↦ left_or (is_same_triple t u) (list_any (is_same_triple t) ts) (test-from_Same t u (same_key t u
      (same_pair (triple_key t) (triple_key u) (key_small t h) (key_small u (All-head HasNodes u ts all)) (alone (key_number u) (key_number t) a))))
  | inr b ↦ right_or (is_same_triple t u) (list_any (is_same_triple t) ts) (triple_there t ts h (All-tail HasNodes u ts all) b)
]

-- so the number tells whether the triple is there
pub is_known : (t : Triple) (number : ℕ) (keys : List ℕ) (ts : List Triple) → HasNodes t → AreTripleKeys keys ts → number ≡ key_number t →
    Contains keys number ↔ (list_any (is_same_triple t) ts ≡ true)
is_known t number keys ts h known e = (
  (λ there. triple_there t ts h known.nodes (subst (Contains (map key_number ts)) e (subst (λ l. Contains l number) known.keys there))),
  (λ there. subst (λ l. Contains l number) (sym known.keys) (subst (Contains (map key_number ts)) (sym e) (number_there t ts there))),
)

-- the key of a triple is that of its nodes
pub key-arc : (t : Triple) → key_of_arc (arc_of t) ≡ triple_key t
key-arc t = ap (lesser (arc_of t)) (partner-reversed t)

-- whether a triple's number is new tells whether the triple is
pub new-triple : (t : Triple) (number : ℕ) (keys new : List ℕ) (ts : List Triple) → AreTripleKeys keys ts → number ≡ key_number t → IsInserted number keys new true →
    list_any (is_same_triple t) ts ≡ false
new-triple t number keys new ts known e put =
    false_from_ne_true (list_any (is_same_triple t) ts) (λ there. put.0 (subst (λ l. Contains l number) (sym known.keys) (subst (Contains (map key_number ts)) (sym e) (number_there t ts there))))

pub old-triple : (t : Triple) (number : ℕ) (keys new : List ℕ) (ts : List Triple) → HasNodes t → AreTripleKeys keys ts → number ≡ key_number t →
    IsInserted number keys new false → list_any (is_same_triple t) ts ≡ true
old-triple t number keys new ts h known e put =
    triple_there t ts h known.nodes (subst (Contains (map key_number ts)) e (subst (λ l. Contains l number) known.keys put.0))

-- ---- one more triple, and fewer

pub known-cut : (n : ℕ) (keys keys' : List ℕ) (ts ts' : List Triple) → AreTripleKeys keys ts → n ≤ length ts → keys' ≡ take n keys → ts' ≡ take n ts → AreTripleKeys keys' ts'
known-cut n keys keys' ts ts' k le e f =
    let l = length-take-le n ts le in
    let few = k.few in
    subst (AreTripleKeys keys') (sym f) (record {
      keys = e ∙ ap (take n) k.keys ∙ take-map key_number n ts;
      nodes = All-take HasNodes n ts k.nodes;
      few = omega (arith, l, few, le);
    })
