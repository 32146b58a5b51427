-- Literals, their nodes and negations.
use Rattle.std.proofs.Common.{◌≡◌, ℕ, inl, inr, ◌+◌, ◌*◌, ◌/◌, ◌%◌, ◌<◌, refl, sym, ap, ap₂, ◌∙◌, arith}
use Rattle.std.proofs.lemmas.Bool.{cases_eq}
use Rattle.relationships.specs.declared.label.End.{End}
use Rattle.relationships.specs.Relationship.{opposite}
use Rattle.as_graph.specs.EdgeSteps.{side, end_of}
use Rattle.tor_clauses.specs.Literals.{Literal, negated, node_of, lit_of, opposite_node}

pub opposite_twice : (e : End) → opposite (opposite e) ≡ e
opposite_twice End.Low = refl
opposite_twice End.High = refl

abbrev pub lit_with : ℕ → End → Literal
lit_with k e = record { edge = k; over = e }

pub negated_twice : (l : Literal) → negated (negated l) ≡ l
negated_twice l = ap (lit_with l.edge) (opposite_twice l.over)

half : (k : ℕ) (e : End) → (k * 2 + side e) / 2 ≡ k
half k End.Low = omega arith
half k End.High = omega arith

rest : (k : ℕ) (e : End) → end_of ((k * 2 + side e) % 2) ≡ e
rest k End.Low = let h : (k * 2 + 0) % 2 ≡ 0 = omega arith in rw h refl
rest k End.High = let h : (k * 2 + 1) % 2 ≡ 1 = omega arith in rw h refl

abbrev lit : ℕ → End → Literal
lit k e = record { edge = k; over = e }

pub lit_of_node : (l : Literal) → lit_of (node_of l) ≡ l
lit_of_node l = ap₂ lit (half l.edge l.over) (rest l.edge l.over)

side_of_end : (n : ℕ) → side (end_of (n % 2)) ≡ n % 2
side_of_end n = elim (cases_eq (n % 2) 0) [
  | inl e ↦ rw e refl
  | inr m ↦ (let h : n % 2 ≡ 1 = omega (arith, m) in rw h refl)
]

pub node_of_lit : (n : ℕ) → node_of (lit_of n) ≡ n
node_of_lit n = let h = side_of_end n in omega (arith, h)

pub same_literal : (l m : Literal) → node_of l ≡ node_of m → l ≡ m
same_literal l m e = sym (lit_of_node l) ∙ ap lit_of e ∙ lit_of_node m

-- ---- the node of the negation

pub opposite_node-node : (l : Literal) → opposite_node (node_of l) ≡ node_of (negated l)
opposite_node-node l = ap (λ m. node_of (negated m)) (lit_of_node l)

pub opposite_node_twice : (n : ℕ) → opposite_node (opposite_node n) ≡ n
opposite_node_twice n = opposite_node-node (negated (lit_of n)) ∙ ap node_of (negated_twice (lit_of n)) ∙ node_of_lit n

-- no node is that of its own negation
pub opposite_node-other : (n : ℕ) → n ≡ opposite_node n → ⊥
opposite_node-other n same =
    let l = lit_of n in
    other l.over (ap (λ m. side m.over) (same_literal l (negated l) (node_of_lit n ∙ same)))
  where
    other : (e : End) → side e ≡ side (opposite e) → ⊥
    other End.Low e = absurd (omega (arith, e))
    other End.High e = absurd (omega (arith, e))

-- ---- how many nodes there are

pub node_below : (l : Literal) (n : ℕ) → l.edge < n → node_of l < n * 2
node_below l n h = let s = side_below l.over in omega (arith, h, s)
  where
    side_below : (e : End) → side e < 2
    side_below End.Low = omega arith
    side_below End.High = omega arith
