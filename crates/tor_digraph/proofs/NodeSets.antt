-- Sets of nodes: what is marked, and what was added.
use Rattle.std.proofs.Common.{◌≡◌, ◌↔◌, ℕ, ◌<◌, ◌≤◌, inl, inr, Bool, true, false, List, [], ◌∷◌, ◌++◌, Some, length, set, refl, sym, ap, ◌∙◌, subst, arith, IsTrue, Contains}
use Rattle.std.specs.Prelude.{slice_get, replicate}
use Rattle.std.proofs.lemmas.Bool.{cases_eq, false≢true}
use Rattle.std.proofs.lemmas.Option.{same_Some, slice_get_within}
use Rattle.tor_arena.proofs.Gets.{slice_get-set_cases, slice_get-set_same, slice_get-set_other, slice_get-replicate, none-in}
use Rattle.tor_arena.proofs.Gets.{Contains-from_has, slice_get-push_old, slice_get-push_cases}
use Rattle.tor_digraph.specs.Closing.{IsOnce}
use Rattle.tor_digraph.proofs.Few.{few}
use Rattle.tor_digraph.proofs.Members.{Contains-more, Contains-last, Contains-one_more}
use Rattle.tor_digraph.specs.NodeSets.{AreMarked, IsAdded}

-- ---- each once

once_none : (nodes : List ℕ) → nodes ≡ [] → IsOnce nodes
once_none nodes none i j x at = absurd (none-in none (Contains-from_has nodes x (i, at)))

once_more : (nodes : List ℕ) (n : ℕ) → (Contains nodes n → ⊥) → IsOnce nodes → IsOnce (nodes ++ n ∷ [])
once_more nodes n new once i j x a b = elim (slice_get-push_cases nodes n i x a) [
  | inl p ↦ elim (slice_get-push_cases nodes n j x b) [
    | inl q ↦ once i j x p q
    | inr q ↦ absurd (new (Contains-from_has nodes n (i, subst (λ y. slice_get nodes i ≡ Some y) q.1 p)))
  ]
  | inr p ↦ elim (slice_get-push_cases nodes n j x b) [
    | inl q ↦ absurd (new (Contains-from_has nodes n (j, subst (λ y. slice_get nodes j ≡ Some y) p.1 q)))
    | inr q ↦ p.0 ∙ sym q.0
  ]
]

once_fewer : (nodes fewer : List ℕ) (n : ℕ) → nodes ≡ fewer ++ n ∷ [] → IsOnce nodes → IsOnce fewer
once_fewer nodes fewer n e once i j x a b = once i j x (there i a) (there j b)
  where
    there : (k : ℕ) → slice_get fewer k ≡ Some x → slice_get nodes k ≡ Some x
    there k at = ap (λ (l : List ℕ). slice_get l k) e ∙ slice_get-push_old fewer (n ∷ []) k x at

-- ---- marks

pub marked_none : (nodes : List ℕ) (marks : List Bool) (count : ℕ) → nodes ≡ [] → marks ≡ replicate count false → AreMarked nodes marks
marked_none nodes marks count none same = record {
  noted = λ n h. absurd (none-in none h);
  only = λ n at. absurd (false≢true (sym (slice_get-replicate count false n true (ap (λ (l : List Bool). slice_get l n) (sym same) ∙ at))));
  once = once_none nodes none;
}

pub marked_has : (nodes : List ℕ) (marks : List Bool) (n : ℕ) (b : Bool) → AreMarked nodes marks → slice_get marks n ≡ Some b → IsTrue b ↔ Contains nodes n
marked_has nodes marks n b m at = (λ t. m.only n (at ∙ ap (λ (c : Bool). Some c) t), λ h. same_Some b true (sym at ∙ m.noted n h))

pub marked_more : (nodes : List ℕ) (marks : List Bool) (n : ℕ) → n < length marks → (Contains nodes n → ⊥) → AreMarked nodes marks →
    AreMarked (nodes ++ n ∷ []) (set marks n true)
marked_more nodes marks n lt new m = record {
  noted = λ x h. elim (cases_eq x n) [
    | inl e ↦ ap (slice_get (set marks n true)) e ∙ slice_get-set_same marks n true lt
    | inr ne ↦ elim (Contains-one_more nodes n x h) [ inl was ↦ slice_get-set_other marks n true x ne ∙ m.noted x was | inr is ↦ absurd (ne is) ]
  ];
  only = λ x at. elim (slice_get-set_cases marks n true x true at) [
    | inl p ↦ subst (Contains (nodes ++ n ∷ [])) (sym p.0) (Contains-last nodes n)
    | inr p ↦ Contains-more nodes (n ∷ []) x (m.only x p.1)
  ];
  once = once_more nodes n new m.once;
}

pub marked_below : (nodes : List ℕ) (marks : List Bool) (n : ℕ) → AreMarked nodes marks → Contains nodes n → n < length marks
marked_below nodes marks n m h = slice_get_within marks n true (m.noted n h)

-- there are no more nodes than marks
pub marked_few : (nodes : List ℕ) (marks : List Bool) → AreMarked nodes marks → length nodes ≤ length marks
marked_few nodes marks m =
    few (λ n. n) nodes (length marks) (λ i j x y lt a b same. let is : i ≡ j = m.once i j x a (b ∙ ap (λ (n : ℕ). Some n) (sym same)) in omega (arith, lt, is))
    (λ k x at. marked_below nodes marks x m (Contains-from_has nodes x (k, at)))

-- nodes are taken out from the end
pub record AreLeft (nodes : List ℕ) (marks : List Bool) (count : ℕ) : Type 0 where
  pub many : length marks ≡ count
  pub inside : (n : ℕ) → Contains nodes n → n < count
  pub only : (n : ℕ) → slice_get marks n ≡ Some true → Contains nodes n
  pub once : IsOnce nodes

pub left_all : (nodes : List ℕ) (marks : List Bool) → AreMarked nodes marks → AreLeft nodes marks (length marks)
left_all nodes marks m = record { many = refl; inside = λ n h. marked_below nodes marks n m h; only = m.only; once = m.once }

pub left_next : (nodes fewer : List ℕ) (marks new : List Bool) (count n : ℕ) → AreLeft nodes marks count → nodes ≡ fewer ++ n ∷ [] → new ≡ set marks n false →
    length new ≡ length marks → AreLeft fewer new count
left_next nodes fewer marks new count n so e f same = record {
  many = same ∙ so.many;
  inside = λ x h. so.inside x (subst (λ (l : List ℕ). Contains l x) (sym e) (Contains-more fewer (n ∷ []) x h));
  only = λ x at. elim (slice_get-set_cases marks n false x true (ap (λ (l : List Bool). slice_get l x) (sym f) ∙ at)) [
    | inl p ↦ absurd (false≢true (sym p.1))
    | inr p ↦ elim (Contains-one_more fewer n x (subst (λ (l : List ℕ). Contains l x) e (so.only x p.1))) [ inl was ↦ was | inr is ↦ absurd (p.0 is) ]
  ];
  once = once_fewer nodes fewer n e so.once;
}

pub left_none : (nodes : List ℕ) (marks : List Bool) (count : ℕ) → AreLeft nodes marks count → nodes ≡ [] → AreMarked nodes marks
left_none nodes marks count so none = record { noted = λ n h. absurd (none-in none h); only = so.only; once = so.once }

-- ---- one node more

pub added_there : (node : ℕ) (is_new : Bool) (old new : List ℕ) → IsAdded node is_new old new → Contains new node
added_there node is_new old new (inl a) = subst (λ (l : List ℕ). Contains l node) (sym a.2) (Contains-last old node)
added_there node is_new old new (inr a) = subst (λ (l : List ℕ). Contains l node) (sym a.2) a.1
