-- All triples are satisfied exactly if no arc leads from a literal that holds to one that does not.
use Rattle.std.proofs.Common.{◌≡◌, ℕ, ◌/◌, ◌<◌, ◌⊎◌, inl, inr, List, [], ◌∷◌, Some, length, refl, sym, ap, ◌∙◌, subst, arith, All}
use Rattle.std.specs.Prelude.{slice_get}
use Rattle.std.proofs.lemmas.List.Elements.{All-from_recursion}
use Rattle.std.specs.List.{AllByRecursion}
use Rattle.std.proofs.lemmas.Option.{same_Some}
use Rattle.relationships.specs.declared.label.End.{End}
use Rattle.relationships.specs.Evidence.{NeighboursDiffer}
use Rattle.relationships.specs.Relationship.{opposite}
use Rattle.relationships.specs.Graph.{Edge, edges}
use Rattle.tor_arena.proofs.Gets.{slice_get-some}
use Rattle.tor_clauses.specs.declared.triple.Triple.{Triple}
use Rattle.tor_clauses.specs.Literals.{Literal, negated, node_of, lit_of, Holds}
use Rattle.tor_clauses.specs.Triples.{arc_of, arcs_of}
use Rattle.tor_clauses.specs.Tables.{IsSatisfied}
use Rattle.tor_clauses.specs.Formulas.{Formula, FitsGraph, IsModel}
use Rattle.tor_clauses.proofs.Members.{In, In-get, get-In, All-In, In-flat_map}
use Rattle.tor_clauses.proofs.LiteralLemmas.{lit_of_node}
use Rattle.tor_clauses.proofs.Arcs.{triple_at}
use Rattle.tor_clauses.proofs.Standings.{triple_within}

opposite_not : (e : End) → e ≡ opposite e → ⊥
opposite_not End.Low h = cc h
opposite_not End.High h = cc h

one_of : (e f : End) → (e ≡ f) ⊎ (e ≡ opposite f)
one_of End.Low End.Low = inl refl
one_of End.Low End.High = inr refl
one_of End.High End.Low = inr refl
one_of End.High End.High = inl refl

-- a literal or its negation holds, and not both
either : (ends : List End) (l : Literal) → l.edge < length ends → Holds ends l ⊎ Holds ends (negated l)
either ends l h =
    let r = slice_get-some ends l.edge h in
    elim (one_of r.0 l.over) [ inl e ↦ inl (r.1 ∙ ap Some e) | inr e ↦ inr (r.1 ∙ ap Some e) ]

not_both : (ends : List End) (l : Literal) → Holds ends l → Holds ends (negated l) → ⊥
not_both ends l h k = opposite_not l.over (same_Some _ _ (sym h ∙ k))

module _ (graph : List (List ℕ)) (f : Formula) (ends : List End) (apart : All NeighboursDiffer graph) (fits : FitsGraph graph f) (same : length ends ≡ length (edges graph)) where
  pub within : (t : Triple) → In t f.triples → (t.first.edge < length ends) × (t.second.edge < length ends)
  within t h = let w = triple_within graph f apart fits t h in (omega (arith, w.0, same), omega (arith, w.1, same))

  partner_kept : (t : Triple) → In t f.triples → IsSatisfied ends t → Holds ends (negated t.second) → Holds ends (negated t.first)
  partner_kept t i k h = elim (either ends t.first (within t i).0) [
    | inl one ↦ absurd (not_both ends t.second (k one) h)
    | inr other ↦ other
  ]

  at_node : (l : ℕ) (m : Literal) → l ≡ node_of m → Holds ends (lit_of l) → Holds ends m
  at_node l m e h = subst (Holds ends) (ap lit_of e ∙ lit_of_node m) h

  from_node : (l : ℕ) (m : Literal) → l ≡ node_of m → Holds ends m → Holds ends (lit_of l)
  from_node l m e h = subst (Holds ends) (sym (ap lit_of e ∙ lit_of_node m)) h

  pub model_from_satisfied : All (IsSatisfied ends) f.triples → IsModel f ends
  model_from_satisfied all k l m arc h =
      let r = triple_at f.triples k (l, m) (subst (λ arcs. slice_get arcs k ≡ Some (l, m)) fits.arcs arc) in
      let i = get-In f.triples (k / 2) r.t r.there in
      let kept = All-In (IsSatisfied ends) f.triples all r.t i in
      elim r.is [
        | inl e ↦ from_node m r.t.second (ap (λ (a : Edge). a.1) e) (kept (at_node l r.t.first (ap (λ (a : Edge). a.0) e) h))
        | inr e ↦ from_node m (negated r.t.first) (ap (λ (a : Edge). a.1) e)
            (partner_kept r.t i kept (at_node l (negated r.t.second) (ap (λ (a : Edge). a.0) e) h))
      ]

  all_by : (P : Triple → Type 0) (ts : List Triple) → ((t : Triple) → In t ts → P t) → AllByRecursion P ts
  all_by P [] h = tt
  all_by P (t ∷ ts) h = (h t (inl refl), all_by P ts (λ u i. h u (inr i)))

  pub satisfied_from_model : IsModel f ends → All (IsSatisfied ends) f.triples
  satisfied_from_model model = All-from_recursion (IsSatisfied ends) f.triples (all_by (IsSatisfied ends) f.triples (λ t i h.
      let there = In-flat_map arcs_of t (arc_of t) f.triples i (inl refl) in
      let a = In-get (arc_of t) f.net.arcs (subst (In (arc_of t)) (sym fits.arcs) there) in
      at_node (node_of t.second) t.second refl (model a.0 (node_of t.first) (node_of t.second) a.1 (from_node (node_of t.first) t.first refl h))))

  pub all_within : All (λ t. (t.first.edge < length ends) × (t.second.edge < length ends)) f.triples
  all_within = All-from_recursion (λ t. (t.first.edge < length ends) × (t.second.edge < length ends)) f.triples
      (all_by (λ t. (t.first.edge < length ends) × (t.second.edge < length ends)) f.triples within)
