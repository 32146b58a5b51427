-- A triple is there exactly where its arc is, so it can be looked for among the arcs.
use Rattle.std.proofs.Common.{◌≡◌, ◌↔◌, ℕ, zero, suc, inl, inr, Bool, true, false, not, List, [], ◌∷◌, ◌++◌, Some, None, flat_map, refl, sym, ap, ◌∙◌, subst}
use Rattle.std.specs.List.{list_any}
use Rattle.std.specs.Prelude.{Contains, slice_get, ⊤}
use Rattle.std.proofs.lemmas.Bool.{cases_Bool}
use Rattle.std.proofs.lemmas.Option.{same_Some}
use Rattle.relationships.specs.Graph.{Edge}
use Rattle.tor_numbers.specs.Slots.{IsInserted}
use Rattle.tor_clauses.specs.declared.triple.Triple.{Triple}
use Rattle.tor_clauses.specs.declared.triple.TriplePlace.{TriplePlace}
use Rattle.tor_clauses.specs.Triples.{arc_of, arcs_of, is_same_triple, is_among}
use Rattle.tor_clauses.specs.Tables.{AreStanding, HasArc, HasNodes, IsNoted, key_of_arc, number_of_pair, triples_at}
use Rattle.tor_clauses.proofs.Knowns.{either, left_or, right_or, is_known, key-arc, key_number}
use Rattle.tor_clauses.proofs.Sames.{Same, Same-from_test, test-from_Same}

pub arc_among : (t : Triple) (ts : List Triple) → is_among ts t ≡ true → HasArc (flat_map arcs_of ts) (arc_of t)
arc_among t [] e = cc
arc_among t (u ∷ ts) e = elim (cases_Bool (is_same_triple t u)) [
  | inl is ↦ here (Same-from_test t u is)
  | inr other ↦ behind (arc_among t ts (either (is_same_triple t u) (list_any (is_same_triple t) ts) other e))
]
  where
    here : Same t u → HasArc (flat_map arcs_of (u ∷ ts)) (arc_of t)
    here (inl a) = (0, ap Some (sym a))
    here (inr b) = (1, ap Some (sym b))

    behind : HasArc (flat_map arcs_of ts) (arc_of t) → HasArc (flat_map arcs_of (u ∷ ts)) (arc_of t)
    behind h = (suc (suc h.0), h.1)

pub among_arc : (t : Triple) (ts : List Triple) (k : ℕ) → slice_get (flat_map arcs_of ts) k ≡ Some (arc_of t) → is_among ts t ≡ true
among_arc t [] k e = absurd (cc e)
among_arc t (u ∷ ts) zero e = left_or (is_same_triple t u) (list_any (is_same_triple t) ts) (test-from_Same t u (inl (sym (same_Some _ _ e))))
among_arc t (u ∷ ts) (suc zero) e = left_or (is_same_triple t u) (list_any (is_same_triple t) ts) (test-from_Same t u (inr (sym (same_Some _ _ e))))
among_arc t (u ∷ ts) (suc (suc k)) e = right_or (is_same_triple t u) (list_any (is_same_triple t) ts) (among_arc t ts k e)

module _ (known : List ℕ) (places : List TriplePlace) (arcs : List Edge) (t : Triple) (are : AreStanding known places arcs) where
  pub held_arc : HasArc arcs (arc_of t) ↔ (is_among (triples_at places arcs) t ≡ true)
  held_arc = (
    (λ h. among_arc t (triples_at places arcs) h.0 (subst (λ (es : List Edge). slice_get es h.0 ≡ Some (arc_of t)) are.of_triples h.1)),
    (λ there. subst (λ (es : List Edge). HasArc es (arc_of t)) (sym are.of_triples) (arc_among t (triples_at places arcs) there)),
  )

  pub held_number : HasNodes t → HasArc arcs (arc_of t) ↔ Contains known (key_number t)
  held_number nodes =
      let is = is_known t (key_number t) known (triples_at places arcs) nodes are.keys refl in
      ((λ h. is.1 (held_arc.0 h)), (λ there. held_arc.1 (is.0 there)))

-- ---- a number is noted, in a set or, where there is none, by the arcs alone

pub noted_set : (arcs : List Edge) (arc : Edge) (number : ℕ) (old new : List ℕ) (is_new : Bool) → number ≡ number_of_pair (key_of_arc arc) →
    IsInserted number old new is_new → IsNoted arcs arc (Some old) (Some new) is_new
noted_set arcs arc number old new is_new e put known places t are same nodes is =
    let number_is : number ≡ key_number t = e ∙ ap number_of_pair (ap key_of_arc is ∙ key-arc t) in
    (new, subst (λ n. IsInserted n known new is_new) number_is (subst (λ (l : List ℕ). IsInserted number l new is_new) same put), refl)

pub noted_arc : (arcs : List Edge) (arc : Edge) (has : Bool) → (has ≡ true) ↔ HasArc arcs arc → IsNoted arcs arc None None (not has)
noted_arc arcs arc has is known places t are same nodes e =
    let held : (has ≡ true) ↔ Contains known (key_number t) =
    ((λ yes. (held_number known places arcs t are nodes).0 (subst (HasArc arcs) e (is.0 yes))), (λ c. is.1 (subst (HasArc arcs) (sym e) ((held_number known places arcs t are nodes).1 c)))) in
    by_cases has held
  where
    by_cases : (has : Bool) → (has ≡ true) ↔ Contains known (key_number t) → (more : List ℕ) × IsInserted (key_number t) known more (not has) × ⊤
    by_cases true held = (known, (held.0 refl, refl), tt)
    by_cases false held = (known ++ key_number t ∷ [], ((λ c. cc (held.1 c)), refl), tt)
