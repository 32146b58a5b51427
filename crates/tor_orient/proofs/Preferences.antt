-- The ends that are settled make the preferred orientation.
use Rattle.std.proofs.Common.{◌≡◌, ◌↔◌, ℕ, ◌/◌, ◌<◌, ◌⊎◌, inl, inr, List, [], ◌∷◌, ◌++◌, Some, length, get_or, refl, sym, ap, ◌∙◌, subst, arith, All, Contains}
use Rattle.std.specs.Prelude.{zero, suc, slice_get}
use Rattle.std.proofs.lemmas.Option.{slice_get-get_or, slice_get_within, same_Some}
use Rattle.std.proofs.lemmas.List.Elements.{All-contains}
use Rattle.relationships.specs.declared.label.End.{End}
use Rattle.relationships.specs.Evidence.{NeighboursDiffer}
use Rattle.relationships.specs.Relationship.{Orientation, Serves}
use Rattle.relationships.specs.Graph.{Edge, is_same, edges, orientation, SameOn}
use Rattle.relationships.specs.Preference.{IsPreferred}
use Rattle.gao_prefs.specs.declared.preferring.Pref.{Pref}
use Rattle.gao_prefs.specs.Preferences.{edge_preferred, edges_preferred}
use Rattle.tor_digraph.specs.NodeSets.{Nodes}
use Rattle.tor_arena.proofs.Gets.{has-from_Contains, Contains-from_has, slice_get-some, slice_get-unmap, slice_get-behind, slice_get-map}
use Rattle.as_graph.specs.Paths.{paths_at}
use Rattle.tor_clauses.specs.Literals.{Literal, node_of, lit_of, opposite_node, Holds}
use Rattle.tor_clauses.specs.Formulas.{Formula, FitsGraph, IsServed, IsModel}
use Rattle.tor_clauses.specs.ClauseLaws.{ModelLaw}
use Rattle.tor_clauses.proofs.Members.{get-In}
use Rattle.tor_clauses.proofs.Distincts.{Apart}
use Rattle.tor_clauses.proofs.Overs.{edges-apart, one_place}
use Rattle.tor_clauses.proofs.Sames.{edge_same}
use Rattle.tor_clauses.proofs.Sides.{same_edge as same_number, edge_opposite, holds_one}
use Rattle.tor_clauses.proofs.LiteralLemmas.{lit_of_node, node_of_lit, opposite_node-node, opposite_node_twice}
use Rattle.tor_orient.specs.Wishes.{AreWishes}
use Rattle.tor_orient.specs.Steps.{node_wanted, AgreesUpTo, AreSettled, IsEndOf, AreEndsOf}
use Rattle.tor_orient.proofs.Models.{ends_of, whole_of}
use Rattle.tor_orient.proofs.WishLemmas.{get-before, edge_stands}

-- the end of an edge is the provider
provider : (es : List Edge) (ends : List End) (k : ℕ) (e : Edge) (end : End) → Apart is_same es → slice_get es k ≡ Some e → slice_get ends k ≡ Some end → orientation es ends e.0 e.1 ≡ end
provider [] ends k e end a h g = absurd (cc h)
provider (f ∷ es) [] k e end a h g = absurd (cc g)
provider (f ∷ es) (one ∷ ends) zero e end a h g = rw (edge_same f (e.0, e.1) (same_Some _ _ h)) (same_Some _ _ g)
provider (f ∷ es) (one ∷ ends) (suc k) e end a h g = rw (a.0 e (get-In es k e h)) (provider es ends k e end a.1 h g)

abbrev lit : ℕ → End → Literal
lit k e = record { edge = k; over = e }

-- the end that is read is that whose literal is settled
read_end : (settled : List ℕ) → ((n : ℕ) → Contains settled n → Contains settled (opposite_node n) → ⊥) → (k : ℕ) (end over : End) → IsEndOf settled k end →
    Contains settled (node_of (lit k over)) → end ≡ over
read_end settled consistent k End.High End.High is h = refl
read_end settled consistent k End.Low End.Low is h = refl
read_end settled consistent k End.Low End.High is h = absurd (is h)
read_end settled consistent k End.High End.Low is h = absurd (consistent (node_of (lit k End.Low)) h (subst (Contains settled) (sym (opposite_node-node (lit k End.Low))) is))

module _ (graph : List (List ℕ)) (f : Formula) (apart : All NeighboursDiffer graph) (fits : FitsGraph graph f) (prefs : List Pref) (r : Nodes) (ends : List End)
    (so : AreSettled f prefs (length prefs) r) (inside : All (λ (pref : Pref). pref.edge < length (edges graph)) prefs)
    (each : (e : Edge) → Contains (edges graph) e ↔ Contains (edges_preferred (edges graph) prefs) e)
    (many : length ends ≡ length (edges graph)) (are : AreEndsOf r.items ends) where
  abbrev es : List Edge
  es = edges graph

  -- what is settled holds
  held : (n : ℕ) → Contains r.items n → Holds ends (lit_of n)
  held n h =
      let below = so.inside n h in
      let nodes = fits.nodes in
      let v = slice_get-some ends (n / 2) (omega (arith, below, nodes, many)) in
      v.1 ∙ ap Some (read_end r.items so.consistent (n / 2) v.0 (lit_of n).over (are (n / 2) v.0 v.1) (subst (Contains r.items) (sym (node_of_lit n)) h))

  half : (p : Pref) → node_wanted p / 2 ≡ p.edge
  half p = ap (λ (l : Literal). l.edge) (lit_of_node (lit p.edge p.wanted))

  -- each edge has a preference
  preference_of : (k : ℕ) → k < length es → (j : ℕ) × (p : Pref) × (slice_get prefs j ≡ Some p) × (p.edge ≡ k)
  preference_of k lt =
      let e = get_or es k (0, 0) in
      let at = slice_get-get_or es k (0, 0) lt in
      let has = has-from_Contains (edges_preferred es prefs) e ((each e).0 (Contains-from_has es e (k, at))) in
      let u = slice_get-unmap (edge_preferred es) prefs has.0 e has.1 in
      (has.0, u.0, u.1, one_place graph u.0.edge k e (subst (λ e. slice_get es u.0.edge ≡ Some e) u.2 (edge_stands es prefs inside has.0 u.0 u.1)) at)

  -- so one of the two literals of each edge is settled
  one_settled : (n : ℕ) → n / 2 < length es → Contains r.items n ⊎ Contains r.items (opposite_node n)
  one_settled n lt =
      let o = preference_of (n / 2) lt in
      elim (same_number (node_wanted o.1) n (half o.1 ∙ o.3)) [
        | inl same ↦ subst (λ m. Contains r.items m ⊎ Contains r.items (opposite_node m)) same (so.each o.0 o.1 (slice_get_within prefs o.0 o.1 o.2) o.2)
        | inr other ↦ elim (subst (λ m. Contains r.items m ⊎ Contains r.items (opposite_node m)) other (so.each o.0 o.1 (slice_get_within prefs o.0 o.1 o.2) o.2)) [
          | inl h ↦ inr h
          | inr h ↦ inl (subst (Contains r.items) (opposite_node_twice n) h)
        ]
      ]

  -- and what holds is settled
  settled_of : (n : ℕ) → Holds ends (lit_of n) → Contains r.items n
  settled_of n h =
      let lt = slice_get_within ends (n / 2) (lit_of n).over h in
      elim (one_settled n (omega (arith, lt, many))) [ inl i ↦ i | inr o ↦ absurd (holds_one ends n h (held (opposite_node n) o)) ]

  model : IsModel f ends
  model k l m arc h = held m (so.closed l m (settled_of l h) (k, arc))

  module _ (law : ModelLaw) where
    pub serves : IsServed graph f.paths ends
    serves = (law graph f ends apart fits many).1 model

    module _ (wanted : Edge → End) (wishes : AreWishes es prefs wanted) (before : List Edge) (e : Edge) (after : List Edge) (split : edges_preferred es prefs ≡ before ++ (e ∷ after)) where
      abbrev O : Orientation
      O = orientation es ends

      the_pref : (p : Pref) × (slice_get prefs (length before) ≡ Some p) × (edge_preferred es p ≡ e)
      the_pref = slice_get-unmap (edge_preferred es) prefs (length before) e (ap (λ (l : List Edge). slice_get l (length before)) split ∙ slice_get-behind before e after)

      abbrev p : Pref
      p = the_pref.0

      p_stands : slice_get es p.edge ≡ Some e
      p_stands = subst (λ e. slice_get es p.edge ≡ Some e) the_pref.2 (edge_stands es prefs inside (length before) p the_pref.1)

      p_wants : p.wanted ≡ wanted e
      p_wants = All-contains (λ (pref : Pref). pref.wanted ≡ wanted (edge_preferred es pref)) prefs p wishes (Contains-from_has prefs p (length before, the_pref.1)) ∙ ap wanted the_pref.2

      forth : O e.0 e.1 ≡ wanted e → (O' : Orientation) × Serves O' (paths_at graph f.paths) × SameOn before O O' × (O' e.0 e.1 ≡ wanted e)
      forth is = (O, serves, (λ k d lt. refl), is)

      module _ (O' : Orientation) (serves' : Serves O' (paths_at graph f.paths)) (same : SameOn before O O') (is : O' e.0 e.1 ≡ wanted e) where
        moved : (n : ℕ) (d : Edge) → slice_get es (n / 2) ≡ Some d → O d.0 d.1 ≡ O' d.0 d.1 → Contains r.items n → Holds (ends_of es O') (lit_of n)
        moved n d at alike h =
            slice_get-map (λ (g : Edge). O' g.0 g.1) es (n / 2) d at ∙ ap Some (sym alike ∙ provider es ends (n / 2) d (lit_of n).over (edges-apart graph) at (held n h))

        agrees : AgreesUpTo prefs (length before) r.items (ends_of es O')
        agrees k q lt at =
            let d = edge_preferred es q in
            let there = get-before before (e ∷ after) k d lt (ap (λ (l : List Edge). slice_get l k) (sym split) ∙ slice_get-map (edge_preferred es) prefs k q at) in
            let alike = All-contains (λ (g : Edge). O g.0 g.1 ≡ O' g.0 g.1) before d same (Contains-from_has before d (k, there)) in
            let stands = edge_stands es prefs inside k q at in
            let n = node_wanted q in (
              moved n d (ap (slice_get es) (half q) ∙ stands) alike,
              moved (opposite_node n) d (ap (slice_get es) (edge_opposite n ∙ half q) ∙ stands) alike,
            )

        holds : Holds (ends_of es O') (lit_of (node_wanted p))
        holds = subst (Holds (ends_of es O')) (sym (lit_of_node (lit p.edge p.wanted))) (slice_get-map (λ (g : Edge). O' g.0 g.1) es p.edge e p_stands ∙ ap Some (is ∙ sym p_wants))

        back : O e.0 e.1 ≡ wanted e
        back = elim (so.best (length before) p (slice_get_within prefs (length before) p the_pref.1) the_pref.1) [
          | inl h ↦
              let here : Holds ends (lit p.edge p.wanted) = subst (Holds ends) (lit_of_node (lit p.edge p.wanted)) (held (node_wanted p) h) in
              provider es ends p.edge e p.wanted (edges-apart graph) p_stands here ∙ p_wants
          | inr out ↦ absurd (out (ends_of es O') (whole_of graph f apart fits O' serves') agrees holds)
        ]

    pub preferred : (wanted : Edge → End) → AreWishes es prefs wanted → IsPreferred (paths_at graph f.paths) wanted (edges_preferred es prefs) (orientation es ends)
    preferred wanted wishes before e after split = (forth wanted wishes before e after split, λ o. back wanted wishes before e after split o.0 o.1 o.2 o.3)
