-- Ends of edges that are turned to the providers of givens.
use Rattle.std.proofs.Common.{◌≡◌, ℕ, zero, suc, ◌<◌, ◌+◌, inl, inr, true, false, List, [], ◌∷◌, ◌++◌, length, get_or, set, take, min, max, refl, sym, ap, ◌∙◌, subst}
use Rattle.std.proofs.Common.{arith, IsTrue, slice_get, Some, flat_map, if◌then◌else◌}
use Rattle.std.proofs.lemmas.Bool.{cases_Bool, false_from_ne_true, false≢true}
use Rattle.std.proofs.lemmas.Option.{slice_get_within}
use Rattle.std.proofs.lemmas.List.{length-set, take_more}
use Rattle.std.proofs.lemmas.List.Elements.{All-append, All-cons, All-nil, All-head}
use Rattle.relationships.specs.declared.given.Given.{Given}
use Rattle.relationships.specs.declared.label.End.{End}
use Rattle.relationships.specs.Relationship.{Orientation}
use Rattle.relationships.specs.Graph.{Edge, edge_of, is_same, edges_on, edges, orientation}
use Rattle.relationships.specs.Givens.{names_edge, end_by}
use Rattle.relationships.proofs.Edges.{same_edge}
use Rattle.relationships.proofs.GivenLemmas.{all_parts}
use Rattle.relationships.proofs.GivenWalks.{any_contains}
use Rattle.as_graph.proofs.Labelled.{NoneTwice, NoneTwice-distinct, none_at, same_itself}
use Rattle.rel_infer.specs.FirstEnds.{HasProvider, AreTurned}

-- ---- the end of one edge is changed

pub same_back : (e f : Edge) → is_same e f ≡ true → is_same f e ≡ true
same_back e f t = subst (λ (g : Edge). is_same g e ≡ true) (same_edge e f t) (same_itself e)

orientation-set : (es : List Edge) (ends : List End) (k : ℕ) (e : Edge) (x : End) → NoneTwice es → slice_get es k ≡ Some e → k < length ends → (low high : ℕ) →
    orientation es (set ends k x) low high ≡ (if is_same e (low, high) then x else orientation es ends low high)
orientation-set [] ends k e x once is lt low high = absurd (cc is)
orientation-set (f ∷ es) [] k e x once is lt low high = absurd (omega arith)
orientation-set (f ∷ es) (end ∷ ends) zero e x once is lt low high =
    let here : f ≡ e = cc is in
    let same : is_same e (low, high) ≡ is_same f (low, high) = sym (ap (λ (g : Edge). is_same g (low, high)) here) in
    elim (cases_Bool (is_same f (low, high))) [ inl t ↦ rw (same, t) refl | inr n ↦ rw (same, n) refl ]
orientation-set (f ∷ es) (end ∷ ends) (suc k) e x once is lt low high =
    elim (cases_Bool (is_same f (low, high))) [
      | inl t ↦
          let other : is_same e (low, high) ≡ false = false_from_ne_true (is_same e (low, high)) (λ s.
          false≢true (sym (none_at f es k e once.0 is) ∙ subst (λ (g : Edge). is_same g e ≡ true) (sym (same_edge f (low, high) t)) (same_back e (low, high) s))) in
          rw (t, other) refl
      | inr n ↦ rw n (orientation-set es ends k e x once.1 is (omega arith) low high)
    ]

-- ---- one given more

pub turned_none : (graph : List (List ℕ)) (ends : List End) → AreTurned graph [] ends ends
turned_none graph ends = record { many = refl; still = λ O have e c is. is; turned = λ O have. All-nil (λ g. IsTrue (names_edge graph g) → HasProvider (orientation (edges graph) ends) g) }

pub turned_not : (graph : List (List ℕ)) (g : Given) (ends : List End) → names_edge graph g ≡ false → AreTurned graph (g ∷ []) ends ends
turned_not graph g ends none = record {
  many = refl;
  still = λ O have e c is. is;
  turned = λ O have.
      let P : Given → Type 0 = λ h. IsTrue (names_edge graph h) → HasProvider (orientation (edges graph) ends) h in
      All-cons P g [] (λ t. absurd (false≢true (sym none ∙ t))) (All-nil P);
}

module _ (graph : List (List ℕ)) (g : Given) (k : ℕ) (old : List End) (many : length old ≡ length (edges graph)) (is : slice_get (edges graph) k ≡ Some (edge_of g.over g.under)) where
  abbrev x : End
  x = end_by g.over g.under

  set_at : (low high : ℕ) → orientation (edges graph) (set old k x) low high ≡ (if is_same (edge_of g.over g.under) (low, high) then x else orientation (edges graph) old low high)
  set_at =
      let within = slice_get_within (edges graph) k (edge_of g.over g.under) is in
      orientation-set (edges graph) old k (edge_of g.over g.under) x (NoneTwice-distinct (flat_map edges_on graph)) is (omega (arith, within, many))

  still_at : (O : Orientation) → HasProvider O g → (f : Edge) → orientation (edges graph) old f.0 f.1 ≡ O f.0 f.1 → orientation (edges graph) (set old k x) f.0 f.1 ≡ O f.0 f.1
  still_at O has f there =
      elim (cases_Bool (is_same (edge_of g.over g.under) f)) [
        | inl t ↦
            set_at f.0 f.1 ∙ ap (λ b. if b then x else orientation (edges graph) old f.0 f.1) t ∙ sym has ∙ ap (λ (d : Edge). O d.0 d.1) (same_edge (edge_of g.over g.under) f t)
        | inr n ↦ set_at f.0 f.1 ∙ ap (λ b. if b then x else orientation (edges graph) old f.0 f.1) n ∙ there
      ]

  turned_at : HasProvider (orientation (edges graph) (set old k x)) g
  turned_at =
      set_at (min g.over g.under) (max g.over g.under) ∙
      ap (λ b. if b then x else orientation (edges graph) old (min g.over g.under) (max g.over g.under)) (same_itself (edge_of g.over g.under))

  pub turned_one : AreTurned graph (g ∷ []) old (set old k x)
  turned_one = record {
    many = length-set old k x;
    still = λ O have f c there. still_at O (All-head (HasProvider O) g [] have) f there;
    turned = λ O have.
        let P : Given → Type 0 = λ h. IsTrue (names_edge graph h) → HasProvider (orientation (edges graph) (set old k x)) h in
        All-cons P g [] (λ t. turned_at) (All-nil P);
  }

turned_next : (graph : List (List ℕ)) (givens : List Given) (g : Given) (old now new : List End) → AreTurned graph givens old now → AreTurned graph (g ∷ []) now new →
    AreTurned graph (givens ++ g ∷ []) old new
turned_next graph givens g old now new first last = record {
  many = last.many ∙ first.many;
  still = λ O have e c is. let both = all_parts (HasProvider O) givens (g ∷ []) have in last.still O both.1 e c (first.still O both.0 e c is);
  turned = λ O have.
      let both = all_parts (HasProvider O) givens (g ∷ []) have in
      All-append (λ h. IsTrue (names_edge graph h) → HasProvider (orientation (edges graph) new) h) givens (g ∷ [])
      (λ k d within named.
      let h = get_or givens k d in
      last.still O both.1 (edge_of h.over h.under) (any_contains (edges graph) (edge_of h.over h.under) named)
      (first.turned O both.0 k d within named ∙ sym (both.0 k d within)) ∙ both.0 k d within)
      (last.turned O both.1);
}

pub turned_more : (graph : List (List ℕ)) (givens : List Given) (k : ℕ) (d : Given) (old now new : List End) → k < length givens →
    AreTurned graph (take k givens) old now → AreTurned graph (get_or givens k d ∷ []) now new → AreTurned graph (take (k + 1) givens) old new
turned_more graph givens k d old now new lt first last =
    subst (λ gs. AreTurned graph gs old new) (sym (take_more givens k d lt)) (turned_next graph (take k givens) (get_or givens k d) old now new first last)
