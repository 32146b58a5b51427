-- Some orientation is preferred.
use Rattle.std.proofs.Common.{◌≡◌, ◌↔◌, ◌⊎◌, inl, inr, ℕ, ◌<◌, List, [], ◌∷◌, ◌++◌, map, refl, sym, ◌∙◌, arith, All}
use Rattle.std.specs.List.{AllByRecursion}
use Rattle.std.proofs.lemmas.List.Elements.{All-append, All-cons, All-nil, All-from_recursion, recursion_from_All, All-push}
use Rattle.relationships.specs.declared.label.End.{End}
use Rattle.relationships.specs.Relationship.{Orientation, labels_of, ValleyFree, Serves}
use Rattle.relationships.specs.Graph.{Edge, SameOn}
use Rattle.relationships.specs.Evidence.{NeighboursDiffer}
use Rattle.relationships.specs.Givens.{return_of}
use Rattle.relationships.specs.Preference.{IsPreferred}
use Rattle.relationships.proofs.Deciding.{EachSplit, each_split}
use Rattle.relationships.proofs.GivenLemmas.{all_parts, return_differs, return_free, return_holds}
use Rattle.result_laws.proofs.PossibleLemmas.{decide_servable, given_for, end_says, says_end, two_differ}

-- the lower number of the edge is below the higher
abbrev pub Rises : Edge → Type 0
Rises e = e.0 < e.1

-- the return that asks for this end of an edge, and those that ask for the ends of an orientation
abbrev pub demand : End → Edge → List ℕ
demand end e = return_of (given_for end e.0 e.1)

abbrev demands : Orientation → List Edge → List (List ℕ)
demands O es = map (λ e. demand (O e.0 e.1) e) es

pub demand_differs : (end : End) (e : Edge) → Rises e → NeighboursDiffer (demand end e)
demand_differs end e lt = return_differs (given_for end e.0 e.1) (two_differ end e.0 e.1 lt)

demands_differ : (O : Orientation) (es : List Edge) → AllByRecursion Rises es → AllByRecursion NeighboursDiffer (demands O es)
demands_differ O [] h = tt
demands_differ O (e ∷ es) h = (demand_differs (O e.0 e.1) e h.0, demands_differ O es h.1)

same_if_served : (O P : Orientation) (es : List Edge) → AllByRecursion Rises es → AllByRecursion (ValleyFree (labels_of P)) (demands O es) →
    AllByRecursion (λ (e : Edge). O e.0 e.1 ≡ P e.0 e.1) es
same_if_served O P [] h s = tt
same_if_served O P (e ∷ es) h s =
    (sym (says_end P (O e.0 e.1) e.0 e.1 h.0 (return_holds (labels_of P) (given_for (O e.0 e.1) e.0 e.1) s.0)), same_if_served O P es h.1 s.1)

served_if_same : (O P : Orientation) (es : List Edge) → AllByRecursion Rises es → AllByRecursion (λ (e : Edge). O e.0 e.1 ≡ P e.0 e.1) es →
    AllByRecursion (ValleyFree (labels_of P)) (demands O es)
served_if_same O P [] h s = tt
served_if_same O P (e ∷ es) h s =
    (return_free (labels_of P) (given_for (O e.0 e.1) e.0 e.1) (end_says P (O e.0 e.1) e.0 e.1 h.0 (sym s.0)), served_if_same O P es h.1 s.1)

module _ (served : List (List ℕ)) (differ : All NeighboursDiffer served) (wanted : Edge → End) where
  -- some orientation that serves has the ends of O at these edges and the wanted one of e
  abbrev Could : Orientation → List Edge → Edge → Type 0
  Could O seen e = (P : Orientation) × Serves P served × SameOn seen O P × (P e.0 e.1 ≡ wanted e)

  could_or_not : (O : Orientation) (seen : List Edge) (e : Edge) → AllByRecursion Rises seen → Rises e → Could O seen e ⊎ (Could O seen e → ⊥)
  could_or_not O seen e rising lt =
      let own = demand (wanted e) e ∷ [] in
      let more = demands O seen ++ own in
      let all_differ = All-append NeighboursDiffer served more differ (All-append NeighboursDiffer (demands O seen) own
      (All-from_recursion NeighboursDiffer (demands O seen) (demands_differ O seen rising))
      (All-cons NeighboursDiffer (demand (wanted e) e) [] (demand_differs (wanted e) e lt) (All-nil NeighboursDiffer))) in
      elim (decide_servable (served ++ more) all_differ) [
        | inl s ↦
            let F = ValleyFree (labels_of s.0) in
            let k = all_parts F served more s.1 in
            let m = all_parts F (demands O seen) own k.1 in
            inl (
              s.0,
              k.0,
              All-from_recursion (λ (f : Edge). O f.0 f.1 ≡ s.0 f.0 f.1) seen (same_if_served O s.0 seen rising (recursion_from_All F (demands O seen) m.0)),
              says_end s.0 (wanted e) e.0 e.1 lt (return_holds (labels_of s.0) (given_for (wanted e) e.0 e.1) (m.1 0 (demand (wanted e) e) (omega arith))),
            )
        | inr none ↦ inr (λ c.
            let F = ValleyFree (labels_of c.0) in
            none (
              c.0,
              All-append F served more c.1 (All-append F (demands O seen) own
                  (All-from_recursion F (demands O seen) (served_if_same O c.0 seen rising (recursion_from_All (λ (f : Edge). O f.0 f.1 ≡ c.0 f.0 f.1) seen c.2)))
                  (All-cons F (demand (wanted e) e) [] (return_free (labels_of c.0) (given_for (wanted e) e.0 e.1) (end_says c.0 (wanted e) e.0 e.1 lt c.3)) (All-nil F))),
            ))
      ]

  abbrev Wish : Orientation → List Edge → Edge → List Edge → Type 0
  Wish P before e after = (P e.0 e.1 ≡ wanted e) ↔ Could P before e

  -- an orientation that serves, is the same as O at the edges that are settled, and has what is preferred at the others
  abbrev Settled : Orientation → List Edge → List Edge → Type 0
  Settled O seen rest = (P : Orientation) × Serves P served × SameOn seen O P × EachSplit (Wish P) seen rest

  last_same : (O P : Orientation) (seen : List Edge) (e : Edge) → SameOn (seen ++ e ∷ []) O P → SameOn seen O P × (O e.0 e.1 ≡ P e.0 e.1)
  last_same O P seen e same = let k = all_parts (λ (f : Edge). O f.0 f.1 ≡ P f.0 f.1) seen (e ∷ []) same in (k.0, k.1 0 e (omega arith))

  settled : (seen rest : List Edge) (O : Orientation) → AllByRecursion Rises seen → AllByRecursion Rises rest → Serves O served → Settled O seen rest
  settled seen [] O rising rising' serves = (O, serves, (λ k d within. refl), tt)
  settled seen (e ∷ rest) O rising rising' serves =
      let more = recursion_from_All Rises (seen ++ e ∷ []) (All-push Rises seen e (All-from_recursion Rises seen rising) rising'.0) in
      elim (could_or_not O seen e rising rising'.0) [
        | inl c ↦
            let r = settled (seen ++ e ∷ []) rest c.0 more rising'.1 c.1 in
            let l = last_same c.0 r.0 seen e r.2 in
            let is : r.0 e.0 e.1 ≡ wanted e = sym l.1 ∙ c.3 in
            (r.0, r.1, (λ k d within. c.2 k d within ∙ l.0 k d within), (((λ _. (r.0, r.1, (λ k d within. refl), is)), (λ _. is)), r.3))
        | inr none ↦
            let r = settled (seen ++ e ∷ []) rest O more rising'.1 serves in
            let l = last_same O r.0 seen e r.2 in (
              r.0,
              r.1,
              l.0,
              (
                (
                  (λ is. absurd (none (r.0, r.1, l.0, is))),
                  (λ c. absurd (none (c.0, c.1, (λ k d within. l.0 k d within ∙ c.2 k d within), c.3))),
                ),
                r.3,
              ),
            )
      ]

  pub some_preferred : (order : List Edge) (O : Orientation) → AllByRecursion Rises order → Serves O served → (P : Orientation) × IsPreferred served wanted order P
  some_preferred order O rising serves =
      let r = settled [] order O tt rising serves in
      (r.0, λ before e after split. each_split (Wish r.0) [] order before e after r.3 split)
