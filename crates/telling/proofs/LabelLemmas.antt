-- Of a forced edge the order of the label is shown.
use Rattle.std.proofs.Common.{◌≡◌, ◌≢◌, ◌⊎◌, inl, inr, ℕ, ◌<◌, true, List, [], ◌∷◌, ◌++◌, map, flat_map, is_none, sym, ap, ◌∙◌, subst, arith, All, Contains, IsTrue}
use Rattle.std.specs.List.{AllByRecursion}
use Rattle.std.proofs.lemmas.Bool.{false≢true, cases_Bool}
use Rattle.std.proofs.lemmas.List.Elements.{All-append, All-contains, All-contains_itself, All-from_recursion, recursion_from_All}
use Rattle.tor_arena.proofs.Gets.{Contains-map}
use Rattle.relationships.specs.declared.label.End.{End}
use Rattle.relationships.specs.declared.label.Label.{Label}
use Rattle.relationships.specs.declared.given.Given.{Given}
use Rattle.relationships.specs.declared.mark.Mark.TheVariants as mark
use Rattle.relationships.specs.Relationship.{Orientation, labels_of, is_over, ValleyFree, Serves}
use Rattle.relationships.specs.Graph.{Edge, edges_on, edges}
use Rattle.relationships.specs.Evidence.{NeighboursDiffer, paths_of}
use Rattle.relationships.specs.Selection.{IsServable}
use Rattle.relationships.specs.Checking.{IsBorneOut}
use Rattle.relationships.specs.Givens.{names_edge, return_of, returns}
use Rattle.relationships.specs.GivenEvidence.{served_with}
use Rattle.relationships.specs.Marking.{is_forced}
use Rattle.relationships.proofs.Checked.{read, reading, reading_serves, kept_all, label_of_claim, over_low, over_high, rising_at, rising_all, distinct_keeps}
use Rattle.relationships.proofs.GivenLemmas.{agrees_free, all_parts, all_givens_law, with_return, without_return}
use Rattle.relationships.proofs.GivenWalks.{given_walks_law}
use Rattle.relationships.proofs.Neighbours.{edge_law}
use Rattle.relationships.proofs.Serving.{all_differ_if_distinct}
use Rattle.result_text.specs.declared.file.EdgeLine.{EdgeLine}
use Rattle.result_text.specs.declared.file.ResultFile.{ResultFile}
use Rattle.result_rules.specs.declared.rule.Rule.TheVariants.{HeadSound, PathsCleaned, EdgesListed, LabelsServe, OrdersShown, MarksBorneOut}
use Rattle.result_rules.specs.File.{its_givens, its_paths, its_walks, its_kept, its_labels, its_claims, its_returns, its_probes, shown_orders, claim_on}
use Rattle.result_rules.specs.Rules.{Accepts, its_served}
use Rattle.result_rules.proofs.Acceptance.{acceptance_law}
use Rattle.result_rules.proofs.Accepted.{paths_apart, edges_listed, kept_valley_free, claimed_edges}
use Rattle.result_rules.proofs.GivenLines.{name_two, name_once, labels_agree}
use Rattle.result_rules.proofs.MarkLaws.{marks_are_borne_out}
use Rattle.result_rules.proofs.WalkLaws.{orders_are_shown}
use Rattle.telling.specs.Proving.{HasOrder}

-- what is served by all givens is served by some of them
fewer : (P : List ℕ → Type 0) (paths : List (List ℕ)) (givens : List Given) → AllByRecursion P (map return_of givens) → AllByRecursion P (returns paths givens)
fewer P paths [] h = tt
fewer P paths (g ∷ givens) h =
    elim (cases_Bool (names_edge paths g)) [
      | inl t ↦ subst (AllByRecursion P) (sym (with_return paths g givens t)) (h.0, fewer P paths givens h.1)
      | inr f ↦ subst (AllByRecursion P) (sym (without_return paths g givens f)) (fewer P paths givens h.1)
    ]

module _ (file : ResultFile) (accepts : Accepts file) where
  abbrev pub kept : List (List ℕ)
  kept = paths_of (its_kept file)

  abbrev pub near : List (List ℕ)
  near = its_returns file ++ kept

  kept_there : All (Contains (its_paths file)) kept
  kept_there =
      All-from_recursion (Contains (its_paths file)) kept
      (kept_all (Contains (its_paths file)) 1 (its_paths file) (map is_none (its_walks file)) (recursion_from_All (Contains (its_paths file)) (its_paths file) (All-contains_itself (its_paths file))))

  pub kept_edges : (e : Edge) → Contains (edges kept) e → Contains (edges (its_paths file)) e
  kept_edges e c =
      let n = ((edge_law kept).1 e).0 c in
      ((edge_law (its_paths file)).1 e).1 (n.0, n.1, (n.2.0, All-contains (Contains (its_paths file)) kept n.2.0 kept_there n.2.1, n.2.2), n.3)

  pub paths_differ : All NeighboursDiffer (its_paths file)
  paths_differ = all_differ_if_distinct (its_paths file) (paths_apart file (accepts PathsCleaned))

  pub kept_differ : All NeighboursDiffer kept
  kept_differ =
      All-from_recursion NeighboursDiffer kept
      (kept_all NeighboursDiffer 1 (its_paths file) (map is_none (its_walks file)) (recursion_from_All NeighboursDiffer (its_paths file) paths_differ))

  pub near_free : All (ValleyFree (its_labels file)) near
  near_free =
      All-append (ValleyFree (its_labels file)) (its_returns file) kept
      (agrees_free (its_paths file) (its_labels file) (its_givens file) (labels_agree file (accepts HeadSound) (accepts EdgesListed) (accepts LabelsServe)))
      (kept_valley_free file (accepts LabelsServe))

  by_labels : Orientation
  by_labels = reading End.Low (its_labels file)

  by_labels_serves : Serves by_labels near
  unfolding by_labels
  by_labels_serves = reading_serves End.Low (its_labels file) near near_free

  -- some orientation serves with all givens
  some_serves : IsServable (served_with (its_givens file) kept)
  some_serves =
      (all_givens_law (its_givens file) (its_paths file) kept (name_two file (accepts HeadSound)) (name_once file (accepts HeadSound)) kept_edges).0.0
      (by_labels, by_labels_serves)

  serves_near : (O : Orientation) → Serves O (served_with (its_givens file) kept) → Serves O near
  serves_near O serves =
      let p = all_parts (ValleyFree (labels_of O)) (map return_of (its_givens file)) kept serves in
      All-append (ValleyFree (labels_of O)) (its_returns file) kept
      (All-from_recursion (ValleyFree (labels_of O)) (its_returns file)
      (fewer (ValleyFree (labels_of O)) (its_paths file) (its_givens file) (recursion_from_All (ValleyFree (labels_of O)) (map return_of (its_givens file)) p.0)))
      p.1

  module _ (line : EdgeLine) (there : Contains file.edges line) where
    claimed : Contains (its_claims file) (claim_on line)
    claimed = Contains-map claim_on file.edges line there

    pub its_label : its_labels file line.low line.high ≡ line.label
    its_label = label_of_claim (its_paths file) (its_claims file) (claimed_edges file.edges ∙ edges_listed file (accepts EdgesListed)) (claim_on line) claimed

    pub rises : line.low < line.high
    rises =
        rising_at (its_claims file) (claim_on line) claimed.0
        (subst (AllByRecursion (λ (e : Edge). e.0 < e.1)) (sym (claimed_edges file.edges ∙ edges_listed file (accepts EdgesListed)))
        (distinct_keeps (λ (e : Edge). e.0 < e.1) (flat_map edges_on (its_paths file)) (rising_all (its_paths file) (recursion_from_All NeighboursDiffer (its_paths file) paths_differ))))
        claimed.1 claimed.2

    module _ (is : line.mark ≡ mark.Forced) where
      marked : IsTrue (is_forced line.mark)
      marked = ap is_forced is

      -- an order that is shown holds where the labels are read
      no_other : (e : End) → by_labels line.low line.high ≡ e → (over under : ℕ) → Contains (shown_orders file.whys) (over, under) → over ≢ under →
          ((O : Orientation) → is_over (labels_of O) over under ≡ true → O line.low line.high ≢ e) → ⊥
      no_other e reads over under shown ne not =
          let O = some_serves.0 in
          let serves = some_serves.1 in
          let forced = ((acceptance_law file accepts).forced line there).0 marked in
          let same = forced by_labels O by_labels_serves (serves_near O serves) in
          let holds =
          (given_walks_law (its_givens file) (its_kept file)).1 file.whys (shown_orders file.whys) (name_two file (accepts HeadSound)) kept_differ
          (orders_are_shown file (accepts OrdersShown)) O serves over under ne shown in
          not O holds (sym same ∙ reads)

      shown_either : Contains (shown_orders file.whys) (line.low, line.high) ⊎ Contains (shown_orders file.whys) (line.high, line.low)
      shown_either =
          elim (All-contains (IsBorneOut (its_served file) (shown_orders file.whys) (its_probes file)) (its_claims file) (claim_on line) (marks_are_borne_out file (accepts MarksBorneOut)) claimed) [
            | inl h ↦ h.1
            | inr h ↦ elim h [
              | inl p ↦ absurd (false≢true (sym p.0 ∙ marked))
              | inr p ↦ absurd (false≢true (sym p.0 ∙ marked))
            ]
          ]

      -- the low number is the provider
      low_shown : line.label ≡ Label.Low → Contains (shown_orders file.whys) (line.low, line.high)
      unfolding by_labels
      low_shown low =
          elim shown_either [
            | inl c ↦ c
            | inr c ↦ absurd (no_other End.Low (ap (read End.Low) (its_label ∙ low)) line.high line.low c (λ e. absurd (omega (arith, rises, e)))
                (λ O o e. (let f : End.Low ≡ End.High = sym e ∙ over_high O line.low line.high rises o in cc)))
          ]

      high_shown : line.label ≡ Label.High → Contains (shown_orders file.whys) (line.high, line.low)
      unfolding by_labels
      high_shown high =
          elim shown_either [
            | inr c ↦ c
            | inl c ↦ absurd (no_other End.High (ap (read End.Low) (its_label ∙ high)) line.low line.high c (λ e. absurd (omega (arith, rises, e)))
                (λ O o e. (let f : End.High ≡ End.Low = sym e ∙ over_low O line.low line.high rises o in cc)))
          ]

      pub order_shown : (over under : ℕ) → HasOrder line over under → Contains (shown_orders file.whys) (over, under)
      order_shown over under (inl (low, f, g)) =
          subst (λ v. Contains (shown_orders file.whys) (v, under)) (sym g) (subst (λ v. Contains (shown_orders file.whys) (line.low, v)) (sym f) (low_shown low))
      order_shown over under (inr (high, f, g)) =
          subst (λ v. Contains (shown_orders file.whys) (v, under)) (sym g) (subst (λ v. Contains (shown_orders file.whys) (line.high, v)) (sym f) (high_shown high))
