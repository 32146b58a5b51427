-- What given lines that meet the rules give.
use Rattle.std.proofs.Common.{◌≡◌, ◌≢◌, ℕ, suc, ◌+◌, ◌-◌, ◌<◌, inl, inr, min, max, List, ◌++◌, [], ◌∷◌, length, map, take, get_or, Some, slice_get, is_none, refl, sym}
use Rattle.std.proofs.Common.{ap, ◌∙◌, subst, arith, All, Contains}
use Rattle.std.proofs.Common.{IsTrue}
use Rattle.std.proofs.lemmas.Option.{slice_get_within, slice_get-get_or}
use Rattle.std.proofs.lemmas.List.{length-take-le, get_or-take}
use Rattle.std.proofs.lemmas.List.Elements.{All-contains, All-from_recursion, recursion_from_All, All-take, All-contains_itself, Contains-append_cases}
use Rattle.tor_arena.proofs.Gets.{All-get, Contains-map, Contains-from_has, Contains-one, slice_get-unmap}
use Rattle.relationships.specs.declared.given.Given.{Given}
use Rattle.relationships.specs.declared.walk.Walk.{Walk}
use Rattle.relationships.specs.Relationship.{Labelling, Orientation, label_of, labels_of, Serves}
use Rattle.relationships.specs.Graph.{Edge, edge_of, edges}
use Rattle.relationships.specs.Evidence.{paths_of}
use Rattle.relationships.specs.Selection.{IsServable}
use Rattle.relationships.specs.Givens.{names_edge, LabelsSay, AgreesWith, NameTwo, NameOnce, end_by, return_of}
use Rattle.relationships.proofs.Edges.{over_kept}
use Rattle.relationships.proofs.Neighbours.{edge_law}
use Rattle.relationships.proofs.Checked.{kept_all, label_of_claim}
use Rattle.relationships.proofs.GivenLemmas.{ends_hold, all_givens_law}
use Rattle.relationships.proofs.GivenWalks.{any_contains, given_walks_law}
use Rattle.relationships.specs.declared.fate.Fate.TheVariants.{Lost}
use Rattle.result_text.specs.declared.file.PathLine.{PathLine}
use Rattle.result_text.specs.declared.file.EdgeLine.{EdgeLine}
use Rattle.result_text.specs.declared.file.ResultFile.{ResultFile}
use Rattle.result_rules.specs.File.{its_givens, its_paths, its_walks, its_returns, kept_before, claim_on, its_claims, its_edges, its_labels}
use Rattle.result_rules.specs.declared.rule.Rule.TheVariants.{HeadSound, LostRefuted, EdgesListed, LabelsServe}
use Rattle.result_rules.specs.Rules.{IsMet, IsNewGiven, HasGivenLabel}
use Rattle.result_rules.proofs.Accepted.{each_at, edges_listed, claimed_edges, lost_paths}

module _ (file : ResultFile) (met : IsMet file HeadSound) where
  new_given : (k : ℕ) (g : Given) → slice_get (its_givens file) k ≡ Some g → IsNewGiven file k g
  new_given k g at = let lt = slice_get_within (its_givens file) k g at in met (suc k) (omega (arith, lt)) g at

  pub name_two : NameTwo (its_givens file)
  name_two = All-from_recursion (λ g. g.over ≢ g.under) (its_givens file) (each_at (λ g. g.over ≢ g.under) (its_givens file) (λ k g at. (new_given k g at).two))

  pub name_once : NameOnce (its_givens file)
  name_once i j d lt within =
      let h = get_or (its_givens file) j d in
      let none = (new_given j h (slice_get-get_or (its_givens file) j d within)).new i d (subst (λ n. i < n) (sym (length-take-le j (its_givens file) (omega (arith, within)))) lt) in
      subst (λ (g : Given). edge_of g.over g.under ≢ edge_of h.over h.under) (get_or-take j (its_givens file) i d lt) none

-- ---- labels

-- labels with the given's provider at its edge say what it says
label_says : (L : Labelling) (g : Given) → g.over ≢ g.under → L (min g.over g.under) (max g.over g.under) ≡ label_of (end_by g.over g.under) → LabelsSay L g
label_says L g two is = over_kept (labels_of ends) L g.over g.under ((λ h. is ∙ h), (λ h. is ∙ h)) (ends_hold ends (g ∷ []) (two, tt) (refl, tt)).0
  where
    ends : Orientation
    ends low high = end_by g.over g.under

pub labels_agree : (file : ResultFile) → IsMet file HeadSound → IsMet file EdgesListed → IsMet file LabelsServe → AgreesWith (its_givens file) (its_paths file) (its_labels file)
labels_agree file head listed labels =
    All-from_recursion (λ g. IsTrue (names_edge (its_paths file) g) → LabelsSay (its_labels file) g) (its_givens file)
    (each_at (λ g. IsTrue (names_edge (its_paths file) g) → LabelsSay (its_labels file) g) (its_givens file) says)
  where
    label_at : (g : Given) (k : ℕ) (line : EdgeLine) → slice_get file.edges k ≡ Some line → edge_of g.over g.under ≡ (line.low, line.high) → Contains (its_givens file) g →
        its_labels file (min g.over g.under) (max g.over g.under) ≡ label_of (end_by g.over g.under)
    label_at g k line at same c =
        let lt = slice_get_within file.edges k line at in
        let back : k ≡ length file.paths + k - length file.paths = omega arith in
        let right : HasGivenLabel file line =
        (labels (length file.paths + k) (omega (arith, lt))).1 (omega arith) line (subst (λ n. slice_get file.edges n ≡ Some line) back at) in
        let there : Contains (its_claims file) (claim_on line) = Contains-map claim_on file.edges line (Contains-from_has file.edges line (k, at)) in
        ap (λ (e : Edge). its_labels file e.0 e.1) same ∙ label_of_claim (its_paths file) (its_claims file) (claimed_edges file.edges ∙ edges_listed file listed) (claim_on line) there ∙
        All-contains (λ (h : Given). edge_of h.over h.under ≡ (line.low, line.high) → line.label ≡ label_of (end_by h.over h.under)) (its_givens file) g right c same

    says : (k : ℕ) (g : Given) → slice_get (its_givens file) k ≡ Some g → IsTrue (names_edge (its_paths file) g) → LabelsSay (its_labels file) g
    says k g at named =
        let c = any_contains (edges (its_paths file)) (edge_of g.over g.under) named in
        let here : Contains (its_edges file) (edge_of g.over g.under) = subst (λ (es : List Edge). Contains es (edge_of g.over g.under)) (sym (edges_listed file listed)) c in
        let l = slice_get-unmap {Y = Edge} (λ (e : EdgeLine). (e.low, e.high)) file.edges here.0 (edge_of g.over g.under)
        (slice_get-get_or (its_edges file) here.0 (edge_of g.over g.under) here.1 ∙ ap (λ (e : Edge). Some e) here.2) in
        label_says (its_labels file) g (All-get (λ (h : Given). h.over ≢ h.under) (its_givens file) k g (name_two file head) at)
        (label_at g here.0 l.0 l.1 (sym l.2) (Contains-from_has (its_givens file) g (k, at)))

-- ---- lost paths

-- the paths kept before a line, and its own, have edges of the paths alone
near : (file : ResultFile) (k : ℕ) (line : PathLine) → slice_get file.paths k ≡ Some line →
    (e : Edge) → Contains (edges (paths_of (kept_before file k) ++ line.path ∷ [])) e → Contains (edges (its_paths file)) e
near file k line at e c =
    let some = paths_of (kept_before file k) ++ line.path ∷ [] in
    let n = ((edge_law some).1 e).0 c in ((edge_law (its_paths file)).1 e).1 (n.0, n.1, (n.2.0, path_there n.2.0 n.2.1, n.2.2), n.3)
  where
    kept_there : All (Contains (its_paths file)) (paths_of (kept_before file k))
    kept_there =
        All-from_recursion (Contains (its_paths file)) (paths_of (kept_before file k))
        (kept_all (Contains (its_paths file)) 1 (take k (its_paths file)) (map is_none (take k (its_walks file)))
        (recursion_from_All (Contains (its_paths file)) (take k (its_paths file)) (All-take (Contains (its_paths file)) k (its_paths file) (All-contains_itself (its_paths file)))))

    path_there : (path : List ℕ) → Contains (paths_of (kept_before file k) ++ line.path ∷ []) path → Contains (its_paths file) path
    path_there path c = elim (Contains-append_cases (paths_of (kept_before file k)) (line.path ∷ []) path c) [
      | inl i ↦ All-contains (Contains (its_paths file)) (paths_of (kept_before file k)) path kept_there i
      | inr i ↦ subst (Contains (its_paths file)) (Contains-one line.path path i)
          (Contains-map (λ (p : PathLine). p.path) file.paths line (Contains-from_has file.paths line (k, at)))
    ]

pub lost_unserved : (file : ResultFile) → IsMet file HeadSound → IsMet file LostRefuted → (k : ℕ) (line : PathLine) (walk : Walk) →
    slice_get file.paths k ≡ Some line → line.fate ≡ Lost walk → IsServable (its_returns file ++ (paths_of (kept_before file k) ++ line.path ∷ [])) → ⊥
lost_unserved file head met k line walk at is served =
    let givens = its_givens file in
    let all = (all_givens_law givens (its_paths file) (paths_of (kept_before file k) ++ line.path ∷ []) (name_two file head) (name_once file head) (near file k line at)).0.0 served in
    (given_walks_law givens (kept_before file k ++ (k + 1, line.path) ∷ [])).0 walk (met k (slice_get_within file.paths k line at) line at walk is) all.0
    (subst (λ (ps : List (List ℕ)). Serves all.0 (map return_of givens ++ ps)) (sym (lost_paths file k line)) all.1)
