-- What the labels of a result that meets all rules, and its givens, are to a graph that begins with its paths.
use Rattle.std.proofs.Common.{◌≡◌, ℕ, ◌+◌, ◌≤◌, inl, inr, true, false, List, [], ◌∷◌, ◌++◌, length, get_or, map, drop, refl, sym, ap, ◌∙◌, subst, arith}
use Rattle.std.proofs.Common.{Option, None, Some, unwrap_or, All, Contains, IsTrue, is_none, flat_map, append-nil, length-append, if◌then◌else◌}
use Rattle.std.specs.List.{list_any, AllByRecursion}
use Rattle.std.proofs.lemmas.Bool.{cases_Bool, false_from_ne_true, false≢true, both_ways}
use Rattle.std.proofs.lemmas.List.{take-append-drop}
use Rattle.std.proofs.lemmas.List.Concat.{flat_map-append}
use Rattle.std.proofs.lemmas.List.Elements.{All-contains, All-contains_itself, All-from_recursion, recursion_from_All, Contains-append_left, Contains-get_or}
use Rattle.relationships.specs.declared.given.Given.{Given}
use Rattle.relationships.specs.declared.label.End.{End}
use Rattle.relationships.specs.Relationship.{Orientation, label_of, labels_of, Serves}
use Rattle.relationships.specs.Graph.{Edge, edge_of, is_same, edges_on, distinct, edges, orientation}
use Rattle.relationships.specs.Givens.{names_edge, LabelsSay, AgreesWith, by_givens, returns}
use Rattle.relationships.specs.Evidence.{paths_of}
use Rattle.relationships.specs.Checking.{claimed_labels}
use Rattle.relationships.specs.Preference.{AgreesOn}
use Rattle.relationships.proofs.Edges.{relaxing_law, peering_law, reading_law}
use Rattle.relationships.proofs.Neighbours.{edge_law, edge_order_law}
use Rattle.relationships.proofs.Checked.{kept_all}
use Rattle.relationships.proofs.GivenLemmas.{agrees_free, free_agrees, over_end, once_all, each_end, ends_hold, any_there}
use Rattle.result_text.specs.declared.file.EdgeLine.{EdgeLine}
use Rattle.result_text.specs.declared.file.ResultFile.{ResultFile}
use Rattle.result_rules.specs.declared.rule.Rule.TheVariants.{HeadSound, EdgesListed}
use Rattle.result_rules.specs.File.{its_givens, its_paths, its_walks, its_kept, claim_on, its_edges, its_labels}
use Rattle.result_rules.specs.Rules.{Accepts}
use Rattle.result_rules.specs.Valid.{Valid}
use Rattle.result_rules.proofs.Acceptance.{acceptance_law}
use Rattle.result_rules.proofs.Accepted.{edges_listed, same_length}
use Rattle.result_rules.proofs.GivenLines.{name_two, name_once}
use Rattle.rel_infer.specs.Earlier.{BeginsWithPathsOf, IsKeptOrientation}
use Rattle.rel_infer.specs.FirstEnds.{provider_of, first_ends, HasProvider, AreTurned}
use Rattle.rel_infer.proofs.Turning.{same_back}

-- ---- the edges of paths begin with those of the first of them

edges_begin : (paths more : List (List ℕ)) → (later : List Edge) × (edges (paths ++ more) ≡ edges paths ++ later)
edges_begin paths [] = ([], ap edges (append-nil paths) ∙ sym (append-nil (edges paths)))
edges_begin paths (path ∷ more) =
    let law = edge_order_law paths [] path more in
    let start : edges (paths ++ [] ∷ []) ≡ edges paths = ap distinct (flat_map-append edges_on paths ([] ∷ []) ∙ append-nil (flat_map edges_on paths)) in
    (law.0, law.1 ∙ ap (λ (es : List Edge). es ++ law.0) start)

-- ---- the ends of edge lines are the providers of their labels

provider_at : (lines : List EdgeLine) (later : List Edge) (further : List End) (e : Edge) → list_any (is_same e) (map (λ (l : EdgeLine). (l.low, l.high)) lines) ≡ true →
    orientation (map (λ (l : EdgeLine). (l.low, l.high)) lines ++ later) (map (λ (l : EdgeLine). provider_of l.label) lines ++ further) e.0 e.1 ≡
    provider_of (claimed_labels (map claim_on lines) e.0 e.1)
provider_at [] later further e h = absurd (false≢true h)
provider_at (line ∷ lines) later further e h =
    elim (cases_Bool (is_same (line.low, line.high) e)) [
      | inl t ↦ rw t refl
      | inr n ↦
          let other : is_same e (line.low, line.high) ≡ false = false_from_ne_true (is_same e (line.low, line.high)) (λ t.
          both_ways (is_same (line.low, line.high) e) n (same_back e (line.low, line.high) t)) in
          rw n (provider_at lines later further e (rw other at h))
    ]

module _ (file : ResultFile) (accepts : Accepts file) where
  abbrev valid : Valid file
  valid = acceptance_law file accepts

  -- each label read as its provider
  abbrev read : Orientation
  read low high = provider_of (its_labels file low high)

  read_agrees : (es : List Edge) → AgreesOn es (its_labels file) (labels_of read)
  read_agrees es = λ k d within. (λ h. ap (λ v. label_of (provider_of v)) h, λ h. ap (λ v. label_of (provider_of v)) h)

  read_serves : Serves read (paths_of (its_kept file))
  read_serves = peering_law (its_labels file) (paths_of (its_kept file)) valid.valley_free read (read_agrees (edges (paths_of (its_kept file))))

  read_says : AgreesWith (its_givens file) (its_paths file) (labels_of read)
  read_says =
      let back = returns (its_paths file) (its_givens file) in
      free_agrees (its_paths file) (labels_of read) (its_givens file)
      (relaxing_law (its_labels file) (labels_of read) back (read_agrees (edges back)) (agrees_free (its_paths file) (its_labels file) (its_givens file) valid.agrees))

  -- the same, and off the edges of the result the providers that its givens name
  abbrev wanted : Orientation
  wanted low high = if list_any (is_same (low, high)) (edges (its_paths file)) then read low high else by_givens (its_givens file) low high

  wanted_there : (e : Edge) → list_any (is_same e) (edges (its_paths file)) ≡ true → wanted e.0 e.1 ≡ read e.0 e.1
  wanted_there e t = rw t refl

  wanted_else : (e : Edge) → list_any (is_same e) (edges (its_paths file)) ≡ false → wanted e.0 e.1 ≡ by_givens (its_givens file) e.0 e.1
  wanted_else e f = rw f refl

  wanted_provides : All (HasProvider wanted) (its_givens file)
  wanted_provides =
      All-from_recursion (HasProvider wanted) (its_givens file)
      (go (its_givens file) (recursion_from_All (λ g. IsTrue (names_edge (its_paths file) g) → LabelsSay (labels_of read) g) (its_givens file) read_says)
      (each_end (its_givens file) (once_all (its_givens file) (name_once file (accepts HeadSound)))))
    where
      go : (gs : List Given) → AllByRecursion (λ g. IsTrue (names_edge (its_paths file) g) → LabelsSay (labels_of read) g) gs →
          AllByRecursion (HasProvider (by_givens (its_givens file))) gs → AllByRecursion (HasProvider wanted) gs
      go [] says h = tt
      go (g ∷ gs) says h = (
        elim (cases_Bool (names_edge (its_paths file) g)) [
          | inl named ↦ wanted_there (edge_of g.over g.under) named ∙ over_end read g.over g.under (says.0 named)
          | inr out ↦ wanted_else (edge_of g.over g.under) out ∙ h.0
        ],
        go gs says.1 h.1,
      )

  -- an edge of the kept paths is one of the result
  kept_edge : (e : Edge) → Contains (edges (paths_of (its_kept file))) e → Contains (edges (its_paths file)) e
  kept_edge e c =
      let near = ((edge_law (paths_of (its_kept file))).1 e).0 c in
      ((edge_law (its_paths file)).1 e).1 (near.0, near.1, (near.2.0, All-contains (Contains (its_paths file)) (paths_of (its_kept file)) near.2.0 kept_there near.2.1, near.2.2), near.3)
    where
      kept_there : All (Contains (its_paths file)) (paths_of (its_kept file))
      kept_there =
          All-from_recursion (Contains (its_paths file)) (paths_of (its_kept file))
          (kept_all (Contains (its_paths file)) 1 (its_paths file) (map is_none (its_walks file))
          (recursion_from_All (Contains (its_paths file)) (its_paths file) (All-contains_itself (its_paths file))))

  module _ (graph : List (List ℕ)) (begins : BeginsWithPathsOf graph file) where
    edges_of_graph : (later : List Edge) × (edges graph ≡ its_edges file ++ later)
    edges_of_graph =
        let n = length file.paths in
        let whole : graph ≡ its_paths file ++ drop n graph = sym (take-append-drop n graph) ∙ ap (λ ps. ps ++ drop n graph) begins in
        let begun = edges_begin (its_paths file) (drop n graph) in
        (begun.0, ap edges whole ∙ begun.1 ∙ ap (λ (es : List Edge). es ++ begun.0) (sym (edges_listed file (accepts EdgesListed))))

    pub few_lines : length file.edges ≤ length (edges graph)
    few_lines =
        let es = edges_of_graph in
        let many : length (edges graph) ≡ length (its_edges file) + length es.0 = ap length es.1 ∙ length-append (its_edges file) es.0 in
        let same : length (its_edges file) ≡ length file.edges = same_length (λ (l : EdgeLine). (l.low, l.high)) file.edges in
        omega (arith, many, same)

    there : (e : Edge) → Contains (edges (its_paths file)) e → Contains (edges graph) e
    there e c =
        let es = edges_of_graph in
        subst (λ (fs : List Edge). Contains fs e) (sym es.1)
        (Contains-append_left (its_edges file) es.0 e (subst (λ (fs : List Edge). Contains fs e) (sym (edges_listed file (accepts EdgesListed))) c))

    first_at : (e : Edge) → Contains (edges (its_paths file)) e → orientation (edges graph) (first_ends file.edges (length (edges graph))) e.0 e.1 ≡ read e.0 e.1
    first_at e c =
        let es = edges_of_graph in
        let listed = edges_listed file (accepts EdgesListed) in
        subst (λ (fs : List Edge). orientation fs (first_ends file.edges (length (edges graph))) e.0 e.1 ≡ read e.0 e.1) (sym es.1)
        (provider_at file.edges es.0 _ e (any_there (its_edges file) e (subst (λ (fs : List Edge). Contains fs e) (sym listed) c)))

    pub kept_law : (ends : List End) → AreTurned graph (its_givens file) (first_ends file.edges (length (edges graph))) ends →
        length (first_ends file.edges (length (edges graph))) ≡ length (edges graph) → IsKeptOrientation graph file ends
    kept_law ends turned many = record {
      many = turned.many ∙ many;
      serves = reading_law read (orientation (edges graph) ends) (paths_of (its_kept file)) same read_serves;
      agrees = λ k d within named.
          let g = get_or (its_givens file) k d in
          (ends_hold (orientation (edges graph) ends) (g ∷ []) (name_two file (accepts HeadSound) k d within, tt) (turned.turned wanted wanted_provides k d within named, tt)).0;
    }
      where
        same_at : (e : Edge) → Contains (edges (its_paths file)) e → read e.0 e.1 ≡ orientation (edges graph) ends e.0 e.1
        same_at e c =
            let same = wanted_there e (any_there (edges (its_paths file)) e c) in
            sym (turned.still wanted wanted_provides e (there e c) (first_at e c ∙ sym same) ∙ same)

        same : All (λ (e : Edge). read e.0 e.1 ≡ orientation (edges graph) ends e.0 e.1) (edges (paths_of (its_kept file)))
        same k d within = let e = get_or (edges (paths_of (its_kept file))) k d in same_at e (kept_edge e (Contains-get_or (edges (paths_of (its_kept file))) k d within))

-- the givens of a result, by what is said of them
pub givens_by : (file : ResultFile) (known : Option (List Given)) → file.givens ≡ known → unwrap_or known [] ≡ its_givens file
givens_by file known same = by_case file.givens known same
  where
    by_case : (own known : Option (List Given)) → own ≡ known → unwrap_or known [] ≡ (elim own [ None ↦ [] | Some givens ↦ givens ])
    by_case None known same = ap (λ (o : Option (List Given)). unwrap_or o []) (sym same)
    by_case (Some givens) known same = ap (λ (o : Option (List Given)). unwrap_or o []) (sym same)
