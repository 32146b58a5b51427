-- Of the paths of every table, and under all sound givens, there is a result.
use Rattle.std.proofs.Common.{◌≡◌, ◌↔◌, inl, inr, ℕ, ◌<◌, min, max, List, [], ◌∷◌, ◌++◌, length, map, flat_map, Option, Some, None, unwrap_or, is_none, refl, sym, ap, ap₂, ◌∙◌, subst, arith, All}
use Rattle.std.proofs.Common.{take, drop, Contains, IsTrue}
use Rattle.std.specs.List.{AllByRecursion}
use Rattle.std.proofs.lemmas.List.{take_all, take-append-drop, take-append-le, map-append, length-map}
use Rattle.std.proofs.lemmas.List.Elements.{All-append, All-contains, All-contains_itself, All-from_recursion, All-weaker, recursion_from_All, Contains-append_left}
use Rattle.tor_arena.proofs.Gets.{Contains-map}
use Rattle.path_clean.specs.declared.cleaned.Sets.{Sets}
use Rattle.path_clean.specs.Counts.{CauseCounts}
use Rattle.path_clean.proofs.GraphPaths.{apart}
use Rattle.path_table.specs.Rows.{Counted, row_paths}
use Rattle.relationships.specs.declared.given.Given.{Given}
use Rattle.relationships.specs.declared.fate.Fate.{Fate}
use Rattle.relationships.specs.declared.fate.Fate.TheVariants.{Kept, Lost}
use Rattle.relationships.specs.declared.mark.Mark.{Mark}
use Rattle.relationships.specs.declared.mark.Mark.TheVariants.{Forced, Open}
use Rattle.relationships.specs.declared.mark.Probe.{Probe}
use Rattle.relationships.specs.declared.walk.Walk.{Walk}
use Rattle.relationships.specs.Fates.{walk_of}
use Rattle.relationships.specs.Relationship.{Orientation, Labelling, labels_of, ValleyFree, Serves}
use Rattle.relationships.specs.Graph.{Edge, edge_of, edges_on, edges, degree, support}
use Rattle.relationships.specs.Evidence.{NeighboursDiffer, Numbered, paths_of}
use Rattle.relationships.specs.Selection.{IsServable, IsForced, KeepsFrom}
use Rattle.relationships.specs.Preference.{IsSettlingOrder, IsPreferred, IsRelabelled, lead, wanted}
use Rattle.relationships.specs.Checking.{Claim, MarksHold, kept_of, claimed_labels}
use Rattle.relationships.specs.Givens.{AgreesWith, returns, NameTwo, NameOnce}
use Rattle.relationships.specs.GivenEvidence.{LostFromWith, MarksHoldWith, with_given_links}
use Rattle.relationships.specs.Marking.{is_forced, orders_of}
use Rattle.relationships.proofs.Checked.{Once, distinct_keeps, distinct_once, kept_all, label_of_claim, rising_all}
use Rattle.relationships.proofs.GivenLemmas.{all_parts, free_agrees, given_serving_law, givens_servable_law, returns_differ}
use Rattle.relationships.proofs.GivenPeerings.{edge_among, given_relabelling_law}
use Rattle.relationships.proofs.GivenWalks.{given_marks_law}
use Rattle.relationships.proofs.Preferring.{preference_law, relabelling_law}
use Rattle.relationships.proofs.Selecting.{paths_of-kept_from, selection_behind_law}
use Rattle.relationships.proofs.Serving.{all_differ_if_distinct}
use Rattle.result_text.specs.declared.file.EdgeLine.{EdgeLine}
use Rattle.result_text.specs.declared.file.PathLine.{PathLine}
use Rattle.result_text.specs.declared.file.ResultFile.{ResultFile}
use Rattle.result_rules.specs.declared.rule.Rule.TheVariants.{LostRefuted}
use Rattle.result_rules.proofs.WalkLaws.{lost_are_refuted}
use Rattle.result_rules.specs.File.{its_givens, its_paths, its_walks, its_probes, claim_on}
use Rattle.result_rules.specs.Against.{row_of}
use Rattle.result_rules.specs.Totals.{totals_by}
use Rattle.rel_infer.specs.Earlier.{BeginsWithPathsOf}
use Rattle.rel_infer.specs.GivenInference.{AreLabelsWith, IsInferredWith}
use Rattle.rel_infer.specs.GivenResults.{IsResultWith}
use Rattle.rel_infer.specs.Resumed.{Continues, decided}
use Rattle.rel_infer.specs.Returns.{numbers_from}
use Rattle.rel_infer.specs.SelfAcceptance.{AreTableRows}
use Rattle.rel_infer.proofs.Acceptance.{same_givens}
use Rattle.rel_infer.proofs.KeptEdges.{kept_edge}
use Rattle.rel_infer.proofs.KeptPlaces.{keeps_many}
use Rattle.rel_infer.proofs.LineLemmas.{pairs_same}
use Rattle.rel_infer.proofs.ReturnRows.{are_rows}
use Rattle.result_laws.specs.Existing.{SomeResultLaw, SomeResumedLaw}
use Rattle.result_laws.proofs.EvidenceLemmas.{pair, some_evidence}
use Rattle.result_laws.proofs.GrowingLemmas.{kept_among_more, line_with}
use Rattle.result_laws.proofs.PeeringLemmas.{some_relabelled, relabelled_too}
use Rattle.result_laws.proofs.PossibleLemmas.{forced_or_not}
use Rattle.result_laws.proofs.PreferredLemmas.{Rises, some_preferred}
use Rattle.result_laws.proofs.AcceptedLemmas.{its_two, its_once}
use Rattle.result_laws.proofs.KeptLemmas.{Within}
use Rattle.result_laws.proofs.SelectedLemmas.{Chosen, return_rows, rows_are, kept_up_to, some_chosen}
use Rattle.result_laws.proofs.SettlingLemmas.{each_member, some_settling}

-- ---- edge lines

abbrev edge_on : EdgeLine → Edge
edge_on line = (line.low, line.high)

module _ (served kept : List (List ℕ)) (differ : All NeighboursDiffer served) (L : Labelling) where
  -- the line has the label of its edge, counts the kept paths that hold it, and says rightly whether it is forced
  record IsLineFor (line : EdgeLine) : Type 0 where
    rises : line.low < line.high
    labelled : line.label ≡ L line.low line.high
    counted : line.support ≡ support kept (line.low, line.high)
    exact : IsTrue (is_forced line.mark) ↔ IsForced served line.low line.high

  abbrev Lines : List Edge → Type 0
  Lines es = (lines : List EdgeLine) × (map edge_on lines ≡ es) × AllByRecursion IsLineFor lines

  lines_for : (es : List Edge) → AllByRecursion Rises es → Lines es
  lines_for [] h = ([], refl, tt)
  lines_for (e ∷ es) h =
      let r = lines_for es h.1 in
      let line : Mark → EdgeLine = λ mark. record { low = e.0; high = e.1; label = L e.0 e.1; mark = mark; support = support kept e } in
      elim (forced_or_not served e.0 e.1 differ h.0) [
        | inl f ↦ (line Forced ∷ r.0, ap (λ (l : List Edge). e ∷ l) r.1, (record { rises = h.0; labelled = refl; counted = refl; exact = ((λ _. f), (λ _. refl)) }, r.2))
        | inr n ↦ (line Open ∷ r.0, ap (λ (l : List Edge). e ∷ l) r.1, (record { rises = h.0; labelled = refl; counted = refl; exact = ((λ t. absurd (cc t)), (λ f. absurd (n f))) }, r.2))
      ]

-- ---- what is inferred

abbrev probe_of : ℕ × ℕ → Probe
probe_of p = record { over = p.0; under = p.1 }

same_orders : (ps : List (ℕ × ℕ)) → orders_of (map probe_of ps) ≡ ps
same_orders [] = refl
same_orders (p ∷ ps) = ap (λ (l : List (ℕ × ℕ)). p ∷ l) (same_orders ps)

-- something is inferred from these paths with these walks
abbrev Inferences : List Given → ℕ → List (List ℕ) → List (Option Walk) → Type 0
Inferences givens ratio paths walks =
    (lines : List EdgeLine) × (whys : List Walk) × (probes : List (ℕ × ℕ)) × IsInferredWith givens ratio paths walks lines whys probes

module _ (givens : List Given) (ratio : ℕ) (paths : List (List ℕ)) (differ : All NeighboursDiffer paths) (two : NameTwo givens) (once : NameOnce givens) where
  rising : AllByRecursion Rises (edges paths)
  rising = distinct_keeps Rises (flat_map edges_on paths) (rising_all paths (recursion_from_All NeighboursDiffer paths differ))

  each_once : Once (edges paths)
  each_once = distinct_once (flat_map edges_on paths)

  module _ (walks : List (Option Walk)) (keeps : KeepsFrom (returns paths givens) paths (map is_none walks)) where
    abbrev A : Numbered
    A = kept_of paths walks

    abbrev kept : List (List ℕ)
    kept = paths_of (kept_of paths walks)

    abbrev served : List (List ℕ)
    served = returns paths givens ++ paths_of (kept_of paths walks)

    near : (e : Edge) → Contains (edges (paths_of (kept_of paths walks))) e → Contains (edges paths) e
    near = kept_edge 1 paths (map is_none walks)

    served_near : (e : Edge) → Contains (edges (returns paths givens ++ paths_of (kept_of paths walks))) e → Contains (edges paths) e
    served_near = edge_among givens paths (paths_of (kept_of paths walks)) near

    served_differ : All NeighboursDiffer (returns paths givens ++ paths_of (kept_of paths walks))
    served_differ =
        All-append NeighboursDiffer (returns paths givens) kept (returns_differ givens paths two)
        (All-from_recursion NeighboursDiffer kept (kept_all NeighboursDiffer 1 paths (map is_none walks) (recursion_from_All NeighboursDiffer paths differ)))

    servable : IsServable (returns paths givens ++ paths_of (kept_of paths walks))
    servable =
        subst (λ ps. IsServable (returns paths givens ++ ps)) (sym (paths_of-kept_from 1 paths (map is_none walks)))
        ((selection_behind_law (returns paths givens) paths (map is_none walks) keeps).1 (givens_servable_law givens paths two once))

    -- ---- labels

    order : (order : List Edge) × IsSettlingOrder (lead (degree paths) (paths_of (kept_of paths walks))) (edges paths) order
    order = some_settling (lead (degree paths) (paths_of (kept_of paths walks))) (edges paths) each_once

    providers : (P : Orientation) × IsPreferred (returns paths givens ++ paths_of (kept_of paths walks)) (wanted (degree paths) (paths_of (kept_of paths walks))) order.0 P
    providers =
        some_preferred served served_differ (wanted (degree paths) kept) order.0 servable.0
        (each_member Rises order.0 (λ e c. All-contains Rises (edges paths) e (All-from_recursion Rises (edges paths) rising) ((order.1.each e).1 c))) servable.1

    providers_serve : Serves providers.0 (returns paths givens ++ paths_of (kept_of paths walks))
    providers_serve = preference_law served (wanted (degree paths) kept) order.0 providers.0 servable providers.1 (λ e c. (order.1.each e).0 (served_near e c))

    relabelled : (L : Labelling) × IsRelabelled (degree paths) ratio (returns paths givens ++ paths_of (kept_of paths walks)) (edges paths) (labels_of providers.0) L
    relabelled = some_relabelled (degree paths) ratio served providers.0 (edges paths) each_once

    -- ---- lines

    drawn : Lines (returns paths givens ++ paths_of (kept_of paths walks)) (paths_of (kept_of paths walks)) served_differ relabelled.0 (edges paths)
    drawn = lines_for served kept served_differ relabelled.0 (edges paths) rising

    abbrev lines : List EdgeLine
    lines = drawn.0

    abbrev L : Labelling
    L = claimed_labels (map claim_on drawn.0)

    claims_listed : map pair (map claim_on drawn.0) ≡ edges paths
    claims_listed = pairs_same drawn.0 ∙ drawn.1

    line_right : (line : EdgeLine) → Contains drawn.0 line → IsLineFor (returns paths givens ++ paths_of (kept_of paths walks)) (paths_of (kept_of paths walks)) served_differ relabelled.0 line
    line_right line c =
        All-contains (IsLineFor served kept served_differ relabelled.0) drawn.0 line (All-from_recursion (IsLineFor served kept served_differ relabelled.0) drawn.0 drawn.2) c

    -- the labels of the lines are those that were found
    same_labels : (e : Edge) → Contains (edges paths) e → claimed_labels (map claim_on drawn.0) e.0 e.1 ≡ relabelled.0 e.0 e.1
    same_labels e c =
        let l = line_with drawn.0 e.0 e.1 (subst (λ (es : List Edge). Contains es e) (sym drawn.1) c) in
        let own = label_of_claim paths (map claim_on drawn.0) claims_listed (claim_on l.0) (Contains-map claim_on drawn.0 l.0 l.1) in
        ap₂ (claimed_labels (map claim_on drawn.0)) (sym l.2) (sym l.3) ∙ own ∙ (line_right l.0 l.1).labelled ∙ ap₂ relabelled.0 l.2 l.3

    relabelled_so : IsRelabelled (degree paths) ratio (returns paths givens ++ paths_of (kept_of paths walks)) (edges paths) (labels_of providers.0) (claimed_labels (map claim_on drawn.0))
    relabelled_so = relabelled_too (degree paths) ratio served providers.0 (edges paths) relabelled.0 L same_labels relabelled.1

    free : All (ValleyFree (claimed_labels (map claim_on drawn.0))) (returns paths givens ++ paths_of (kept_of paths walks))
    free = relabelling_law (degree paths) ratio served (edges paths) providers.0 L providers_serve relabelled_so served_near

    labels : AreLabelsWith givens ratio paths (paths_of (kept_of paths walks)) (claimed_labels (map claim_on drawn.0))
    labels =
        let agrees : AgreesWith givens paths (labels_of providers.0) = (((given_serving_law givens paths).1 providers.0 kept).1 providers_serve).0 in
        record {
          order = order.0;
          settling = order.1;
          providers = providers.0;
          preferred = providers.1;
          relabelled = (given_relabelling_law givens paths kept (degree paths) ratio providers.0 L agrees).0 relabelled_so;
        }

    -- ---- evidence

    abbrev B : Numbered
    B = return_rows givens paths ++ kept_of paths walks

    demands : paths_of (return_rows givens paths ++ kept_of paths walks) ≡ returns paths givens ++ paths_of (kept_of paths walks)
    demands = map-append (λ (p : ℕ × List ℕ). p.1) (return_rows givens paths) A ∙ ap (λ (ps : List (List ℕ)). ps ++ kept) (rows_are givens paths)

    claims_right : (some : List EdgeLine) → AllByRecursion (IsLineFor (returns paths givens ++ paths_of (kept_of paths walks)) (paths_of (kept_of paths walks)) served_differ relabelled.0) some →
        AllByRecursion (λ c. (c.low < c.high) × (IsTrue c.forced ↔ IsForced (paths_of (return_rows givens paths ++ kept_of paths walks)) c.low c.high)) (map claim_on some)
    claims_right [] h = tt
    claims_right (line ∷ some) h =
        ((h.0.rises, subst (λ ps. IsTrue (is_forced line.mark) ↔ IsForced ps line.low line.high) (sym demands) h.0.exact), claims_right some h.1)

    evidence : (whys : List Walk) × (probes : List (ℕ × ℕ)) × MarksHold (return_rows givens paths ++ kept_of paths walks) (map claim_on drawn.0) whys probes
    evidence =
        some_evidence B (subst (All NeighboursDiffer) (sym demands) served_differ) (subst IsServable (sym demands) servable) (map claim_on drawn.0) (claims_right drawn.0 drawn.2)
        (subst Once (sym claims_listed) each_once) (recursion_from_All (Contains (map claim_on drawn.0)) (map claim_on drawn.0) (All-contains_itself (map claim_on drawn.0)))

    rises_itself : (low high : ℕ) → low < high → edge_of low high ≡ (low, high)
    rises_itself low high lt =
        let e : min low high ≡ low = omega (arith, lt) in let f : max low high ≡ high = omega (arith, lt) in
        ap₂ (λ a b. (a, b)) e f

    on_edge : (c : Claim) → Contains (map claim_on drawn.0) c → Contains (edges paths) (edge_of c.low c.high)
    on_edge c i =
        let there = subst (λ (es : List Edge). Contains es (pair c)) claims_listed (Contains-map pair (map claim_on drawn.0) c i) in
        let lt = All-contains Rises (edges paths) (pair c) (All-from_recursion Rises (edges paths) rising) there in
        subst (Contains (edges paths)) (sym (rises_itself c.low c.high lt)) there

    marks : MarksHoldWith givens (kept_of paths walks) (map claim_on drawn.0) (map (with_given_links (length paths) (numbers_from paths 1 givens)) evidence.0) evidence.1
    marks =
        given_marks_law givens paths (length paths) (numbers_from paths 1 givens) (return_rows givens paths) A (are_rows givens paths) (rows_are givens paths)
        (kept_up_to givens paths paths walks (omega arith)) near
        (map claim_on drawn.0) evidence.0 evidence.1 on_edge evidence.2

    -- ---- all of it

    some_inferences : LostFromWith givens 1 [] paths walks → Inferences givens ratio paths walks
    some_inferences lost =
        let parts = all_parts (ValleyFree L) (returns paths givens) kept free in (
          drawn.0,
          map (with_given_links (length paths) (numbers_from paths 1 givens)) evidence.0,
          evidence.1,
          record {
            kept = keeps;
            lost = lost;
            edges_listed = drawn.1;
            labels = labels;
            agrees = free_agrees paths L givens parts.0;
            valley_free = parts.1;
            supports = All-weaker (Contains drawn.0) (λ line. line.support ≡ support kept (line.low, line.high)) (λ line c. (line_right line c).counted) drawn.0 (All-contains_itself drawn.0);
            forced = All-weaker (Contains drawn.0) (λ line. IsTrue (is_forced line.mark) ↔ IsForced served line.low line.high) (λ line c. (line_right line c).exact) drawn.0
                (All-contains_itself drawn.0);
            evidence = marks;
          },
        )

-- ---- the result

fate_for : Option Walk → Fate
fate_for None = Kept
fate_for (Some walk) = Lost walk

same_walk : (w : Option Walk) → walk_of (fate_for w) ≡ w
unfolding fate_for
same_walk None = refl
same_walk (Some walk) = refl

-- the path lines of these rows, with these walks
record PathLines (rows : List Counted) (walks : List (Option Walk)) : Type 0 where
  lines : List PathLine
  paths : map (λ p. p.path) lines ≡ row_paths rows
  walked : map (λ p. walk_of p.fate) lines ≡ walks
  rowed : map row_of lines ≡ rows

path_lines : (rows : List Counted) (walks : List (Option Walk)) → length walks ≡ length rows → PathLines rows walks
path_lines [] [] same = record { lines = []; paths = refl; walked = refl; rowed = refl }
path_lines [] (w ∷ walks) same = absurd (omega (arith, same))
path_lines (row ∷ rows) [] same = absurd (omega (arith, same))
path_lines (row ∷ rows) (w ∷ walks) same =
    let r = path_lines rows walks (omega (arith, same)) in
    record {
      lines = record { path = row.path; times = row.times; fate = fate_for w } ∷ r.lines;
      paths = ap (λ (ps : List (List ℕ)). row.path ∷ ps) r.paths;
      walked = ap₂ (λ (v : Option Walk) vs. v ∷ vs) (same_walk w) r.walked;
      rowed = ap (λ (rs : List Counted). row ∷ rs) r.rowed;
    }

-- the result of these rows in which paths have these walks
abbrev Result : Option (List Given) → Sets → ℕ → List Counted → CauseCounts → List (Option Walk) → Type 0
Result known sets ratio rows counts walks = (file : ResultFile) × IsResultWith known sets ratio rows counts file × (its_paths file ≡ row_paths rows) × (its_walks file ≡ walks)

some_result : (known : Option (List Given)) (sets : Sets) (ratio : ℕ) (rows : List Counted) (counts : CauseCounts) (walks : List (Option Walk)) →
    Inferences (unwrap_or known []) ratio (row_paths rows) walks → Result known sets ratio rows counts walks
some_result known sets ratio rows counts walks (lines, whys, probes, inferred) =
    let flags = keeps_many (returns (row_paths rows) (unwrap_or known [])) (row_paths rows) (map is_none walks) inferred.kept in
    let many : length walks ≡ length rows = sym (length-map walks is_none) ∙ flags ∙ length-map rows (λ (row : Counted). row.path) in
    let p = path_lines rows walks many in
    let file : ResultFile = record {
      sets = sets;
      ratio = ratio;
      asides = counts;
      givens = known;
      paths = p.lines;
      edges = lines;
      whys = whys;
      probes = map probe_of probes;
      totals = totals_by (map (λ (l : PathLine). l.fate) p.lines) lines;
    } in (
      file,
      record {
        its_sets = refl;
        its_ratio = refl;
        its_counts = refl;
        its_givens = refl;
        paths = p.rowed;
        inferred = subst (λ ps. IsInferredWith (unwrap_or known []) ratio ps (its_walks file) lines whys (its_probes file)) (sym p.paths)
            (subst (λ ws. IsInferredWith (unwrap_or known []) ratio (row_paths rows) ws lines whys (its_probes file)) (sym p.walked)
            (subst (λ os. IsInferredWith (unwrap_or known []) ratio (row_paths rows) walks lines whys os) (sym (same_orders probes)) inferred));
        totals = refl;
      },
      p.paths,
      p.walked,
    )

rows_differ : (rows : List Counted) → AreTableRows rows → All NeighboursDiffer (row_paths rows)
rows_differ rows are = all_differ_if_distinct (row_paths rows) (apart (row_paths rows) are.clean)

pub some_result_law : SomeResultLaw
some_result_law known sets ratio rows counts are two once =
    let differ = rows_differ rows are in
    let givens = unwrap_or known [] in
    let c = some_chosen givens [] (row_paths rows) [] two differ tt tt in
    let r = some_result known sets ratio rows counts c.0 (some_inferences givens ratio (row_paths rows) differ two once c.0 c.1 c.2) in
    (r.0, r.1)

-- ---- the result on top of an earlier one

same_fate : (f g : Fate) → walk_of f ≡ walk_of g → f ≡ g
same_fate Kept Kept e = refl
same_fate Kept (Lost w) e = absurd (cc e)
same_fate (Lost v) Kept e = absurd (cc e)
same_fate (Lost v) (Lost w) e = let same : v ≡ w = cc in ap (λ (u : Walk). Lost u) same

-- lines with the paths and walks of earlier ones, as far as these go, say what those say
same_decided : (earlier lines : List PathLine) → take (length earlier) (map (λ (p : PathLine). p.path) lines) ≡ map (λ (p : PathLine). p.path) earlier →
    take (length earlier) (map (λ (p : PathLine). walk_of p.fate) lines) ≡ map (λ (p : PathLine). walk_of p.fate) earlier →
    take (length earlier) (map decided lines) ≡ map decided earlier
same_decided [] lines paths walks = refl
same_decided (line ∷ earlier) [] paths walks = absurd cc
same_decided (line ∷ earlier) (other ∷ lines) paths walks =
    let path : other.path ≡ line.path = cc in
    let walk : walk_of other.fate ≡ walk_of line.fate = cc in
    let more_paths : take (length earlier) (map (λ (p : PathLine). p.path) lines) ≡ map (λ (p : PathLine). p.path) earlier = cc in
    let more_walks : take (length earlier) (map (λ (p : PathLine). walk_of p.fate) lines) ≡ map (λ (p : PathLine). walk_of p.fate) earlier = cc in
    ap₂ (λ (d : List ℕ × Fate) ds. d ∷ ds) (ap₂ (λ (p : List ℕ) (f : Fate). (p, f)) path (same_fate other.fate line.fate walk)) (same_decided earlier lines more_paths more_walks)

-- a result of paths that begin with those of an earlier one, with its walks first, continues it
continues_by : (earlier file : ResultFile) (paths : List (List ℕ)) (more : List (Option Walk)) → its_paths file ≡ paths → BeginsWithPathsOf paths earlier →
    its_walks file ≡ its_walks earlier ++ more → Continues earlier file
continues_by earlier file paths more same begins walked =
    let n = length earlier.paths in
    let many : length (its_walks earlier) ≡ n = length-map earlier.paths (λ (p : PathLine). walk_of p.fate) in
    let first_walks : take n (its_walks earlier ++ more) ≡ its_walks earlier =
    take-append-le n (its_walks earlier) more (omega (arith, many)) ∙ take_all n (its_walks earlier) (omega (arith, many)) in
    same_decided earlier.paths file.paths (subst (λ ps. take n ps ≡ its_paths earlier) (sym same) begins) (subst (λ ws. take n ws ≡ its_walks earlier) (sym walked) first_walks)

pub some_resumed_law : SomeResumedLaw
some_resumed_law earlier ratio rows counts accepts are begins =
    let n = length earlier.paths in
    let G = its_givens earlier in
    let paths = row_paths rows in
    let rest = drop n paths in
    let whole : its_paths earlier ++ rest ≡ paths = ap (λ (ps : List (List ℕ)). ps ++ rest) (sym begins) ∙ take-append-drop n paths in
    let differ = rows_differ rows are in
    let within : Within (its_paths earlier) (its_paths earlier ++ rest) = λ p c. Contains-append_left (its_paths earlier) rest p c in
    let c = subst (λ ps. Chosen G ps (its_walks earlier)) whole
    (some_chosen G (its_paths earlier) rest (its_walks earlier) (its_two earlier accepts) (subst (All NeighboursDiffer) (sym whole) differ)
    (kept_among_more earlier accepts (its_paths earlier ++ rest) within) (lost_are_refuted earlier (accepts LostRefuted))) in
    let walks = its_walks earlier ++ c.0 in
    let inferences = some_inferences G ratio paths differ (its_two earlier accepts) (its_once earlier accepts) walks c.1 c.2 in
    let r = some_result earlier.givens earlier.sets ratio rows counts walks
    (subst (λ gs. Inferences gs ratio paths walks) (sym (same_givens earlier earlier.givens refl)) inferences) in
    (r.0, r.1, continues_by earlier r.0 paths c.0 r.2 begins r.3)
