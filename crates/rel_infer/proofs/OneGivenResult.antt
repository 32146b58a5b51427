-- What is inferred under givens is determined, but for the evidence.
use Rattle.std.proofs.Common.{◌≡◌, ◌≢◌, ◌↔◌, ℕ, List, [], ◌++◌, unwrap_or, map, filter, is_none, sym, ap, ◌∙◌, subst, All, Contains, IsTrue}
use Rattle.std.specs.List.{AllPairs}
use Rattle.std.proofs.lemmas.List.Elements.{All-contains, All-append}
use Rattle.relationships.specs.declared.given.Given.{Given}
use Rattle.relationships.specs.declared.label.End.{End}
use Rattle.relationships.specs.Relationship.{Labelling, label_of, labels_of, ValleyFree, Serves}
use Rattle.relationships.specs.Graph.{Edge, edges, degree, support}
use Rattle.relationships.specs.Evidence.{paths_of, kept_from}
use Rattle.relationships.specs.Selection.{KeepsFrom, IsForced}
use Rattle.relationships.specs.Preference.{IsPreferred, lead, wanted}
use Rattle.relationships.specs.Marking.{is_forced}
use Rattle.relationships.specs.Givens.{AgreesWith, names_edge, return_of, returns}
use Rattle.relationships.proofs.Checked.{reading, reading_serves}
use Rattle.relationships.proofs.Preferring.{preference_law}
use Rattle.relationships.proofs.Neighbours.{edge_law}
use Rattle.relationships.proofs.Selecting.{selection_behind_law}
use Rattle.relationships.proofs.GivenLemmas.{agrees_free, given_serving_law}
use Rattle.relationships.proofs.GivenPeerings.{edge_among, given_relabelling_law}
use Rattle.path_table.specs.Rows.{row_paths as counted_paths}
use Rattle.result_rules.specs.File.{its_paths, its_walks, its_probes}
use Rattle.rel_infer.specs.Finding.{AreLabelsBy}
use Rattle.rel_infer.specs.GivenInference.{AreLabelsWith, IsInferredWith}
use Rattle.rel_infer.specs.GivenLaws.{GivenInferenceLaw, GivenResultLaw}
use Rattle.rel_infer.proofs.OneResult.{one_settling, one_orientation, one_relabelling, one_list, labels_by, paths_in, same_totals}
use Rattle.rel_infer.proofs.KeptEdges.{kept_edge}

-- labels with the givens are labels by votes and by what is served
pub labels_behind : (givens : List Given) (ratio : ℕ) (paths kept : List (List ℕ)) (L : Labelling) → ((e : Edge) → Contains (edges kept) e → Contains (edges paths) e) →
    AgreesWith givens paths L → All (ValleyFree L) kept → AreLabelsWith givens ratio paths kept L → AreLabelsBy (degree paths) ratio (edges paths) (returns paths givens ++ kept) kept L
labels_behind givens ratio paths kept L among says free a =
    let all = returns paths givens ++ kept in
    let all_free : All (ValleyFree L) all = All-append (ValleyFree L) (returns paths givens) kept (agrees_free paths L givens says) free in
    let serves : Serves a.providers all =
    preference_law all (wanted (degree paths) kept) a.order a.providers (reading End.Low L, reading_serves End.Low L all all_free) a.preferred
    (λ e c. (a.settling.each e).0 (edge_among givens paths kept among e c)) in
    let agrees : AgreesWith givens paths (labels_of a.providers) = (((given_serving_law givens paths).1 a.providers kept).1 serves).0 in
    record {
      order = a.order;
      settling = a.settling;
      providers = a.providers;
      preferred = a.preferred;
      relabelled = (given_relabelling_law givens paths kept (degree paths) ratio a.providers L agrees).1 a.relabelled;
    }

one_labelling_by : (ratio : ℕ) (paths served kept : List (List ℕ)) (L L' : Labelling) → ((e : Edge) → Contains (edges served) e → Contains (edges paths) e) →
    AreLabelsBy (degree paths) ratio (edges paths) served kept L → AreLabelsBy (degree paths) ratio (edges paths) served kept L' →
    (e : Edge) → Contains (edges paths) e → L e.0 e.1 ≡ L' e.0 e.1
one_labelling_by ratio paths served kept L L' inside a a' =
    let by = wanted (degree paths) kept in
    let same_order = one_settling (lead (degree paths) kept) (edges paths) a.order a'.order a.settling a'.settling in
    let preferred' : IsPreferred served by a.order a'.providers = subst (λ l. IsPreferred served by l a'.providers) (sym same_order) a'.preferred in
    let same = one_orientation served by a.order a.providers a'.providers a.preferred preferred' in
    one_relabelling (degree paths) ratio served (edges paths) inside (labels_of a.providers) (labels_of a'.providers) L L'
    (λ e c. ap label_of (All-contains (λ (f : Edge). a.providers f.0 f.1 ≡ a'.providers f.0 f.1) a.order e same ((a.settling.each e).0 c))) a.relabelled a'.relabelled

pub given_inference_law : GivenInferenceLaw
given_inference_law givens givens' ratio paths walks walks' lines lines' whys whys' probes probes' same r r' =
    let keeps = map is_none walks in
    let keeps' = map is_none walks' in
    let begun = returns paths givens in
    let rets : begun ≡ returns paths givens' = ap (map return_of) same in
    let flags : keeps ≡ keeps' = (selection_behind_law begun paths keeps r.kept).0 keeps' (subst (λ ps. KeepsFrom ps paths keeps') (sym rets) r'.kept) in
    let kept = paths_of (kept_from 1 paths keeps) in
    let kept' = paths_of (kept_from 1 paths keeps') in
    let back : kept' ≡ kept = ap (λ ks. paths_of (kept_from 1 paths ks)) (sym flags) in
    let among = kept_edge 1 paths keeps in
    let a = labels_behind givens ratio paths kept (labels_by lines) among r.agrees r.valley_free r.labels in
    let b = labels_behind givens' ratio paths kept' (labels_by lines') (kept_edge 1 paths keeps') r'.agrees r'.valley_free r'.labels in
    let a' : AreLabelsBy (degree paths) ratio (edges paths) (begun ++ kept) kept (labels_by lines') =
    subst (λ bs. AreLabelsBy (degree paths) ratio (edges paths) (bs ++ kept) kept (labels_by lines')) (sym rets)
    (subst (λ ks. AreLabelsBy (degree paths) ratio (edges paths) (returns paths givens' ++ ks) ks (labels_by lines')) back b) in
    let supports' : All (λ line. line.support ≡ support kept (line.low, line.high)) lines' =
    subst (λ ks. All (λ line. line.support ≡ support ks (line.low, line.high)) lines') back r'.supports in
    let forced' : All (λ line. IsTrue (is_forced line.mark) ↔ IsForced (begun ++ kept) line.low line.high) lines' =
    subst (λ bs. All (λ line. IsTrue (is_forced line.mark) ↔ IsForced (bs ++ kept) line.low line.high) lines') (sym rets)
    (subst (λ ks. All (λ line. IsTrue (is_forced line.mark) ↔ IsForced (returns paths givens' ++ ks) line.low line.high) lines') back r'.forced) in (
      flags,
      one_list kept (begun ++ kept) lines lines' (r.edges_listed ∙ sym r'.edges_listed) (subst (AllPairs ◌≢◌) (sym r.edges_listed) ((edge_law paths).0))
          (λ e c. one_labelling_by ratio paths (begun ++ kept) kept (labels_by lines) (labels_by lines') (edge_among givens paths kept among) a a' e
          (subst (λ es. Contains es e) r.edges_listed c)) r.supports supports' r.forced forced',
    )

pub given_result_law : GivenResultLaw
given_result_law known known' sets ratio rows counts file file' same r r' =
    let givens = unwrap_or known [] in
    let givens' = unwrap_or known' [] in
    let mine : counted_paths rows ≡ its_paths file = ap counted_paths (sym r.paths) ∙ paths_in file.paths in
    let paths : its_paths file ≡ its_paths file' = sym mine ∙ ap counted_paths (sym r'.paths) ∙ paths_in file'.paths in
    let inferred' : IsInferredWith givens' ratio (its_paths file) (its_walks file') file'.edges file'.whys (its_probes file') =
    subst (λ ps. IsInferredWith givens' ratio ps (its_walks file') file'.edges file'.whys (its_probes file')) (sym paths) r'.inferred in
    let near = subst (λ ps. filter (names_edge ps) givens ≡ filter (names_edge ps) givens') mine same in
    let both =
    given_inference_law givens givens' ratio (its_paths file) (its_walks file) (its_walks file') file.edges file'.edges file.whys file'.whys
    (its_probes file) (its_probes file') near r.inferred inferred' in
    (r.its_counts ∙ sym r'.its_counts, both.0, both.1, r.totals ∙ same_totals file file' both.0 both.1 ∙ sym r'.totals)
