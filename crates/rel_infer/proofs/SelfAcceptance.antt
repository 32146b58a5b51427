-- Each result of the rows of a table meets all rules of a checker, and has the peerings that are promised.
use Rattle.std.proofs.Common.{◌≡◌, ◌≤◌, ◌∙◌, ℕ, List, [], ◌∷◌, ◌++◌, IsTrue, All, Contains, Option, unwrap_or, map, is_none, length, sum_by, refl, sym, ap, subst}
use Rattle.std.specs.List.{list_all}
use Rattle.std.proofs.lemmas.List.Elements.{All-append, All-contains, All-contains_itself, All-from_recursion, recursion_from_All}
use Rattle.relationships.specs.declared.given.Given.{Given}
use Rattle.relationships.specs.declared.walk.Walk.{Walk}
use Rattle.relationships.specs.Relationship.{Labelling, ValleyFree}
use Rattle.relationships.specs.Graph.{Edge, edges, degree}
use Rattle.relationships.specs.Evidence.{paths_of}
use Rattle.relationships.specs.Checking.{kept_of}
use Rattle.relationships.specs.Givens.{NameOnce, NameTwo, returns}
use Rattle.relationships.proofs.Checked.{kept_all}
use Rattle.relationships.proofs.Edges.{peering_law}
use Rattle.relationships.proofs.GivenLemmas.{agrees_free}
use Rattle.relationships.proofs.GivenPeerings.{edge_among, given_peers_law}
use Rattle.relationships.proofs.Neighbours.{edge_law}
use Rattle.relationships.proofs.Preferring.{maximal_law}
use Rattle.tor_arena.specs.Limits.{max_paths, max_numbers, max_ratio}
use Rattle.path_clean.specs.declared.cleaned.Sets.{Sets}
use Rattle.path_clean.specs.Counts.{CauseCounts}
use Rattle.path_clean.specs.Paths.{is_cleaned}
use Rattle.path_table.specs.Rows as rows
use Rattle.path_table.specs.Rows.{Counted}
use Rattle.result_text.specs.declared.file.PathLine.{PathLine}
use Rattle.result_text.specs.declared.file.ResultFile.{ResultFile}
use Rattle.result_text.specs.Text.{its_givens}
use Rattle.result_rules.specs.File.{its_paths, its_walks, its_labels, its_probes}
use Rattle.result_rules.specs.Against.{row_of}
use Rattle.result_rules.specs.Rules.{Accepts}
use Rattle.result_rules.specs.Valid.{AcceptanceLaw}
use Rattle.rel_infer.specs.GivenResults.{IsResultWith}
use Rattle.rel_infer.specs.GivenInference.{IsInferredWith, LeaveNoneOutWith, PeerEitherWayWith}
use Rattle.rel_infer.specs.SelfAcceptance.{AreTableRows, SelfAcceptanceLaw}
use Rattle.rel_infer.proofs.Acceptance.{AreSound, IsInferredBy, accepted, same_givens, times_in}
use Rattle.rel_infer.proofs.OneGivenResult.{labels_behind}

paths_same : (lines : List PathLine) → rows.row_paths (map row_of lines) ≡ map (λ (p : PathLine). p.path) lines
paths_same [] = refl
paths_same (line ∷ lines) = ap (λ l. line.path ∷ l) (paths_same lines)

times_same : (lines : List PathLine) → rows.times_of (map row_of lines) ≡ times_in lines
times_same [] = refl
times_same (line ∷ lines) = ap (λ l. line.times ∷ l) (times_same lines)

-- the edges of kept paths are among those of all
among : (paths : List (List ℕ)) (walks : List (Option Walk)) (p : List ℕ) → Contains (paths_of (kept_of paths walks)) p → Contains paths p
among paths walks p c =
    All-contains (Contains paths) (paths_of (kept_of paths walks)) p
    (All-from_recursion (Contains paths) (paths_of (kept_of paths walks))
    (kept_all (Contains paths) 1 paths (map is_none walks) (recursion_from_All (Contains paths) paths (All-contains_itself paths)))) c

edges_among : (paths : List (List ℕ)) (walks : List (Option Walk)) (e : Edge) → Contains (edges (paths_of (kept_of paths walks))) e → Contains (edges paths) e
edges_among paths walks e c =
    let kept = paths_of (kept_of paths walks) in
    let n = ((edge_law kept).1 e).0 c in
    ((edge_law paths).1 e).1 (n.0, n.1, (n.2.0, among paths walks n.2.0 n.2.1, n.2.2), n.3)

sound_in : (lines : List PathLine) (table : List Counted) → map row_of lines ≡ table → AreTableRows table → AreSound (map (λ (p : PathLine). p.path) lines) (times_in lines)
sound_in lines table same are =
    let ps : rows.row_paths table ≡ map (λ (p : PathLine). p.path) lines = ap rows.row_paths (sym same) ∙ paths_same lines in
    let ts : rows.times_of table ≡ times_in lines = ap rows.times_of (sym same) ∙ times_same lines in
    record {
      clean = subst (λ l. IsTrue (list_all is_cleaned l)) ps are.clean;
      seen = subst (All (λ n. 1 ≤ n)) ts are.seen;
      once = subst (λ l. IsTrue (rows.none_twice l)) ps are.once;
      few = subst (λ l. length l ≤ max_paths) ps are.few;
      numbers = subst (λ l. sum_by length l ≤ max_numbers) ps are.numbers;
    }

module _ (known : Option (List Given)) (sets : Sets) (ratio : ℕ) (table : List Counted) (counts : CauseCounts) (file : ResultFile)
    (is : IsResultWith known sets ratio table counts file) where
  abbrev givens : List Given
  givens = its_givens file

  abbrev paths : List (List ℕ)
  paths = its_paths file

  abbrev kept : List (List ℕ)
  kept = paths_of (kept_of (its_paths file) (its_walks file))

  abbrev L : Labelling
  L = its_labels file

  inferred : IsInferredBy ratio file
  inferred = subst (λ gs. IsInferredWith gs ratio (its_paths file) (its_walks file) file.edges file.whys (its_probes file)) (same_givens file known is.its_givens) is.inferred

  pub its_acceptance : ratio ≤ max_ratio → AreTableRows table → NameTwo (unwrap_or known []) → NameOnce (unwrap_or known []) → Accepts file
  its_acceptance small are two once =
      let same = same_givens file known is.its_givens in
      accepted ratio file (subst (λ r. r ≤ max_ratio) (sym is.its_ratio) small) (subst NameTwo same two) (subst NameOnce same once) inferred is.totals
      (sound_in file.paths table is.paths are)

  all_free : All (ValleyFree L) (returns paths givens ++ kept)
  all_free = All-append (ValleyFree L) (returns paths givens) kept (agrees_free paths L givens inferred.agrees) inferred.valley_free

  pub as_given : PeerEitherWayWith givens paths (its_walks file) file.edges
  as_given = (given_peers_law givens paths kept L (edges_among paths (its_walks file))).0 (peering_law L (returns paths givens ++ kept) all_free)

  pub none_left_out : LeaveNoneOutWith givens ratio paths (its_walks file) file.edges
  none_left_out =
      let inside = edges_among paths (its_walks file) in
      let labels = labels_behind givens ratio paths kept L inside inferred.agrees inferred.valley_free inferred.labels in
      (given_peers_law givens paths kept L inside).1 (degree paths) ratio inferred.agrees
      (maximal_law (degree paths) ratio (returns paths givens ++ kept) (edges paths) labels.providers L labels.relabelled (edge_among givens paths kept inside))

pub self_acceptance : AcceptanceLaw → SelfAcceptanceLaw
self_acceptance valid known sets ratio table counts file small are two once is =
    let meets = its_acceptance known sets ratio table counts file is small are two once in
    record {
      accepted = meets;
      agrees = (is.its_counts, is.paths);
      valid = valid file meets;
      either_way = peering_law (its_labels file) (paths_of (kept_of (its_paths file) (its_walks file))) is.inferred.valley_free;
      as_given = as_given known sets ratio table counts file is;
      none_left_out = none_left_out known sets ratio table counts file is;
    }
