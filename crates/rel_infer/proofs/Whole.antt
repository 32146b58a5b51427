-- The whole result, from what is inferred and from a table of paths.
use Rattle.std.proofs.Common.{◌≡◌, ◌∙◌, ℕ, List, [], Option, unwrap_or, map, refl, sym, ap, subst}
use Rattle.relationships.specs.declared.walk.Walk.{Walk}
use Rattle.relationships.specs.Fates.{walk_of}
use Rattle.path_clean.specs.declared.cleaned.Sets.{Sets}
use Rattle.path_clean.specs.Counts.{CauseCounts}
use Rattle.path_table.specs.Rows.{Counted, row_paths, times_of}
use Rattle.result_text.specs.declared.file.PathLine.{PathLine}
use Rattle.result_text.specs.declared.file.ResultFile.{ResultFile}
use Rattle.result_text.specs.declared.file.Totals.{Totals}
use Rattle.result_rules.specs.File.{its_paths, its_walks, its_probes}
use Rattle.rel_infer.specs.declared.inferring.Inferred.{Inferred}
use Rattle.relationships.specs.declared.given.Given.{Given}
use Rattle.rel_infer.specs.Inference.{AreInferredWith}
use Rattle.rel_infer.specs.GivenResults.{IsResultWith}
use Rattle.rel_infer.specs.GivenInference.{IsInferredWith, PeerEitherWayWith, LeaveNoneOutWith}
use Rattle.result_rules.specs.Totals.{totals_by}
use Rattle.rel_infer.proofs.Assembling.{rows_same, walks_same}

module _ (known : Option (List Given)) (sets : Sets) (ratio : ℕ) (counts : CauseCounts) (paths : List (List ℕ)) (times : List ℕ) (i : Inferred) (lines : List PathLine)
    (totals : Totals) (are : AreInferredWith (unwrap_or known []) ratio paths i)
    (counted : totals ≡ totals_by i.fates i.found.edges) (line_paths : map (λ (p : PathLine). p.path) lines ≡ paths) (line_times : map (λ (p : PathLine). p.times) lines ≡ times)
    (line_fates : map (λ (p : PathLine). p.fate) lines ≡ i.fates) where
  abbrev file : ResultFile
  file = record {
    sets = sets;
    ratio = ratio;
    asides = counts;
    givens = known;
    paths = lines;
    edges = i.found.edges;
    whys = i.found.whys;
    probes = i.found.probes;
    totals = totals;
  }

  walks : its_walks file ≡ map walk_of i.fates
  walks = walks_same lines ∙ ap (map walk_of) line_fates

  -- what holds of the paths and walks holds of those of the lines
  moved : (P : List (List ℕ) → List (Option Walk) → Type 0) → P paths (map walk_of i.fates) → P (its_paths file) (its_walks file)
  moved P h = subst (P (its_paths file)) (sym walks) (subst (λ ps. P ps (map walk_of i.fates)) (sym line_paths) h)

  pub whole : (rows : List Counted) → paths ≡ row_paths rows → times ≡ times_of rows → IsResultWith known sets ratio rows counts file
  whole rows its_rows its_times =
      record {
        its_sets = refl;
        its_ratio = refl;
        its_counts = refl;
        its_givens = refl;
        paths = rows_same lines rows (line_paths ∙ its_rows) (line_times ∙ its_times);
        inferred = moved (λ ps ws. IsInferredWith (unwrap_or known []) ratio ps ws i.found.edges i.found.whys (its_probes file)) are.inferred;
        totals = counted ∙ ap (λ fates. totals_by fates i.found.edges) (sym line_fates);
      }

  pub whole_either_way : PeerEitherWayWith (unwrap_or known []) (its_paths file) (its_walks file) i.found.edges
  whole_either_way = moved (λ ps ws. PeerEitherWayWith (unwrap_or known []) ps ws i.found.edges) are.either_way

  pub whole_none_left_out : LeaveNoneOutWith (unwrap_or known []) ratio (its_paths file) (its_walks file) i.found.edges
  whole_none_left_out = moved (λ ps ws. LeaveNoneOutWith (unwrap_or known []) ratio ps ws i.found.edges) are.none_left_out
