-- Exactly the kept paths are free under the lines of the edges of a result.
use Rattle.std.proofs.Common.{◌≡◌, ◌≢◌, ◌<◌, ℕ, List, [], ◌∷◌, Ok, Option, Some, None, All, map, is_none, unwrap_or, refl, sym, ap, ap₂, ◌∙◌, subst}
use Rattle.std.specs.List.{AllPairs, items_where_true}
use Rattle.relationships.specs.declared.label.Label.{Label}
use Rattle.relationships.specs.declared.given.Given.{Given}
use Rattle.relationships.specs.Givens.{AgreesWith}
use Rattle.relationships.specs.Relationship.{Labelling, ValleyFree}
use Rattle.relationships.specs.Graph.{Edge, labelling}
use Rattle.relationships.specs.Evidence.{NeighboursDiffer, paths_of}
use Rattle.relationships.specs.Checking.{Claim, claimed_labels, kept_of}
use Rattle.relationships.proofs.Selecting.{paths_of-kept_from}
use Rattle.relationships.proofs.Serving.{all_differ_if_distinct}
use Rattle.path_table.specs.Rows.{Counted, row_paths}
use Rattle.path_clean.specs.Counts.{CauseCounts}
use Rattle.path_clean.specs.declared.cleaned.Sets.{Sets}
use Rattle.path_clean.proofs.GraphPaths.{apart}
use Rattle.result_text.specs.EdgeLabels.{labels_in}
use Rattle.result_text.specs.declared.file.EdgeLine.{EdgeLine}
use Rattle.result_text.specs.declared.file.PathLine.{PathLine}
use Rattle.result_text.specs.declared.file.ResultFile.{ResultFile}
use Rattle.result_rules.specs.File.{claim_on, its_paths, its_walks}
use Rattle.result_rules.specs.Against.{row_of}
use Rattle.rel_infer.specs.GivenResults.{IsResultWith}
use Rattle.rel_infer.specs.SelfAcceptance.{AreTableRows}
use Rattle.as_rel.specs.declared.givens.KnownLines.{KnownLines}
use Rattle.as_rel.specs.Serial.{rel_in}
use Rattle.as_rel.specs.Keeping.{ExactlyKeptAreFree}
use Rattle.as_rel.specs.Labelled.{ends_of, line_of_edge}
use Rattle.as_rel.proofs.KeptLemmas.{kept_free_law, ends_law}
use Rattle.tor_words.specs.declared.settings.Settings.{Settings}
use Rattle.tor_words.specs.declared.job.Job.{Job}
use Rattle.tor_words.specs.declared.job.Job.TheVariants.{Count, Infer, Sample, Migrate, Resume}
use Rattle.tor_words.specs.declared.task.Made.{Made}
use Rattle.tor_words.specs.declared.task.Made.TheVariants.{Serial}
use Rattle.tor_words.specs.Given.{settings_given}
use Rattle.tor_words.proofs.Bounds.{bounds}
use Rattle.tor_io.specs.Contents.{Files}
use Rattle.dump_read.specs.declared.taking.Taken.{Taken}
use Rattle.tor_output.specs.Grading.{GradesExactly, GradingLaw, ResultEndsLaw, AsksForSerial, GainsGrading}
use Rattle.std.specs.Io.KnownBytes.{append_known}
use Rattle.tor_output.specs.First.{HoldsResult, TakesUp, first_of}
use Rattle.tor_output.specs.Output.{IsMade, IsOutput, IsOutputIn, GainsOutput, givens_for, known_for, made_by, paths_taken}
use Rattle.tor_output.specs.Seen.{Outcome, Reads, Joins, Holds, Stops, Ends, ComesTo}
use Rattle.tor_output.specs.Written.{Written}
use Rattle.tor_output.proofs.AcceptingLemmas.{table_law}
use Rattle.tor_output.proofs.Orderings.{taken_rows}

-- ---- the lists of a result

ends_in : (lines : List EdgeLine) → map {B = Edge} (λ (c : Claim). (c.low, c.high)) (map claim_on lines) ≡ map ends_of lines
ends_in [] = refl
ends_in (line ∷ lines) = ap (λ (es : List Edge). (line.low, line.high) ∷ es) (ends_in lines)

labels_of_lines : (lines : List EdgeLine) → map (λ (c : Claim). c.label) (map claim_on lines) ≡ map (λ (e : EdgeLine). e.label) lines
labels_of_lines [] = refl
labels_of_lines (line ∷ lines) = ap (λ (ls : List Label). line.label ∷ ls) (labels_of_lines lines)

same_labels : (lines : List EdgeLine) → claimed_labels (map claim_on lines) ≡ labels_in lines
same_labels lines = ap₂ labelling (ends_in lines) (labels_of_lines lines)

paths_in : (lines : List PathLine) → row_paths (map row_of lines) ≡ map (λ (p : PathLine). p.path) lines
paths_in [] = refl
paths_in (line ∷ lines) = ap (λ (ps : List (List ℕ)). line.path ∷ ps) (paths_in lines)

-- ---- a result of rows

module _ (known : Option (List Given)) (sets : Sets) (ratio : ℕ) (rows : List Counted) (counts : CauseCounts) (file : ResultFile) (are : AreTableRows rows)
    (is : IsResultWith known sets ratio rows counts file) where
  same_paths : row_paths rows ≡ its_paths file
  same_paths = ap row_paths (sym is.paths) ∙ paths_in file.paths

  differ : All NeighboursDiffer (its_paths file)
  differ = subst (All NeighboursDiffer) same_paths (all_differ_if_distinct (row_paths rows) (apart (row_paths rows) are.clean))

  free : All (ValleyFree (labels_in file.edges)) (items_where_true (map is_none (its_walks file)) (its_paths file))
  free =
      subst (All (ValleyFree (labels_in file.edges))) (paths_of-kept_from 1 (its_paths file) (map is_none (its_walks file)))
      (subst (λ (L : Labelling). All (ValleyFree L) (paths_of (kept_of (its_paths file) (its_walks file)))) (same_labels file.edges) is.inferred.valley_free)

  agrees : AgreesWith (unwrap_or known []) (its_paths file) (labels_in file.edges)
  agrees = subst (AgreesWith (unwrap_or known []) (its_paths file)) (same_labels file.edges) is.inferred.agrees

  pub result_graded : ExactlyKeptAreFree (unwrap_or known []) (row_paths rows) (map line_of_edge file.edges)
  result_graded =
      subst (λ paths. ExactlyKeptAreFree (unwrap_or known []) paths (map line_of_edge file.edges)) (sym same_paths)
      (kept_free_law (unwrap_or known []) file.edges (its_paths file) (map is_none (its_walks file)) differ is.inferred.edges_listed is.inferred.kept agrees free)

  pub result_ends : All (λ (e : EdgeLine). e.low < e.high) file.edges × AllPairs (λ (e f : EdgeLine). ends_of e ≢ ends_of f) file.edges
  result_ends = ends_law file.edges (its_paths file) differ is.inferred.edges_listed

  pub text_graded : (text : List ℕ) → rel_in text ≡ Ok (map line_of_edge file.edges) → GradesExactly (unwrap_or known []) (row_paths rows) text
  text_graded text read = record { lines = map line_of_edge file.edges; read = read; graded = result_graded }

pub grading_law : GradingLaw
grading_law settings known taken file are faithful =
    result_graded (known_for settings known taken) settings.sets settings.ratio (paths_taken settings taken) taken.counts file (taken_rows settings taken are) faithful

pub result_ends_law : ResultEndsLaw
result_ends_law settings known taken file are faithful =
    result_ends (known_for settings known taken) settings.sets settings.ratio (paths_taken settings taken) taken.counts file (taken_rows settings taken are) faithful

-- ---- what a run that writes lines of serial-1 has written

one_settings : (s t : Settings) → ◌≡◌ {A = Option Settings} (Some s) (Some t) → s ≡ t
one_settings s t e = cc

-- what a job makes of dumps alone is that
pub is_made : (job : Job) (made : Made) (settings : Settings) (known : Option KnownLines) (taken : Taken) (output : Written) → made_by job ≡ Some made →
    IsOutputIn job settings known taken output → IsMade made settings known taken output
is_made (Count counted dumps) made settings known taken output is w = absurd cc
is_made (Infer what given dumps) made settings known taken output is w = let same : what ≡ made = cc in subst (λ (m : Made). IsMade m settings known taken output) same w
is_made (Sample seed) made settings known taken output is w = absurd cc
is_made (Migrate name) made settings known taken output is w = absurd w
is_made (Resume earlier dumps) made settings known taken output is w = absurd w

written_by : (settings : Settings) (known : Option KnownLines) (taken : Taken) (output : Written) → AreTableRows taken.table.rows → IsMade Serial settings known taken output →
    GradesExactly (givens_for settings known taken) (row_paths (paths_taken settings taken)) output.text
written_by settings known taken output are (file, faithful, serial, bare) =
    text_graded (known_for settings known taken) settings.sets settings.ratio (paths_taken settings taken) taken.counts file (taken_rows settings taken are) faithful output.text serial.1

-- a result is taken up where it is resumed, and held where it is migrated, and lines of serial-1 are written of neither
by_outcome : (words : List (List ℕ)) (files : Files) (old new : Option (List ℕ)) (settings : Settings) (x : Outcome) (output : Written) → settings_given words ≡ Some settings →
    made_by settings.job ≡ Some Serial → new ≡ append_known old output.text → ComesTo settings files x → IsOutput settings x output → GainsGrading words files old new
by_outcome words files old new settings (Reads known taken) output given serial gained comes is = record {
  settings = settings;
  given = given;
  known = known;
  taken = taken;
  seen = comes;
  text = output.text;
  gained = gained;
  exact = written_by settings known taken output (table_law bounds words settings files known taken given comes).0
      (is_made settings.job Serial settings known taken output serial is);
}
by_outcome words files old new settings (Joins earlier taken) output given serial gained comes is = absurd (of_earlier settings.job serial comes.0)
  where
    of_earlier : (job : Job) → made_by job ≡ Some Serial → TakesUp (first_of job) files earlier → ⊥
    of_earlier (Count counted dumps) made takes = takes
    of_earlier (Infer what None dumps) made takes = takes
    of_earlier (Infer what (Some name) dumps) made takes = takes
    of_earlier (Sample seed) made takes = takes
    of_earlier (Migrate name) made takes = takes
    of_earlier (Resume name dumps) made takes = absurd cc
by_outcome words files old new settings (Holds file) output given serial gained comes is = absurd (of_result settings.job serial comes)
  where
    of_result : (job : Job) → made_by job ≡ Some Serial → HoldsResult (first_of job) files file → ⊥
    of_result (Count counted dumps) made holds = holds
    of_result (Infer what None dumps) made holds = holds
    of_result (Infer what (Some name) dumps) made holds = holds
    of_result (Sample seed) made holds = holds
    of_result (Migrate name) made holds = absurd cc
    of_result (Resume name dumps) made holds = holds
by_outcome words files old new settings (Stops end) output given serial gained comes is = absurd is
by_outcome words files old new settings (Ends end) output given serial gained comes is = absurd is

pub gains_grading : (words : List (List ℕ)) (files : Files) (old new : Option (List ℕ)) (note : List ℕ) → AsksForSerial words →
    GainsOutput words files old new note → GainsGrading words files old new
gains_grading words files old new note asks gains =
    let asked = gains.asked in
    let same : asks.0 ≡ asked.settings = one_settings asks.0 asked.settings (sym asks.1 ∙ asked.given) in
    by_outcome words files old new asked.settings asked.outcome gains.output asked.given (subst (λ (s : Settings). made_by s.job ≡ Some Serial) same asks.2) gains.gained asked.comes asked.written
