-- Exactly the kept paths of a result that meets all rules are free under its labels.
use Rattle.std.proofs.Common.{◌≡◌, List, [], ◌∷◌, All, map, is_none, refl, ap, ap₂, subst}
use Rattle.std.specs.List.{items_where_true}
use Rattle.relationships.specs.declared.label.Label.{Label}
use Rattle.relationships.specs.Givens.{AgreesWith}
use Rattle.relationships.specs.Relationship.{Labelling, ValleyFree}
use Rattle.relationships.specs.Graph.{Edge, labelling}
use Rattle.relationships.specs.Evidence.{paths_of}
use Rattle.relationships.specs.Checking.{Claim, claimed_labels, kept_of}
use Rattle.relationships.proofs.Selecting.{paths_of-kept_from}
use Rattle.relationships.proofs.Serving.{all_differ_if_distinct}
use Rattle.result_text.specs.EdgeLabels.{labels_in}
use Rattle.result_text.specs.declared.file.EdgeLine.{EdgeLine}
use Rattle.result_rules.specs.declared.rule.Rule.TheVariants.{PathsCleaned, EdgesListed}
use Rattle.result_rules.specs.File.{claim_on, its_givens, its_paths, its_walks}
use Rattle.result_rules.proofs.Acceptance.{acceptance_law}
use Rattle.result_rules.proofs.Accepted.{paths_apart, edges_listed}
use Rattle.as_rel.specs.Labelled.{ends_of}
use Rattle.as_rel.proofs.KeptLemmas.{kept_free_law}
use Rattle.run_laws.specs.AcceptedGrading.{AcceptedGradingLaw}

ends_in : (lines : List EdgeLine) → map {B = Edge} (λ (c : Claim). (c.low, c.high)) (map claim_on lines) ≡ map ends_of lines
ends_in [] = refl
ends_in (line ∷ lines) = ap (λ (es : List Edge). (line.low, line.high) ∷ es) (ends_in lines)

labels_of_lines : (lines : List EdgeLine) → map (λ (c : Claim). c.label) (map claim_on lines) ≡ map (λ (e : EdgeLine). e.label) lines
labels_of_lines [] = refl
labels_of_lines (line ∷ lines) = ap (λ (ls : List Label). line.label ∷ ls) (labels_of_lines lines)

same_labels : (lines : List EdgeLine) → claimed_labels (map claim_on lines) ≡ labels_in lines
same_labels lines = ap₂ labelling (ends_in lines) (labels_of_lines lines)

pub accepted_grading : AcceptedGradingLaw
accepted_grading file accepts =
    let valid = acceptance_law file accepts in
    let free : All (ValleyFree (labels_in file.edges)) (items_where_true (map is_none (its_walks file)) (its_paths file)) =
    subst (All (ValleyFree (labels_in file.edges))) (paths_of-kept_from 1 (its_paths file) (map is_none (its_walks file)))
    (subst (λ (L : Labelling). All (ValleyFree L) (paths_of (kept_of (its_paths file) (its_walks file)))) (same_labels file.edges) valid.valley_free) in
    kept_free_law (its_givens file) file.edges (its_paths file) (map is_none (its_walks file))
    (all_differ_if_distinct (its_paths file) (paths_apart file (accepts PathsCleaned)))
    (edges_listed file (accepts EdgesListed)) valid.kept
    (subst (AgreesWith (its_givens file) (its_paths file)) (same_labels file.edges) valid.agrees) free
