-- What is served, labelled and marked in a result that meets all rules.
use Rattle.std.proofs.Common.{◌≡◌, ℕ, ◌<◌, List, ◌++◌, map, flat_map, is_none, refl, sym, ap, ◌∙◌, subst, All, Contains, IsTrue}
use Rattle.std.specs.List.{AllByRecursion, items_where_true}
use Rattle.std.proofs.lemmas.List.Elements.{All-append, All-from_recursion, recursion_from_All}
use Rattle.tor_arena.proofs.Gets.{Contains-map}
use Rattle.relationships.specs.declared.label.End.{End}
use Rattle.relationships.specs.declared.mark.Mark.{Mark}
use Rattle.relationships.specs.declared.mark.Mark.TheVariants.{Forced, Open}
use Rattle.relationships.specs.Relationship.{Orientation, ValleyFree, Serves}
use Rattle.relationships.specs.Graph.{Edge, edges_on, edges}
use Rattle.relationships.specs.Evidence.{NeighboursDiffer, paths_of}
use Rattle.relationships.specs.Givens.{NameTwo, NameOnce}
use Rattle.relationships.specs.Marking.{is_forced}
use Rattle.relationships.proofs.Checked.{read, reading, reading_serves, kept_all, label_of_claim, rising_at, rising_all, distinct_keeps}
use Rattle.relationships.proofs.GivenLemmas.{agrees_free, returns_differ}
use Rattle.relationships.proofs.Selecting.{paths_of-kept_from}
use Rattle.relationships.proofs.Serving.{all_differ_if_distinct}
use Rattle.result_text.specs.declared.file.EdgeLine.{EdgeLine}
use Rattle.result_text.specs.declared.file.ResultFile.{ResultFile}
use Rattle.result_rules.specs.declared.rule.Rule.TheVariants.{HeadSound, PathsCleaned, EdgesListed}
use Rattle.result_rules.specs.File.{its_givens, its_paths, its_walks, its_kept, its_labels, its_claims, its_edges, its_returns, claim_on}
use Rattle.result_rules.specs.Rules.{Accepts}
use Rattle.result_rules.specs.Valid.{Valid}
use Rattle.result_rules.proofs.Acceptance.{acceptance_law}
use Rattle.result_rules.proofs.Accepted.{paths_apart, edges_listed, claimed_edges}
use Rattle.result_rules.proofs.GivenLines.{name_two, name_once}

-- the returns of the givens whose two are neighbours, and then the kept paths
abbrev pub its_demands : ResultFile → List (List ℕ)
its_demands file = its_returns file ++ paths_of (its_kept file)

pub same_kept : (file : ResultFile) → paths_of (its_kept file) ≡ items_where_true (map is_none (its_walks file)) (its_paths file)
same_kept file = paths_of-kept_from 1 (its_paths file) (map is_none (its_walks file))

-- the provider that a label names, and the lower AS where it is a peering
abbrev pub by_labels : ResultFile → Orientation
by_labels file = reading End.Low (its_labels file)

pub forced_if : (mark : Mark) → IsTrue (is_forced mark) → mark ≡ Forced
forced_if Forced t = refl
forced_if Open t = absurd (cc t)

module _ (file : ResultFile) (accepts : Accepts file) where
  pub valid : Valid file
  valid = acceptance_law file accepts

  pub its_two : NameTwo (its_givens file)
  its_two = name_two file (accepts HeadSound)

  pub its_once : NameOnce (its_givens file)
  its_once = name_once file (accepts HeadSound)

  pub its_edges_listed : its_edges file ≡ edges (its_paths file)
  its_edges_listed = edges_listed file (accepts EdgesListed)

  paths_differ : All NeighboursDiffer (its_paths file)
  paths_differ = all_differ_if_distinct (its_paths file) (paths_apart file (accepts PathsCleaned))

  pub demands_differ : All NeighboursDiffer (its_demands file)
  demands_differ =
      All-append NeighboursDiffer (its_returns file) (paths_of (its_kept file)) (returns_differ (its_givens file) (its_paths file) its_two)
      (All-from_recursion NeighboursDiffer (paths_of (its_kept file))
      (kept_all NeighboursDiffer 1 (its_paths file) (map is_none (its_walks file)) (recursion_from_All NeighboursDiffer (its_paths file) paths_differ)))

  demands_free : All (ValleyFree (its_labels file)) (its_demands file)
  demands_free =
      All-append (ValleyFree (its_labels file)) (its_returns file) (paths_of (its_kept file))
      (agrees_free (its_paths file) (its_labels file) (its_givens file) valid.agrees) valid.valley_free

  pub by_labels_serves : Serves (by_labels file) (its_demands file)
  by_labels_serves = reading_serves End.Low (its_labels file) (its_demands file) demands_free

  claims_listed : map {B = Edge} (λ c. (c.low, c.high)) (its_claims file) ≡ edges (its_paths file)
  claims_listed = claimed_edges file.edges ∙ its_edges_listed

  module _ (line : EdgeLine) (there : Contains file.edges line) where
    pub edge_there : Contains (edges (its_paths file)) (line.low, line.high)
    edge_there = subst (λ (es : List Edge). Contains es (line.low, line.high)) its_edges_listed (Contains-map (λ (e : EdgeLine). (e.low, e.high)) file.edges line there)

    claimed : Contains (its_claims file) (claim_on line)
    claimed = Contains-map claim_on file.edges line there

    its_label : its_labels file line.low line.high ≡ line.label
    its_label = label_of_claim (its_paths file) (its_claims file) claims_listed (claim_on line) claimed

    pub rises : line.low < line.high
    rises =
        rising_at (its_claims file) (claim_on line) claimed.0
        (subst (AllByRecursion (λ (e : Edge). e.0 < e.1)) (sym claims_listed)
        (distinct_keeps (λ (e : Edge). e.0 < e.1) (flat_map edges_on (its_paths file)) (rising_all (its_paths file) (recursion_from_All NeighboursDiffer (its_paths file) paths_differ))))
        claimed.1 claimed.2

    -- the labels name the provider that the line's own label names
    pub provider_read : by_labels file line.low line.high ≡ read End.Low line.label
    provider_read = ap (read End.Low) its_label
