-- What the result of distinct paths says. The top of a path is that of L. Gao, "On inferring autonomous system relationships in the
-- Internet", 2001, and that an orientation serves paths goes back to Di Battista, Patrignani and Pizzonia, 2003. Selection in order,
-- votes, settling, peerings and the form of the evidence are this project's own (docs/FORMATS.md).
use Rattle.std.specs.Prelude.{◌≡◌, ◌↔◌, ℕ, List, Option, None, map, is_none, All, IsTrue}
use Rattle.path_clean.specs.declared.cleaned.Sets.{Sets}
use Rattle.path_clean.specs.Counts.{CauseCounts}
use Rattle.path_table.specs.Rows.{Counted}
use Rattle.relationships.specs.declared.walk.Walk.{Walk}
use Rattle.relationships.specs.Relationship.{Orientation, Labelling, ValleyFree, labels_of}
use Rattle.relationships.specs.Graph.{Edge, edges, degree, support}
use Rattle.relationships.specs.Evidence.{paths_of}
use Rattle.relationships.specs.Selection.{Keeps, IsForced}
use Rattle.relationships.specs.Preference.{IsSettlingOrder, IsPreferred, IsRelabelled, lead, wanted}
use Rattle.relationships.specs.Checking.{LostAreRefuted, MarksHold, kept_of, claimed_labels}
use Rattle.relationships.specs.Marking.{is_forced}
use Rattle.result_text.specs.declared.file.EdgeLine.{EdgeLine}
use Rattle.result_text.specs.declared.file.ResultFile.{ResultFile}
use Rattle.result_rules.specs.File.{its_paths, its_walks, its_probes, claim_on}
use Rattle.result_rules.specs.Against.{its_rows}
use Rattle.result_rules.specs.Rules.{right_totals}

-- the labels of the edges of these paths, some of which are kept: each edge has its preferred provider, and then, edge by edge,
-- becomes a peering where it may
pub record AreLabels (ratio : ℕ) (paths kept : List (List ℕ)) (L : Labelling) : Type 0 where
  pub order : List Edge
  pub settling : IsSettlingOrder (lead (degree paths) kept) (edges paths) order
  pub providers : Orientation
  pub preferred : IsPreferred kept (wanted (degree paths) kept) order providers
  pub relabelled : IsRelabelled (degree paths) ratio kept (edges paths) (labels_of providers) L

-- what is inferred from distinct paths: what becomes of each, where a lost one has a walk, the lines of the edges, and the evidence
pub record IsInferred (ratio : ℕ) (paths : List (List ℕ)) (walks : List (Option Walk)) (lines : List EdgeLine) (whys : List Walk)
    (probes : List (ℕ × ℕ)) : Type 0 where
  -- a path is kept exactly if some orientation serves it together with those kept before it, and a walk refutes each lost one
  pub kept : Keeps paths (map is_none walks)
  pub lost : LostAreRefuted paths walks
  -- the edges of all paths, in order of first appearance, each with its label and the number of kept paths that hold it
  pub edges_listed : map (λ line. (line.low, line.high)) lines ≡ edges paths
  pub labels : AreLabels ratio paths (paths_of (kept_of paths walks)) (claimed_labels (map claim_on lines))
  pub valley_free : All (ValleyFree (claimed_labels (map claim_on lines))) (paths_of (kept_of paths walks))
  pub supports : All (λ line. line.support ≡ support (paths_of (kept_of paths walks)) (line.low, line.high)) lines
  -- an edge is marked forced exactly if all orientations that serve the kept paths agree on it
  pub forced : All (λ line. IsTrue (is_forced line.mark) ↔ IsForced (paths_of (kept_of paths walks)) line.low line.high) lines
  pub evidence : MarksHold (kept_of paths walks) (map claim_on lines) whys probes

-- the result of distinct paths with their times, and of the counts of routes that were set aside, where nothing is given
pub record IsResultOf (sets : Sets) (ratio : ℕ) (rows : List Counted) (counts : CauseCounts) (file : ResultFile) : Type 0 where
  pub its_sets : file.sets ≡ sets
  pub its_ratio : file.ratio ≡ ratio
  pub its_counts : file.asides ≡ counts
  pub its_givens : file.givens ≡ None
  pub paths : its_rows file ≡ rows
  pub inferred : IsInferred ratio (its_paths file) (its_walks file) file.edges file.whys (its_probes file)
  pub totals : file.totals ≡ right_totals file
