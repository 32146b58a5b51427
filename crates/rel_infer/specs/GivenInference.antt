-- What is inferred from distinct paths where relationships are given. An orientation that agrees with the givens and serves paths is one
-- that serves the returns of the givens and these paths (`given_serving_law`), so the returns stand in front of the kept paths wherever an
-- orientation is asked for. What is counted is counted on the paths alone.
use Rattle.std.specs.Prelude.{◌≡◌, ◌↔◌, ℕ, ◌^◌, List, [], ◌++◌, Option, map, is_none, All, IsTrue}
use Rattle.relationships.specs.declared.given.Given.{Given}
use Rattle.relationships.specs.declared.walk.Walk.{Walk}
use Rattle.relationships.specs.Relationship.{Orientation, Labelling, ValleyFree, labels_of}
use Rattle.relationships.specs.Graph.{Edge, edges, degree, support}
use Rattle.relationships.specs.Evidence.{paths_of}
use Rattle.relationships.specs.Selection.{KeepsFrom, IsForced}
use Rattle.relationships.specs.Preference.{IsSettlingOrder, IsPreferred, lead, wanted}
use Rattle.relationships.specs.Checking.{kept_of, claimed_labels}
use Rattle.relationships.specs.Marking.{is_forced}
use Rattle.relationships.specs.Givens.{returns, AgreesWith}
use Rattle.relationships.specs.GivenPreference.{IsRelabelledWith, ServeEitherWayWith, NoneLeftOutWith}
use Rattle.relationships.specs.GivenEvidence.{LostFromWith, MarksHoldWith}
use Rattle.result_text.specs.declared.file.EdgeLine.{EdgeLine}
use Rattle.result_rules.specs.File.{claim_on}

-- how many relationships may be given
abbrev pub max_givens : ℕ
max_givens = 2 ^ 28

-- the labels of the edges of these paths, some of which are kept: each edge has its preferred provider among those that agree with the
-- givens, and then, edge by edge, becomes a peering where no given names it and it may by the kept paths
pub record AreLabelsWith (givens : List Given) (ratio : ℕ) (paths kept : List (List ℕ)) (L : Labelling) : Type 0 where
  pub order : List Edge
  pub settling : IsSettlingOrder (lead (degree paths) kept) (edges paths) order
  pub providers : Orientation
  pub preferred : IsPreferred (returns paths givens ++ kept) (wanted (degree paths) kept) order providers
  pub relabelled : IsRelabelledWith givens (degree paths) ratio kept (edges paths) (labels_of providers) L

-- what is inferred from distinct paths under givens: what becomes of each, where a lost one has a walk, whose links may name givens, the
-- lines of the edges, and the evidence
pub record IsInferredWith (givens : List Given) (ratio : ℕ) (paths : List (List ℕ)) (walks : List (Option Walk)) (lines : List EdgeLine)
    (whys : List Walk) (probes : List (ℕ × ℕ)) : Type 0 where
  -- a path is kept exactly if some orientation that agrees with the givens serves it together with those kept before it, and a walk
  -- refutes each lost one
  pub kept : KeepsFrom (returns paths givens) paths (map is_none walks)
  pub lost : LostFromWith givens 1 [] paths walks
  -- the edges of all paths, in order of first appearance, each with its label and the number of kept paths that hold it
  pub edges_listed : map (λ line. (line.low, line.high)) lines ≡ edges paths
  pub labels : AreLabelsWith givens ratio paths (paths_of (kept_of paths walks)) (claimed_labels (map claim_on lines))
  -- the labels say what each given says whose two are an edge, also where no kept path holds it
  pub agrees : AgreesWith givens paths (claimed_labels (map claim_on lines))
  pub valley_free : All (ValleyFree (claimed_labels (map claim_on lines))) (paths_of (kept_of paths walks))
  pub supports : All (λ line. line.support ≡ support (paths_of (kept_of paths walks)) (line.low, line.high)) lines
  -- an edge is marked forced exactly if all orientations that agree with the givens and serve the kept paths agree on it
  pub forced : All (λ line. IsTrue (is_forced line.mark) ↔
      IsForced (returns paths givens ++ paths_of (kept_of paths walks)) line.low line.high) lines
  pub evidence : MarksHoldWith givens (kept_of paths walks) (map claim_on lines) whys probes

-- the peerings may be read either way: each orientation that has the providers of the other edges agrees with the givens and serves the
-- kept paths
abbrev pub PeerEitherWayWith : List Given → List (List ℕ) → List (Option Walk) → List EdgeLine → Type 0
PeerEitherWayWith givens paths walks lines =
    ServeEitherWayWith givens paths (claimed_labels (map claim_on lines)) (paths_of (kept_of paths walks))

-- no edge on a kept path that no given names and whose ends are alike in degree could be one peering more
abbrev pub LeaveNoneOutWith : List Given → ℕ → List (List ℕ) → List (Option Walk) → List EdgeLine → Type 0
LeaveNoneOutWith givens ratio paths walks lines =
    NoneLeftOutWith givens (degree paths) ratio (paths_of (kept_of paths walks)) (edges paths) (claimed_labels (map claim_on lines))
