-- What is promised of the peerings among the edge lines.
use Rattle.std.specs.Prelude.{ℕ, List, Option, map}
use Rattle.relationships.specs.declared.walk.Walk.{Walk}
use Rattle.relationships.specs.Graph.{edges, degree}
use Rattle.relationships.specs.Evidence.{paths_of}
use Rattle.relationships.specs.Preference.{ServeEitherWay, NoneLeftOut}
use Rattle.relationships.specs.Checking.{kept_of, claimed_labels}
use Rattle.result_text.specs.declared.file.EdgeLine.{EdgeLine}
use Rattle.result_rules.specs.File.{claim_on}

-- the peerings may be read either way, all at once and in any choice: each orientation that has the providers of the other edges serves
-- the kept paths
abbrev pub PeerEitherWay : List (List ℕ) → List (Option Walk) → List EdgeLine → Type 0
PeerEitherWay paths walks lines = ServeEitherWay (claimed_labels (map claim_on lines)) (paths_of (kept_of paths walks))

-- no edge on a kept path whose ends are alike in degree could be one peering more
abbrev pub LeaveNoneOut : ℕ → List (List ℕ) → List (Option Walk) → List EdgeLine → Type 0
LeaveNoneOut ratio paths walks lines =
    NoneLeftOut (degree paths) ratio (paths_of (kept_of paths walks)) (edges paths) (claimed_labels (map claim_on lines))
