-- What the rules of a checker give.
-- Each law is proved as the contract of a function in src/laws/checking.rt.
use Rattle.std.specs.Prelude.{◌≡◌, ◌≢◌, ◌↔◌, ℕ, ◌<◌, List, ◌++◌, map, Option, is_none, All, Contains, IsTrue}
use Rattle.relationships.specs.declared.label.Label.{Label}
use Rattle.relationships.specs.Relationship.{Labelling, ValleyFree}
use Rattle.relationships.specs.declared.walk.Walk.{Walk}
use Rattle.relationships.specs.Evidence.{NeighboursDiffer, Numbered, paths_of}
use Rattle.relationships.specs.Selection.{Keeps, KeepsFrom, IsForced}
use Rattle.relationships.specs.Checking.{LostAreRefuted, kept_of, Claim, MarksHold, MeetsGraphRules, MeetsGraphRulesBehind}

-- where each lost path is refuted and each kept path is valley-free, exactly the right paths are kept
abbrev pub KeepingLaw : Type 0
KeepingLaw =
    (L : Labelling) (paths : List (List ℕ)) (walks : List (Option Walk)) → LostAreRefuted paths walks →
    All (ValleyFree L) (paths_of (kept_of paths walks)) → Keeps paths (map is_none walks)

-- where the marks hold, exactly the forced edges are marked so
abbrev pub MarkingLaw : Type 0
MarkingLaw =
    (L : Labelling) (kept : Numbered) (claims : List Claim) (whys : List Walk) (probes : List (ℕ × ℕ)) →
    All NeighboursDiffer (paths_of kept) → All (ValleyFree L) (paths_of kept) → MarksHold kept claims whys probes →
    (c : Claim) → Contains claims c → c.low < c.high → L c.low c.high ≡ c.label →
    IsTrue c.forced ↔ IsForced (paths_of kept) c.low c.high

-- no forced edge is a peering, in any labelling under which the kept paths are valley-free
abbrev pub ForcedLaw : Type 0
ForcedLaw =
    (L : Labelling) (kept : List (List ℕ)) (low high : ℕ) → All (ValleyFree L) kept → IsForced kept low high → L low high ≢ Label.Peer

-- what meets the rules on the graph is valid: the right paths are kept, exactly the forced edges are marked so, and none of
-- these is a peering
abbrev pub GraphRulesLaw : Type 0
GraphRulesLaw =
    (paths : List (List ℕ)) (walks : List (Option Walk)) (claims : List Claim) (whys : List Walk) (probes : List (ℕ × ℕ)) →
    MeetsGraphRules paths walks claims whys probes →
    Keeps paths (map is_none walks) ×
    ((c : Claim) → Contains claims c → IsTrue c.forced ↔ IsForced (paths_of (kept_of paths walks)) c.low c.high) ×
    ((c : Claim) → Contains claims c → IsTrue c.forced → c.label ≢ Label.Peer)

-- what meets them behind paths that are served from the start is valid behind these
abbrev pub GraphRulesBehindLaw : Type 0
GraphRulesBehindLaw =
    (begun : Numbered) (paths : List (List ℕ)) (walks : List (Option Walk)) (claims : List Claim) (whys : List Walk)
    (probes : List (ℕ × ℕ)) →
    MeetsGraphRulesBehind begun paths walks claims whys probes →
    KeepsFrom (paths_of begun) paths (map is_none walks) ×
    ((c : Claim) → Contains claims c → IsTrue c.forced ↔ IsForced (paths_of (begun ++ kept_of paths walks)) c.low c.high) ×
    ((c : Claim) → Contains claims c → IsTrue c.forced → c.label ≢ Label.Peer)
