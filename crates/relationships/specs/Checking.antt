-- What a checker asks of the lines of a result: which paths are lost, which orders are shown, which edges are open.
-- These rules are this project's own (docs/FORMATS.md).
use Rattle.std.specs.Prelude.{◌≡◌, ◌⊎◌, ℕ, ◌+◌, Bool, List, [], ◌∷◌, ◌++◌, map, Option, Some, None, is_none, All, Any, Contains, IsTrue}
use Rattle.std.specs.Prelude.{IsFalse, ⊤}
use Rattle.relationships.specs.declared.label.Label.{Label}
use Rattle.relationships.specs.declared.walk.Walk.{Walk}
use Rattle.relationships.specs.Evidence.{Numbered, paths_of, kept_from, NeighboursDiffer, Refutes, Show, Closure, IsConsistent}
use Rattle.relationships.specs.Graph.{edges, labelling}
use Rattle.relationships.specs.Relationship.{Labelling, ValleyFree}

-- each lost path has a walk that refutes over the paths kept before it and itself; a kept one has no walk. The paths are
-- numbered from n
abbrev pub LostFrom : ℕ → Numbered → List (List ℕ) → List (Option Walk) → Type 0
LostFrom n kept [] [] = ⊤
LostFrom n kept (path ∷ paths) (None ∷ walks) = LostFrom (n + 1) (kept ++ (n, path) ∷ []) paths walks
LostFrom n kept (path ∷ paths) (Some walk ∷ walks) =
    Refutes (kept ++ (n, path) ∷ []) walk × LostFrom (n + 1) kept paths walks
LostFrom n kept _ _ = ⊥

abbrev pub LostAreRefuted : List (List ℕ) → List (Option Walk) → Type 0
LostAreRefuted paths walks = LostFrom 1 [] paths walks

-- the kept paths: those without a walk
abbrev pub kept_of : List (List ℕ) → List (Option Walk) → Numbered
kept_of paths walks = kept_from 1 paths (map is_none walks)

-- what a line says of an edge
pub record Claim : Type 0 where
  pub low : ℕ
  pub high : ℕ
  pub label : Label
  pub forced : Bool

-- the order of its ends that the label does not have, the provider first
abbrev pub OtherOrder : Claim → ℕ → ℕ → Type 0
OtherOrder c over under =
    ((c.label ≡ Label.Low) × (over ≡ c.high) × (under ≡ c.low)) ⊎ ((c.label ≡ Label.High) × (over ≡ c.low) × (under ≡ c.high))

-- the mark is borne out: an order of the ends is shown; or the edge is a peering; or the closure of a probe has the other order
abbrev pub IsBorneOut : List (List ℕ) → List (ℕ × ℕ) → List (ℕ × ℕ) → Claim → Type 0
IsBorneOut kept orders probes c =
    (IsTrue c.forced × (Contains orders (c.low, c.high) ⊎ Contains orders (c.high, c.low))) ⊎
    ((IsFalse c.forced × (c.label ≡ Label.Peer)) ⊎
    (IsFalse c.forced × ((over under : ℕ) × OtherOrder c over under × Any (λ p. Closure kept p.0 p.1 over under) probes)))

-- the probe's closure is consistent, and it has the other order of an open edge that no earlier probe's closure has
pub record IsProbe (kept : List (List ℕ)) (claims : List Claim) (earlier : List (ℕ × ℕ)) (p : ℕ × ℕ) : Type 0 where
  pub consistent : IsConsistent kept p.0 p.1
  pub claim : Claim
  pub claimed : Contains claims claim
  pub is_open : IsFalse claim.forced
  pub over : ℕ
  pub under : ℕ
  pub other : OtherOrder claim over under
  pub reached : Closure kept p.0 p.1 over under
  pub new : All (λ q. Closure kept q.0 q.1 over under → ⊥) earlier

abbrev pub ProbesFrom : List (List ℕ) → List Claim → List (ℕ × ℕ) → List (ℕ × ℕ) → Type 0
ProbesFrom kept claims earlier [] = ⊤
ProbesFrom kept claims earlier (p ∷ probes) =
    IsProbe kept claims earlier p × ProbesFrom kept claims (earlier ++ p ∷ []) probes

-- the why walks show orders of neighbours, each mark is borne out by these and by the probes, and each probe serves for an edge
pub record MarksHold (kept : Numbered) (claims : List Claim) (whys : List Walk) (probes : List (ℕ × ℕ)) : Type 0 where
  pub orders : List (ℕ × ℕ)
  pub shown : Show kept whys orders
  pub marks : All (IsBorneOut (paths_of kept) orders probes) claims
  pub probes_serve : ProbesFrom (paths_of kept) claims [] probes

-- the labelling that the claims give
abbrev pub claimed_labels : List Claim → Labelling
claimed_labels claims = labelling (map (λ c. (c.low, c.high)) claims) (map (λ c. c.label) claims)

-- the rules on paths and edges that decide what is kept and what is forced. Those that no law here needs are left out: that
-- paths are cleaned but that no two neighbours on them are the same, that no path stands twice, the ratio, the supports and the totals
pub record MeetsGraphRules (paths : List (List ℕ)) (walks : List (Option Walk)) (claims : List Claim)
    (whys : List Walk) (probes : List (ℕ × ℕ)) : Type 0 where
  pub neighbours_differ : All NeighboursDiffer paths
  pub lost : LostAreRefuted paths walks
  pub each_edge : map (λ c. (c.low, c.high)) claims ≡ edges paths
  pub valley_free : All (ValleyFree (claimed_labels claims)) (paths_of (kept_of paths walks))
  pub marks : MarksHold (kept_of paths walks) claims whys probes

-- the same behind paths that are served from the start: walks, marks and closures may use these, and they are valley-free as well
pub record MeetsGraphRulesBehind (begun : Numbered) (paths : List (List ℕ)) (walks : List (Option Walk)) (claims : List Claim)
    (whys : List Walk) (probes : List (ℕ × ℕ)) : Type 0 where
  pub begun_differ : All NeighboursDiffer (paths_of begun)
  pub neighbours_differ : All NeighboursDiffer paths
  pub lost : LostFrom 1 begun paths walks
  pub each_edge : map (λ c. (c.low, c.high)) claims ≡ edges paths
  pub begun_free : All (ValleyFree (claimed_labels claims)) (paths_of begun)
  pub valley_free : All (ValleyFree (claimed_labels claims)) (paths_of (kept_of paths walks))
  pub marks : MarksHold (begun ++ kept_of paths walks) claims whys probes
