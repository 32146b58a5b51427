-- What is reached along arcs down, and the walk back from there, along which the opposites of these orders lead.
use Rattle.std.specs.Prelude.{◌≡◌, ℕ, ◌+◌, ◌-◌, ◌<◌, List, [], length, Some, slice_get, Contains}
use Rattle.relationships.specs.declared.mark.Probe.{Probe}
use Rattle.relationships.specs.declared.walk.Walk.{Walk}
use Rattle.relationships.specs.Graph.{Edge}
use Rattle.relationships.specs.Evidence.{BeginsWith, EndsWith}
use Rattle.relationships.specs.GivenEvidence.{IsLinkedWith}
use Rattle.tor_digraph.specs.Walks.{Net, IsWay}
use Rattle.tor_digraph.specs.Found.{IsRoot}
use Rattle.tor_digraph.specs.Reached.{Reach, IsFlooded}
use Rattle.result_text.specs.declared.file.ResultFile.{ResultFile}
use Rattle.result_rules.specs.File.{its_givens, its_kept, its_labels}
use Rattle.telling.specs.Downs.{HasOver}
use Rattle.telling.specs.Labelling.{HasStep}

-- what is reached from start
pub record IsReachOf (net : Net ℕ) (begin : ℕ) (r : Reach ℕ ℕ) : Type 0 where
  pub begun : Contains r.nodes begin
  pub flooded : IsFlooded (λ id. id) (λ id. id) net.nodes net.arcs [] r
  pub root : (x : ℕ) → IsRoot (λ id. id) r.found x → x ≡ begin

-- a way written out, its arcs by their places
abbrev pub IsPlainWay : List (ℕ × ℕ) → (begin end : ℕ) → (nodes steps : List ℕ) → Type 0
IsPlainWay arcs begin end nodes steps = IsWay (λ step. step) arcs begin end nodes steps

-- no edge that is reached has the opposite of the order by its label
abbrev pub IsUnopposed : ResultFile → List Edge → List ℕ → (over under : ℕ) → Type 0
IsUnopposed file es nodes over under = (u : ℕ) → Contains nodes u → HasOver (its_labels file) es u under over → ⊥

-- of the first open lines, so many, none has its opposite among what is reached
abbrev pub NoneTo : ResultFile → List Edge → List ℕ → ℕ → Type 0
NoneTo file es nodes end = (k : ℕ) (p : Probe) → k < end → slice_get file.probes k ≡ Some p → IsUnopposed file es nodes p.over p.under

-- the order is that of the open line in this place, and an edge that is reached has the opposite by its label, as none has that of an
-- earlier line
pub record IsOpposed (file : ResultFile) (es : List Edge) (nodes : List ℕ) (over under : ℕ) (u : ℕ) : Type 0 where
  pub place : ℕ
  pub probe : Probe
  pub at : slice_get file.probes place ≡ Some probe
  pub is_over : probe.over ≡ over
  pub is_under : probe.under ≡ under
  pub earlier : NoneTo file es nodes place
  pub reached : Contains nodes u
  pub opposite : HasOver (its_labels file) es u under over

-- from "over over under" the walk leads back along a way, as far as the opposite of the order of the edge in this place of the way: each
-- of its orders is the opposite of that of an edge of the way, the first one of that of the last edge
pub record IsBack (file : ResultFile) (es : List Edge) (way : List ℕ) (over under k : ℕ) (walk : Walk) : Type 0 where
  pub edge : ℕ
  pub at : slice_get way k ≡ Some edge
  pub x : ℕ
  pub y : ℕ
  pub label : HasOver (its_labels file) es edge x y
  pub linked : IsLinkedWith (its_givens file) (its_kept file) walk.ases walk.links
  pub begins : BeginsWith walk.ases over under
  pub ends : EndsWith walk.ases y x
  pub long : k + length walk.ases ≡ length way + 1
  pub orders : (i a b : ℕ) → HasStep walk.ases i a b →
      (u : ℕ) × (slice_get way (length way - (i + 1)) ≡ Some u) × HasOver (its_labels file) es u b a
