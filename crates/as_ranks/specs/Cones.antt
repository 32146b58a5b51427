-- The customer cones of all ASes, with their members.
use Rattle.std.specs.Prelude.{◌≡◌, ◌↔◌, ℕ, ◌<◌, ◌≤◌, List, Some, slice_get, length}
use Rattle.std.specs.List.Sorted.{IsStrictlyIncreasing}
use Rattle.tor_arena.specs.Limits.{most_places}
use Rattle.tor_digraph.specs.Walks.{Net}
use Rattle.tor_digraph.specs.Closing.{Has}
use Rattle.tor_solve.specs.Classes.{Classes, IsComponents}
use Rattle.reach_counts.specs.Condensing.{IsCondensed}
use Rattle.reach_counts.specs.Cycles.{IsRisingList}
use Rattle.as_rel.specs.declared.line.RelLine.{RelLine}
use Rattle.as_rel.specs.Cone.{InCone}
use Rattle.as_ranks.specs.Named.{IsNamed, IsNetOf}

-- an AS, and the members of its cone
pub record Cone : Type 0 where
  pub of : ℕ
  pub members : List ℕ

-- these are the members, rising
pub record IsCone (rel : List RelLine) (c : Cone) : Type 0 where
  pub rising : IsRisingList c.members
  pub exact : (b : ℕ) → Has c.members b ↔ InCone rel c.of b

-- a cone for each AS that is named, by rising number of these
pub record AreCones (rel : List RelLine) (cones : List Cone) : Type 0 where
  pub each : (k : ℕ) (c : Cone) → slice_get cones k ≡ Some c → IsNamed rel c.of × IsCone rel c
  pub all : (a : ℕ) → IsNamed rel a → (c : Cone) × Has cones c × (c.of ≡ a)
  pub order : (i j : ℕ) (c d : Cone) → i < j → slice_get cones i ≡ Some c → slice_get cones j ≡ Some d → c.of < d.of

-- the same of the first ASes alone, so many
pub record AreConesTo (rel : List RelLine) (ases : List ℕ) (upto : ℕ) (cones : List Cone) : Type 0 where
  pub many : length cones ≡ upto
  pub each : (k : ℕ) (c : Cone) → slice_get cones k ≡ Some c → (slice_get ases k ≡ Some c.of) × IsCone rel c

-- ---- the digraph in which cones are looked for

-- a node for each of these ASes, which rise, the strong components, and the digraph of these
pub record IsSearchable (ases : List ℕ) (net : Net ℕ) (parts : Classes) (classes : Net ℕ) : Type 0 where
  pub rising : IsStrictlyIncreasing ases
  pub aligned : net.nodes ≡ length ases
  pub few : length ases ≤ most_places
  pub are_parts : IsComponents (λ n. n) net parts
  pub condensed : IsCondensed net parts classes

-- the same of the ASes that are named, and their providers
pub record IsConeNet (rel : List RelLine) (ases : List ℕ) (net : Net ℕ) (parts : Classes) (classes : Net ℕ) : Type 0 where
  pub is_net : IsNetOf rel ases net
  pub found : IsSearchable ases net parts classes

-- the ASes, their digraph, and the members of the cone that was found last
pub record FoundCone : Type 0 where
  pub ases : List ℕ
  pub graph : Net ℕ
  pub members : List ℕ
