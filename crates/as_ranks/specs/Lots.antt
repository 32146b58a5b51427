-- How the cones of 64 ASes are found together. These words are the body's own: no reader of a public clause needs them.
use Rattle.std.specs.Prelude.{◌≡◌, ◌≢◌, ◌↔◌, ℕ, ◌+◌, ◌<◌, ◌≤◌, List, Some, slice_get, length, map, filter, nat_eq, vec_capacity}
use Rattle.std.specs.Int.{bit_at}
use Rattle.tor_digraph.specs.Walks.{Net, Reaches}
use Rattle.tor_digraph.specs.Closing.{Has}
use Rattle.tor_solve.specs.Classes.{Classes}
use Rattle.reach_counts.specs.Condensing.{IsOfClass}
use Rattle.reach_counts.specs.Cycles.{IsRisingList}
use Rattle.as_ranks.specs.declared.cones.Member.{Member}
use Rattle.as_ranks.specs.declared.cones.Lot.{Lot}

-- the class of the node has these bits
abbrev pub HasBits : (of masks : List ℕ) → ℕ → ℕ → Type 0
HasBits of masks x bits = (k : ℕ) × IsOfClass of x k × (slice_get masks k ≡ Some bits)

-- each of the first ASes, so many, whose class has a bit, rising
pub record AreGathered (ases of masks : List ℕ) (upto : ℕ) (members : List Member) : Type 0 where
  pub few : length members ≤ upto
  pub each : (i : ℕ) (m : Member) → slice_get members i ≡ Some m →
      (x : ℕ) × (x < upto) × (slice_get ases x ≡ Some m.number) × HasBits of masks x m.bits
  pub all : (x a bits : ℕ) → x < upto → slice_get ases x ≡ Some a → HasBits of masks x bits → bits ≢ 0 →
      (m : Member) × Has members m × (m.number ≡ a)
  pub rising : (i j : ℕ) (m n : Member) → i < j → slice_get members i ≡ Some m → slice_get members j ≡ Some n → m.number < n.number

-- those with the bit of a lane
abbrev pub picked : ℕ → List Member → List ℕ
picked lane members = map (λ m. m.number) (filter (λ m. nat_eq (bit_at m.bits lane) 1) members)

-- the ASes of the nodes that a node reaches, rising
pub record IsNodeCone (ases : List ℕ) (net : Net ℕ) (x : ℕ) (row : List ℕ) : Type 0 where
  pub rising : IsRisingList row
  pub members : (b : ℕ) → Has row b ↔ ((y : ℕ) × (slice_get ases y ≡ Some b) × Reaches net.arcs x y)

-- there is a mask for each class, and room for all ASes
pub record HasRoom (ases : List ℕ) (parts : Classes) (lot : Lot) : Type 0 where
  pub masks : length lot.masks.items ≡ parts.count
  pub members : length ases ≤ vec_capacity lot.members
  pub row : length ases ≤ vec_capacity lot.row

-- the members are those of the cones of the 64 ASes from the base on
pub record IsLot (ases : List ℕ) (net : Net ℕ) (parts : Classes) (base : ℕ) (lot : Lot) : Type 0 where
  pub room : HasRoom ases parts lot
  pub few : length lot.members.items ≤ length ases
  pub cones : (lane : ℕ) → lane < 64 → base + lane < net.nodes → IsNodeCone ases net (base + lane) (picked lane lot.members.items)
