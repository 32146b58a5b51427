-- For each class a number of 64 bits, one for each of 64 sources. These words are the fast count's own: no reader of a public clause
-- needs them.
use Rattle.std.specs.Prelude.{◌≡◌, ◌⊎◌, ◌↔◌, ◌&&◌, ℕ, ◌+◌, ◌<◌, Bool, List, Some, slice_get, slice_index, length, nat_eq}
use Rattle.std.specs.Int.{bit_at}
use Rattle.tor_digraph.specs.Walks.{Net, HasArc, Reaches}
use Rattle.tor_solve.specs.Classes.{Classes}
use Rattle.reach_counts.specs.Condensing.{IsOfClass}
use Rattle.reach_counts.specs.ReachCounts.{is_marked, IsReachedCount}

-- the class has the bit
abbrev pub HasBit : List ℕ → ℕ → ℕ → Type 0
HasBit masks k j = (m : ℕ) × (slice_get masks k ≡ Some m) × (bit_at m j ≡ 1)

-- of the first entries, so many, one has this head
abbrev pub IsHeadIn : {A : Type 0} → ℕ → List (A × ℕ) → ℕ → Type 0
IsHeadIn {A} upto row k = (i : ℕ) × (a : A) × (i < upto) × (slice_get row i ≡ Some (a, k))

-- each class from the base on, 64 of them, has its own bit, and no other bit is there
abbrev pub AreOwn : ℕ → List ℕ → Type 0
AreOwn base masks = (k j : ℕ) → k < length masks → j < 64 → HasBit masks k j ↔ (k ≡ base + j)

-- the bits of a class were passed on to these
abbrev pub AreBitsPassed : List (ℕ × ℕ) → ℕ → List ℕ → List ℕ → Type 0
AreBitsPassed arcs node old new = (k j : ℕ) → HasBit new k j ↔ (HasBit old k j ⊎ (HasBit old node j × HasArc arcs node k))

-- arcs lead on to greater numbers alone
abbrev pub IsRising : List (ℕ × ℕ) → Type 0
IsRising arcs = (u v : ℕ) → HasArc arcs u v → u < v

-- a bit says whether the source of that bit, if there is one, reaches the class
abbrev pub AreReachBits : Net ℕ → (ℕ → ℕ) → List ℕ → Type 0
AreReachBits net source masks = (k j : ℕ) → k < net.nodes → j < 64 → source j < net.nodes → HasBit masks k j ↔ Reaches net.arcs (source j) k

-- the same, of walks whose last arc leaves a class before this one
abbrev pub ReachesBy : Net ℕ → ℕ → ℕ → ℕ → Type 0
ReachesBy net before source k = (k ≡ source) ⊎ ((t : ℕ) × (t < before) × Reaches net.arcs source t × HasArc net.arcs t k)

abbrev pub AreBitsBefore : Net ℕ → (ℕ → ℕ) → ℕ → List ℕ → Type 0
AreBitsBefore net source before masks = (k j : ℕ) → k < net.nodes → j < 64 → source j < net.nodes →
    HasBit masks k j ↔ ReachesBy net before (source j) k

-- each of the 64 classes from the base on is a source
abbrev pub from_base : ℕ → ℕ → ℕ
from_base base j = base + j

-- whether the node is marked, and its class has the bit
abbrev pub is_counted : List Bool → List ℕ → List ℕ → ℕ → ℕ → Bool
is_counted marks of masks j x = is_marked marks x && nat_eq (bit_at (slice_index masks (slice_index of x)) j) 1

-- each number is that of its class, for the first classes
abbrev pub AreClassCounts : List Bool → Net ℕ → Classes → List ℕ → Type 0
AreClassCounts marks net classes counts =
    (k n x : ℕ) → slice_get counts k ≡ Some n → IsOfClass classes.of x k → IsReachedCount marks net x n

-- ---- nodes as sources

-- each of 64 nodes from the base on gave its class its bit, as far as the first lanes go, and no other bit is there
abbrev pub AreSeeds : List ℕ → (base lanes : ℕ) → List ℕ → Type 0
AreSeeds of base lanes masks = (k j : ℕ) → j < 64 → HasBit masks k j ↔ ((j < lanes) × IsOfClass of (base + j) k)

-- a bit says whether the node of that bit reaches the nodes of the class
abbrev pub AreNodeBits : Net ℕ → List ℕ → ℕ → List ℕ → Type 0
AreNodeBits net of base masks =
    (x k j : ℕ) → j < 64 → base + j < net.nodes → IsOfClass of x k → HasBit masks k j ↔ Reaches net.arcs (base + j) x
