-- When an orientation serves, and what labels with peerings leave free.
-- Each law is proved as the contract of a function in src/laws/serving.rt.
use Rattle.std.specs.Prelude.{◌↔◌, ℕ, List, All, IsTrue}
use Rattle.relationships.specs.Relationship.{Orientation, Labelling, labels_of, is_over, ValleyFree, Serves}
use Rattle.relationships.specs.Graph.{edges, SameOn}
use Rattle.relationships.specs.Evidence.{IsTriple, NeighboursDiffer}
use Rattle.relationships.specs.Preference.{AgreesOn, ServeEitherWay}

-- where x is over y, y is over z, at each triple of the paths
abbrev pub SatisfiesTriples : Orientation → List (List ℕ) → Type 0
SatisfiesTriples O paths =
    (x y z : ℕ) → IsTriple paths x y z → IsTrue (is_over (labels_of O) x y) → IsTrue (is_over (labels_of O) y z)

abbrev pub ServingLaw : Type 0
ServingLaw =
    (O : Orientation) (paths : List (List ℕ)) → All NeighboursDiffer paths → Serves O paths ↔ SatisfiesTriples O paths

-- peerings may be read in any way, also as peerings
abbrev pub RelaxingLaw : Type 0
RelaxingLaw =
    (L L' : Labelling) (paths : List (List ℕ)) → AgreesOn (edges paths) L L' → All (ValleyFree L) paths → All (ValleyFree L') paths

-- so each orientation serves that has the provider of each edge that is no peering
abbrev pub PeeringLaw : Type 0
PeeringLaw = (L : Labelling) (paths : List (List ℕ)) → All (ValleyFree L) paths → ServeEitherWay L paths

-- only the edges of the paths are read
abbrev pub ReadingLaw : Type 0
ReadingLaw = (O O' : Orientation) (paths : List (List ℕ)) → SameOn (edges paths) O O' → Serves O paths → Serves O' paths
