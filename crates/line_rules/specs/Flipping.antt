-- Which orders imply which. Each edge has one order against its label; that the edge flips means that it has this order. Edge i
-- implies edge j where, along a kept path, the order against i's label implies the order against j's label, and conflicts with it
-- where it rules that order out. So the closure of an order against a label is read off the edges alone. Along the return of a given
-- whose two are an edge, this edge conflicts with itself.
use Rattle.std.specs.Prelude.{◌≡◌, ◌⊎◌, ◌↔◌, ℕ, ◌+◌, ◌*◌, ◌^◌, ◌<◌, Bool, true, false, nat_lt, if◌then◌else◌, List, ◌++◌, [], ◌∷◌}
use Rattle.std.specs.Prelude.{length, map, filter, Some, Contains, slice_get, slice_index_or}
use Rattle.std.specs.List.{list_any}
use Rattle.relationships.specs.declared.label.End.{End}
use Rattle.relationships.specs.declared.label.Label.{Label}
use Rattle.relationships.specs.declared.label.Label.TheVariants as label
use Rattle.relationships.specs.declared.given.Given.{Given}
use Rattle.relationships.specs.Graph.{Edge, edge_of, is_same}
use Rattle.relationships.specs.Evidence.{TripleAt, IsTriple, paths_of}
use Rattle.relationships.specs.Givens.{return_of}
use Rattle.relationships.specs.declared.fate.Fate.{Fate}
use Rattle.relationships.specs.declared.fate.Fate.TheVariants.{Kept, Lost}
use Rattle.result_text.specs.declared.file.EdgeLine.{EdgeLine}
use Rattle.result_text.specs.declared.file.PathLine.{PathLine}
use Rattle.result_text.specs.declared.file.ResultFile.{ResultFile}
use Rattle.result_rules.specs.File.{kept_among, its_returns}
use Rattle.line_rules.specs.declared.edges.step.Step.{Step}
use Rattle.line_rules.specs.Neighbours.{HasNext, with_next}
use Rattle.line_rules.specs.PathSteps.{place_in, left_in, turned, labels_on}

-- ---- orders

-- the order of an edge against its label, the provider first. A peering is read as if its lower number were the provider
abbrev pub flipped_by : Label → ℕ → ℕ → ℕ × ℕ
flipped_by label.Low low high = (high, low)
flipped_by label.High low high = (low, high)
flipped_by label.Peer low high = (high, low)

abbrev pub flipped : EdgeLine → ℕ × ℕ
flipped line = flipped_by line.label line.low line.high

abbrev pub flipped_orders : List EdgeLine → List (ℕ × ℕ)
flipped_orders lines = map flipped lines

-- where edge k flips, x is over y
abbrev pub FlipsTo : List (ℕ × ℕ) → ℕ → ℕ → ℕ → Type 0
FlipsTo orders k x y = slice_get orders k ≡ Some (x, y)

-- x over y is the order of some edge against its label
abbrev pub IsFlipped : List (ℕ × ℕ) → ℕ → ℕ → Type 0
IsFlipped orders x y = (k : ℕ) × FlipsTo orders k x y

-- ---- what flips with what. T says what the set of triples is

-- along a triple edge j flips where edge i flips
abbrev pub Implies : List (ℕ × ℕ) → (ℕ → ℕ → ℕ → Type 0) → ℕ → ℕ → Type 0
Implies orders T i j = (x y z : ℕ) × FlipsTo orders i x y × FlipsTo orders j y z × T x y z

-- along a triple edge j can't flip where edge i flips
abbrev pub Conflicts : List (ℕ × ℕ) → (ℕ → ℕ → ℕ → Type 0) → ℕ → ℕ → Type 0
Conflicts orders T i j = (x y z : ℕ) × FlipsTo orders i x y × FlipsTo orders j z y × T x y z

-- the rows have exactly the edges that each edge implies, and those with which it conflicts
pub record IsBuilt (orders : List (ℕ × ℕ)) (T : ℕ → ℕ → ℕ → Type 0) (implied conflicting : List (List ℕ)) : Type 0 where
  pub implied_many : length implied ≡ length orders
  pub conflicting_many : length conflicting ≡ length orders
  pub implies : (i j : ℕ) → HasNext implied i j ↔ Implies orders T i j
  pub conflicts : (i j : ℕ) → HasNext conflicting i j ↔ Conflicts orders T i j

-- the rows are built for the triples of these paths
abbrev pub IsBuiltFor : List EdgeLine → List (List ℕ) → List (List ℕ) → List (List ℕ) → Type 0
IsBuiltFor lines paths implied conflicting = IsBuilt (flipped_orders lines) (IsTriple paths) implied conflicting

-- ---- steps of a path

-- a step from x to y along the edge: it goes up, and down where the edge flips, or the other way round
abbrev pub IsClimb : List (ℕ × ℕ) → ℕ → Bool → ℕ → ℕ → Type 0
IsClimb orders edge true x y = FlipsTo orders edge x y
IsClimb orders edge false x y = FlipsTo orders edge y x

-- whether a step from this end of an edge with this label goes up, where a peering is read as if its lower number were the provider
abbrev pub climbs : Label → End → Bool
climbs label.Low End.Low = false
climbs label.Low End.High = true
climbs label.High End.Low = true
climbs label.High End.High = false
climbs label.Peer End.Low = false
climbs label.Peer End.High = true

-- the rows after two consecutive steps: both up, both down, or a peak
abbrev pub with_implied : Bool → Bool → ℕ → ℕ → List (List ℕ) → List (List ℕ)
with_implied true true first second rows = with_next rows first second
with_implied false false first second rows = with_next rows second first
with_implied true false first second rows = rows
with_implied false true first second rows = rows

abbrev pub with_conflicting : Bool → Bool → ℕ → ℕ → List (List ℕ) → List (List ℕ)
with_conflicting true false first second rows = with_next (with_next rows first second) second first
with_conflicting false true first second rows = rows
with_conflicting true true first second rows = rows
with_conflicting false false first second rows = rows

-- whether a step goes up under the labels of the lines
abbrev pub climbs_on : List EdgeLine → Step → Bool
climbs_on lines step = climbs (slice_index_or (labels_on lines) (place_in step) label.Peer) (left_in step)

-- the codes of two consecutive steps, or of the two the other way round, whichever begin with the lesser_place code
abbrev pub code_pair : Step → Step → ℕ × ℕ
code_pair first second = if nat_lt (turned second) first.code then (turned second, turned first) else (first.code, second.code)

-- the number of two consecutive steps, from 2 on, which is also that of the two the other way round
abbrev pub number_of_steps : Step → Step → ℕ
number_of_steps first second = (code_pair first second).0 * 2 ^ 32 + (code_pair first second).1 + 2

-- the rows have the same edges
abbrev pub SameRows : List (List ℕ) → List (List ℕ) → Type 0
SameRows rows rows' = (length rows ≡ length rows') × ((i j : ℕ) → HasNext rows i j ↔ HasNext rows' i j)

-- the rows have what two consecutive steps imply and rule out
abbrev pub HaveArcs : Bool → Bool → ℕ → ℕ → List (List ℕ) → List (List ℕ) → Type 0
HaveArcs true true first second implied conflicting = HasNext implied first second
HaveArcs false false first second implied conflicting = HasNext implied second first
HaveArcs true false first second implied conflicting = HasNext conflicting first second × HasNext conflicting second first
HaveArcs false true first second implied conflicting = Unit {0}

-- and so for each two steps that have one of these numbers
abbrev pub AreNoted : List EdgeLine → List ℕ → List (List ℕ) → List (List ℕ) → Type 0
AreNoted lines numbers implied conflicting = (s t : Step) → place_in s < length lines → place_in t < length lines →
    Contains numbers (number_of_steps s t) → HaveArcs (climbs_on lines s) (climbs_on lines t) (place_in s) (place_in t) implied conflicting

-- the triples of the paths, and those of one path more at the places below `end`
abbrev pub TripleBefore : List (List ℕ) → List ℕ → ℕ → ℕ → ℕ → ℕ → Type 0
TripleBefore paths path end x y z = IsTriple paths x y z ⊎ ((at : ℕ) × (at < end) × TripleAt path at x y z)

-- the paths, and one more where it is kept
abbrev pub with_kept : List (List ℕ) → List ℕ → Fate → List (List ℕ)
with_kept paths path Kept = paths ++ path ∷ []
with_kept paths path (Lost walk) = paths

-- the kept paths of these lines
abbrev pub kept_lines : List PathLine → List (List ℕ)
kept_lines lines = paths_of (kept_among lines)

-- the paths, and the return of a given where its two are one of the edges
abbrev pub with_return : List Edge → List (List ℕ) → Given → List (List ℕ)
with_return es paths g = if list_any (is_same (edge_of g.over g.under)) es then paths ++ return_of g ∷ [] else paths

-- the returns of those givens whose two are one of the edges
abbrev pub returns_on : List Edge → List Given → List (List ℕ)
returns_on es givens = map return_of (filter (λ g. list_any (is_same (edge_of g.over g.under)) es) givens)

-- what closures are followed along: the returns of those givens whose two are an edge, and the kept paths. The returns of the others
-- add nothing to a closure that begins with an edge
abbrev pub served_lines : ResultFile → List (List ℕ)
served_lines file = its_returns file ++ kept_lines file.paths

-- ---- what the earlier rules give

-- each edge flips to an order of its own, and none to the opposite
pub record IsProper (orders : List (ℕ × ℕ)) : Type 0 where
  pub one : (i j x y : ℕ) → FlipsTo orders i x y → FlipsTo orders j x y → i ≡ j
  pub no_opposite : (i j x y : ℕ) → FlipsTo orders i x y → FlipsTo orders j y x → ⊥

-- the first two ASes of a triple are an edge, so one of their orders is against its label. And no triple is a valley under the
-- labels, which have the middle AS over one of the others: its orders over both are not both against the labels
pub record FlipsLeaveNoValley (orders : List (ℕ × ℕ)) (paths : List (List ℕ)) : Type 0 where
  pub listed : (x y z : ℕ) → IsTriple paths x y z → IsFlipped orders x y ⊎ IsFlipped orders y x
  pub no_valley : (x y z : ℕ) → IsTriple paths x y z → IsFlipped orders y x → IsFlipped orders y z → ⊥
