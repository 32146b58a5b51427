-- The generations above an AS: the first are its providers, and each next one the providers of those of the one before that are drawn,
-- as far as they stand no nearer. Each stands in
-- one row. The lists of further generations have the topmost one first, as they stand on the page.
use Rattle.std.specs.Prelude.{◌≡◌, ◌≢◌, ℕ, ◌+◌, ◌≤◌, ◌⊎◌, ◌==◌, List, [], ◌∷◌, ◌++◌, length, map, max, take}
use Rattle.std.specs.Prelude.{Option, Some, None, Contains, All, filter_map}
use Rattle.std.specs.List.{AllPairs, Any, find, enumerate_from}
use Rattle.relationships.specs.declared.label.Label.TheVariants as label
use Rattle.result_text.specs.declared.file.EdgeLine.{EdgeLine}
use Rattle.drawing.specs.declared.group.Neighbour.{Neighbour}
use Rattle.drawing.specs.declared.standings.Standing.{Standing}
use Rattle.drawing.specs.declared.generation.Ends.{Ends}
use Rattle.drawing.specs.declared.tower.Perch.{Perch}
use Rattle.drawing.specs.declared.tower.Tie.{Tie}
use Rattle.drawing.specs.declared.drawing.BoxEntry.{BoxEntry}
use Rattle.drawing.specs.Neighbours.{IsNoLater}
use Rattle.drawing.specs.Page.{flat_cell}
use Rattle.drawing.specs.Entries.{box_entries}

-- ---- who stands in a generation

-- the customer and the provider at the ends of an edge, which peers have not
abbrev pub upward : EdgeLine → Option Ends
upward e = elim e.label [
  | label.Low ↦ Some (record { customer = e.high; provider = e.low })
  | label.High ↦ Some (record { customer = e.low; provider = e.high })
  | label.Peer ↦ None
]

-- where the AS is drawn, if it is among these
abbrev pub standing_of : ℕ → List Standing → Option Standing
standing_of n drawn = find (λ s. s.number == n) drawn

-- the provider at one end of the edge, if its customer is among these
abbrev pub provider_with : EdgeLine → Ends → Option Standing → Option Neighbour
provider_with e u None = None
provider_with e u (Some s) = Some (record { number = u.provider; mark = e.mark; support = e.support })

abbrev pub provider_above : List Standing → EdgeLine → Option Neighbour
provider_above drawn e = elim (upward e) [ None ↦ None | Some u ↦ provider_with e u (standing_of u.customer drawn) ]

-- their providers, one for each edge
abbrev pub providers_above : List Standing → List EdgeLine → List Neighbour
providers_above drawn edges = filter_map (provider_above drawn) edges

-- the same AS, by an edge of as much support or more
abbrev pub StandsFor : Neighbour → Neighbour → Type 0
StandsFor p n = (n.number ≡ p.number) × (p.support ≤ n.support)

-- of those that were found the ones that stand nowhere nearer, each once, by the greatest support, and in the order of neighbours
pub record IsGeneration (nearer : List ℕ) (found ns : List Neighbour) : Type 0 where
  pub from : All (Contains found) ns
  pub fresh : All (λ n. Contains nearer n.number → ⊥) ns
  pub all : All (λ p. Contains nearer p.number ⊎ Any (StandsFor p) ns) found
  pub once : AllPairs (λ n m. n.number ≢ m.number) ns
  pub sorted : AllPairs IsNoLater ns

-- ---- where they are drawn

-- how many boxes a generation has, where so many ASes of it are drawn at most
abbrev pub box_count : ℕ → List Neighbour → ℕ
box_count most ns = length (box_entries most ns)

-- the ASes of a generation that are drawn, if it stands so far above the providers
abbrev pub standing_at : ℕ → ℕ → ℕ × Neighbour → Standing
standing_at boxes rank (i, n) = record { number = n.number; cell = flat_cell boxes rank i }

abbrev pub standings_at : ℕ → ℕ → List Neighbour → List Standing
standings_at most rank ns = map (standing_at (box_count most ns) rank) (enumerate_from 0 (take most ns))

-- its boxes
abbrev pub perch_at : ℕ → ℕ → ℕ × BoxEntry → Perch
perch_at boxes rank (i, e) = record { entry = e; cell = flat_cell boxes rank i }

abbrev pub perches_at : ℕ → ℕ → List Neighbour → List Perch
perches_at most rank ns = map (perch_at (box_count most ns) rank) (enumerate_from 0 (box_entries most ns))

-- the line of an edge whose provider is drawn above its customer
abbrev pub tie_with : EdgeLine → Option Standing → Option Standing → Option Tie
tie_with e None _ = None
tie_with e (Some s) None = None
tie_with e (Some s) (Some t) = Some (record { lower = s.cell; upper = t.cell; mark = e.mark })

abbrev pub tie_of : List Standing → List Standing → EdgeLine → Option Tie
tie_of lower upper e =
    elim (upward e) [ None ↦ None | Some u ↦ tie_with e (standing_of u.customer lower) (standing_of u.provider upper) ]

-- ---- all generations, above the providers `first`

-- those that are drawn of the topmost
abbrev pub topmost : ℕ → List Neighbour → List (List Neighbour) → List Standing
topmost most first [] = standings_at most 0 first
topmost most first (g ∷ gs) = standings_at most (length gs + 1) g

-- the ASes of all of them, behind those near the AS that is asked for
abbrev pub all_numbers : List ℕ → List (List Neighbour) → List ℕ
all_numbers near [] = near
all_numbers near (g ∷ gs) = all_numbers near gs ++ map (λ n. n.number) g

-- each is chosen among the providers of those that are drawn below it
abbrev pub AreGenerations : List EdgeLine → ℕ → List Neighbour → List ℕ → List (List Neighbour) → Type 0
AreGenerations edges most first near [] = Unit {0}
AreGenerations edges most first near (g ∷ gs) =
    AreGenerations edges most first near gs × IsGeneration (all_numbers near gs) (providers_above (topmost most first gs) edges) g

-- how many ASes each has, the lowest first, and how many boxes the widest
abbrev pub sizes : List (List Neighbour) → List ℕ
sizes [] = []
sizes (g ∷ gs) = sizes gs ++ length g ∷ []

abbrev pub widest : ℕ → List (List Neighbour) → ℕ
widest most [] = 0
widest most (g ∷ gs) = max (widest most gs) (box_count most g)

-- their boxes, and the lines of all edges from one to the next
abbrev pub perches : ℕ → List (List Neighbour) → List Perch
perches most [] = []
perches most (g ∷ gs) = perches most gs ++ perches_at most (length gs + 1) g

abbrev pub rising_ties : List EdgeLine → ℕ → List Neighbour → List (List Neighbour) → List Tie
rising_ties edges most first [] = []
rising_ties edges most first (g ∷ gs) =
    rising_ties edges most first gs ++ filter_map (tie_of (topmost most first gs) (topmost most first (g ∷ gs))) edges
