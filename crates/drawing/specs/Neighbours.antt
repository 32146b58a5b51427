-- The neighbours of an AS, by what they are to it, as the edges of a result say.
use Rattle.std.specs.Prelude.{◌≡◌, ℕ, ◌<◌, ◌≤◌, ◌⊎◌, Bool, true, false, ◌==◌, List, [], ◌∷◌, ◌++◌, length, map}
use Rattle.std.specs.Prelude.{filter, count_by, Option, Some, None, if◌then◌else◌}
use Rattle.std.specs.List.{AllPairs}
use Rattle.std.specs.List.Sorted.{IsPermutation}
use Rattle.relationships.specs.declared.label.Label.{Label}
use Rattle.relationships.specs.declared.label.Label.TheVariants as label
use Rattle.relationships.specs.declared.mark.Mark.TheVariants as mark
use Rattle.result_text.specs.declared.file.EdgeLine.{EdgeLine}
use Rattle.drawing.specs.declared.group.Group.{Group}
use Rattle.drawing.specs.declared.group.Neighbour.{Neighbour}
use Rattle.drawing.specs.declared.group.Tally.{Tally}
use Rattle.drawing.specs.declared.group.NeighbourCounts.{NeighbourCounts}

-- what the higher end of an edge with this label is to the lower one
abbrev pub of_low : Label → Group
of_low label.Low = Group.Customers
of_low label.High = Group.Providers
of_low label.Peer = Group.Peers

-- what the lower end is to the higher one
abbrev pub of_high : Label → Group
of_high label.Low = Group.Providers
of_high label.High = Group.Customers
of_high label.Peer = Group.Peers

-- what the other end of the edge is to AS a, if a is one of its ends
abbrev pub group_of : ℕ → EdgeLine → Option Group
group_of a e = if e.low == a then Some (of_low e.label) else (if e.high == a then Some (of_high e.label) else None)

abbrev pub is_same_group : Group → Group → Bool
is_same_group Group.Providers Group.Providers = true
is_same_group Group.Peers Group.Peers = true
is_same_group Group.Customers Group.Customers = true
is_same_group _ _ = false

-- the edge leads from a to a neighbour in the group
abbrev pub is_in : ℕ → Group → EdgeLine → Bool
is_in a g e = elim (group_of a e) [ None ↦ false | Some h ↦ is_same_group g h ]

abbrev pub neighbour_of : ℕ → EdgeLine → Neighbour
neighbour_of a e = record { number = if e.low == a then e.high else e.low; mark = e.mark; support = e.support }

-- the neighbours in the group, in the order of the edges
abbrev pub neighbours : ℕ → Group → List EdgeLine → List Neighbour
neighbours a g edges = map (neighbour_of a) (filter (is_in a g) edges)

-- ---- their order

-- the first has more support, or as much, and no greater number
abbrev pub IsNoLater : Neighbour → Neighbour → Type 0
IsNoLater n m = (m.support < n.support) ⊎ ((m.support ≡ n.support) × (n.number ≤ m.number))

-- the neighbours in the group, by falling support, and at equal support by rising number
pub record SortedNeighbours (a : ℕ) (g : Group) (edges : List EdgeLine) (ns : List Neighbour) : Type 0 where
  pub same : IsPermutation (neighbours a g edges) ns
  pub sorted : AllPairs IsNoLater ns

-- the numbers of an AS and of its neighbours
abbrev pub near_numbers : ℕ → List Neighbour → List Neighbour → List Neighbour → List ℕ
near_numbers a providers peers customers =
    a ∷ [] ++ map (λ n. n.number) providers ++ map (λ n. n.number) peers ++ map (λ n. n.number) customers

-- ---- how many there are

abbrev pub has_forced_edge : Neighbour → Bool
has_forced_edge n = elim n.mark [ mark.Forced ↦ true | mark.Open ↦ false ]

abbrev pub tally : List Neighbour → Tally
tally ns = record { all = length ns; forced = count_by has_forced_edge ns }

abbrev pub counts_of : ℕ → List EdgeLine → NeighbourCounts
counts_of a edges = record {
  providers = tally (neighbours a Group.Providers edges);
  peers = tally (neighbours a Group.Peers edges);
  customers = tally (neighbours a Group.Customers edges);
}
