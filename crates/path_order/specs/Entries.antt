-- What the order looks at first of each path, and the paths that are still to come.
use Rattle.std.specs.Prelude.{ℕ, zero, suc, ◌+◌, ◌≡◌, ◌≤◌, ◌==◌, Bool, not, All, List, [], ◌∷◌, ◌++◌, length, map, slice_index}
use Rattle.std.specs.List.{filter}
use Rattle.std.specs.declared.cmp.Ordering.{Ordering}
use Rattle.std.specs.Ordering.{nat_cmp, on, then_cmp}
use Rattle.std.specs.Cmp.Lexicographic.{slice_cmp}
use Rattle.path_table.specs.Chains.{row_at}
use Rattle.path_table.specs.Rows.{Counted, row_paths, times_of}
use Rattle.path_order.specs.declared.entries.Entry.{Entry}
use Rattle.path_order.specs.Orders.{shortest_first}
use Rattle.path_order.specs.Laws.{AreDistinct}

-- what is noted of the path in this place
abbrev pub entry_of : ℕ → List ℕ → Entry
entry_of place path = record {
  place = place;
  seventh = slice_index path 6;
  sixth = slice_index path 5;
  fifth = slice_index path 4;
  fourth = slice_index path 3;
  third = slice_index path 2;
  second = slice_index path 1;
  first = slice_index path 0;
}

-- it is noted of the path in its place, which has this length
abbrev pub IsOf : List (List ℕ) → ℕ → Entry → Type 0
IsOf rows size e = (e ≡ entry_of e.place (row_at rows e.place)) × (length (row_at rows e.place) ≡ size)

-- of paths of one length what is noted decides, and the paths themselves only where it is the same
abbrev pub entry_cmp : List (List ℕ) → Entry → Entry → Ordering
entry_cmp rows = then_cmp (on (λ e. e.first) nat_cmp) (then_cmp (on (λ e. e.second) nat_cmp) (then_cmp (on (λ e. e.third) nat_cmp)
    (then_cmp (on (λ e. e.fourth) nat_cmp) (then_cmp (on (λ e. e.fifth) nat_cmp) (then_cmp (on (λ e. e.sixth) nat_cmp)
    (then_cmp (on (λ e. e.seventh) nat_cmp) (on (λ e. row_at rows e.place) (slice_cmp nat_cmp))))))))

-- so many places from one on
abbrev pub row_places : ℕ → ℕ → List ℕ
row_places start zero = []
row_places start (suc n) = row_places start n ++ (start + n) ∷ []

-- whether the path in this place has this length
abbrev pub is_sized : List (List ℕ) → ℕ → ℕ → Bool
is_sized rows size place = length (row_at rows place) == size

-- the places of those that have it, and of the others
abbrev pub sized : List (List ℕ) → ℕ → List ℕ → List ℕ
sized rows size places = filter (is_sized rows size) places

abbrev pub unsized : List (List ℕ) → ℕ → List ℕ → List ℕ
unsized rows size places = filter (λ place. not (is_sized rows size place)) places

-- what is noted of the paths in these places
abbrev pub entries_at : List (List ℕ) → List ℕ → List Entry
entries_at rows places = map (λ place. entry_of place (row_at rows place)) places

-- the places that are noted
abbrev pub places_of : List Entry → List ℕ
places_of entries = map (λ e. e.place) entries

-- the paths in these places, and their times
abbrev pub rows_at : List (List ℕ) → List ℕ → List (List ℕ)
rows_at rows places = map (λ place. row_at rows place) places

abbrev pub times_at : List ℕ → List ℕ → List ℕ
times_at times places = map (λ place. slice_index times place) places

abbrev pub counted_at : List (List ℕ) → List ℕ → List ℕ → List Counted
counted_at rows times places = map (λ place. record { path = row_at rows place; times = slice_index times place }) places

-- what the paths in these places come to in their order
abbrev pub paths_left : List (List ℕ) → List ℕ → List ℕ → List (List ℕ)
paths_left rows times places = row_paths (shortest_first (counted_at rows times places))

abbrev pub times_left : List (List ℕ) → List ℕ → List ℕ → List ℕ
times_left rows times places = times_of (shortest_first (counted_at rows times places))

-- these are places of distinct paths of this length or longer
pub record AreToCome (rows : List (List ℕ)) (times : List ℕ) (size : ℕ) (places : List ℕ) : Type 0 where
  pub once : AreDistinct (counted_at rows times places)
  pub long : All (λ place. size ≤ length (row_at rows place)) places
