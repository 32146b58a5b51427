-- What the boxes of a group or a generation stand for.
use Rattle.std.specs.Prelude.{ℕ, ◌-◌, List, [], ◌∷◌, ◌++◌, length, map, take, nat_lt, if◌then◌else◌}
use Rattle.drawing.specs.declared.group.Neighbour.{Neighbour}
use Rattle.drawing.specs.declared.drawing.BoxEntry.{BoxEntry}
use Rattle.drawing.specs.declared.drawing.BoxEntry.TheVariants as entry

-- the first so many neighbours, and how many more there are, if there are any
abbrev pub box_entries : ℕ → List Neighbour → List BoxEntry
box_entries most ns = map (λ n. entry.One n) (take most ns) ++ (if nat_lt most (length ns) then entry.More (length ns - most) ∷ [] else [])
