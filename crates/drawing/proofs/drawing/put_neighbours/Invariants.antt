use Rattle.std.proofs.Common.{◌≡◌, ◌++◌, take, map}
use Rattle.drawing.specs.declared.drawing.BoxEntry.TheVariants as entry
use Rattle.drawing.proofs.drawing.put_neighbours.Given as goal

abbrev pub invariant-loop-neighbour : goal.invariant-loop-neighbour
invariant-loop-neighbour l = l.entries.items ≡ l.fn.entries.items ++ map (λ n. entry.One n) (take l.neighbour-index l.neighbours)
