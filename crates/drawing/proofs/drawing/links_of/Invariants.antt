use Rattle.std.proofs.Common.{◌≡◌, ◌≤◌, ◌+◌, map, take, length}
use Rattle.drawing.specs.Picture.{link_of}
use Rattle.drawing.proofs.drawing.links_of.Given as goal

abbrev pub invariant-loop-tie : goal.invariant-loop-tie
invariant-loop-tie l =
    (l.links.items ≡ map (link_of l.plan) (take l.tie-index l.ties))
    × (l.links.len + length l.ties ≤ l.links.cap + l.tie-index)
