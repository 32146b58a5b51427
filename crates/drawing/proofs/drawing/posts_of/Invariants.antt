use Rattle.std.proofs.Common.{◌≡◌, ◌≤◌, ◌+◌, map, take, length}
use Rattle.drawing.specs.Picture.{post_of}
use Rattle.drawing.proofs.drawing.posts_of.Given as goal

abbrev pub invariant-loop-perch : goal.invariant-loop-perch
invariant-loop-perch l =
    (l.posts.items ≡ map (post_of l.plan) (take l.perch-index l.perches))
    × (l.posts.len + length l.perches ≤ l.posts.cap + l.perch-index)
