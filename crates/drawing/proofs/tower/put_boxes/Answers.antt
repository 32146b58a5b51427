use Rattle.std.proofs.Common.{◌≡◌, ◌<◌, ◌++◌, ◌∙◌, ap, length, arith}
use Rattle.drawing.specs.Generations.{perch_at}
use Rattle.drawing.proofs.Numbered.{numbered_behind, numbered_all}
use Rattle.drawing.proofs.tower.put_boxes.Goals as goal

pub loop-place-preserved : goal.loop-place-preserved
loop-place-preserved c =
    let entries = c.args.entries.now in
    let few : c.loop-place.place < length entries = omega arith in
    numbered_behind (perch_at (length entries) c.args.rank) entries c.loop-place.place _ c.args.perches.now.items c.loop-place.perches.items
    c.push.new.self.items c.perch_at.result few c.in_ok-push.ensures.items c.perch_at.ensures c.loop-place.invariant

pub returns : goal.returns
returns c =
    let entries = c.args.entries.now in
    let all : c.loop-place.place ≡ length entries = omega arith in
    c.loop-place.invariant ∙ ap (λ xs. c.args.perches.now.items ++ xs) (numbered_all (perch_at (length entries) c.args.rank) entries c.loop-place.place all)
