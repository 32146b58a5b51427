use Rattle.std.proofs.Common.{◌≡◌, ◌<◌, ◌++◌, ◌∷◌, [], ◌∙◌, ap, sym, refl, length, map, take, arith}
use Rattle.std.specs.List.{enumerate_from}
use Rattle.std.proofs.lemmas.List.{length-take, get_or-take}
use Rattle.drawing.specs.Generations.{standing_at, standing_of}
use Rattle.drawing.proofs.Numbered.{numbered_behind, numbered_all}
use Rattle.drawing.proofs.Towering.{alike_push}
use Rattle.drawing.proofs.tower.add_standings.Goals as goal

pub loop-place-preserved : goal.loop-place-preserved
loop-place-preserved c n =
    let xs = take c.args.most c.args.generation.now in
    let k = c.loop-place.place in
    let f = standing_at c.box_count-boxes.result c.args.rank in
    let start = c.args.drawn.now in
    let so_far = start ++ map f (take k (enumerate_from 0 xs)) in
    let long = length-take c.args.most c.args.generation.now in
    let end = c.min-place-end.ensures in
    let few : k < length xs = omega (arith, long, end, c.loop-place-test.true) in
    let below : k < c.args.most = omega (arith, end, c.loop-place-test.true) in
    let y = c.standing_at.result in
    let same = c.standing_at.ensures ∙ ap (λ x. f (k, x)) (sym (get_or-take c.args.most c.args.generation.now k _ below)) in
    c.in_ok-add.ensures n ∙ alike_push c.loop-place.drawn so_far (y ∷ []) c.loop-place.invariant n
    ∙ ap (standing_of n) (numbered_behind f xs k _ start so_far (so_far ++ y ∷ []) y few refl same refl)

pub returns : goal.returns
returns c n =
    let xs = take c.args.most c.args.generation.now in
    let long = length-take c.args.most c.args.generation.now in
    let end = c.min-place-end.ensures in
    let all : c.loop-place.place ≡ length xs = omega (arith, long, end) in
    c.loop-place.invariant n
    ∙ ap (λ ys. standing_of n (c.args.drawn.now ++ ys)) (numbered_all (standing_at c.box_count-boxes.result c.args.rank) xs c.loop-place.place all
    ∙ ap (λ b. map (standing_at b c.args.rank) (enumerate_from 0 xs)) c.box_count-boxes.ensures.is)
