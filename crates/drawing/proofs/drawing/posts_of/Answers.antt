use Rattle.std.proofs.Common.{◌∙◌, ◌++◌, ◌∷◌, [], ap, sym, map, take, arith}
use Rattle.std.proofs.lemmas.List.{map_more, take_all}
use Rattle.drawing.specs.Picture.{post_of}
use Rattle.drawing.proofs.drawing.posts_of.Goals as goal

pub loop-perch-preserved : goal.loop-perch-preserved
loop-perch-preserved c =
    let f = post_of c.args.plan.now in
    let l = c.loop-perch in
    let push = c.push_reserved.ensures in
    let len = push.len in
    let cap = push.capacity in
    let room = l.invariant.1 in (
      push.items ∙ ap (λ xs. xs ++ c.post_of.result ∷ []) l.invariant.0
          ∙ ap (λ x. map f (take l.perch-index c.args.perches.now) ++ x ∷ []) c.post_of.ensures
          ∙ sym (map_more f c.args.perches.now l.perch-index _ c.loop-perch-test.true),
      omega (arith, len, cap, room),
    )

pub returns : goal.returns
returns c =
    let l = c.loop-perch in
    c.from_vec.ensures ∙ l.invariant.0 ∙ ap (map (post_of c.args.plan.now)) (take_all l.perch-index c.args.perches.now (omega (arith, c.loop-perch-test.false)))
