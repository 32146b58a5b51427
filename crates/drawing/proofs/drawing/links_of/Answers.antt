use Rattle.std.proofs.Common.{◌∙◌, ◌++◌, ◌∷◌, [], ap, sym, map, take, arith}
use Rattle.std.proofs.lemmas.List.{map_more, take_all}
use Rattle.drawing.specs.Picture.{link_of}
use Rattle.drawing.proofs.drawing.links_of.Goals as goal

pub loop-tie-preserved : goal.loop-tie-preserved
loop-tie-preserved c =
    let f = link_of c.args.plan.now in
    let l = c.loop-tie in
    let push = c.push_reserved.ensures in
    let len = push.len in
    let cap = push.capacity in
    let room = l.invariant.1 in (
      push.items ∙ ap (λ xs. xs ++ c.link_of.result ∷ []) l.invariant.0
          ∙ ap (λ x. map f (take l.tie-index c.args.ties.now) ++ x ∷ []) c.link_of.ensures
          ∙ sym (map_more f c.args.ties.now l.tie-index _ c.loop-tie-test.true),
      omega (arith, len, cap, room),
    )

pub returns : goal.returns
returns c =
    let l = c.loop-tie in
    c.from_vec.ensures ∙ l.invariant.0 ∙ ap (map (link_of c.args.plan.now)) (take_all l.tie-index c.args.ties.now (omega (arith, c.loop-tie-test.false)))
