use Rattle.std.proofs.Common.{◌≡◌, ◌<◌, ◌++◌, ◌∷◌, [], ◌∙◌, ap, sym, map, take, length, arith}
use Rattle.std.specs.List.{enumerate_from}
use Rattle.drawing.specs.Picture.{item_of}
use Rattle.drawing.proofs.Numbered.{numbered_more, numbered_all}
use Rattle.drawing.proofs.drawing.items_of.Goals as goal

pub loop-place-preserved : goal.loop-place-preserved
loop-place-preserved c =
    let f = item_of c.args.plan.now in
    let few : c.loop-place.place < length c.args.entries.now = omega arith in
    let push = c.push_reserved.ensures in
    let len = push.len in
    let cap = push.capacity in
    let room = c.loop-place.invariant.1 in (
      push.items ∙ ap (λ xs. xs ++ c.item_of.result ∷ []) c.loop-place.invariant.0
          ∙ ap (λ x. map f (take c.loop-place.place (enumerate_from 0 c.args.entries.now)) ++ x ∷ []) c.item_of.ensures
          ∙ sym (numbered_more f c.args.entries.now c.loop-place.place _ few),
      omega (arith, len, cap, room),
    )

pub returns : goal.returns
returns c =
    let all : c.loop-place.place ≡ length c.args.entries.now = omega arith in
    c.from_vec.ensures ∙ c.loop-place.invariant.0 ∙ numbered_all (item_of c.args.plan.now) c.args.entries.now c.loop-place.place all
