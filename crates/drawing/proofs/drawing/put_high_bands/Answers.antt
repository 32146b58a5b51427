use Rattle.std.proofs.Common.{◌≡◌, ◌<◌, ◌++◌, ◌∙◌, ap, length, arith}
use Rattle.drawing.specs.Picture.{high_band}
use Rattle.drawing.proofs.Numbered.{numbered_behind, numbered_all}
use Rattle.drawing.proofs.drawing.put_high_bands.Goals as goal

pub loop-place-preserved : goal.loop-place-preserved
loop-place-preserved c =
    let sizes = c.args.sizes.now in
    let few : c.loop-place.place < length sizes = omega arith in
    numbered_behind (high_band c.args.plan.now) sizes c.loop-place.place _ c.args.bands.now.items c.loop-place.bands.items
    c.push.new.self.items c.high_band.result few c.in_ok-push.ensures.items c.high_band.ensures c.loop-place.invariant

pub returns : goal.returns
returns c =
    let sizes = c.args.sizes.now in
    let all : c.loop-place.place ≡ length sizes = omega arith in
    c.loop-place.invariant ∙ ap (λ xs. c.args.bands.now.items ++ xs) (numbered_all (high_band c.args.plan.now) sizes c.loop-place.place all)
