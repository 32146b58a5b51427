use Rattle.std.proofs.Common.{◌<◌, length, Some, refl, sym, ap, ◌∙◌, subst, arith}
use Rattle.std.proofs.lemmas.Option.{slice_get-get_or}
use Rattle.as_ranks.specs.Placing.{ArePlacedTo}
use Rattle.as_ranks.proofs.PlaceLemmas.{placed-next, placed-all}
use Rattle.as_ranks.proofs.ranking.place_all.Goals as goal

pub loop-place-preserved : goal.loop-place-preserved
loop-place-preserved c =
    let old = c.args.ranks.now.items in
    let mid = c.loop-place.ranks.items in
    let place = c.loop-place.place in
    let inv = c.loop-place.invariant in
    let test = c.loop-place-test.true in
    let many = inv.many in
    let within : place < length mid = omega (arith, test, many) in
    let s = c.index_mut.result.now in
    let at = slice_get-get_or mid place s within ∙ ap (λ z. Some z) (sym c.index_mut.ensures.value) in
    placed-next place c.place_at-number.result old mid _ s at
    (c.place_at-number.ensures old s c.requires.sorted (subst (ArePlacedTo place old) (sym c.deref.ensures.value) inv) (inv.left place s (omega arith) at)) refl inv

pub returns : goal.returns
returns c =
    let all = c.loop-place-test.false in
    let many = c.loop-place.invariant.many in
    placed-all c.loop-place.place c.args.ranks.now.items c.loop-place.ranks.items (omega (arith, all, many)) c.loop-place.invariant
