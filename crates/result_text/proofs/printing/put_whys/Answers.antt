use Rattle.std.proofs.Common.{◌≡◌, ◌∙◌, ap, sym, slice_get, Some}
use Rattle.result_text.specs.declared.line.Line.TheVariants as line
use Rattle.result_text.proofs.Puts.{one_more}
use Rattle.result_text.proofs.printing.put_whys.Goals as goal

pub loop-place-preserved : goal.loop-place-preserved
loop-place-preserved g c =
    let at : slice_get c.args.whys.now c.loop-place.place ≡ Some c.get.result = ap (λ k. slice_get c.args.whys.now k) (sym c.in-Some.ensures.some) ∙ c.get.ensures in
    one_more c.args.version (λ x. line.Why x) _ _ _ c.args.whys.now c.loop-place.place c.get.result at c.loop-place.invariant c.put_why.ensures
