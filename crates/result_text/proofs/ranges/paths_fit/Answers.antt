use Rattle.std.proofs.Common.{◌≡◌, ◌∙◌, ap, sym, slice_get, Some}
use Rattle.result_text.specs.Ranges.{PathFits}
use Rattle.result_text.proofs.Puts.{one_fits}
use Rattle.result_text.proofs.ranges.paths_fit.Goals as goal

pub loop-place-preserved : goal.loop-place-preserved
loop-place-preserved c =
    let at : slice_get c.args.paths.now c.loop-place.place ≡ Some c.get.result = ap (λ k. slice_get c.args.paths.now k) (sym c.in-Some.ensures.some) ∙ c.get.ensures in
    one_fits PathFits c.args.paths.now c.loop-place.place c.get.result at c.loop-place.invariant c.path_fits.ensures
