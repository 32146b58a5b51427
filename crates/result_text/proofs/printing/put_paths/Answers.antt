use Rattle.std.proofs.Common.{◌≡◌, ◌∙◌, ap, sym, slice_get, Some}
use Rattle.result_text.specs.declared.line.Line.TheVariants as line
use Rattle.result_text.proofs.Puts.{one_more}
use Rattle.result_text.proofs.printing.put_paths.Goals as goal

pub loop-place-preserved : goal.loop-place-preserved
loop-place-preserved g c =
    let at : slice_get c.args.paths.now c.loop-place.place ≡ Some c.get.result = ap (λ k. slice_get c.args.paths.now k) (sym c.in-Some.ensures.some) ∙ c.get.ensures in
    one_more c.args.version (λ x. line.Path x) _ _ _ c.args.paths.now c.loop-place.place c.get.result at c.loop-place.invariant c.put_path.ensures
