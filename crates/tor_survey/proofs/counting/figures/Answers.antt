use Rattle.std.proofs.Common.{rules, ◌≡◌, Some, slice_get, subst}
use Rattle.tor_survey.proofs.Countings.{counted-more}
use Rattle.tor_survey.proofs.counting.figures.Goals as goal

pub loop-place-preserved : goal.loop-place-preserved
loop-place-preserved c =
    let paths = c.args.paths.now in
    let place = c.loop-place.place in
    let path = c.row-path.result.now in
    let placed : c.unwrap.result ≡ place = search rules in
    let there : slice_get paths place ≡ Some path = subst (λ k. slice_get paths k ≡ Some path) placed c.row-path.ensures in (
      counted-more paths place c.loop-place.ases c.add_path.new.ases c.loop-place.edges c.add_path.new.edges c.loop-place.longest c.max-longest.result path
          c.loop-place.invariant.0 there c.in_ok-add_path.ensures.ases c.in_ok-add_path.ensures.edges c.max-longest.ensures,
      c.in_ok-add_path.ensures.ends,
    )
