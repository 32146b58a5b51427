use Rattle.std.proofs.Common.{rules, ◌≡◌, Some, slice_get, subst}
use Rattle.top_givens.proofs.Bindings.{settles_paths}
use Rattle.top_givens.proofs.settling.settle_paths.Goals as goal

pub loop-place-preserved : goal.loop-place-preserved
loop-place-preserved c =
    let paths = c.args.paths.now in
    let place = c.loop-place.place in
    let path = c.row-path.result.now in
    let placed : c.unwrap.result ≡ place = search rules in
    let there : slice_get paths place ≡ Some path = subst (λ k. slice_get paths k ≡ Some path) placed c.row-path.ensures in
    settles_paths c.args.top.now paths place path c.args.settled.now c.loop-place.settled c.settle_path.new.settled there c.loop-place.invariant c.in_ok-settle_path.ensures
