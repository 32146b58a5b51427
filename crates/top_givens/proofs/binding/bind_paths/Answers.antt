use Rattle.std.proofs.Common.{rules, ◌≡◌, Some, slice_get, subst}
use Rattle.top_givens.proofs.Bindings.{binds_paths}
use Rattle.top_givens.proofs.binding.bind_paths.Goals as goal

pub loop-place-preserved : goal.loop-place-preserved
loop-place-preserved c =
    let paths = c.args.paths.now in
    let place = c.loop-place.place in
    let path = c.row-path.result.now in
    let placed : c.unwrap.result ≡ place = search rules in
    let there : slice_get paths place ≡ Some path = subst (λ k. slice_get paths k ≡ Some path) placed c.row-path.ensures in
    λ named start h. binds_paths c.args.top.now paths place path c.loop-place.settled c.bind_path.new.settled c.loop-place.givens c.bind_path.new.givens named start there
    (c.loop-place.invariant named start h) c.in_ok-bind_path.ensures
