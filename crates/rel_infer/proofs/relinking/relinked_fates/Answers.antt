use Rattle.std.proofs.Common.{rules, ◌≡◌, ◌+◌, sym, subst, take}
use Rattle.rel_infer.specs.Returns.{AreRelinked}
use Rattle.rel_infer.proofs.relinking.relinked_fates.Goals as goal

pub relink_fate-requires-clause-before : goal.relink_fate-requires-clause-before
relink_fate-requires-clause-before c =
    let same : c.unwrap-path.result ≡ c.loop-place.place = search rules in
    subst (λ k. AreRelinked c.args.paths c.args.numbers.now (take k c.args.fates.now) c.loop-place.relinked) (sym same) c.loop-place.invariant

pub loop-place-preserved : goal.loop-place-preserved
loop-place-preserved c =
    let same : c.unwrap-path.result ≡ c.loop-place.place = search rules in
    subst (λ k. AreRelinked c.args.paths c.args.numbers.now (take (k + 1) c.args.fates.now) c.relink_fate.new.relinked) same c.in_ok-relink_fate.ensures
