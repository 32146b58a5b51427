use Rattle.std.proofs.Common.{◌≤◌, length, sym, subst, arith, Contains}
use Rattle.std.proofs.lemmas.List.{take_all}
use Rattle.peering.proofs.Along.{excluded_more}
use Rattle.peering.proofs.excluding.exclusions.Goals as goal

pub loop-path-preserved : goal.loop-path-preserved
loop-path-preserved c =
    excluded_more c.args.graph.now c.args.kept.now c.args.ends.now c.loop-path.path-index c.path-item.result c.steps.result.now c.loop-path.excluded.items
    c.exclude_along.new.excluded.items c.loop-path-test.true (sym c.path-item.is) c.steps.ensures.steps c.steps.ensures.inside c.exclude_along.ensures.long
    c.exclude_along.ensures.excluded c.loop-path.invariant

pub returns-clause-all : goal.returns-clause-all
returns-clause-all c = λ place among.
    let test = c.loop-path-test.false in
    let le : length c.args.kept.now ≤ c.loop-path.path-index = omega (arith, test) in
    c.loop-path.invariant.all place (subst (λ l. Contains l place) (sym (take_all c.loop-path.path-index c.args.kept.now le)) among)
