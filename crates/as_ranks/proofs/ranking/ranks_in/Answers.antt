use Rattle.std.proofs.Common.{subst, arith}
use Rattle.as_ranks.specs.Tallies.{AreTallied}
use Rattle.as_ranks.proofs.PlaceLemmas.{counted-all, tallied-short}
use Rattle.as_ranks.proofs.ranking.ranks_in.Goals as goal

pub returns-in-Ok-clause-counted : goal.returns-in-Ok-clause-counted
returns-in-Ok-clause-counted c =
    let net = c.args.net.now in
    let lines = c.args.lines.now in
    let ranks = c.add_ranks-done.new.ranks.items in
    counted-all lines net.ases.items c.in_ok-cones.cones net.graph ranks c.requires.net c.in_ok-cones.ensures
    (subst (λ cs. AreTallied lines net.ases.items cs ranks) c.as_slice-2.ensures
    (subst (λ xs. AreTallied lines xs c.as_slice-2.result.now ranks) c.as_slice.ensures.value c.in-Ok.ensures))

pub returns-in-Ok-clause-few : goal.returns-in-Ok-clause-few
returns-in-Ok-clause-few c =
    let many = c.in-Ok.ensures.many in
    let len = c.as_slice.ensures.len in
    let few = c.requires.net.few_ases in
    omega (arith, many, len, few)

pub returns-in-Ok-clause-short : goal.returns-in-Ok-clause-short
returns-in-Ok-clause-short c =
    let net = c.args.net.now in
    let lines = c.args.lines.now in
    let ranks = c.add_ranks-done.new.ranks.items in
    tallied-short lines net.ases.items c.in_ok-cones.cones net.graph ranks c.requires.net c.in_ok-cones.ensures
    (subst (λ cs. AreTallied lines net.ases.items cs ranks) c.as_slice-2.ensures
    (subst (λ xs. AreTallied lines xs c.as_slice-2.result.now ranks) c.as_slice.ensures.value c.in-Ok.ensures))
