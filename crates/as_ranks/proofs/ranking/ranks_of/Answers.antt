use Rattle.std.proofs.Common.{subst, sym, arith}
use Rattle.std.proofs.lemmas.List.Sorted.{length_permutation}
use Rattle.as_ranks.specs.Ranks.{AreRanks}
use Rattle.as_ranks.specs.Placing.{AreMeasured}
use Rattle.as_ranks.proofs.PlaceLemmas.{ranks-all, counted-permuted}
use Rattle.as_ranks.proofs.ranking.ranks_of.Goals as goal

pub place_all-requires-clause-few : goal.place_all-requires-clause-few
place_all-requires-clause-few c =
    let e = length_permutation c.in-Ok.ranks.items c.sort_ranks.new.ranks.items c.sort_ranks.ensures.same in
    let few = c.in-Ok.ensures.few in
    omega (arith, e, few)

pub returns : goal.returns
returns c =
    let rel = c.args.rel.now in
    let old = c.in-Ok.ranks.items in
    let sorted = c.sort_ranks.new.ranks.items in
    let placed = c.place_all.new.ranks.items in
    subst (AreRanks rel) (sym c.from_vec.ensures)
    (ranks-all rel sorted placed
    (counted-permuted rel old sorted c.sort_ranks.ensures.same (subst (λ ls. AreMeasured ls old) c.lines.ensures.lines c.in-Ok.ensures.counted))
    c.sort_ranks.ensures.sorted c.place_all.ensures)
