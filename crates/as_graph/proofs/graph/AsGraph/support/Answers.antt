use Rattle.std.proofs.Common.{◌≡◌, ◌<◌, ◌≤◌, ◌^◌, [], length, take, replicate, rules, subst, sym, arith, All, length-take}
use Rattle.std.specs.List.{flat_map}
use Rattle.std.proofs.lemmas.List.Sums.{get_or-le-sum_by}
use Rattle.tor_arena.specs.Distinct.{AllDistinct}
use Rattle.relationships.specs.Graph.{edges, edges_on}
use Rattle.as_graph.specs.Paths.{path_at}
use Rattle.as_graph.proofs.Labelled.{NoneTwice-distinct}
use Rattle.as_graph.proofs.CountLemmas.{at_place, counts_begin, counts_more, support_small, distinct_below}
use Rattle.as_graph.proofs.graph.AsGraph.support.Goals as goal

pub loop-path-init : goal.loop-path-init
loop-path-init c =
    let zeros : c.resize.new.self.items ≡ replicate c.edge_count.result 0 = search rules in
    counts_begin c.args.self.now (edges c.args.self.now) c.edge_count.result c.resize.new.self.items c.edge_count.ensures.count zeros

pub count_steps-requires-clause-small : goal.count_steps-requires-clause-small
count_steps-requires-clause-small c =
    let paths = c.args.self.now in
    let kept = c.args.kept.now in
    let many = distinct_below kept (length paths) c.requires.once c.requires.there in
    let few = c.facts.ensures.paths in
    let n = length-take c.loop-path.path-index kept in
    let short : length (take c.loop-path.path-index kept) ≤ 2 ^ 26 = omega (arith, many, few, n) in
    subst (All (λ m. m ≤ 2 ^ 26)) (sym c.loop-path.invariant) (support_small paths (take c.loop-path.path-index kept) (edges paths) (2 ^ 26) short)

pub count_steps-requires-clause-few : goal.count_steps-requires-clause-few
count_steps-requires-clause-few c =
    let count = c.steps.ensures.count in
    let paths = c.args.self.now in
    let id = c.path-item.result in
    let within : id < length paths = subst (λ k. k < length paths) (sym c.path-item.is) (c.requires.there c.loop-path.path-index id c.loop-path-test.true) in
    let le = get_or-le-sum_by length paths id [] within in
    let short = c.facts.ensures.numbers in
    omega (arith, count, le, short)

pub loop-path-preserved : goal.loop-path-preserved
loop-path-preserved c =
    let paths = c.args.self.now in
    let kept = c.args.kept.now in
    let id = c.path-item.result in
    let within : id < length paths = subst (λ k. k < length paths) (sym c.path-item.is) (c.requires.there c.loop-path.path-index id c.loop-path-test.true) in
    let apart : AllDistinct (path_at paths id) =
    subst (λ k. AllDistinct (path_at paths k)) (sym c.path-item.is) (at_place AllDistinct paths kept c.requires.distinct c.loop-path.path-index id c.loop-path-test.true) in
    counts_more paths kept c.loop-path.path-index id (edges paths) c.steps.result.now c.loop-path.counts.items c.count_steps.new.counts.items
    (NoneTwice-distinct (flat_map edges_on paths)) c.loop-path-test.true (sym c.path-item.is) apart c.steps.ensures.steps c.loop-path.invariant
    c.count_steps.ensures.length c.count_steps.ensures.counted
