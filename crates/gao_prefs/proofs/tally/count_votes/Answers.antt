use Rattle.std.proofs.Common.{◌≡◌, ◌<◌, ◌≤◌, ◌+◌, ◌∙◌, List, [], length, replicate, rules, subst, sym, ap, arith}
use Rattle.std.proofs.lemmas.List.Elements.{All-get_or}
use Rattle.tor_arena.specs.Distinct.{AllDistinct}
use Rattle.as_graph.specs.Paths.{path_at}
use Rattle.as_graph.proofs.CountLemmas.{distinct_below, at_place}
use Rattle.gao_prefs.specs.declared.per_end.PerEnd.{PerEnd}
use Rattle.gao_prefs.specs.Ends.{number_at, ballots}
use Rattle.gao_prefs.proofs.VoteLemmas.{counts_begin, counts_more}
use Rattle.gao_prefs.proofs.tally.count_votes.Goals as goal

pub loop-path-init : goal.loop-path-init
loop-path-init c =
    let zeros : c.resize.new.self.items ≡ replicate c.edge_count.result (record { low = 0; high = 0 }) = search rules in
    counts_begin c.args.graph.now c.args.kept.now c.edge_count.result c.resize.new.self.items c.edge_count.ensures.count zeros

pub vote_path-requires-clause-small : goal.vote_path-requires-clause-small
vote_path-requires-clause-small c k e =
    let many = distinct_below c.args.kept.now (length c.args.graph.now) c.requires.once c.requires.there in
    let few = c.facts.ensures.paths in
    let at = c.loop-path-test.true in
    let small = c.loop-path.invariant.small k e in
    omega (arith, many, few, at, small)

pub loop-path-preserved : goal.loop-path-preserved
loop-path-preserved c =
    let paths = c.args.graph.now in
    let kept = c.args.kept.now in
    let id = c.path-item.result in
    let within : id < length paths = subst (λ k. k < length paths) (sym c.path-item.is) (c.requires.there c.loop-path.path-index id c.loop-path-test.true) in
    let apart : AllDistinct (path_at paths id) =
    subst (λ k. AllDistinct (path_at paths k)) (sym c.path-item.is) (at_place AllDistinct paths kept c.requires.distinct c.loop-path.path-index id c.loop-path-test.true) in
    let two : 2 ≤ length (path_at paths id) = All-get_or (λ path. 2 ≤ length path) paths id [] within c.facts.ensures.several in
    let known = c.requires.known in
    counts_more paths kept c.loop-path.path-index id c.steps.result.now c.loop-path.votes.items c.vote_path.new.votes.items c.loop-path-test.true (sym c.path-item.is) two apart c.steps.ensures.steps
    c.loop-path.invariant c.vote_path.ensures.length
    (λ k e. c.vote_path.ensures.counted k e ∙ ap (λ (t : List PerEnd). number_at c.loop-path.votes.items k e + ballots t c.steps.result.now k e) known)

pub returns-clause-small : goal.returns-clause-small
returns-clause-small c k e =
    let many = distinct_below c.args.kept.now (length c.args.graph.now) c.requires.once c.requires.there in
    let few = c.facts.ensures.paths in
    let small = c.loop-path.invariant.small k e in
    let at : c.loop-path.path-index ≤ length c.args.kept.now = search rules in
    omega (arith, many, few, at, small)
