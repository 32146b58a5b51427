use Rattle.std.proofs.Common.{◌++◌, ◌∷◌, [], ◌∙◌, take, sym, ap, subst}
use Rattle.std.proofs.lemmas.Bool.{false≢true}
use Rattle.relationships.specs.Selection.{IsServable}
use Rattle.relationships.specs.Fates.{is_kept}
use Rattle.as_graph.specs.Paths.{paths_at}
use Rattle.path_select.proofs.Selections.{first_servable}
use Rattle.path_select.proofs.selecting.keep_all.Goals as goal

pub unreachable-requires : goal.unreachable-requires
unreachable-requires c =
    let graph = c.args.graph.now in
    let paths = c.args.paths.now in
    let i = c.loop-path.path-index in
    let id = c.path-item.result in
    let can = first_servable graph paths i id c.loop-path-test.true c.requires.servable in
    let here = subst (λ k. IsServable (paths_at graph (take i paths ++ k ∷ []))) (sym c.path-item.is) can in
    let all = subst (λ l. IsServable (paths_at graph (l ++ id ∷ []))) (sym c.loop-path.invariant.kept) here in
    false≢true (sym (ap is_kept c.in-Lost.is) ∙ c.in_ok-offer.ensures.offered.exact.1 all)
