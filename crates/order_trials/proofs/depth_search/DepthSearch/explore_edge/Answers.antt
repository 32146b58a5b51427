use Rattle.std.proofs.Common.{refl, sym, ◌∙◌}
use Rattle.order_trials.proofs.Choosing.{choosing_some, on_ok_four}
use Rattle.order_trials.proofs.depth_search.DepthSearch.explore_edge.Goals as goal

pub returns-in-Some : goal.returns-in-Some
returns-in-Some c =
    let done = c.explore.ensures in
    on_ok_four c.explore.result
    (choosing_some c.args.problem.now c.args.edge c.args.edge c.in-Some.start c.label.result c.args.self.now c.explore.new.self c.requires.so_far refl c.label.ensures
    (sym c.against.ensures ∙ c.in-Some.is))
    done.order done.idle done.come done.kept
