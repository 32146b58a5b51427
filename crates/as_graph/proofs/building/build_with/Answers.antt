use Rattle.std.proofs.Common.{◌∙◌, subst}
use Rattle.as_graph.specs.Inside.{IsGraph}
use Rattle.as_graph.proofs.ReturnLemmas.{graph_room, graph_more, view_more}
use Rattle.as_graph.proofs.building.build_with.Goals as goal

pub add_returns-requires-clause-few : goal.add_returns-requires-clause-few
add_returns-requires-clause-few c = graph_room c.edges.inside.edges c.edges.inside.rows c.edges.invariant

pub invariant_of-result : goal.invariant_of-result
invariant_of-result c =
    graph_more c.edges.inside.edges c.edges.inside.rows c.add_returns.new.rows c.args.paths.now c.args.givens.now
    (subst (IsGraph c.edges.inside.edges c.edges.inside.rows) (c.edges.view_is ∙ c.in_ok-edges.ensures) c.edges.invariant) c.in_ok-add_returns.ensures
    c.requires.short c.requires.two c.requires.once

pub returns : goal.returns
returns c =
    view_more c.edges.inside.edges c.edges.inside.rows c.add_returns.new.rows c.args.paths.now c.args.givens.now
    (subst (IsGraph c.edges.inside.edges c.edges.inside.rows) (c.edges.view_is ∙ c.in_ok-edges.ensures) c.edges.invariant) c.in_ok-add_returns.ensures
    c.requires.short c.requires.two c.requires.once
