use Rattle.std.proofs.Common.{length, arith}
use Rattle.relationships.proofs.Serving.{all_differ_if_distinct}
use Rattle.as_graph.proofs.BuildLemmas.{IsBuilt-view, IsBuilt-graph}
use Rattle.as_graph.proofs.building.build.Goals as goal

pub invariant_of-result : goal.invariant_of-result
invariant_of-result c =
    let paths = c.args.paths.now in
    IsBuilt-graph paths (length paths) c.rows_of.new.edges c.in_ok-rows.rows c.in_ok-rows.ensures (omega arith) c.requires.several
    (all_differ_if_distinct paths c.requires.apart) c.requires.few c.requires.short

pub returns : goal.returns
returns c =
    let paths = c.args.paths.now in
    IsBuilt-view paths (length paths) c.rows_of.new.edges c.in_ok-rows.rows c.in_ok-rows.ensures (omega arith) c.requires.several
