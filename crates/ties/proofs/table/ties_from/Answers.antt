use Rattle.std.proofs.Common.{sym, subst, arith}
use Rattle.std.proofs.lemmas.Result.{IfOk-weaker}
use Rattle.relationships.specs.Selection.{IsServable}
use Rattle.relationships.proofs.GivenLemmas.{givens_servable_law}
use Rattle.ties.specs.Behind.{AreLinesBehind}
use Rattle.ties.specs.Ties.{AreTieLinesOf}
use Rattle.ties.proofs.Tyings.{behind_is, lines_given, long}
use Rattle.ties.proofs.table.ties_from.Goals as goal

pub lines_of-lines-requires-clause-servable : goal.lines_of-lines-requires-clause-servable
lines_of-lines-requires-clause-servable c =
    let givens = c.args.givens.now in
    let paths = c.args.paths in
    subst IsServable (sym (behind_is givens paths c.in_ok-graph.graph c.len-count.result c.in_ok-graph.ensures c.len-count.ensures.length))
    (givens_servable_law givens paths c.requires.two c.requires.once)

pub lines_of-lines-requires-clause-count : goal.lines_of-lines-requires-clause-count
lines_of-lines-requires-clause-count c =
    let sum = long c.args.givens.now c.args.paths c.in_ok-graph.graph c.len-count.result c.in_ok-graph.ensures c.len-count.ensures.length in
    let n = c.len-count.ensures.length in
    omega (arith, sum, n)

pub returns : goal.returns
returns c =
    let givens = c.args.givens.now in
    let paths = c.args.paths in
    let graph = c.in_ok-graph.graph in
    IfOk-weaker c.lines_of-lines.result (AreLinesBehind graph c.len-count.result) (AreTieLinesOf givens paths)
    (lines_given givens paths graph c.len-count.result c.in_ok-graph.ensures c.len-count.ensures.length) c.lines_of-lines.ensures
