use Rattle.std.proofs.Common.{take}
use Rattle.as_graph.specs.Inside.{AddsReturns}
use Rattle.as_graph.proofs.building.add_returns.Given as goal

abbrev pub invariant-loop-given : goal.invariant-loop-given
invariant-loop-given l = AddsReturns l.edges (take l.given-index l.givens) l.fn.rows l.rows
