use Rattle.std.proofs.Common.{◌≡◌, map, take}
use Rattle.relationships.specs.Graph.{edges}
use Rattle.asks.specs.Asks.{ask_line_of}
use Rattle.asks.proofs.table.ask_lines.Given as goal

abbrev pub invariant-loop-ask : goal.invariant-loop-ask
invariant-loop-ask l = l.lines ≡ map (ask_line_of (edges l.graph)) (take l.ask-index l.asks)
