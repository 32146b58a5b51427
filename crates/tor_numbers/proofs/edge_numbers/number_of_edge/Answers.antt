use Rattle.std.proofs.Common.{rules, ◌≡◌, ◌+◌, ◌*◌, ◌∙◌, ap}
use Rattle.tor_numbers.specs.EdgeNumbers.{number_of_edge, edge_numbered}
use Rattle.tor_numbers.proofs.EdgeNumbers.{numbered}
use Rattle.tor_numbers.proofs.edge_numbers.number_of_edge.Goals as goal

pub returns-clause-edge : goal.returns-clause-edge
returns-clause-edge c =
    let is : c.from.result * 4294967296 + c.from-2.result + 2 ≡ number_of_edge (c.args.low, c.args.high) = search rules in
    ap edge_numbered is ∙ numbered c.args.low c.args.high c.requires c.ranges.high.fits
