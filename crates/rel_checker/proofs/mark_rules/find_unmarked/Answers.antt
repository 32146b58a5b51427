use Rattle.line_rules.proofs.OrderPlaces.{proper}
use Rattle.line_rules.proofs.ListedEdges.{edges_few, edges_apart, its_edges_are}
use Rattle.line_rules.proofs.Settled.{laid}
use Rattle.rel_checker.proofs.mark_rules.find_unmarked.Goals as goal

pub of_file-requires-clause-few : goal.of_file-requires-clause-few
of_file-requires-clause-few c = edges_few c.args.file.now c.requires.cleaned c.requires.listed

pub of_file-requires-clause-proper : goal.of_file-requires-clause-proper
of_file-requires-clause-proper c = proper c.args.file.now.edges (edges_apart c.args.file.now c.requires.cleaned c.requires.listed)

pub of_file-requires-clause-whole : goal.of_file-requires-clause-whole
of_file-requires-clause-whole c = its_edges_are c.args.file.now c.requires.cleaned c.requires.listed

pub find_by_flips-found-requires-clause-laid : goal.find_by_flips-found-requires-clause-laid
find_by_flips-found-requires-clause-laid c =
    let file = c.args.file.now in
    let flips = c.in_ok-flips.flips in
    rw c.requires.table (laid file c.requires.cleaned c.requires.listed c.requires.served flips.implied flips.conflicting c.in_ok-flips.ensures)
