use Rattle.telling.proofs.ReachLemmas.{some_opposed, found_so}
use Rattle.telling.proofs.reaching.walk_reached.Goals as goal

pub unreachable-requires : goal.unreachable-requires
unreachable-requires c =
    let q = c.requires in
    some_opposed c.args.file.now q.accepted c.args.all.now.edges c.args.all.now.labels.items q.labels c.args.line.now q.there c.args.start q.start q.is_open q.no_peering
    c.args.downs.now.graph c.args.reached.now q.reached q.all c.in_default.ensures.none

pub walk_back-walk-requires-clause-way : goal.walk_back-walk-requires-clause-way
walk_back-walk-requires-clause-way c =
    let found = c.in-Some.found in
    (c.args.start, found.1, (c.in_ok-way.ensures c.args.downs.now.graph c.args.start c.requires.reached).0, c.in-Some.ensures.some.opposite)

pub returns-in-Ok : goal.returns-in-Ok
returns-in-Ok c =
    let q = c.requires in
    let found = c.in-Some.found in
    let way = c.in_ok-way.way in
    let is = c.in_ok-way.ensures c.args.downs.now.graph c.args.start q.reached in
    found_so c.args.file.now q.accepted c.args.line.now q.there q.is_open c.args.all.now.edges c.args.all.now.labels.items q.labels c.args.start q.start
    c.args.downs.now.graph c.args.reached.now q.reached q.all
    found.0.over found.0.under found.1 c.in-Some.ensures.some way.nodes is.0.first is.1 c.in-Ok.walk c.in-Ok.ensures
