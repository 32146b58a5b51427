use Rattle.tor_clauses.proofs.rounding.way_round.Goals as goal

pub go_round-requires-clause-trail : goal.go_round-requires-clause-trail
go_round-requires-clause-trail c = (c.args.start, c.requires.trail)

pub returns-in-Ok : goal.returns-in-Ok
returns-in-Ok c = c.in-Ok.ensures c.args.start c.requires.trail.first c.args.start (c.in_ok-way.ensures c.args.fitted.now.formula.net.arcs)
