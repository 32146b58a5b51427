use Rattle.tor_mend.proofs.refuting.way_by.Goals as goal

pub go_by-requires-clause-trail : goal.go_by-requires-clause-trail
go_by-requires-clause-trail c = (c.args.start, c.requires.trail)

pub returns-in-Ok : goal.returns-in-Ok
returns-in-Ok c = c.in-Ok.ensures c.args.start c.requires.trail.first c.args.start (c.in_ok-way.ensures c.args.fitted.now.formula.net.arcs)
