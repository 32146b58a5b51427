use Rattle.tor_digraph.proofs.Trails.{trail_visits}
use Rattle.tor_orient.proofs.finding.meet.Goals as goal

pub returns-in_ok-visit-clause-trail : goal.returns-in_ok-visit-clause-trail
returns-in_ok-visit-clause-trail c = λ arcs from.
    trail_visits arcs c.args.head c.args.place c.args.arc c.args.tried.now c.visit.new.self c.in_ok-visit.field-0 from c.in_ok-visit.ensures.visited
