use Rattle.std.proofs.Common.{◌≡◌, Some, subst}
use Rattle.std.specs.Prelude.{slice_get}
use Rattle.tor_clauses.proofs.Leadings.{leads_made}
use Rattle.tor_clauses.proofs.walking.step.Goals as goal

pub returns-clause-leads : goal.returns-clause-leads
returns-clause-leads c = λ l m arc a b h.
    let net = c.args.fitted.now.formula.net in
    let at : slice_get net.arcs c.args.arc ≡ Some c.ends-head.result =
    subst (λ n. slice_get n.arcs c.args.arc ≡ Some c.ends-head.result) c.digraph.ensures c.ends-head.ensures.arc in
    leads_made c.args.fitted.now.graph c.args.fitted.now.formula.paths net.arcs c.args.arc c.ends-head.result c.args.walk.now a b l m
    c.order-under.result.0 c.order-under.result.1 c.link_of.result c.push.new.self c.push-2.new.self
    (c.link_of.ensures c.args.fitted.now.graph l m c.facts.ensures.apart c.facts.ensures.fits arc) arc at
    c.order-under.ensures c.in_ok-push.ensures.ok c.in_ok-push-2.ensures.ok h
