use Rattle.relationships.specs.Graph.{edges}
use Rattle.tor_clauses.specs.Formulas.{numbered}
use Rattle.tor_clauses.proofs.Leadings.{round}
use Rattle.tor_solve.proofs.walking.walk_round.Goals as goal

pub returns : goal.returns
returns c =
    let begun = c.in_ok-begin_walk.ensures in
    round (numbered c.args.fitted.now.graph c.args.fitted.now.formula.paths) (edges c.args.fitted.now.graph) c.args.edge c.node_at-low.result c.node_at-high.result
    begun.0 begun.1 c.begin_walk.new.walk c.lead.new.walk c.lead-2.new.walk
    c.node_at-low.ensures.literal c.node_at-high.ensures.literal begun.2 begun.3
    c.in_ok-lead.ensures.leads c.in_ok-lead-2.ensures.leads c.in_ok-lead-2.ensures.kept
