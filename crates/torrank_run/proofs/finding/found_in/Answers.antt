use Rattle.std.proofs.Common.{sym, subst}
use Rattle.torrank_run.specs.declared.finding.Found.TheVariants as found
use Rattle.torrank_run.specs.Ranking.{IsFound}
use Rattle.torrank_run.proofs.finding.found_in.Goals as goal

pub returns-in-Ok : goal.returns-in-Ok
returns-in-Ok c = subst (λ t. IsFound c.args.rel.now t (found.Ranks c.in-Ok.ranks)) (sym c.in-Ranks.is) c.in-Ok.ensures

pub returns-in-Ok-cone_net_of : goal.returns-in-Ok-cone_net_of
returns-in-Ok-cone_net_of c =
    subst (λ t. IsFound c.args.rel.now t (found.Cones c.in-Ok-cone_net_of.net)) (sym c.in-Cones.is) c.in-Ok-cone_net_of.ensures

pub returns-in-Ok-cycles_of : goal.returns-in-Ok-cycles_of
returns-in-Ok-cycles_of c =
    let e = c.in-Ok-cycles_of.ensures in
    subst (λ t. IsFound c.args.rel.now t (found.Cycles c.in-Ok-cycles_of.cycles)) (sym c.in-Cycles.is) (e.cycles, e.inside)
