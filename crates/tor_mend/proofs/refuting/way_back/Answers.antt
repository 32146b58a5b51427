use Rattle.std.proofs.Common.{ℕ, subst}
use Rattle.tor_clauses.specs.Literals.{opposite_node}
use Rattle.tor_clauses.specs.Rounds.{IsLed}
use Rattle.tor_mend.proofs.refuting.way_back.Goals as goal

pub go_back-requires : goal.go_back-requires
go_back-requires c = (c.args.head, c.requires)

pub returns-in-Ok : goal.returns-in-Ok
returns-in-Ok c =
    let arcs = c.args.fitted.now.formula.net.arcs in
    let start : ℕ = opposite_node c.args.head in
    let begin : IsLed arcs c.in_ok-way.way start start = subst (λ n. IsLed arcs c.in_ok-way.way n n) c.negation_node.ensures (c.in_ok-way.ensures arcs) in
    c.in-Ok.ensures c.args.head c.requires start begin
