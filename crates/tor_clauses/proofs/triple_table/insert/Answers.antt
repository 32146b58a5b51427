use Rattle.std.proofs.Common.{Bool, List, ℕ, Some, not, sym, subst}
use Rattle.std.specs.declared.option.Option.{Option}
use Rattle.std.proofs.lemmas.Result.{IfOk-weaker}
use Rattle.relationships.specs.Graph.{Edge}
use Rattle.tor_clauses.specs.Tables.{IsNoted}
use Rattle.tor_clauses.proofs.HeldArcs.{noted_set, noted_arc}
use Rattle.tor_clauses.proofs.triple_table.insert.Goals as goal

abbrev pair : ℕ → ℕ → Edge
pair m n = (m, n)

pub returns-in-Some-clause-ok : goal.returns-in-Some-clause-ok
returns-in-Some-clause-ok c =
    let arcs = c.args.digraph.now.arcs in
    let arc = pair c.args.first c.args.second in
    IfOk-weaker c.insert.result _ _
    (λ (is_new : Bool) put. subst (λ (was : Option (List ℕ)). IsNoted arcs arc was (Some c.insert.new.self) is_new) (sym c.in-Some.is)
    (noted_set arcs arc c.key.result _ c.insert.new.self is_new c.key.ensures put))
    c.insert.ensures.ok

pub returns-in-None-clause-ok : goal.returns-in-None-clause-ok
returns-in-None-clause-ok c =
    let arcs = c.args.digraph.now.arcs in
    let arc = pair c.args.first c.args.second in
    subst (λ (was : Option (List ℕ)). IsNoted arcs arc was was (not c.has_arc.result)) (sym c.in-None.is)
    (noted_arc arcs arc c.has_arc.result c.has_arc.ensures)
