use Rattle.std.proofs.Common.{◌≡◌, ◌∷◌, [], ◌++◌, Some, sym, ap, ◌∙◌, subst}
use Rattle.std.specs.Prelude.{slice_get}
use Rattle.std.proofs.lemmas.Option.{some_pair_parts}
use Rattle.std.proofs.lemmas.Result.{on_ok_weaker}
use Rattle.tor_digraph.specs.Walks.{IsArc}
use Rattle.tor_clauses.proofs.Ways.{led_more}
use Rattle.tor_clauses.proofs.rounding.go.Goals as goal

pub returns : goal.returns
returns c = on_ok_weaker c.push-2.result
    (λ e l m arc start way.
    let arcs = c.args.fitted.now.formula.net.arcs in
    let ends = c.ends-head.result in
    let at : IsArc arcs c.args.arc ends.0 ends.1 = subst (λ net. slice_get net.arcs c.args.arc ≡ Some c.ends-head.result) c.digraph.ensures c.ends-head.ensures.arc in
    let parts = some_pair_parts l ends.0 m ends.1 (sym arc ∙ at) in
    let pushed = c.in_ok-push.ensures.ok ∙ ap (λ n. c.args.way.now.nodes ++ n ∷ []) (sym parts.1) in
    led_more arcs start l m c.args.arc c.args.way.now.nodes c.push.new.self c.args.way.now.arcs c.push-2.new.self arc pushed e way)
    c.push-2.ensures.ok
