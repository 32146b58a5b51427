use Rattle.std.proofs.Common.{◌≡◌, ◌∙◌, ◌<◌, ℕ, Some, length, sym, ap, subst, Contains}
use Rattle.std.specs.Prelude.{slice_get}
use Rattle.std.proofs.lemmas.Result.{on_ok_weaker}
use Rattle.std.proofs.lemmas.Option.{some_pair_parts, slice_get_within}
use Rattle.tor_digraph.specs.Walks.{IsArc}
use Rattle.tor_clauses.specs.Literals.{opposite_node}
use Rattle.tor_clauses.specs.Rounds.{LeadsOn}
use Rattle.tor_clauses.proofs.LiteralLemmas.{opposite_node_twice}
use Rattle.tor_clauses.proofs.rounding.go_round.Goals as goal

pub ends-tail-requires : goal.ends-tail-requires
ends-tail-requires c =
    let clash = c.requires.clash in
    subst (λ net. c.args.clash < length net.arcs) (sym c.digraph.ensures) (slice_get_within c.args.fitted.now.formula.net.arcs c.args.clash (clash.0, clash.1) clash.2)

pub place_of-out-requires : goal.place_of-out-requires
place_of-out-requires c =
    let clash = c.requires.clash in
    let at = subst (λ net. slice_get net.arcs c.args.clash ≡ Some c.ends-tail.result) c.digraph.ensures c.ends-tail.ensures.arc in
    let parts = some_pair_parts clash.0 c.ends-tail.result.0 clash.1 c.ends-tail.result.1 (sym clash.2 ∙ at) in
    subst (Contains c.args.trail.now.nodes.items) parts.0 clash.3

pub place_of-home-requires : goal.place_of-home-requires
place_of-home-requires c =
    let clash = c.requires.clash in
    let at = subst (λ net. slice_get net.arcs c.args.clash ≡ Some c.ends-tail.result) c.digraph.ensures c.ends-tail.ensures.arc in
    let parts = some_pair_parts clash.0 c.ends-tail.result.0 clash.1 c.ends-tail.result.1 (sym clash.2 ∙ at) in
    subst (Contains c.args.trail.now.nodes.items) (ap opposite_node parts.1 ∙ sym c.negation_node.ensures) clash.4

pub go_out-requires-clause-there : goal.go_out-requires-clause-there
go_out-requires-clause-there c = slice_get_within c.args.trail.now.nodes.items c.place_of-out.result c.ends-tail.result.0 c.place_of-out.ensures

pub go-requires : goal.go-requires
go-requires c = let clash = c.requires.clash in slice_get_within c.args.fitted.now.formula.net.arcs c.args.clash (clash.0, clash.1) clash.2

pub go_home-requires-clause-there : goal.go_home-requires-clause-there
go_home-requires-clause-there c = slice_get_within c.args.trail.now.nodes.items c.place_of-home.result c.negation_node.result c.place_of-home.ensures

pub returns : goal.returns
returns c = on_ok_weaker c.go_home.result
    (λ home from first start way.
    let arcs = c.args.fitted.now.formula.net.arcs in
    let tail : ℕ = c.ends-tail.result.0 in
    let head : ℕ = c.ends-tail.result.1 in
    let arc : IsArc arcs c.args.clash tail head = subst (λ net. slice_get net.arcs c.args.clash ≡ Some c.ends-tail.result) c.digraph.ensures c.ends-tail.ensures.arc in
    let back : opposite_node c.negation_node.result ≡ head = ap opposite_node c.negation_node.ensures ∙ opposite_node_twice head in
    let there = c.in_ok-go.ensures tail head arc start (c.in_ok-go_out.ensures from tail first c.place_of-out.ensures start way) in
    let here = subst (λ n. LeadsOn arcs c.go.new.way c.go_home.new.way n (opposite_node from)) back (home c.negation_node.result from first c.place_of-home.ensures) in
    here start there)
    c.go_home.ensures
