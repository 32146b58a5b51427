use Rattle.std.proofs.Common.{◌≡◌, ◌-◌, ℕ, Some, length, subst, arith}
use Rattle.std.specs.Prelude.{slice_get}
use Rattle.std.proofs.lemmas.Option.{slice_get_within}
use Rattle.std.proofs.lemmas.Result.{on_ok_weaker}
use Rattle.tor_clauses.specs.Literals.{opposite_node}
use Rattle.tor_mend.proofs.refuting.go_back.Goals as goal

pub partner-requires : goal.partner-requires
partner-requires c = slice_get_within c.args.fitted.now.formula.net.arcs c.args.arc (c.requires.1.0, c.requires.0) c.requires.1.1

pub go-requires-2 : goal.go-requires-2
go-requires-2 c = slice_get_within c.args.fitted.now.formula.net.arcs c.args.arc (c.requires.1.0, c.requires.0) c.requires.1.1

pub returns : goal.returns
returns c = on_ok_weaker c.go-2.result
    (λ last head is start begin.
    let tail : ℕ = is.0 in
    let rest = is.2 in
    let whole : length c.args.rest.now.arcs ≡ length c.args.rest.now.arcs - 0 = omega arith in
    let end : slice_get c.args.rest.now.nodes (length c.args.rest.now.arcs - 0) ≡ Some tail =
    subst (λ k. slice_get c.args.rest.now.nodes k ≡ Some tail) whole rest.last in
    last tail head is.1 start (c.in_ok-go_along.ensures (opposite_node tail) tail (opposite_node tail) tail rest rest.first end start
    (c.in_ok-go.ensures (opposite_node head) (opposite_node tail) (c.partner.ensures.partner tail head is.1) start begin)))
    c.go-2.ensures
