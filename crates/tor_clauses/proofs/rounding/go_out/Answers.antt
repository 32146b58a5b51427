use Rattle.std.proofs.Common.{◌≡◌, subst, arith}
use Rattle.std.proofs.lemmas.Option.{slice_get_within}
use Rattle.tor_arena.proofs.Gets.{slice_get-some}
use Rattle.tor_clauses.specs.Rounds.{IsChain, IsLed}
use Rattle.tor_clauses.proofs.Ways.{chain_pop}
use Rattle.tor_clauses.proofs.rounding.go_out.Goals as goal

pub loop-arc-init : goal.loop-arc-init
loop-arc-init c = λ from to s t. (from, c.in_ok-chain.ensures from to s t, λ start way. way)

pub go-requires : goal.go-requires
go-requires c =
    let nodes = c.args.trail.now.nodes.items in
    let arcs = c.args.fitted.now.formula.net.arcs in
    let there = c.requires.there in
    let first = slice_get-some nodes 0 (omega (arith, there)) in
    let last = slice_get-some nodes c.args.place there in
    let h = c.loop-arc.invariant first.0 last.0 first.1 last.1 in
    let p = chain_pop arcs c.pop.new.self c.in-Some.arc h.0 last.0 (subst (λ chain. IsChain arcs chain h.0 last.0) c.in-Some.ensures h.1) in
    slice_get_within arcs c.in-Some.arc (h.0, p.0) p.1

pub loop-arc-preserved : goal.loop-arc-preserved
loop-arc-preserved c = λ from to s t.
    let arcs = c.args.fitted.now.formula.net.arcs in
    let h = c.loop-arc.invariant from to s t in
    let p = chain_pop arcs c.pop.new.self c.in-Some.arc h.0 to (subst (λ chain. IsChain arcs chain h.0 to) c.in-Some.ensures h.1) in
    (p.0, p.2, λ start way. c.in-Ok.ensures h.0 p.0 p.1 start (h.2 start way))

pub returns : goal.returns
returns c = λ from to s t start way.
    let arcs = c.args.fitted.now.formula.net.arcs in
    let h = c.loop-arc.invariant from to s t in
    let same : h.0 ≡ to = subst (λ chain. IsChain arcs chain h.0 to) c.in_default.ensures.0 h.1 in
    subst (λ n. IsLed arcs c.loop-arc.way start n) same (h.2 start way)
