use Rattle.std.proofs.Common.{◌≡◌, ◌∙◌, ◌*◌, ◌+◌, ◌-◌, ◌/◌, ℕ, length, ap, subst, arith}
use Rattle.std.specs.Prelude.{IfSome}
use Rattle.tor_digraph.specs.Walks.{Net, IsArc}
use Rattle.asks.proofs.Opens.{opens_few}
use Rattle.asks.proofs.Narrowings.{edge_below, narrowed-none, narrowed-next, narrowed-done}
use Rattle.asks.proofs.narrowing.put_all_narrow.Goals as goal

pub overflow_mul-count : goal.overflow_mul-count
overflow_mul-count c =
    let few = c.requires.few in let is = c.requires.count in let le = opens_few 0 c.args.marks.now in
    record { fits = omega (arith, few, is, le) }

pub overflow_add-count : goal.overflow_add-count
overflow_add-count c =
    let few = c.requires.few in let is = c.requires.count in let le = opens_few 0 c.args.marks.now in
    record { fits = omega (arith, few, is, le) }

pub overflow_mul-count-2 : goal.overflow_mul-count-2
overflow_mul-count-2 c =
    let few = c.requires.few in let is = c.requires.count in let le = opens_few 0 c.args.marks.now in
    record { fits = omega (arith, few, is, le) }

pub put_narrow-requires : goal.put_narrow-requires
put_narrow-requires c = record {
  tail = (let inside = c.requires.inside in let lt = c.ends-tail.ensures.tail in edge_below c.ends-tail.result.0 (length c.args.marks.now) (omega (arith, inside, lt)));
  head = (let inside = c.requires.inside in let lt = c.ends-tail.ensures.head in edge_below c.ends-tail.result.1 (length c.args.marks.now) (omega (arith, inside, lt)));
  few = c.requires.few;
  before = c.requires.before;
  nodes = (let nodes = c.loop-place.invariant.nodes in let is = c.requires.count in omega (arith, nodes, is));
}

pub loop-place-init : goal.loop-place-init
loop-place-init c =
    let made = c.in-Ok.ensures.ok in
    let nodes = ap (λ (n : Net ℕ). n.nodes) made in
    let none = c.requires.nodes in
    narrowed-none c.args.marks.now c.args.count c.args.graph.now c.add_nodes.new.self (omega (arith, nodes, none)) (
      (c.args.count * 2 + 64 - 1) / 64,
      omega (arith, nodes, none),
    ) (ap (λ (n : Net ℕ). n.arcs) made ∙ c.requires.arcs)

pub loop-place-preserved : goal.loop-place-preserved
loop-place-preserved c =
    let at : c.unwrap.result ≡ c.loop-place.place = subst (λ o. IfSome o (λ i. i ≡ c.loop-place.place)) c.unwrap.ensures c.from_place.ensures.some in
    narrowed-next c.args.marks.now c.args.count c.args.graph.now c.loop-place.place c.ends-tail.result.0 c.ends-tail.result.1 c.loop-place.other c.put_narrow.new.other
    c.loop-place.invariant
    (subst (λ n. IsArc c.args.graph.now.arcs n c.ends-tail.result.0 c.ends-tail.result.1) at c.ends-tail.ensures.arc) c.in_ok-put_narrow.ensures

pub returns : goal.returns
returns c =
    let e = c.arc_count-place-end.ensures.arcs in
    narrowed-done c.args.marks.now c.args.count c.args.graph.now c.loop-place.place c.loop-place.other (omega (arith, e)) c.loop-place.invariant
