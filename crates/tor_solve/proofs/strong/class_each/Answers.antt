use Rattle.std.proofs.Common.{◌≡◌, ◌+◌, ◌-◌, ◌<◌, Some, length, refl, sym, ◌∙◌, subst, arith}
use Rattle.std.specs.Prelude.{slice_get}
use Rattle.std.proofs.lemmas.Bool.{false≢true}
use Rattle.std.proofs.lemmas.Option.{slice_get_read, slice_get_within}
use Rattle.tor_arena.proofs.Gets.{has-from_Contains, Contains-from_has}
use Rattle.tor_digraph.proofs.Searches.{searched-closed}
use Rattle.tor_solve.proofs.Orders.{classed-none, classed-more, classed-done, later-more, grown-old}
use Rattle.tor_solve.proofs.strong.class_each.Goals as goal

pub loop-left-init : goal.loop-left-init
loop-left-init g c = record {
  searched = c.requires.searched;
  many = c.requires.many ∙ sym c.requires.other.nodes;
  later = λ k x le at. absurd (let lt : k < length c.args.order.now = slice_get_within c.args.order.now k x at in omega arith);
  classed = classed-none g.N.Index.place_of c.args.graph.now c.args.classes.now.items c.args.reached.now.nodes c.requires.none;
  room = omega arith;
}

pub add_class-requires-clause-root : goal.add_class-requires-clause-root
add_class-requires-clause-root g c =
    let below : c.loop-left.left - 1 < length c.args.order.now = omega (arith, c.loop-left.invariant.room) in
    let at : slice_get c.args.order.now (c.loop-left.left - 1) ≡ Some c.index-order-left.result =
    slice_get_read c.args.order.now (length c.args.order.now) (c.loop-left.left - 1) c.index-order-left.result refl below c.index-order-left.is in
    subst (λ n. g.N.Index.place_of c.index-order-left.result < n) (sym c.requires.other.nodes) (c.requires.inside c.index-order-left.result (c.loop-left.left - 1, at))

pub loop-left-preserved-then-not-has : goal.loop-left-preserved-then-not-has
loop-left-preserved-then-not-has g c =
    let below : c.loop-left.left - 1 < length c.args.order.now = omega (arith, c.loop-left.invariant.room) in
    let at : slice_get c.args.order.now (c.loop-left.left - 1) ≡ Some c.index-order-left.result =
    slice_get_read c.args.order.now (length c.args.order.now) (c.loop-left.left - 1) c.index-order-left.result refl below c.index-order-left.is in
    let one : c.loop-left.left ≡ c.loop-left.left - 1 + 1 = omega arith in
    let grown = c.in_ok-add_class.ensures.grown in
    record {
      searched = c.in_ok-add_class.ensures.searched;
      many = c.in_ok-add_class.ensures.many;
      later = later-more c.args.order.now (c.loop-left.left - 1) c.loop-left.left c.index-order-left.result c.loop-left.reached.nodes
          c.add_class.new.reached.nodes one at (has-from_Contains c.add_class.new.reached.nodes c.index-order-left.result grown.has_start)
          (λ x h. grown-old c.args.other.now.arcs c.index-order-left.result c.loop-left.reached.nodes c.add_class.new.reached.nodes x grown h) c.loop-left.invariant.later;
      classed = classed-more g.N.Index.place_of c.args.graph.now.arcs c.args.other.now.arcs c.requires.other.from c.requires.other.back c.args.order.now c.requires.order
          (λ x y arc. c.requires.all x (c.node_count.ensures.inside.tails arc.0 x y arc.1)) (c.loop-left.left - 1) c.index-order-left.result at
          c.loop-left.reached.nodes c.add_class.new.reached.nodes (λ k x lt e. c.loop-left.invariant.later k x (omega arith) e)
          (searched-closed g.N.Index.place_of g.A.Index.place_of c.args.other.now.arcs c.args.other.now.nodes c.loop-left.reached
          c.loop-left.invariant.searched) (searched-closed g.N.Index.place_of g.A.Index.place_of c.args.other.now.arcs c.args.other.now.nodes
          c.add_class.new.reached c.in_ok-add_class.ensures.searched)
          (λ h. false≢true (sym c.if-not-has.true ∙ c.has.ensures.1 (Contains-from_has c.loop-left.reached.nodes c.index-order-left.result h)))
          c.in_ok-add_class.ensures.searched.order.once grown c.loop-left.classes.items c.add_class.new.classes.items c.loop-left.count c.loop-left.invariant.classed
          c.in_ok-add_class.ensures.marked c.in_ok-add_class.ensures.kept;
      room = omega (arith, c.loop-left.invariant.room);
    }

pub loop-left-preserved : goal.loop-left-preserved
loop-left-preserved g c =
    let below : c.loop-left.left - 1 < length c.args.order.now = omega (arith, c.loop-left.invariant.room) in
    let at : slice_get c.args.order.now (c.loop-left.left - 1) ≡ Some c.index-order-left.result =
    slice_get_read c.args.order.now (length c.args.order.now) (c.loop-left.left - 1) c.index-order-left.result refl below c.index-order-left.is in
    let one : c.loop-left.left ≡ c.loop-left.left - 1 + 1 = omega arith in
    record {
      searched = c.loop-left.invariant.searched;
      many = c.loop-left.invariant.many;
      later = later-more c.args.order.now (c.loop-left.left - 1) c.loop-left.left c.index-order-left.result c.loop-left.reached.nodes
          c.loop-left.reached.nodes one at (has-from_Contains c.loop-left.reached.nodes c.index-order-left.result
          (c.has.ensures.0 c.if-not-has.false))
          (λ x h. h) c.loop-left.invariant.later;
      classed = c.loop-left.invariant.classed;
      room = omega (arith, c.loop-left.invariant.room);
    }

pub returns : goal.returns
returns g c =
    classed-done g.N.Index.place_of c.args.graph.now c.loop-left.reached.nodes c.loop-left.classes.items c.loop-left.count c.loop-left.invariant.classed
    (λ x lt. (let h = c.requires.all x lt in c.loop-left.invariant.later h.0 x (omega arith) h.1)) c.node_count.ensures.inside (c.loop-left.invariant.many ∙ c.requires.other.nodes)
