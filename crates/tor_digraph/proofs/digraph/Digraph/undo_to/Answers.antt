use Rattle.std.proofs.Common.{◌≡◌, ◌-◌, ◌≤◌, length, take, refl, sym, ◌∙◌, ap, subst, arith, length-set}
use Rattle.std.proofs.lemmas.List.{length-take-le}
use Rattle.std.specs.Prelude.{IfSome, Some, slice_get}
use Rattle.tor_digraph.specs.Walks.{IsArc}
use Rattle.tor_digraph.proofs.Chains.{linked-drop_made, linked-undo, linked-whole, same-net}
use Rattle.tor_digraph.proofs.Members.{some-if_not_none}
use Rattle.tor_digraph.proofs.digraph.Digraph.undo_to.Goals as goal

pub loop-left-preserved : goal.loop-left-preserved
loop-left-preserved g c =
    let at : g.A.Index.place_of c.unwrap-arc.result ≡ c.loop-left.left - 1 = subst (λ o. IfSome o (λ i. g.A.Index.place_of i ≡ c.loop-left.left - 1)) c.unwrap-arc.ensures c.from_place.ensures.some in
    record {
      many = omega arith;
      within = omega arith;
      ends = c.loop-left.invariant.ends;
      nodes = ap length c.put.ensures.items ∙ length-set _ _ _ ∙ c.loop-left.invariant.nodes;
      linked = linked-drop_made g.N.Index.place_of (λ place. place) g.met.N.Index.is_one c.loop-left.self-inside.first.items _ _ c.loop-left.left
          (c.loop-left.left - 1) c.get.result.now.0 c.get.result.now.1 c.get-link.result.now
          c.loop-left.self-inside.ends.items c.loop-left.self-inside.links.items (omega arith) c.loop-left.invariant.within refl refl c.loop-left.invariant.linked
          (subst (λ k. IsArc c.loop-left.self-inside.ends.items k c.get.result.now.0 c.get.result.now.1) at c.get.ensures)
          (subst (λ k. slice_get c.loop-left.self-inside.links.items k ≡ Some c.get-link.result.now) at c.get-link.ensures)
          c.put.new.self.items c.put.ensures.items;
    }

pub invariant_of-self : goal.invariant_of-self
invariant_of-self g c =
    let left-is : c.loop-left.left ≡ c.args.mark.arcs = omega arith in
    let le : c.args.mark.nodes ≤ length c.loop-left.self-inside.first.items = subst (λ n. c.args.mark.nodes ≤ n) (sym c.loop-left.invariant.nodes) c.requires.nodes in
    let cut = ap length c.cut_to.ensures.items ∙ length-take-le c.args.mark.arcs c.loop-left.self-inside.ends.items
    (subst (λ k. k ≤ length c.loop-left.self-inside.ends.items) left-is c.loop-left.invariant.within) in
    let whole : length c.self.inside.ends.items ≡ length c.args.self.now.arcs = ap (λ net. length net.arcs) c.self.view_is in
    let there = c.requires.arcs in
    let few = c.self.invariant.0 in (
      omega (arith, cut, whole, there, few),
      linked-undo g.N.Index.place_of (λ place. place) g.met.N.Index.is_one c.loop-left.self-inside.first.items c.cut_to-3.new.self.items
          c.loop-left.self-inside.ends.items c.cut_to.new.self.items c.args.self.now.arcs c.loop-left.self-inside.links.items c.cut_to-2.new.self.items
          c.loop-left.left c.args.mark.arcs c.args.mark.nodes
          left-is c.loop-left.invariant.linked le c.loop-left.invariant.ends c.requires.inside
          c.cut_to-3.ensures.items c.cut_to.ensures.items c.cut_to-2.ensures.items,
    )

pub unwrap-arc-requires : goal.unwrap-arc-requires
unwrap-arc-requires g c = some-if_not_none c.from_place.result (λ none.
    let most = c.from_place.ensures.none.0 none in
    let test = c.loop-left-test.true in
    let within = c.loop-left.invariant.within in
    let ends = ap length c.loop-left.invariant.ends in
    let whole = ap (λ net. length net.arcs) c.self.view_is in
    let few = c.self.invariant.0 in
    omega (arith, most, test, within, ends, whole, few))

pub loop-left-init : goal.loop-left-init
loop-left-init g c =
    let all = c.len-left.ensures.length in
    let net = c.self.view_is in
    let many = c.requires.arcs in
    let whole : length c.self.inside.ends.items ≡ length c.args.self.now.arcs = ap (λ net. length net.arcs) net in
    record {
      many = omega (arith, all, many, whole);
      within = omega (arith, all);
      ends = ap (λ net. net.arcs) net;
      nodes = ap (λ net. net.nodes) net;
      linked = linked-whole g.N.Index.place_of (λ place. place) g.met.N.Index.is_one c.self.inside.first.items c.self.inside.ends.items c.self.inside.links.items
          c.len-left.result all c.self.invariant.1;
    }

pub returns : goal.returns
returns g c =
    let le : c.args.mark.nodes ≤ length c.loop-left.self-inside.first.items = subst (λ n. c.args.mark.nodes ≤ n) (sym c.loop-left.invariant.nodes) c.requires.nodes in
    same-net _ _ (ap length c.cut_to-3.ensures.items ∙ length-take-le c.args.mark.nodes c.loop-left.self-inside.first.items le)
    (c.cut_to.ensures.items ∙ ap (take c.args.mark.arcs) c.loop-left.invariant.ends)

pub overflow_sub-left : goal.overflow_sub-left
overflow_sub-left g c = let test = c.loop-left-test.true in omega (arith, test)

pub loop-left-smaller : goal.loop-left-smaller
loop-left-smaller g c = let test = c.loop-left-test.true in omega (arith, test)
