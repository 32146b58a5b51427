use Rattle.std.proofs.Common.{◌≡◌, ◌<◌, ◌/◌, ◌%◌, Some, List, length, inl, inr, refl, set, sym, ap, ap₂, ◌∙◌, subst, arith, length-set}
use Rattle.std.specs.Prelude.{slice_get, slice_index_or}
use Rattle.std.proofs.lemmas.Bool.{cases_eq}
use Rattle.std.proofs.lemmas.Option.{slice_get_within}
use Rattle.relationships.specs.declared.label.End.{End}
use Rattle.as_graph.specs.EdgeSteps.{end_of}
use Rattle.tor_clauses.specs.Literals.{Literal}
use Rattle.tor_clauses.proofs.Ways.{some_same}
use Rattle.tor_mend.specs.declared.flipping.Flip.{Flip}
use Rattle.tor_mend.specs.Mends.{AreInside}
use Rattle.tor_mend.proofs.Scans.{get_at}
use Rattle.tor_mend.proofs.Flips.{back_more, inside_more, flipped_begun, flipped_next, flipped_done}
use Rattle.tor_mend.proofs.flipping.flip_all.Goals as goal

pub loop-place-init : goal.loop-place-init
loop-place-init c = record {
  many = refl;
  flips = c.requires.flips;
  back = refl;
  inside = λ k x lt at. absurd (omega (arith, lt));
  flipped = flipped_begun c.args.ends.now c.args.visited.now.items;
}

pub loop-place-preserved : goal.loop-place-preserved
loop-place-preserved c =
    let visited = c.args.visited.now.items in
    let cur = c.loop-place.ends in
    let i = c.loop-place.place in
    let x = c.get.result in
    let e = c.edge-edge.result in
    let o = c.over.result in
    let lit = c.of_node-lit.ensures.literal in
    let many = c.loop-place.invariant.many in
    let at = c.get.ensures.node in
    let below = c.get.ensures.there in
    let count = c.requires.count in
    let edge : e ≡ x / 2 = c.edge-edge.ensures ∙ ap (λ (m : Literal). m.edge) lit in
    let over : o ≡ end_of (x % 2) = c.over.ensures ∙ ap (λ (m : Literal). m.over) lit in
    let lt : e < length cur = omega (arith, below, count, edge, many) in
    let was : End = slice_index_or c.as_slice.result.now c.place.result End.Low in
    let flip : Flip = record { edge = e; was = was } in
    let there : slice_get c.as_slice.result.now c.place.result ≡ Some was =
    get_at c.as_slice.result.now c.place.result End.Low (omega (arith, lt, c.place.ensures.place, ap length c.as_slice.ensures)) in
    let own : slice_get cur e ≡ Some was =
    subst (λ k. slice_get cur k ≡ Some was) c.place.ensures.place
    (subst (λ (ends : List End). slice_get ends c.place.result ≡ Some was) c.as_slice.ensures there) in
    let same : length c.set.new.self ≡ length cur = ap length c.set.ensures ∙ length-set cur e o in
    record {
      many = same ∙ many;
      flips = subst (λ n. AreInside n c.push.new.self) (sym same) (inside_more (length cur) c.loop-place.flips c.push.new.self flip lt c.in_ok-push.ensures.ok c.loop-place.invariant.flips);
      back = back_more cur c.set.new.self c.loop-place.flips c.push.new.self flip o own c.in_ok-push.ensures.ok c.set.ensures ∙ c.loop-place.invariant.back;
      inside = λ k y before here. elim (cases_eq k i) [
        | inl last ↦ (let is = some_same (sym here ∙ ap (slice_get visited) last ∙ at) in omega (arith, is, below, count))
        | inr other ↦ c.loop-place.invariant.inside k y (omega (arith, before, other)) here
      ];
      flipped = flipped_next c.args.ends.now visited c.requires.unheld cur c.set.new.self i x at (omega (arith, below, count)) many
          c.loop-place.invariant.flipped (c.set.ensures ∙ ap₂ (set cur) edge over);
    }

pub returns-clause-inside : goal.returns-clause-inside
returns-clause-inside c = λ k x at.
    let lt = slice_get_within c.args.visited.now.items k x at in
    c.loop-place.invariant.inside k x (omega (arith, lt, c.loop-place-test.false, c.len-place-end.ensures)) at

pub returns-clause-agreed : goal.returns-clause-agreed
returns-clause-agreed c = flipped_done c.args.ends.now c.args.visited.now.items c.loop-place.ends c.loop-place.place (omega (arith, c.loop-place-test.false, c.len-place-end.ensures)) c.loop-place.invariant.flipped

pub bounds-as_slice-place : goal.bounds-as_slice-place
bounds-as_slice-place c =
    let x = c.get.result in
    let edge : c.edge-edge.result ≡ x / 2 = c.edge-edge.ensures ∙ ap (λ (m : Literal). m.edge) c.of_node-lit.ensures.literal in
    omega (arith, c.loop-place.invariant.many, c.get.ensures.there, c.requires.count, edge, c.place.ensures.place, ap length c.as_slice.ensures)

pub set-requires : goal.set-requires
set-requires c =
    let x = c.get.result in
    let edge : c.edge-edge.result ≡ x / 2 = c.edge-edge.ensures ∙ ap (λ (m : Literal). m.edge) c.of_node-lit.ensures.literal in
    omega (arith, c.loop-place.invariant.many, c.get.ensures.there, c.requires.count, edge)
