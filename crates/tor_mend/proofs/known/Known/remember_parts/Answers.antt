use Rattle.std.proofs.Common.{Bool, true, false, not, ◌==◌, eqb-true, ◌≡◌, ◌+◌, ◌-◌, ◌<◌, ◌≤◌, ℕ, List, Some, get_or, length, refl, ap, sym, ◌∙◌, subst, arith}
use Rattle.std.specs.Prelude.{slice_get}
use Rattle.std.proofs.lemmas.Bool.{false≢true}
use Rattle.std.proofs.lemmas.List.{length-set}
use Rattle.tor_digraph.specs.declared.way.Way.{Way}
use Rattle.tor_clauses.specs.Literals.{opposite_node}
use Rattle.tor_clauses.proofs.Adding.{get_from_or}
use Rattle.tor_mend.specs.declared.known.Part.{Part}
use Rattle.tor_mend.specs.declared.known.Known.{Known}
use Rattle.tor_mend.specs.Ways.{IsPart}
use Rattle.tor_mend.proofs.Knowing.{way_inside}
use Rattle.tor_mend.proofs.Knowing.{known_part}
use Rattle.tor_mend.proofs.known.Known.remember_parts.Goals as goal

not_false : (b : Bool) → not b ≡ false → b ≡ true
not_false true e = refl
not_false false e = absurd (false≢true (sym e))

-- what a slice holds at a place stands there in the list
read_at : (list items : List ℕ) (k x : ℕ) → items ≡ list → k < length items → x ≡ get_or items k x → slice_get list k ≡ Some x
read_at list items k x same lt is = subst (λ l. slice_get l k ≡ Some x) same (get_from_or items k x lt is)

pub put-requires : goal.put-requires
put-requires c =
    let way : Way ℕ ℕ = c.args.way.now in
    let skip = c.loop-skip.skip in
    let from = c.index-nodes-skip.result in
    let lt = c.loop-skip-test.true in
    let long = ap length c.as_slice-nodes.ensures in
    let more = c.requires.led.2.one_more in
    let at = read_at way.nodes c.as_slice-nodes.result.now skip from c.as_slice-nodes.ensures (omega (arith, lt)) c.index-nodes-skip.is in
    let inside = way_inside c.args.fitted.now.formula.net.arcs c.args.fitted.now.formula.net.nodes c.facts.ensures.inside.tails c.requires.led.0 c.requires.led.1 way c.requires.led.2 skip from
    (omega (arith, lt, long, more)) at in
    let room = c.loop-skip.invariant.room in
    omega (arith, inside, room)

pub loop-skip-preserved : goal.loop-skip-preserved
loop-skip-preserved c =
    let arcs = c.args.fitted.now.formula.net.arcs in
    let items = c.as_slice-nodes.result.now in
    let way : Way ℕ ℕ = c.args.way.now in
    let skip = c.loop-skip.skip in
    let from = c.index-nodes-skip.result in
    let last = c.index-nodes-last.result in
    let lt = c.loop-skip-test.true in
    let long = ap length c.as_slice-nodes.ensures in
    let more = c.requires.led.2.one_more in
    let fits : skip + skip ≤ length way.arcs = omega (arith, lt, long, more) in
    let at = read_at way.nodes items skip from c.as_slice-nodes.ensures (omega (arith, lt)) c.index-nodes-skip.is in
    let count = c.len-last.ensures in
    let to : slice_get way.nodes (length way.arcs - skip) ≡ Some last = subst (λ n. slice_get way.nodes (n - skip) ≡ Some last) count
    (read_at way.nodes items (c.len-last.result - skip) last c.as_slice-nodes.ensures (omega (arith, lt, long, more, count)) c.index-nodes-last.is) in
    let opposite : last ≡ opposite_node from = eqb-true last c.negation_node.result (not_false (last == c.negation_node.result) (sym c.ne.ensures ∙ c.if-ne.false)) ∙ c.negation_node.ensures in
    let part : Part = record { way = c.args.place; skip = skip } in
    let old : Known = c.loop-skip.self in
    let new : Known = record { places = c.put.new.self; parts = c.push.new.self; ways = c.loop-skip.self.ways } in
    let is : IsPart arcs way skip from = record {
      from = c.requires.led.0;
      to = c.requires.led.1;
      led = c.requires.led.2;
      fits = fits;
      begins = at;
      ends = to ∙ ap (λ (n : ℕ). Some n) opposite;
    } in
    record {
      room = subst (λ n. c.args.fitted.now.formula.net.nodes ≤ n) (sym (ap length c.put.ensures.items ∙ length-set c.loop-skip.self.places.items from (Some c.in-Ok.part))) c.loop-skip.invariant.room;
      there = c.loop-skip.invariant.there;
      known = known_part arcs c.args.first from c.in-Ok.part part way old new c.loop-skip.invariant.there is c.requires.early (c.in-Ok.ensures.1
          ∙ c.len.ensures) refl c.in_ok-push.ensures.ok
          c.put.ensures.items c.loop-skip.invariant.known;
    }
