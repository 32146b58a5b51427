use Rattle.std.proofs.Common.{◌≡◌, ◌∙◌, ◌+◌, ◌<◌, ◌++◌, ◌∷◌, [], length, set, length-set, sym, ap, subst, arith}
use Rattle.std.proofs.lemmas.List.{length_push}
use Rattle.tor_digraph.proofs.Chains.{linked-add_made, same-net}
use Rattle.tor_digraph.proofs.digraph.Digraph.add_arc.Goals as goal

pub invariant_of-self : goal.invariant_of-self
invariant_of-self g c = rw (c.make_room.ensures.ends, c.make_room.ensures.links) c.self.invariant

pub invariant_of-self-2 : goal.invariant_of-self-2
invariant_of-self-2 g c =
    let chained = linked-add_made g.N.Index.place_of (λ place. place) g.met.N.Index.is_one c.self.inside.first.items c.self.inside.ends.items
    c.self.inside.links.items c.args.tail c.args.head (g.A.Index.place_of c.push_reserved-arc.result) c.get-link.result.now c.self.invariant.1
    (subst (λ v. g.N.Index.place_of c.args.tail < v.nodes) (sym c.self.view_is) c.requires.tail)
    (subst (λ v. g.N.Index.place_of c.args.head < v.nodes) (sym c.self.view_is) c.requires.head)
    _ _ c.make_room.ensures.ends c.make_room.ensures.links c.push_reserved-arc.ensures.index c.get-link.ensures
    _ _ _ (c.put.ensures.items ∙ ap (set c.self.inside.first.items (g.N.Index.place_of c.args.tail)) c.of.ensures) c.push_reserved-arc.ensures.added c.push_reserved.ensures.added
    in
    let test = c.if-len-LIMIT.false in
    let all = c.len.ensures in
    let count = all.length in
    let below = all.below in
    let most = c.LIMIT.ensures in
    let free : length c.self.inside.ends.items < g.A.Index.LIMIT = omega (arith, test, count, below, most) in
    let same : length c.make_room.new.ends.items ≡ length c.self.inside.ends.items = ap length c.make_room.ensures.ends in
    let many : length c.push_reserved-arc.new.self.items ≡ length c.make_room.new.ends.items + 1 =
    ap length c.push_reserved-arc.ensures.added ∙ length_push c.make_room.new.ends.items (c.args.tail, c.args.head) in
    (omega (arith, free, same, many), chained)

pub get-link-requires : goal.get-link-requires
get-link-requires g c = subst (λ v. g.N.Index.place_of c.args.tail < v.nodes) (sym c.self.view_is) c.requires.tail

pub put-requires : goal.put-requires
put-requires g c = subst (λ v. g.N.Index.place_of c.args.tail < v.nodes) (sym c.self.view_is) c.requires.tail

pub push_reserved-arc-requires-clause-below : goal.push_reserved-arc-requires-clause-below
push_reserved-arc-requires-clause-below g c =
    let test = c.if-len-LIMIT.false in
    let all = c.len.ensures in
    let count = all.length in
    let below = all.below in
    let most = c.LIMIT.ensures in
    let same = ap length c.make_room.ensures.ends in
    omega (arith, test, count, below, most, same)

pub push_reserved-requires-clause-below : goal.push_reserved-requires-clause-below
push_reserved-requires-clause-below g c =
    let test = c.if-len-LIMIT.false in
    let all = c.len.ensures in
    let count = all.length in
    let below = all.below in
    let most = c.LIMIT.ensures in
    let same = ap length c.make_room.ensures.links in
    let many = c.self.invariant.1.as_many in
    omega (arith, test, count, below, most, same, many)

pub returns-clause-index : goal.returns-clause-index
returns-clause-index g c = c.push_reserved-arc.ensures.index ∙ ap length c.make_room.ensures.ends ∙ ap (λ v. length v.arcs) c.self.view_is

pub returns-clause-added : goal.returns-clause-added
returns-clause-added g c = same-net _ _
    (ap length c.put.ensures.items ∙ length-set _ _ _ ∙ ap (λ v. v.nodes) c.self.view_is)
    (c.push_reserved-arc.ensures.added ∙ ap (λ arcs. arcs ++ (c.args.tail, c.args.head) ∷ []) (c.make_room.ensures.ends ∙ ap (λ v. v.arcs) c.self.view_is))

pub returns-clause-full : goal.returns-clause-full
returns-clause-full g c = (
  (λ bad. cc),
  λ full. absurd (c.if-len-LIMIT.false
      (let all = c.len.ensures in all.length ∙ ap (λ v. length v.arcs) c.self.view_is ∙ full ∙ sym c.LIMIT.ensures)),
)
