use Rattle.std.proofs.Common.{◌≡◌, ◌+◌, ◌-◌, ◌<◌, Some, length, take, drop, refl, sym, subst, arith}
use Rattle.std.specs.Prelude.{slice_get}
use Rattle.tor_digraph.specs.InRows.{IsRow, count_at}
use Rattle.tor_digraph.proofs.Floods.{read-at}
use Rattle.tor_digraph.proofs.Filling.{row-order, row-within, row-many, row-is}
use Rattle.tor_digraph.proofs.rows.RowDigraph.row.Goals as goal

pub prove-unreachable-requires : goal.prove-unreachable-requires
prove-unreachable-requires g c =
    let net = c.self.inside.graph.now in
    let starts = c.self.inside.starts.items in
    let there = subst (λ n. g.N.Index.place_of c.args.node < n.nodes) (sym c.self.view_is) c.requires in
    let many = c.self.invariant.many in
    let place = c.place-place.ensures.place in
    let at-s = read-at starts starts c.place-place.result c.index.result.now refl c.index.ensures (omega (arith, many, place, there)) in
    let at-t = read-at starts starts (c.place-place.result + 1) c.index-2.result.now refl c.index-2.ensures (omega (arith, many, place, there)) in
    let order = row-order g.N.Index.place_of g.A.Index.place_of net.arcs starts c.self.inside.rows.items c.self.invariant.filled c.args.node c.index.result.now c.index-2.result.now
    (subst (λ p. slice_get starts p ≡ Some c.index.result.now) place at-s) (subst (λ p. slice_get starts (p + 1) ≡ Some c.index-2.result.now) place at-t) in
    let test = c.if-prove.true in
    omega (arith, order, test)

pub prove-unreachable-requires-2 : goal.prove-unreachable-requires-2
prove-unreachable-requires-2 g c =
    let net = c.self.inside.graph.now in
    let starts = c.self.inside.starts.items in
    let there = subst (λ n. g.N.Index.place_of c.args.node < n.nodes) (sym c.self.view_is) c.requires in
    let many = c.self.invariant.many in
    let place = c.place-place.ensures.place in
    let at-s = read-at starts starts c.place-place.result c.index.result.now refl c.index.ensures (omega (arith, many, place, there)) in
    let at-t = read-at starts starts (c.place-place.result + 1) c.index-2.result.now refl c.index-2.ensures (omega (arith, many, place, there)) in
    let within = row-within g.N.Index.place_of g.A.Index.place_of net.arcs starts c.self.inside.rows.items c.self.invariant.filled c.args.node c.index.result.now c.index-2.result.now
    (subst (λ p. slice_get starts p ≡ Some c.index.result.now) place at-s) (subst (λ p. slice_get starts (p + 1) ≡ Some c.index-2.result.now) place at-t) in
    let test = c.if-prove-2.true in
    let count = c.len.ensures in
    omega (arith, within, test, count)

pub returns-clause-row : goal.returns-clause-row
returns-clause-row g c =
    let net = c.self.inside.graph.now in
    let starts = c.self.inside.starts.items in
    let there = subst (λ n. g.N.Index.place_of c.args.node < n.nodes) (sym c.self.view_is) c.requires in
    let many = c.self.invariant.many in
    let place = c.place-place.ensures.place in
    let s = c.index.result.now in
    let t = c.index-2.result.now in
    let at-s = read-at starts starts c.place-place.result s refl c.index.ensures (omega (arith, many, place, there)) in
    let at-t = read-at starts starts (c.place-place.result + 1) t refl c.index-2.ensures (omega (arith, many, place, there)) in
    let is = row-is g.N.Index.place_of g.A.Index.place_of net.arcs starts c.self.inside.rows.items c.self.invariant.filled c.args.node s t
    (subst (λ p. slice_get starts p ≡ Some s) place at-s) (subst (λ p. slice_get starts (p + 1) ≡ Some t) place at-t) in
    subst (λ n. IsRow g.A.Index.place_of n.arcs c.args.node (take (t - s) (drop s c.deref.result.now))) c.self.view_is
    (subst (λ l. IsRow g.A.Index.place_of net.arcs c.args.node (take (t - s) (drop s l))) (sym c.deref.ensures.value) is)

pub returns-clause-many : goal.returns-clause-many
returns-clause-many g c =
    let net = c.self.inside.graph.now in
    let starts = c.self.inside.starts.items in
    let there = subst (λ n. g.N.Index.place_of c.args.node < n.nodes) (sym c.self.view_is) c.requires in
    let many = c.self.invariant.many in
    let place = c.place-place.ensures.place in
    let s = c.index.result.now in
    let t = c.index-2.result.now in
    let at-s = read-at starts starts c.place-place.result s refl c.index.ensures (omega (arith, many, place, there)) in
    let at-t = read-at starts starts (c.place-place.result + 1) t refl c.index-2.ensures (omega (arith, many, place, there)) in
    let is = row-many g.N.Index.place_of g.A.Index.place_of net.arcs starts c.self.inside.rows.items c.self.invariant.filled c.args.node s t
    (subst (λ p. slice_get starts p ≡ Some s) place at-s) (subst (λ p. slice_get starts (p + 1) ≡ Some t) place at-t) in
    subst (λ n. length (take (t - s) (drop s c.deref.result.now)) ≡ count_at g.N.Index.place_of n.arcs (g.N.Index.place_of c.args.node)) c.self.view_is
    (subst (λ l. length (take (t - s) (drop s l)) ≡ count_at g.N.Index.place_of net.arcs (g.N.Index.place_of c.args.node)) (sym c.deref.ensures.value) is)
