use Rattle.std.proofs.Common.{◌≡◌, ◌+◌, ◌++◌, ◌∷◌, [], ◌∙◌, length, Some, sym, ap, subst, arith}
use Rattle.std.specs.Prelude.{IfSome, slice_get}
use Rattle.std.proofs.lemmas.Option.{slice_get-get_or}
use Rattle.tor_digraph.specs.Links.{NoArcIn}
use Rattle.as_ranks.specs.Lots.{IsNodeCone, picked}
use Rattle.as_ranks.proofs.LotLemmas.{alone, no-arc}
use Rattle.as_ranks.proofs.Rising.{rising-at}
use Rattle.as_ranks.proofs.cones.find_in.Goals as goal

pub returns-then-is_none-clause-row : goal.returns-then-is_none-clause-row
returns-then-is_none-clause-row c =
    let ases = c.args.net.now.net.ases.items in
    let graph = c.args.net.now.net.graph in
    let place = c.args.base + c.args.lane in
    let a = c.index.result.now in
    let same : c.unwrap.result ≡ place = subst (λ o. IfSome o (λ i. i ≡ place)) c.unwrap.ensures c.from_place.ensures.some in
    let at : slice_get ases place ≡ Some a = slice_get-get_or ases place a c.requires.place ∙ ap (λ z. Some z) (sym c.index.ensures) in
    let none = no-arc (λ z. z) graph.arcs c.unwrap.result (length graph.arcs) c.first_arc.result c.first_arc.ensures c.if-is_none.ensures in
    subst (IsNodeCone ases graph place) (sym (c.push_reserved.ensures.items ∙ ap (λ l. l ++ a ∷ []) c.clear.ensures.items))
    (alone ases graph (rising-at ases c.requires.net.rising) place a at (subst (λ z. NoArcIn graph.arcs z 0 (length graph.arcs)) same none))

pub returns-else-is_none-clause-row : goal.returns-else-is_none-clause-row
returns-else-is_none-clause-row c =
    let net = c.args.net.now.net in
    let place = c.requires.place in
    let aligned = c.requires.net.aligned in
    subst (IsNodeCone net.ases.items net.graph (c.args.base + c.args.lane)) (sym (c.pick.ensures.picked ∙ ap (picked c.args.lane) c.deref.ensures.value))
    (c.requires.lot.cones c.args.lane c.requires.lane (omega (arith, place, aligned)))
