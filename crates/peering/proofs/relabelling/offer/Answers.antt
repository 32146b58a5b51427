use Rattle.std.proofs.Common.{rules, ◌≡◌, ◌∙◌, inl, inr, [], get_or, set, IsTrue, IsFalse, sym, ap, subst}
use Rattle.std.proofs.lemmas.Bool.{false≢true}
use Rattle.relationships.specs.declared.label.Label.{Label}
use Rattle.peering.specs.Peerings.{NoPeers}
use Rattle.peering.proofs.Reading.{set_back}
use Rattle.peering.proofs.relabelling.offer.Goals as goal

pub returns-then-not-are_no_peers : goal.returns-then-not-are_no_peers
returns-then-not-are_no_peers c =
    let old = c.args.labels.now in
    let edge = c.args.edge in
    let places = get_or c.args.partners.now edge [] in
    let some : IsFalse c.are_no_peers.result = search rules in
    let first : get_or c.as_slice.result.now c.place.result Label.Low ≡ get_or old edge Label.Low =
    ap (λ l. get_or l c.place.result Label.Low) c.as_slice.ensures ∙ ap (λ k. get_or old k Label.Low) c.place.ensures.place in
    let back : c.set-then-not-are_no_peers.new.self ≡ set c.set.new.self edge (get_or old edge Label.Low) =
    c.set-then-not-are_no_peers.ensures ∙ ap (set c.set.new.self edge) first in
    inr (
      λ none. false≢true (sym some ∙ c.are_no_peers.ensures.1 (subst (λ l. NoPeers l places) (sym (c.as_slice-2.ensures ∙ c.set.ensures)) none)),
      back ∙ ap (λ l. set l edge (get_or old edge Label.Low)) c.set.ensures ∙ set_back old edge Label.Peer Label.Low,
    )

pub returns-else-not-are_no_peers : goal.returns-else-not-are_no_peers
returns-else-not-are_no_peers c =
    let places = get_or c.args.partners.now c.args.edge [] in
    let none : IsTrue c.are_no_peers.result = search rules in
    inl (subst (λ l. NoPeers l places) (c.as_slice-2.ensures ∙ c.set.ensures) (c.are_no_peers.ensures.0 none), c.set.ensures)
