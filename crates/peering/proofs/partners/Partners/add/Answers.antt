use Rattle.std.proofs.Common.{rules, ◌≡◌, ◌<◌, ◌+◌, ◌++◌, ◌∷◌, ◌∙◌, [], length, get_or, map, set, sym, ap, ap₂, subst}
use Rattle.std.proofs.lemmas.List.{length-map, get_or_default}
use Rattle.peering.specs.declared.partners.Link.{Link}
use Rattle.peering.specs.Chains.{chain}
use Rattle.peering.proofs.Chaining.{chains_more}
use Rattle.peering.proofs.partners.Partners.add.Goals as goal

pub returns-clause-added : goal.returns-clause-added
returns-clause-added c =
    let heads = c.self.inside.heads.items in
    let links = c.self.inside.links.items in
    let edge = c.args.edge in
    let next = c.index-next.result.now in
    let partner = c.place-partner.result in
    let link : Link = record { partner = partner; next = next } in
    let many = length-map heads (chain links) in
    let lt : edge < length heads = subst (λ n. edge < n) (ap length (sym c.self.view_is) ∙ many) c.requires.edge in
    let read : next ≡ get_or heads edge next = c.index-next.ensures ∙ ap (λ k. get_or heads k next) c.place.ensures.place in
    let counted : c.len-count.result ≡ length links = search rules in
    ap (λ l. map (chain l) (set heads c.place-2.result (c.len-count.result + 1))) c.in_ok-push.ensures.items ∙
    ap₂ (λ k n. map (chain (links ++ link ∷ [])) (set heads k (n + 1))) c.place-2.ensures.place counted ∙
    chains_more heads links link edge lt c.self.invariant (read ∙ get_or_default heads edge next 0 lt) ∙
    ap₂ (λ v p. set v edge (p ∷ get_or v edge [])) c.self.view_is c.place-partner.ensures.place
