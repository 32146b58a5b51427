use Rattle.std.proofs.Common.{[], ◌∷◌, ◌++◌, ◌∙◌, ap, map, append_assoc}
use Rattle.std.specs.List.{enumerate_from}
use Rattle.drawing.specs.declared.group.Group.{Group}
use Rattle.drawing.specs.Page.{band_y, customers_y, peers_y, rows_above, rows_of}
use Rattle.drawing.specs.Picture.{high_band, near_band}
use Rattle.drawing.proofs.drawing.put_bands.Goals as goal

pub returns : goal.returns
returns c =
    let p = c.args.plan.now in
    let counts = c.args.counts.now in
    let high = map (high_band p) (enumerate_from 0 c.args.sizes.now) in
    let first = near_band p (band_y p 0) (rows_above p) Group.Providers counts.providers in
    let second = near_band p (peers_y p) (rows_of p.beside) Group.Peers counts.peers in
    let third = near_band p (customers_y p) (rows_of p.below) Group.Customers counts.customers in
    let none = c.in_ok-put_high_bands.ensures ∙ ap (λ xs. xs ++ high) c.requires.none in
    let one = c.in_ok-push.ensures.items ∙ ap (λ xs. xs ++ c.providers_band.result ∷ []) none ∙ ap (λ b. high ++ b ∷ []) c.providers_band.ensures in
    let two = c.in_ok-push-2.ensures.items ∙ ap (λ xs. xs ++ c.peers_band.result ∷ []) one ∙ ap (λ b. (high ++ first ∷ []) ++ b ∷ []) c.peers_band.ensures
    ∙ append_assoc high (first ∷ []) (second ∷ []) in
    c.in_ok-push-3.ensures.items ∙ ap (λ xs. xs ++ c.customers_band.result ∷ []) two
    ∙ ap (λ b. (high ++ first ∷ second ∷ []) ++ b ∷ []) c.customers_band.ensures ∙ append_assoc high (first ∷ second ∷ []) (third ∷ [])
