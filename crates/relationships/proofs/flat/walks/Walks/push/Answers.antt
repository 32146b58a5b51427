use Rattle.std.proofs.Common.{◌≡◌, ◌∙◌, ap, ap₂, rules, ◌∷◌, ◌++◌, []}
use Rattle.relationships.specs.Flat.{walk_with, walks_by}
use Rattle.relationships.proofs.FlatLemmas.{walks_by-push}
use Rattle.relationships.proofs.flat.walks.Walks.push.Goals as goal

pub returns-clause-added : goal.returns-clause-added
returns-clause-added c =
    let ases : c.push_row.new.self ≡ c.self.inside.ases ++ c.args.ases.now ∷ [] = search rules in
    let links : c.push_row-2.new.self ≡ c.self.inside.links ++ c.args.links.now ∷ [] = search rules in
    ap₂ walks_by ases links ∙ walks_by-push c.self.inside.ases c.self.inside.links c.args.ases.now c.args.links.now c.self.invariant
    ∙ ap (λ ws. ws ++ walk_with c.args.ases.now c.args.links.now ∷ []) c.self.view_is
