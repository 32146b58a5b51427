use Rattle.std.proofs.Common.{◌≡◌, ◌∙◌, ◌<◌, ◌+◌, ◌∷◌, [], ◌++◌, List, Bool, ℕ, true, false, get_or, length, set, sym, subst, ap}
use Rattle.std.proofs.lemmas.List.{get_or_default}
use Rattle.telling.specs.PathText.{AreFlagged}
use Rattle.telling.proofs.NamingLemmas.{path_named}
use Rattle.telling.proofs.named.NamedPaths.name.Goals as goal

pub returns-clause-before : goal.returns-clause-before
returns-clause-before c before are =
    let items = c.self.inside.flags.items in
    let view : items ≡ c.args.self.now = c.self.view_is in
    let at : c.place-place.result ≡ c.args.path = c.place-place.ensures.place in
    let inside : c.args.path < length c.args.self.now = c.requires in
    c.index-before.ensures ∙ ap (λ k. get_or items k c.index-before.result.now) at ∙ ap (λ (l : List Bool). get_or l c.args.path c.index-before.result.now) view
    ∙ get_or_default c.args.self.now c.args.path c.index-before.result.now false inside ∙ are.each c.args.path inside

pub returns-clause-after : goal.returns-clause-after
returns-clause-after c before are =
    let view : c.self.inside.flags.items ≡ c.args.self.now = c.self.view_is in
    let at : c.place-place.result ≡ c.args.path = c.place-place.ensures.place in
    subst (λ k. AreFlagged (before ++ (c.args.path + 1) ∷ []) (set c.self.inside.flags.items k true)) (sym at)
    (subst (λ (l : List Bool). AreFlagged (before ++ (c.args.path + 1) ∷ []) (set l c.args.path true)) (sym view) (path_named before c.args.self.now c.args.path c.requires are))
