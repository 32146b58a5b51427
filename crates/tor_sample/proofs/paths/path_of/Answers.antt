use Rattle.std.proofs.Common.{◌≡◌, ◌++◌, ◌∷◌, [], if◌then◌else◌, sym, ap, ap₂, ◌∙◌, eq-eqb, ne_eqb}
use Rattle.std.proofs.lemmas.List.{append_assoc}
use Rattle.tor_sample.specs.Paths.{path_between, prepended, last}
use Rattle.tor_sample.proofs.Turning.{path_of-is}
use Rattle.tor_sample.proofs.paths.path_of.Goals as goal

pub returns-then-below-eq0 : goal.returns-then-below-eq0
returns-then-below-eq0 c =
    let path = c.turned-path.result.items in
    let end : c.last-end.result ≡ last path = c.last-end.ensures ∙ ap last c.as_slice-then-below-eq0.ensures.value in
    path_of-is c.args.networks.now c.args.number c.below-from.result c.below-to.result c.below.result _ _ _ _ _ _ _ c.climb-up.result.items c.climb-down.result.items path
    c.below-from.ensures.drawn c.below-to.ensures.drawn c.climb-up.ensures.drawn c.climb-down.ensures.drawn
    (ap₂ (λ up down. path_between c.args.networks.now c.args.number c.below-from.result up down c.climb-down.new.draws.state) (sym c.as_slice.ensures.value) (sym c.as_slice-2.ensures.value)
    ∙ c.turned-path.ensures.drawn) c.below.ensures.drawn
    ∙ ap (λ p. (p, c.below.new.self.state)) (
    ap (λ b. if b then prepended path else path) (eq-eqb c.below.result 0 c.if-below-eq0.true)
    ∙ sym (c.push-then-below-eq0.ensures.items ∙ ap (λ xs. xs ++ c.last-end.result ∷ []) c.push.ensures.items
    ∙ append_assoc path (c.last-end.result ∷ []) (c.last-end.result ∷ []) ∙ ap (λ e. path ++ e ∷ e ∷ []) end))

pub returns-else-below-eq0 : goal.returns-else-below-eq0
returns-else-below-eq0 c =
    path_of-is c.args.networks.now c.args.number c.below-from.result c.below-to.result c.below.result _ _ _ _ _ _ _ c.climb-up.result.items c.climb-down.result.items c.turned-path.result.items
    c.below-from.ensures.drawn c.below-to.ensures.drawn c.climb-up.ensures.drawn c.climb-down.ensures.drawn
    (ap₂ (λ up down. path_between c.args.networks.now c.args.number c.below-from.result up down c.climb-down.new.draws.state) (sym c.as_slice.ensures.value) (sym c.as_slice-2.ensures.value)
    ∙ c.turned-path.ensures.drawn) c.below.ensures.drawn
    ∙ ap (λ b. (if b then prepended c.turned-path.result.items else c.turned-path.result.items, c.below.new.self.state)) (ne_eqb c.below.result 0 c.if-below-eq0.false)
