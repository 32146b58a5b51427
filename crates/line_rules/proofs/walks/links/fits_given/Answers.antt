use Rattle.std.proofs.Common.{◌≡◌, sym, ◌∙◌, subst}
use Rattle.std.proofs.lemmas.Bool.{false≢true}
use Rattle.std.proofs.lemmas.Option.{same_Some, none-some}
use Rattle.relationships.specs.declared.given.Given.{Given}
use Rattle.line_rules.proofs.walks.links.fits_given.Goals as goal

pub returns-in-Some : goal.returns-in-Some
returns-in-Some c = (
  λ t.
      let s = c.is_return.ensures.0 t in
      record { apart = c.if-link-ne0.false; given = c.in-Some.given; named = (c.given_named.ensures c.in-Some.given).1 c.in-Some.is; first = s.0; second = s.1; third = s.2 },
  λ f.
      let e : c.in-Some.given ≡ f.given = same_Some _ _ (sym c.in-Some.is ∙ (c.given_named.ensures f.given).0 f.named) in
      c.is_return.ensures.1 (subst (λ (g : Given). (c.args.x ≡ g.under) × (c.args.y ≡ g.over) × (c.args.z ≡ g.under)) (sym e) (f.first, f.second, f.third)),
)

pub returns-in-None : goal.returns-in-None
returns-in-None c = (
  λ t. absurd (false≢true t),
  λ f. absurd (none-some f.given (sym c.in-None.is ∙ (c.given_named.ensures f.given).0 f.named)),
)
