use Rattle.std.proofs.Common.{◌≡◌, inl, inr, refl, sym, ap, ◌∙◌, subst}
use Rattle.std.proofs.lemmas.Bool.{false≢true, both_ways}
use Rattle.std.specs.Option.{option_copied}
use Rattle.std.proofs.lemmas.Option.{same_Some, none-some}
use Rattle.relationships.specs.Evidence.{TripleAt}
use Rattle.line_rules.proofs.walks.links.link_fits.Goals as goal

pub returns-then-fits_given : goal.returns-then-fits_given
returns-then-fits_given c = (λ t. inl (c.fits_given.ensures.0 c.if-fits_given.true), λ f. refl)

pub returns-in-Some : goal.returns-in-Some
returns-in-Some c = (
  λ t. inr (c.in-Some.path.now, ap option_copied c.in-Some.is, c.fits.ensures.0 t),
  λ f. elim f [
    | inl g ↦ absurd (both_ways c.fits_given.result c.if-fits_given.false (c.fits_given.ensures.1 g))
    | inr k ↦
        let e : c.in-Some.path.now ≡ k.0 = same_Some _ _ (sym (ap option_copied c.in-Some.is) ∙ k.1) in
        c.fits.ensures.1 (subst (λ p. TripleAt p c.args.link.now.at c.args.x c.args.y c.args.z) (sym e) k.2)
  ],
)

pub returns-in-None : goal.returns-in-None
returns-in-None c = (
  λ t. absurd (false≢true t),
  λ f. elim f [
    | inl g ↦ absurd (both_ways c.fits_given.result c.if-fits_given.false (c.fits_given.ensures.1 g))
    | inr k ↦ absurd (none-some k.0 (sym (ap option_copied c.in-None.is) ∙ k.1))
  ],
)
