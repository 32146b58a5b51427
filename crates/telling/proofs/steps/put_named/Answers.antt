use Rattle.std.proofs.Common.{inl, refl, sym, ap}
use Rattle.telling.specs.WalkText.{named_text}
use Rattle.telling.proofs.NamingLemmas.{naming_as, naming_no_path, named_path}
use Rattle.telling.proofs.steps.put_named.Goals as goal

pub returns-then-link-eq0 : goal.returns-then-link-eq0
returns-then-link-eq0 g c =
    let link = c.args.link.now in
    naming_as (naming_no_path c.args.named.now link.path (inl c.if-link-eq0.true) c.put_given.ensures)
    (λ before. ap (λ p. named_text c.args.file.now before p link.at) (sym c.if-link-eq0.true)) refl

pub returns-else-link-eq0 : goal.returns-else-link-eq0
returns-else-link-eq0 g c =
    let link = c.args.link.now in
    naming_as c.put_path.ensures (λ before. named_path c.args.file.now before link.path link.at c.if-link-eq0.false) refl
