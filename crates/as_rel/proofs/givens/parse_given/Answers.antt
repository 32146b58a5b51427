use Rattle.std.proofs.Common.{◌≡◌, ◌∙◌, ap, sym, subst}
use Rattle.relationships.specs.Givens.{NameTwo, NameOnce}
use Rattle.as_rel.specs.Givens.{givens_in}
use Rattle.as_rel.proofs.GivenLines.{name_two, name_once}
use Rattle.as_rel.proofs.givens.parse_given.Goals as goal

pub returns-clause-two : goal.returns-clause-two
returns-clause-two c =
    let is : c.take_givens.new.givens ≡ givens_in c.in_ok-rel.rel = (rw c.new-givens.ensures at c.in_ok-take_givens.ensures) ∙ ap givens_in c.lines.ensures.lines in
    subst NameTwo (sym is) (name_two c.in_ok-rel.rel c.lines.ensures.sound)

pub returns-clause-once : goal.returns-clause-once
returns-clause-once c =
    let is : c.take_givens.new.givens ≡ givens_in c.in_ok-rel.rel = (rw c.new-givens.ensures at c.in_ok-take_givens.ensures) ∙ ap givens_in c.lines.ensures.lines in
    subst NameOnce (sym is) (name_once c.in_ok-rel.rel c.lines.ensures.sound)
