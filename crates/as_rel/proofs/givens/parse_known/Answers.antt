use Rattle.std.proofs.Common.{◌≡◌, ◌≤◌, ◌∙◌, ◌+◌, ◌*◌, List, length, ap, sym, subst}
use Rattle.relationships.specs.declared.given.Given.{Given}
use Rattle.relationships.specs.Givens.{NameTwo, NameOnce}
use Rattle.as_rel.specs.Givens.{givens_in}
use Rattle.as_rel.proofs.FewLines.{few_lines_law, few_givens_in}
use Rattle.as_rel.proofs.GivenLines.{name_two, name_once}
use Rattle.as_rel.proofs.givens.parse_known.Goals as goal

pub returns-clause-two : goal.returns-clause-two
returns-clause-two c =
    let is : c.take_known.new.known.givens ≡ givens_in c.in_ok-rel.rel = (rw c.new.ensures at c.in_ok-take_known.ensures.givens) ∙ ap givens_in c.lines.ensures.lines in
    subst NameTwo (sym is) (name_two c.in_ok-rel.rel c.lines.ensures.sound)

pub returns-clause-once : goal.returns-clause-once
returns-clause-once c =
    let is : c.take_known.new.known.givens ≡ givens_in c.in_ok-rel.rel = (rw c.new.ensures at c.in_ok-take_known.ensures.givens) ∙ ap givens_in c.lines.ensures.lines in
    subst NameOnce (sym is) (name_once c.in_ok-rel.rel c.lines.ensures.sound)

pub returns-clause-few : goal.returns-clause-few
returns-clause-few c =
    let is : c.take_known.new.known.givens ≡ givens_in c.in_ok-rel.rel = (rw c.new.ensures at c.in_ok-take_known.ensures.givens) ∙ ap givens_in c.lines.ensures.lines in
    let few = few_lines_law c.args.bytes.now c.in_ok-rel.rel c.in_ok-rel.ensures.ok in
    subst (λ (gs : List Given). 6 * length gs ≤ length c.args.bytes.now + 1) (sym is) (few_givens_in c.args.bytes.now c.in_ok-rel.rel few)
