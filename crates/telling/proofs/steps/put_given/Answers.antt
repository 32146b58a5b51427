use Rattle.std.proofs.Common.{◌≡◌, ◌∙◌, ◌∷◌, ◌++◌, Some, sym, ap}
use Rattle.std.proofs.lemmas.List.{append-nil}
use Rattle.std.specs.Fmt.{decimal}
use Rattle.relationships.specs.declared.given.Given.{Given}
use Rattle.result_text.specs.Text.{its_givens}
use Rattle.tor_io.proofs.Putting.{puts_as, puts_then}
use Rattle.telling.specs.WalkText.{if_there, numbered, given_text}
use Rattle.telling.proofs.steps.put_given.Goals as goal

pub returns-in-Some : goal.returns-in-Some
returns-in-Some g c =
    let given = c.in-Some.given in
    let there : Some given ≡ numbered (its_givens c.args.file.now) c.args.number =
    sym c.in-Some.is ∙ c.given_numbered.ensures ∙ ap (λ givens. numbered givens c.args.number) c.givens_of.ensures in
    let over = puts_as c.put_number_behind.ensures (ap (λ n. 124 ∷ decimal n) c.from.ensures) in
    let under = puts_as c.put_number_behind-in-Some.ensures (ap (λ n. 32 ∷ decimal n) c.from-in-Some.ensures) in
    puts_as (puts_then over under)
    (ap (λ t. 124 ∷ (decimal given.over ++ t)) (sym (append-nil (32 ∷ decimal given.under))) ∙ ap (if_there (λ (given : Given). 124 ∷ given_text given)) there)
