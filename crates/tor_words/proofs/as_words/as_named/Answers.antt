use Rattle.std.proofs.Common.{◌≡◌, ◌∙◌, ◌++◌, sym, ap}
use Rattle.std.specs.Prelude.{codes}
use Rattle.tor_words.proofs.AsWords.{with_as, without_as}
use Rattle.tor_words.proofs.as_words.as_named.Goals as goal

pub returns-in-Some : goal.returns-in-Some
returns-in-Some c =
    let word = c.args.word.now in
    let found = c.in-Some.ensures.cases in
    let is : word ≡ codes "AS" ++ c.in-Some.number.now = found.1.1 ∙ ap (λ t. codes "AS" ++ t) (sym found.2) in
    c.short_number.ensures ∙ with_as word c.in-Some.number.now is

pub returns-in-None : goal.returns-in-None
returns-in-None c = c.short_number-in-None.ensures ∙ without_as c.args.word.now c.in-None.ensures.cases
