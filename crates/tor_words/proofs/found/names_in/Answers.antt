use Rattle.std.proofs.Common.{◌∙◌, ap, [], codes, ℕ, List}
use Rattle.std.specs.Prelude.{unwrap_or, Option}
use Rattle.std.proofs.lemmas.Result.{IfOk-weaker}
use Rattle.clap.specs.Words.{found_of}
use Rattle.clap.proofs.WalkLemmas.{raw_values-rows}
use Rattle.tor_words.proofs.found.names_in.Goals as goal

abbrev or_none : Option (List (List ℕ)) → List (List ℕ)
or_none o = unwrap_or o []

pub returns-in-Some : goal.returns-in-Some
returns-in-Some c =
    let rows = ap or_none (c.in-Some.ensures ∙ raw_values-rows (found_of c.args.matches.now) (codes "dump")) in
    IfOk-weaker c.names_of.result _ _ (λ names h. h ∙ rows) c.names_of.ensures

pub returns-in-None : goal.returns-in-None
returns-in-None c =
    c.new.ensures ∙ ap or_none (c.in-None.ensures ∙ raw_values-rows (found_of c.args.matches.now) (codes "dump"))
