use Rattle.std.proofs.Common.{◌∙◌, ap, ap₂, [], codes, ℕ, List}
use Rattle.std.specs.Prelude.{unwrap_or, Option}
use Rattle.clap.specs.Words.{found_of}
use Rattle.clap.proofs.WalkLemmas.{raw_values-rows}
use Rattle.tor_words.specs.WhyGiven.{what_asked}
use Rattle.tor_words.proofs.why_settings.asked_in.Goals as goal

abbrev or_none : Option (List (List ℕ)) → List (List ℕ)
or_none o = unwrap_or o []

pub returns-in-Some : goal.returns-in-Some
returns-in-Some c =
    c.what_asked.ensures ∙ ap₂ what_asked c.first-path.ensures (ap or_none (c.in-Some.ensures ∙ raw_values-rows (found_of c.args.matches.now) (codes "as")))

pub returns-in-None : goal.returns-in-None
returns-in-None c =
    c.what_asked-in-None.ensures ∙ ap₂ what_asked c.first-path.ensures (ap or_none (c.in-None.ensures ∙ raw_values-rows (found_of c.args.matches.now) (codes "as")))
