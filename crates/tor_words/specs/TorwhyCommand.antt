-- The command line of `torwhy`, as clap reads it: `torwhy [--path NUMBER] RESULT [AS ..]`.
use Rattle.std.specs.Prelude.{[], ◌∷◌, codes}
use Rattle.clap.specs.Words.{App}
use Rattle.tor_words.specs.Rules.{command_of, needed_rule, number_rule, rest_rule}

unfoldable pub torwhy_command : App
torwhy_command =
    command_of (codes "torwhy") (number_rule (codes "path") 0 4294967295 ∷ needed_rule (codes "result") ∷ rest_rule (codes "as") ∷ [])
