-- The command line of `torleak`, as clap reads it: `torleak RESULT DUMP ..`.
use Rattle.std.specs.Prelude.{[], ◌∷◌, codes}
use Rattle.clap.specs.Words.{App}
use Rattle.tor_words.specs.Rules.{command_of, needed_rule, rest_rule}

unfoldable pub torleak_command : App
torleak_command = command_of (codes "torleak") (needed_rule (codes "result") ∷ rest_rule (codes "dump") ∷ [])
