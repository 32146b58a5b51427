-- The command line of `torcheck`, as clap reads it: `torcheck [--any-order] RESULT [DUMP ..]`.
use Rattle.std.specs.Prelude.{[], ◌∷◌, codes}
use Rattle.clap.specs.Words.{App}
use Rattle.tor_words.specs.Rules.{command_of, flag_rule, needed_rule, rest_rule}

unfoldable pub torcheck_command : App
torcheck_command = command_of (codes "torcheck")
    (flag_rule (codes "any-order") ∷ needed_rule (codes "result") ∷ rest_rule (codes "dump") ∷ [])
