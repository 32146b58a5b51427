-- The command line of `torgrade`, as clap reads it: `torgrade [--cone NUMBER] REL [DUMP ..]`.
use Rattle.std.specs.Prelude.{[], ◌∷◌, codes}
use Rattle.clap.specs.Words.{App}
use Rattle.tor_words.specs.Rules.{command_of, needed_rule, number_rule, rest_rule}

unfoldable pub torgrade_command : App
torgrade_command =
    command_of (codes "torgrade") (number_rule (codes "cone") 0 4294967295 ∷ needed_rule (codes "rel") ∷ rest_rule (codes "dump") ∷ [])
