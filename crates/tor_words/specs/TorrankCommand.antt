-- The command line of `torrank`, as clap reads it: `torrank [--cones | --cycles] REL`.
use Rattle.std.specs.Prelude.{[], ◌∷◌, codes}
use Rattle.clap.specs.Words.{App}
use Rattle.tor_words.specs.Rules.{command_of, flag_rule, needed_rule}

unfoldable pub torrank_command : App
torrank_command =
    command_of (codes "torrank") (flag_rule (codes "cones") ∷ flag_rule (codes "cycles") ∷ needed_rule (codes "rel") ∷ [])
