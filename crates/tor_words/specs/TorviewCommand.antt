-- The command line of `torview`, as clap reads it: `torview [--most NUMBER] [--depth NUMBER] [--link URL] RESULT AS`.
use Rattle.std.specs.Prelude.{[], ◌∷◌, codes}
use Rattle.clap.specs.Words.{App}
use Rattle.tor_words.specs.Rules.{command_of, needed_rule, number_rule, option_rule}

unfoldable pub torview_command : App
torview_command = command_of (codes "torview")
    (number_rule (codes "most") 1 2000 ∷ number_rule (codes "depth") 1 8 ∷ option_rule (codes "link")
    ∷ needed_rule (codes "result") ∷ needed_rule (codes "as") ∷ [])
