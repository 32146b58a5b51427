-- The command line of `tor`, as clap reads it:
-- `tor [--list] [--survey] [--ties] [--ask] [--serial1] [--as-sets VALUE] [--ratio NUMBER] [--max-paths NUMBER] [--sample NUMBER]
-- [--given FILE] [--migrate] [--resume RESULT] [--order VALUE] [--top LIST] [DUMP ..]`.
use Rattle.std.specs.Prelude.{[], ◌∷◌, codes}
use Rattle.clap.specs.Words.{App}
use Rattle.tor_arena.specs.Limits.{max_paths, max_ratio}
use Rattle.tor_words.specs.Rules.{command_of, flag_rule, number_rule, option_rule, rest_rule}

unfoldable pub tor_command : App
tor_command = command_of (codes "tor")
    (flag_rule (codes "list")
    ∷ flag_rule (codes "survey")
    ∷ flag_rule (codes "ties")
    ∷ flag_rule (codes "ask")
    ∷ flag_rule (codes "serial1")
    ∷ option_rule (codes "as-sets")
    ∷ number_rule (codes "ratio") 0 max_ratio
    ∷ number_rule (codes "max-paths") 1 max_paths
    ∷ number_rule (codes "sample") 0 18446744073709551615
    ∷ option_rule (codes "given")
    ∷ flag_rule (codes "migrate")
    ∷ option_rule (codes "resume")
    ∷ option_rule (codes "order")
    ∷ option_rule (codes "top")
    ∷ rest_rule (codes "dump")
    ∷ [])
