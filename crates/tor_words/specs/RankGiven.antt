-- The settings that words give to a ranking.
use Rattle.std.specs.Prelude.{Bool, true, false, List, Option, Some, None, option_map, option_and_then, codes}
use Rattle.clap.specs.Words.{Row, Text, first_of, fault_of, matches_of}
use Rattle.tor_words.specs.declared.rank_settings.RankTask.{RankTask}
use Rattle.tor_words.specs.declared.rank_settings.RankTask.TheVariants.{Ranks, Cones, Cycles}
use Rattle.tor_words.specs.declared.rank_settings.RankSettings.{RankSettings}
use Rattle.tor_words.specs.Given.{has_flag, unless_fault}
use Rattle.tor_words.specs.TorrankCommand.{torrank_command}

-- what is asked for: the cones with `--cones`, the cycles with `--cycles`, the ranks with neither, and nothing with both
abbrev pub rank_task : (cones cycles : Bool) → Option RankTask
rank_task false false = Some Ranks
rank_task true false = Some Cones
rank_task false true = Some Cycles
rank_task true true = None

abbrev pub rank_task_in : List Row → Option RankTask
rank_task_in rows = rank_task (has_flag (codes "cones") rows) (has_flag (codes "cycles") rows)

-- the settings that these matches give: the one word is the file of relationships
abbrev pub rank_settings_in : List Row → Option RankSettings
rank_settings_in rows =
    option_and_then (λ name. option_map (λ task. record { rel = name; task = task }) (rank_task_in rows)) (first_of (codes "rel") rows)

-- the settings that the words give, where clap takes them
unfoldable pub rank_settings_given : List Text → Option RankSettings
rank_settings_given words = unless_fault (fault_of torrank_command words) (rank_settings_in (matches_of torrank_command words))
