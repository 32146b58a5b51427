-- The settings that words give to a check.
use Rattle.std.specs.Prelude.{List, Option, option_map, codes}
use Rattle.clap.specs.Words.{Row, Text, first_of, fault_of, matches_of}
use Rattle.tor_words.specs.declared.check_settings.CheckSettings.{CheckSettings}
use Rattle.tor_words.specs.Given.{has_flag, names_in, unless_fault}
use Rattle.tor_words.specs.TorcheckCommand.{torcheck_command}

-- the settings that these matches give: the first word is the result, and the others are dumps
abbrev pub check_settings_in : List Row → Option CheckSettings
check_settings_in rows =
    option_map (λ name. record { result = name; dumps = names_in rows; any_order = has_flag (codes "any-order") rows })
    (first_of (codes "result") rows)

-- the settings that the words give, where clap takes them
unfoldable pub check_settings_given : List Text → Option CheckSettings
check_settings_given words = unless_fault (fault_of torcheck_command words) (check_settings_in (matches_of torcheck_command words))
