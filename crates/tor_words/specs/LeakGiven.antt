-- The settings that words give to a hunt for leaks.
use Rattle.std.specs.Prelude.{List, [], ◌∷◌, Option, Some, None, codes}
use Rattle.clap.specs.Words.{Row, Text, first_of, fault_of, matches_of}
use Rattle.tor_words.specs.declared.leak_settings.LeakSettings.{LeakSettings}
use Rattle.tor_words.specs.Given.{names_in, unless_fault}
use Rattle.tor_words.specs.TorleakCommand.{torleak_command}

-- a result has to be named, and at least one dump
abbrev pub hunt_of : (result : Option Text) (dumps : List Text) → Option LeakSettings
hunt_of None dumps = None
hunt_of (Some name) [] = None
hunt_of (Some name) (dump ∷ dumps) = Some (record { result = name; dumps = dump ∷ dumps })

-- the settings that these matches give: the first word is the result, and the others are dumps
abbrev pub leak_settings_in : List Row → Option LeakSettings
leak_settings_in rows = hunt_of (first_of (codes "result") rows) (names_in rows)

-- the settings that the words give, where clap takes them
unfoldable pub leak_settings_given : List Text → Option LeakSettings
leak_settings_given words = unless_fault (fault_of torleak_command words) (leak_settings_in (matches_of torleak_command words))
