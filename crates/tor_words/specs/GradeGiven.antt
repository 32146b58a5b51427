-- The settings that words give to a grading.
use Rattle.std.specs.Prelude.{ℕ, List, [], ◌∷◌, Option, Some, None, option_map, codes}
use Rattle.clap.specs.Words.{Row, Text, first_of, fault_of, matches_of}
use Rattle.tor_words.specs.declared.grade_settings.GradeSettings.{GradeSettings}
use Rattle.tor_words.specs.Given.{names_in, number_in, unless_fault}
use Rattle.tor_words.specs.TorgradeCommand.{torgrade_command}

-- the AS whose cone is asked for, if `--cone` is there; nothing where it is there and names none
abbrev pub cone_in : Option Text → Option (Option ℕ)
cone_in None = Some None
cone_in (Some text) = option_map Some (number_in 0 4294967295 text)

-- a file of relationships has to be named, and at least one dump
abbrev pub grading_of : (rel asked : Option Text) (dumps : List Text) → Option GradeSettings
grading_of None asked dumps = None
grading_of (Some name) asked [] = None
grading_of (Some name) asked (dump ∷ dumps) =
    option_map (λ of. record { rel = name; cone = of; dumps = dump ∷ dumps }) (cone_in asked)

-- the settings that these matches give: the first word is the file of relationships, and the others are dumps
abbrev pub grade_settings_in : List Row → Option GradeSettings
grade_settings_in rows = grading_of (first_of (codes "rel") rows) (first_of (codes "cone") rows) (names_in rows)

-- the settings that the words give, where clap takes them
unfoldable pub grade_settings_given : List Text → Option GradeSettings
grade_settings_given words = unless_fault (fault_of torgrade_command words) (grade_settings_in (matches_of torgrade_command words))
