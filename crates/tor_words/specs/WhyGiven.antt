-- The settings that words give to a telling.
use Rattle.std.specs.Prelude.{◌==◌, ℕ, List, [], ◌∷◌, Option, Some, None, unwrap_or, if◌then◌else◌, codes}
use Rattle.clap.specs.Words.{Row, Text, all_of, first_of, fault_of, matches_of}
use Rattle.tor_words.specs.declared.why_settings.Asked.{Asked}
use Rattle.tor_words.specs.declared.why_settings.Asked.TheVariants.{Edge, Path, Neighbours}
use Rattle.tor_words.specs.declared.why_settings.WhySettings.{WhySettings}
use Rattle.tor_words.specs.AsWords.{as_named}
use Rattle.tor_words.specs.Given.{short_number, unless_fault}
use Rattle.tor_words.specs.TorwhyCommand.{torwhy_command}

-- the ASes behind the result, in the order of the words
abbrev pub ases_in : List Row → List Text
ases_in rows = unwrap_or (all_of (codes "as") rows) []

-- the edge of two ASes, which have to differ
abbrev pub edge_asked : (one other : Option ℕ) → Option Asked
edge_asked None other = None
edge_asked (Some one) None = None
edge_asked (Some one) (Some other) = if one == other then None else Some (Edge one other)

abbrev pub path_asked : Option ℕ → Option Asked
path_asked None = None
path_asked (Some number) = Some (Path number)

-- the neighbours of an AS
abbrev pub neighbours_asked : Option ℕ → Option Asked
neighbours_asked None = None
neighbours_asked (Some a) = Some (Neighbours a)

-- the neighbours of one AS, or the edge of two
abbrev pub ases_asked : List Text → Option Asked
ases_asked [] = None
ases_asked (a ∷ []) = neighbours_asked (as_named a)
ases_asked (a ∷ b ∷ []) = edge_asked (as_named a) (as_named b)
ases_asked (a ∷ b ∷ c ∷ ases) = None

-- what is asked: of the path of a number, with no AS beside it, or of ASes
abbrev pub what_asked : (path : Option Text) → (ases : List Text) → Option Asked
what_asked (Some path) [] = path_asked (short_number path)
what_asked (Some path) (a ∷ ases) = None
what_asked None ases = ases_asked ases

-- what these matches ask
abbrev pub asked_in : List Row → Option Asked
asked_in rows = what_asked (first_of (codes "path") rows) (ases_in rows)

-- a result has to be named
abbrev pub telling_of : (result : Option Text) → Option Asked → Option WhySettings
telling_of None asked = None
telling_of (Some name) None = None
telling_of (Some name) (Some asked) = Some (record { result = name; asked = asked })

-- the settings that these matches give: the first word is the result, and the others are ASes
abbrev pub why_settings_in : List Row → Option WhySettings
why_settings_in rows = telling_of (first_of (codes "result") rows) (asked_in rows)

-- the settings that the words give, where clap takes them
unfoldable pub why_settings_given : List Text → Option WhySettings
why_settings_given words = unless_fault (fault_of torwhy_command words) (why_settings_in (matches_of torwhy_command words))
