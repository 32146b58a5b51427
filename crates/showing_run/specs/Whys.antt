-- What `torwhy` asks of a result: why an edge is what it is, why a path is kept or lost, or which neighbours an AS has.
use Rattle.std.specs.Prelude.{◌≡◌, ℕ, List, [], ◌∷◌, ◌++◌, Option, Some, None, Contains, codes, decimal}
use Rattle.result_text.specs.declared.file.ResultFile.{ResultFile}
use Rattle.neighbour_text.specs.declared.neighbourhood.Neighbourhood.{Neighbourhood}
use Rattle.neighbour_text.specs.NeighbourText.{IsNeighbourhood, neighbourhood_text}
use Rattle.result_rules.specs.File.{its_paths}
use Rattle.telling.specs.declared.told.Question.{Question}
use Rattle.telling.specs.declared.told.Question.TheVariants as question
use Rattle.telling.specs.declared.told.Told.{Told}
use Rattle.telling.specs.Told.{Answers}
use Rattle.telling.specs.ToldText.{told_text}
use Rattle.tor_words.specs.declared.why_settings.Asked.{Asked}
use Rattle.tor_words.specs.declared.why_settings.Asked.TheVariants as asked
use Rattle.tor_words.specs.declared.why_settings.WhySettings.{WhySettings}
use Rattle.tor_words.specs.WhyGiven.{why_settings_given}
use Rattle.showing_run.specs.Asking.{Asking}
use Rattle.showing_run.specs.declared.tale.Said.{Said}
use Rattle.showing_run.specs.declared.tale.Said.TheVariants as said
use Rattle.showing_run.specs.declared.tale.Tale.{Tale}

-- the note that there is no such edge, path or AS
abbrev pub absent_note : Asked → List ℕ
absent_note (asked.Edge one other) = codes "absent|" ++ decimal one ++ codes "|" ++ decimal other ++ 10 ∷ []
absent_note (asked.Path number) = codes "absent|" ++ decimal number ++ 10 ∷ []
absent_note (asked.Neighbours a) = codes "absent|" ++ decimal a ++ 10 ∷ []

-- the text is that of what is told of the edge or path in question; or there is no such edge, or no such path
abbrev pub IsToldOf : ResultFile → Question → Option (List ℕ) → Type 0
IsToldOf file of None = Answers file of None
IsToldOf file of (Some text) = (tale : Told) × Answers file of (Some tale) × (text ≡ told_text file tale)

-- the AS stands on a path of the result, kept or lost
abbrev pub IsOnPath : ResultFile → ℕ → Type 0
IsOnPath file a = (path : List ℕ) × Contains (its_paths file) path × Contains path a

-- the text is that of the neighbours of the AS after the edges of the result; or it stands on no path
abbrev pub IsToldAround : ResultFile → ℕ → Option (List ℕ) → Type 0
IsToldAround file a None = IsOnPath file a → ⊥
IsToldAround file a (Some text) = IsOnPath file a × ((n : Neighbourhood) × IsNeighbourhood a file.edges n × (text ≡ neighbourhood_text n))

-- the text answers what the words ask
abbrev pub IsToldAsked : Asked → ResultFile → Option (List ℕ) → Type 0
IsToldAsked (asked.Edge one other) file text = IsToldOf file (question.Edge one other) text
IsToldAsked (asked.Path number) file text = IsToldOf file (question.Path number) text
IsToldAsked (asked.Neighbours a) file text = IsToldAround file a text

abbrev pub IsTold : WhySettings → ResultFile → Option (List ℕ) → Type 0
IsTold settings file text = IsToldAsked settings.asked file text

-- what `torwhy` asks
abbrev pub telling : Asking WhySettings
telling = record {
  given = why_settings_given;
  result = λ settings. settings.result;
  IsAnswer = IsTold;
  absent = λ settings. absent_note settings.asked;
}

-- the text of what is told of a result
abbrev pub said_text : ResultFile → Said → List ℕ
said_text file (said.Told tale) = told_text file tale
said_text file (said.Around neighbours) = neighbourhood_text neighbours

abbrev pub tale_text : Tale → List ℕ
tale_text tale = said_text tale.file tale.said

-- the result of which it is told
abbrev pub its_result : Tale → ResultFile
its_result tale = tale.file
