-- What a program asks of a result that its words name, and what it is to its run.
use Rattle.std.specs.Prelude.{◌≡◌, [], ℕ, List, Option, None, Some, ⊤}
use Rattle.tor_io.specs.Contents.{Files}
use Rattle.result_text.specs.declared.file.ResultFile.{ResultFile}
use Rattle.result_rules.specs.declared.verdict.Verdict.TheVariants.{No}
use Rattle.run_base.specs.declared.notes.FirstFile.TheVariants.{Result}
use Rattle.run_base.specs.declared.status.Status.TheVariants.{Done}
use Rattle.run_base.specs.Opening.{AllRead}
use Rattle.run_base.specs.Programs.{Reads, Outcome, Makes, NoFile, TooLong, BadLine, Breaks, Lacks, Ends, Program}
use Rattle.run_base.specs.Programs.{HasOctets, IsAbsent, IsTooLong}
use Rattle.result_file.specs.Limits.{max_result}
use Rattle.result_file.specs.Ruled.{BreaksRule, IsAccepted}

-- what a program asks: the settings that its words give, the name of the result file that they have, what answers of a result that meets
-- the rules 0 to 10, which is a text or that it isn't there, and the note where it isn't
pub record Asking (Settings : Type 0) : Type 1 where
  pub given : List (List ℕ) → Option Settings
  pub result : Settings → List ℕ
  pub IsAnswer : Settings → ResultFile → Option (List ℕ) → Type 0
  pub absent : Settings → List ℕ

-- the result file alone is read, at most 2 ^ 31 octets
abbrev pub reads_in : {S : Type 0} → Asking S → S → Option Reads
reads_in ask settings =
    Some (record { first = Some (record { name = ask.result settings; most = max_result; kind = Result }); dumps = [] })

-- the file of this name, as far as it is known, holds this result, which meets the rules 0 to 10
abbrev pub HoldsMet : Option Files → List ℕ → ResultFile → Type 0
HoldsMet known name file = (bytes : List ℕ) × HasOctets known name max_result bytes × IsAccepted file bytes

-- what the settings and the file come to: a result of which a text answers; or what is asked for isn't there, as the note says
abbrev pub GivesAnswer : {S : Type 0} → Asking S → S → Option Files → Outcome ResultFile → Type 0
GivesAnswer ask settings known (Makes file) =
    HoldsMet known (ask.result settings) file × ((text : List ℕ) × ask.IsAnswer settings file (Some text))
GivesAnswer ask settings known NoFile = IsAbsent known (ask.result settings)
GivesAnswer ask settings known TooLong = IsTooLong known (ask.result settings) max_result
GivesAnswer ask settings known (BadLine line) = ⊥
GivesAnswer ask settings known (Breaks line rule) =
    (bytes : List ℕ) × HasOctets known (ask.result settings) max_result bytes × BreaksRule bytes (No line rule)
GivesAnswer ask settings known (Lacks note) =
    (note ≡ ask.absent settings) × ((file : ResultFile) × HoldsMet known (ask.result settings) file × ask.IsAnswer settings file None)
GivesAnswer ask settings known (Ends end) = ⊥

-- a text that answers is written, and nothing is noted
abbrev pub IsWrittenAnswer : {S : Type 0} → Asking S → S → ResultFile → (text note : List ℕ) → Type 0
IsWrittenAnswer ask settings file text note = ask.IsAnswer settings file (Some text) × (note ≡ [])

abbrev pub showing : {S : Type 0} → Asking S → Program S ResultFile
showing ask = record {
  given = ask.given;
  reads = reads_in ask;
  Gives = GivesAnswer ask;
  Before = λ settings known number. ⊤;
  status = λ file. Done;
  end = λ file. AllRead;
  IsText = IsWrittenAnswer ask;
}
