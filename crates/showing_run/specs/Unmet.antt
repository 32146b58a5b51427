-- Why there is no result that meets the rules, and why nothing is shown of one that does.
use Rattle.std.specs.Prelude.{◌≡◌, ℕ, List, Option, None, string_bytes, ⊤}
use Rattle.std.specs.Io.KnownBytes.{IsAtEnd}
use Rattle.tor_io.specs.Contents.{Files}
use Rattle.result_text.specs.declared.file.ResultFile.{ResultFile}
use Rattle.result_rules.specs.declared.verdict.Verdict.TheVariants.{No}
use Rattle.run_base.specs.declared.notes.FirstFile.TheVariants.{Result as result_file}
use Rattle.run_base.specs.declared.stop.Stop.{Stop}
use Rattle.run_base.specs.declared.stop.Stop.TheVariants as stop
use Rattle.run_base.specs.declared.whole_file.Unread.TheVariants as unread
use Rattle.run_base.specs.Programs.{HasOctets, IsAbsent, IsTooLong}
use Rattle.run_base.specs.WholeFile.{LeavesRest, LeavesOnly}
use Rattle.result_file.specs.Limits.{max_result}
use Rattle.result_file.specs.Ruled.{BreaksRule}
use Rattle.showing_run.specs.Asking.{Asking}

-- the file of this name holds no such result, for this
abbrev pub HoldsNone : Option Files → (steady : Type 0) → List ℕ → Stop → Type 0
HoldsNone known steady name (stop.First file unread.Failed) = (file ≡ result_file) × (steady → IsAbsent known name)
HoldsNone known steady name (stop.First file unread.TooLong) = (file ≡ result_file) × IsTooLong known name max_result
HoldsNone known steady name (stop.First file unread.NoMemory) = file ≡ result_file
HoldsNone known steady name (stop.BadLine file line) = ⊥
HoldsNone known steady name (stop.Broken line rule) =
    (bytes : List ℕ) × HasOctets known name max_result bytes × BreaksRule bytes (No line rule)
HoldsNone known steady name (stop.Lacks note) = ⊥
HoldsNone known steady name (stop.Dumps stopped) = ⊥
HoldsNone known steady name stop.NoMemory = ⊥

-- and so far it was read: whole where a rule is broken, of a file that is too long no more than shows it, and of one of which a read
-- failed at most as much
abbrev pub HoldsNoneInReach : Option Files → (left : Option (List ℕ)) → List ℕ → Stop → Type 0
HoldsNoneInReach known left name (stop.First file why) =
    LeavesOnly max_result name known left × (why ≡ unread.TooLong → LeavesRest max_result name known left)
HoldsNoneInReach known left name (stop.Broken line rule) = IsAtEnd left
HoldsNoneInReach known left name _ = ⊤

-- what is asked for isn't there, as this text says, or memory ran out
abbrev pub SaysAbsent : List ℕ → Stop → Type 0
SaysAbsent text (stop.Lacks note) = string_bytes note ≡ text
SaysAbsent text stop.NoMemory = ⊤
SaysAbsent text _ = ⊥

-- and so it is with this result
abbrev pub IsUnanswered : {S : Type 0} → Asking S → S → ResultFile → Stop → Type 0
IsUnanswered ask settings file (stop.Lacks note) = (string_bytes note ≡ ask.absent settings) × ask.IsAnswer settings file None
IsUnanswered ask settings file stop.NoMemory = ⊤
IsUnanswered ask settings file _ = ⊥
