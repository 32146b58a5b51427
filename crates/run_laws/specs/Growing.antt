-- What a result has decided stays so, whatever dumps are added.
use Rattle.std.specs.Prelude.{◌≡◌, ℕ, List, ◌++◌, Option, Some}
use Rattle.tor_io.specs.Contents.{Files}
use Rattle.dump_read.specs.declared.taking.Taken.{Taken}
use Rattle.as_rel.specs.declared.givens.KnownLines.{KnownLines}
use Rattle.result_text.specs.declared.file.ResultFile.{ResultFile}
use Rattle.result_rules.specs.File.{its_givens}
use Rattle.result_rules.specs.Rules.{Accepts}
use Rattle.result_laws.specs.Growing.{StaysDecided}
use Rattle.tor_words.specs.declared.settings.Settings.{Settings}
use Rattle.tor_words.specs.Given.{settings_given}
use Rattle.tor_output.specs.Output.{Faithful, IsResumed}
use Rattle.tor_output.specs.Resuming.{IsOfDumps}
use Rattle.tor_output.specs.Seen.{ComesTo, Reads, Joins}

-- where a run takes up a result, what that has decided stays so in the one that is made on top of it
abbrev pub ResumedStaysLaw : Type 0
ResumedStaysLaw =
    (words : List (List ℕ)) (settings : Settings) (files : Files) (earlier : ResultFile) (taken : Taken) (file : ResultFile) →
    settings_given words ≡ Some settings → ComesTo settings files (Joins earlier taken) → IsResumed settings earlier taken file →
    StaysDecided earlier file

-- and so it stays where a result is of the octets of an earlier one's dumps and then of others, with its sets and its givens, whether it
-- was made of all of them in one run or not
abbrev pub AddedStaysLaw : Type 0
AddedStaysLaw =
    (dumps more : List (List ℕ)) (earlier later : ResultFile) → Accepts earlier → Accepts later → IsOfDumps earlier dumps →
    IsOfDumps later (dumps ++ more) → later.sets ≡ earlier.sets → its_givens later ≡ its_givens earlier → StaysDecided earlier later

-- there is always a result: some is faithful to what is known and to what dumps or a sample gave
abbrev pub SomeFaithfulLaw : Type 0
SomeFaithfulLaw =
    (words : List (List ℕ)) (settings : Settings) (files : Files) (known : Option KnownLines) (taken : Taken) →
    settings_given words ≡ Some settings → ComesTo settings files (Reads known taken) →
    (file : ResultFile) × Faithful settings known taken file
