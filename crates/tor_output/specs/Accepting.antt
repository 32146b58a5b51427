-- What a result has beside the definitions that it follows from.
use Rattle.std.specs.Prelude.{◌≡◌, ℕ, List, Option, Some}
use Rattle.tor_io.specs.Contents.{Files}
use Rattle.as_rel.specs.declared.givens.KnownLines.{KnownLines}
use Rattle.dump_read.specs.declared.taking.Taken.{Taken}
use Rattle.result_text.specs.declared.file.ResultFile.{ResultFile}
use Rattle.rel_infer.specs.SelfAcceptance.{AreTableRows, IsVouchedFor}
use Rattle.tor_words.specs.declared.settings.Settings.{Settings}
use Rattle.tor_words.specs.Given.{settings_given}
use Rattle.tor_output.specs.First.{AreSound}
use Rattle.tor_output.specs.Output.{Faithful, paths_taken}
use Rattle.tor_output.specs.Seen.{ComesTo, Reads}

-- the result meets the rules 1 to 10 of a checker, and rule 11 over what the dumps gave, in the order of the settings; its peerings may be read either way, and none
-- is left out
abbrev pub IsVouchedIn : Settings → Taken → ResultFile → Type 0
IsVouchedIn settings taken file = IsVouchedFor settings.ratio (paths_taken settings taken) taken.counts file

-- of paths as a table has them, of sound givens, and of settings that words give, each result that is faithful has all this
abbrev pub FaithfulLaw : Type 0
FaithfulLaw =
    (words : List (List ℕ)) (settings : Settings) (known : Option KnownLines) (taken : Taken) (file : ResultFile) →
    settings_given words ≡ Some settings → AreSound known → AreTableRows taken.table.rows → Faithful settings known taken file →
    IsVouchedIn settings taken file

-- the paths that dumps give are as a table has them, and what a file of known relationships says is sound
abbrev pub TableLaw : Type 0
TableLaw =
    (words : List (List ℕ)) (settings : Settings) (files : Files) (known : Option KnownLines) (taken : Taken) →
    settings_given words ≡ Some settings →
    ComesTo settings files (Reads known taken) → AreTableRows taken.table.rows × AreSound known
