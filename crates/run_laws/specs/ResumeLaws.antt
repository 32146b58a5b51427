-- What a run that takes up a result says together with the runs before it: where the earlier result is of some dumps, the one that is
-- written is that of these and then the new ones, but for its evidence; and a checker accepts it.
use Rattle.std.specs.Prelude.{◌≡◌, ℕ, true, false, List, [], ◌++◌, Option, None, Some, Ok, map, is_none}
use Rattle.std.specs.List.Sorted.{IsPermutation}
use Rattle.path_order.specs.declared.choice.Order.TheVariants.{Seen}
use Rattle.tor_io.specs.Contents.{Files}
use Rattle.as_rel.specs.declared.givens.KnownLines.{KnownLines}
use Rattle.dump_read.specs.declared.taking.Taken.{Taken}
use Rattle.result_text.specs.declared.file.ResultFile.{ResultFile}
use Rattle.result_text.specs.Grammar.{IsTextOf}
use Rattle.result_rules.specs.File.{its_walks}
use Rattle.result_rules.specs.Against.{its_rows}
use Rattle.rel_infer.specs.SelfAcceptance.{AreTableRows, IsVouchedFor}
use Rattle.tor_words.specs.declared.settings.Settings.{Settings}
use Rattle.tor_words.specs.Given.{dumps_in, settings_given}
use Rattle.tor_output.specs.Output.{Faithful, IsResumed, known_for, known_joined, paths_joined}
use Rattle.tor_output.specs.Resuming.{Hold, IsOfBoth, IsOfDumps, IsOfDumpsInSomeOrder}
use Rattle.tor_output.specs.Seen.{ComesTo, Joins, joined, seen}
use Rattle.run_laws.specs.Agreement.{IsAgreedOn}

-- two results are the same in all but their evidence, which are the walks of lost paths, the why lines and the open lines
pub record AreSameButEvidence (file other : ResultFile) : Type 0 where
  pub sets : file.sets ≡ other.sets
  pub ratio : file.ratio ≡ other.ratio
  pub asides : file.asides ≡ other.asides
  pub givens : file.givens ≡ other.givens
  pub rows : its_rows file ≡ its_rows other
  pub kept : map is_none (its_walks file) ≡ map is_none (its_walks other)
  pub edges : file.edges ≡ other.edges
  pub totals : file.totals ≡ other.totals

-- a result that a run makes of dumps is of their octets: in some order, or in theirs, where paths are taken as they were seen
abbrev pub OfDumpsLaw : Type 0
OfDumpsLaw =
    (words : List (List ℕ)) (settings : Settings) (files : Files) (known : Option KnownLines) (taken : Taken) (file : ResultFile) →
    settings_given words ≡ Some settings → seen settings files ≡ Ok taken → Faithful settings known taken file →
    (dumps : List (List ℕ)) × Hold files (dumps_in settings) dumps × (settings.order ≡ Seen → IsOfDumps file dumps) ×
    IsOfDumpsInSomeOrder file dumps

-- so it is with the result of a run over all these dumps, at another time and under other names, with the same sets, ratio and knowledge,
-- whatever limit on paths it has, where both take paths as they were seen
abbrev pub IsAsOfOneRun : Settings → Files → (earlier : ResultFile) → (joins : Taken) → ResultFile → Type 0
IsAsOfOneRun settings files earlier joins file =
    (before dumps : List (List ℕ)) → settings.order ≡ Seen → IsOfDumps earlier before → Hold files (dumps_in settings) dumps →
    (whole : Settings) (other_files : Files) (taken : Taken) (other : ResultFile) → whole.order ≡ Seen → whole.sets ≡ earlier.sets →
    whole.ratio ≡ settings.ratio → Hold other_files (dumps_in whole) (before ++ dumps) → seen whole other_files ≡ Ok taken →
    (said : Option KnownLines) → known_for whole said taken ≡ known_joined settings earlier joins → Faithful whole said taken other →
    AreSameButEvidence file other

-- resuming a result of some dumps with further ones gives what one run over all of them gives
abbrev pub ResumeLaw : Type 0
ResumeLaw =
    (words : List (List ℕ)) (settings : Settings) (files : Files) (earlier : ResultFile) (taken : Taken) (file : ResultFile) →
    settings_given words ≡ Some settings → ComesTo settings files (Joins earlier taken) → IsResumed settings earlier taken file →
    IsOfBoth settings files earlier file × IsAsOfOneRun settings files earlier taken file

-- resuming a result, of whatever dumps it is, with some dumps and the one that comes of it with others gives what resuming it with all of
-- them gives, with the ratio of the second run, whatever limits on paths the runs have, and wherever each of them finds the dumps, where
-- all take paths as they were seen, and none names networks that buy from nobody
abbrev pub InPartsLaw : Type 0
InPartsLaw =
    (first second whole : Settings) (files later other_files : Files) (earlier between file other : ResultFile) (some rest all : Taken) →
    first.order ≡ Seen → second.order ≡ Seen → whole.order ≡ Seen → first.top ≡ None → second.top ≡ None → whole.top ≡ None →
    joined earlier first.max_paths (dumps_in first) files ≡ Ok some → IsResumed first earlier some between →
    joined between second.max_paths (dumps_in second) later ≡ Ok rest → IsResumed second between rest file →
    whole.ratio ≡ second.ratio → map other_files (dumps_in whole) ≡ map files (dumps_in first) ++ map later (dumps_in second) →
    joined earlier whole.max_paths (dumps_in whole) other_files ≡ Ok all → IsResumed whole earlier all other → AreSameButEvidence file other

-- the text of such a result is accepted as every result is, so that it can be taken up again; and where the earlier result is of some
-- dumps, a check says yes to it beside these and the new ones, whenever that is, and under whatever names: in any order, and as they stand
-- where paths were taken as they were seen
pub record IsAcceptedAnew (settings : Settings) (files : Files) (earlier : ResultFile) (taken : Taken) (file : ResultFile)
    (text : List ℕ) : Type 0 where
  pub rows : AreTableRows (paths_joined settings earlier taken)
  pub vouched : IsVouchedFor settings.ratio (paths_joined settings earlier taken) taken.counts file
  pub alone : (later : Files) → IsAgreedOn false [] later text
  pub beside : (before dumps : List (List ℕ)) → settings.order ≡ Seen → IsOfDumps earlier before → Hold files (dumps_in settings) dumps →
      (names : List (List ℕ)) (later : Files) → Hold later names (before ++ dumps) → IsAgreedOn false names later text
  pub in_any_order : (before dumps all : List (List ℕ)) → IsOfDumpsInSomeOrder earlier before → Hold files (dumps_in settings) dumps →
      IsPermutation (before ++ dumps) all → (names : List (List ℕ)) (later : Files) → Hold later names all → IsAgreedOn true names later text

-- so it is with each result that resumes an earlier one
abbrev pub ResumedAcceptanceLaw : Type 0
ResumedAcceptanceLaw =
    (words : List (List ℕ)) (settings : Settings) (files : Files) (earlier : ResultFile) (taken : Taken) (file : ResultFile)
    (text : List ℕ) →
    settings_given words ≡ Some settings → ComesTo settings files (Joins earlier taken) → IsResumed settings earlier taken file →
    IsTextOf file text → IsAcceptedAnew settings files earlier taken file text
