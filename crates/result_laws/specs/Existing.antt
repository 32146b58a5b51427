-- There is always a result.
use Rattle.std.specs.Prelude.{ℕ, List, [], Option, unwrap_or}
use Rattle.path_clean.specs.declared.cleaned.Sets.{Sets}
use Rattle.path_clean.specs.Counts.{CauseCounts}
use Rattle.path_table.specs.Rows.{Counted, row_paths}
use Rattle.relationships.specs.declared.given.Given.{Given}
use Rattle.relationships.specs.Givens.{NameTwo, NameOnce}
use Rattle.result_text.specs.declared.file.ResultFile.{ResultFile}
use Rattle.result_rules.specs.Rules.{Accepts}
use Rattle.rel_infer.specs.Earlier.{BeginsWithPathsOf}
use Rattle.rel_infer.specs.GivenResults.{IsResultWith}
use Rattle.rel_infer.specs.Resumed.{Continues}
use Rattle.rel_infer.specs.SelfAcceptance.{AreTableRows}

-- of the rows of every table, with whatever counts and ratio, and under givens each of two ASes and no two of the same two, or none,
-- there is a result
abbrev pub SomeResultLaw : Type 0
SomeResultLaw =
    (known : Option (List Given)) (sets : Sets) (ratio : ℕ) (rows : List Counted) (counts : CauseCounts) → AreTableRows rows →
    NameTwo (unwrap_or known []) → NameOnce (unwrap_or known []) → (file : ResultFile) × IsResultWith known sets ratio rows counts file

-- and a result goes on from each one that meets all rules and whose paths are the first of the table
abbrev pub SomeResumedLaw : Type 0
SomeResumedLaw =
    (earlier : ResultFile) (ratio : ℕ) (rows : List Counted) (counts : CauseCounts) → Accepts earlier → AreTableRows rows →
    BeginsWithPathsOf (row_paths rows) earlier →
    (file : ResultFile) × IsResultWith earlier.givens earlier.sets ratio rows counts file × Continues earlier file
