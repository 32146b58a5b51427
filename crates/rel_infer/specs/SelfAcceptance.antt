-- What follows from the definitions meets the rules of a checker.
use Rattle.std.specs.Prelude.{ℕ, ◌≤◌, List, [], Option, unwrap_or}
use Rattle.tor_arena.specs.Limits.{max_ratio}
use Rattle.path_clean.specs.declared.cleaned.Sets.{Sets}
use Rattle.path_clean.specs.Counts.{CauseCounts}
use Rattle.path_table.specs.Rows.{Counted}
pub use Rattle.path_order.specs.TableRows.{AreTableRows}
use Rattle.relationships.specs.declared.given.Given.{Given}
use Rattle.relationships.specs.Givens.{NameTwo, NameOnce}
use Rattle.result_text.specs.declared.file.ResultFile.{ResultFile}
use Rattle.result_text.specs.Text.{its_givens}
use Rattle.result_rules.specs.declared.verdict.Verdict.TheVariants.{Yes}
use Rattle.result_rules.specs.File.{its_paths, its_walks}
use Rattle.result_rules.specs.Rules.{Accepts}
use Rattle.result_rules.specs.Valid.{Valid}
use Rattle.result_rules.specs.Against.{JudgesAgainst}
use Rattle.rel_infer.specs.GivenResults.{IsResultWith}
use Rattle.rel_infer.specs.GivenInference.{PeerEitherWayWith, LeaveNoneOutWith}
use Rattle.rel_infer.specs.Peers.{PeerEitherWay}

-- what a result has of which a checker says yes
pub record IsVouchedFor (ratio : ℕ) (rows : List Counted) (counts : CauseCounts) (file : ResultFile) : Type 0 where
  -- it meets the rules 1 to 10, and rule 11 over these paths and counts; so it is valid
  pub accepted : Accepts file
  pub agrees : JudgesAgainst file rows counts Yes
  pub valid : Valid file
  -- its peerings may be read either way, also where relationships are given, and none is left out but of edges that are given
  pub either_way : PeerEitherWay (its_paths file) (its_walks file) file.edges
  pub as_given : PeerEitherWayWith (its_givens file) (its_paths file) (its_walks file) file.edges
  pub none_left_out : LeaveNoneOutWith (its_givens file) ratio (its_paths file) (its_walks file) file.edges

-- each result of these rows and counts has it, where nothing is given, or relationships each of two ASes and no two of the same two
abbrev pub SelfAcceptanceLaw : Type 0
SelfAcceptanceLaw =
    (known : Option (List Given)) (sets : Sets) (ratio : ℕ) (rows : List Counted) (counts : CauseCounts) (file : ResultFile) →
    ratio ≤ max_ratio → AreTableRows rows → NameTwo (unwrap_or known []) → NameOnce (unwrap_or known []) →
    IsResultWith known sets ratio rows counts file → IsVouchedFor ratio rows counts file
