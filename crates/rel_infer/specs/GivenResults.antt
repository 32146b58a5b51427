-- What the result of distinct paths says where relationships are given.
use Rattle.std.specs.Prelude.{◌≡◌, ℕ, List, [], Option, unwrap_or}
use Rattle.path_clean.specs.declared.cleaned.Sets.{Sets}
use Rattle.path_clean.specs.Counts.{CauseCounts}
use Rattle.path_table.specs.Rows.{Counted}
use Rattle.relationships.specs.declared.given.Given.{Given}
use Rattle.result_text.specs.declared.file.ResultFile.{ResultFile}
use Rattle.result_rules.specs.File.{its_paths, its_walks, its_probes}
use Rattle.result_rules.specs.Against.{its_rows}
use Rattle.result_rules.specs.Rules.{right_totals}
use Rattle.rel_infer.specs.GivenInference.{IsInferredWith}

-- the result of distinct paths with their times, and of the counts of routes that were set aside, where these relationships are known, if
-- any are
pub record IsResultWith (known : Option (List Given)) (sets : Sets) (ratio : ℕ) (rows : List Counted) (counts : CauseCounts)
    (file : ResultFile) : Type 0 where
  pub its_sets : file.sets ≡ sets
  pub its_ratio : file.ratio ≡ ratio
  pub its_counts : file.asides ≡ counts
  pub its_givens : file.givens ≡ known
  pub paths : its_rows file ≡ rows
  pub inferred : IsInferredWith (unwrap_or known []) ratio (its_paths file) (its_walks file) file.edges file.whys (its_probes file)
  pub totals : file.totals ≡ right_totals file
