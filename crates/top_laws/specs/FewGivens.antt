-- How many givens there are where what is known of the top stands behind those of a file.
-- The law is proved as the contract of a function in src/laws.rt.
use Rattle.std.specs.Prelude.{ℕ, ◌+◌, ◌*◌, ◌^◌, ◌≤◌, List, ◌++◌, length, sum_by}
use Rattle.tor_arena.specs.Limits.{max_numbers}
use Rattle.relationships.specs.declared.given.Given.{Given}
use Rattle.relationships.specs.Givens.{NameOnce}
use Rattle.result_text.specs.declared.file.ResultFile.{ResultFile}
use Rattle.result_text.specs.Grammar.{IsTextOf}
use Rattle.result_rules.specs.File.{its_givens, its_paths}
use Rattle.rel_infer.specs.GivenInference.{max_givens}
use Rattle.top_givens.specs.TopGivens.{top_givens, top_givens_behind}

-- A file of 2^28 octets at most says few enough that there is room for those of the top: its lines have six octets or more each. So does a
-- result of 2^31 octets at most, in which no two givens name the same two ASes: but for those of one digit each, a given line has eleven
-- octets or more
abbrev pub FewKnownLaw : Type 0
FewKnownLaw =
    (top : List ℕ) (paths : List (List ℕ)) → sum_by length paths ≤ max_numbers →
    ((named : List (ℕ × ℕ)) (givens : List Given) (bytes : List ℕ) → 6 * length givens ≤ length bytes + 1 → length bytes ≤ 2 ^ 28 →
    length (givens ++ top_givens top named paths) ≤ max_givens) ×
    ((file : ResultFile) (bytes : List ℕ) → IsTextOf file bytes → length bytes ≤ 2 ^ 31 → NameOnce (its_givens file) →
    length (its_givens file ++ top_givens_behind top (its_givens file) (its_paths file) paths) ≤ max_givens)
