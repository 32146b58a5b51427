-- What the result that resumes an earlier one has of it.
use Rattle.std.specs.Prelude.{◌≡◌, ℕ, ◌-◌, List, [], ◌++◌, length, map, take, unwrap_or}
use Rattle.relationships.specs.declared.fate.Fate.{Fate}
use Rattle.relationships.specs.Evidence.{Numbered}
use Rattle.result_text.specs.declared.file.PathLine.{PathLine}
use Rattle.result_text.specs.declared.file.ResultFile.{ResultFile}
use Rattle.result_rules.specs.File.{its_kept}
use Rattle.rel_infer.specs.declared.earlier_table.Rest.{Rest}
use Rattle.tor_clauses.specs.Formulas.{numbered}
use Rattle.path_select.specs.Behind.{places_from}
use Rattle.rel_infer.specs.declared.resuming.Resumed.{Resumed}
use Rattle.rel_infer.specs.Inference.{AreInferredWith}

-- what a path line says but how often the path was seen
abbrev pub decided : PathLine → List ℕ × Fate
decided line = (line.path, line.fate)

-- the first path lines of a result are those of the earlier one, each with its path and what became of it, but for its times
abbrev pub Continues : ResultFile → ResultFile → Type 0
Continues earlier file = take (length earlier.paths) (map decided file.paths) ≡ map decided earlier.paths

-- ---- words of the crate's own, which no reader of a public clause needs

-- what became of the paths of a result
abbrev pub its_fates : ResultFile → List Fate
its_fates file = map (λ p. p.fate) file.paths

-- what is kept before a path is offered: the rows of the returns, which stand behind the first `count` paths of the graph, and then the
-- kept paths of the earlier result
abbrev pub kept_first : List (List ℕ) → ℕ → ResultFile → Numbered
kept_first graph count earlier = numbered graph (places_from count (length graph - count)) ++ its_kept earlier

-- what is inferred from distinct paths under the givens of the earlier result, whose paths are the first and have their fates still
pub record IsInferredOnTop (earlier : Rest) (ratio : ℕ) (paths : List (List ℕ)) (r : Resumed) : Type 0 where
  pub sets : r.sets ≡ earlier.sets
  pub givens : r.givens ≡ earlier.givens
  pub inferred : AreInferredWith (unwrap_or earlier.givens []) ratio paths r.inferred
  pub same : take (length earlier.fates) r.inferred.fates ≡ earlier.fates
