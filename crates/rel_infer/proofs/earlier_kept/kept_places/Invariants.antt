use Rattle.std.proofs.Common.{◌<◌, ℕ, List, length}
use Rattle.std.specs.Prelude.{All}
use Rattle.result_text.specs.declared.file.ResultFile.{ResultFile}
use Rattle.rel_infer.specs.Earlier.{BeginsWithPathsOf, IsRestOf}
use Rattle.rel_infer.proofs.Keeping.{AreKeptBefore}
use Rattle.rel_infer.proofs.earlier_kept.kept_places.Given as goal

abbrev pub invariant-loop-place : goal.invariant-loop-place
invariant-loop-place l = record {
  there : All (λ path. path < length l.rest.fates) l.places;
  kept : (graph : List (List ℕ)) (file : ResultFile) → IsRestOf file l.rest → BeginsWithPathsOf graph file → AreKeptBefore graph file l.place l.places;
}
