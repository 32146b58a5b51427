use Rattle.std.proofs.Common.{◌≡◌, ◌≤◌, take, count_by}
use Rattle.relationships.specs.Fates.{is_kept}
use Rattle.result_rules.proofs.totals.kept_paths.Given as goal

abbrev pub invariant-loop-place : goal.invariant-loop-place
invariant-loop-place l = (l.count ≡ count_by is_kept (take l.place l.fates)) × (l.count ≤ l.place)
