use Rattle.std.proofs.Common.{◌≡◌, ◌<◌, All, length, map, take}
use Rattle.std.specs.Prelude.{count_by, fold}
use Rattle.tor_arena.specs.Limits.{max_paths}
use Rattle.path_table.specs.Rows.{row_paths}
use Rattle.route_leaks.specs.Inside.{is_kept_in, not_kept_in}
use Rattle.route_leaks.specs.Leaks.{row_met, with_new}
use Rattle.route_leaks.proofs.meeting.meet.Given as goal

-- the paths so far: those that were new stand last, and each that isn't kept was met
abbrev pub invariant-loop-place : goal.invariant-loop-place
invariant-loop-place l = record {
  limit : l.table.limit ≡ max_paths;
  rows : row_paths l.table.rows ≡ fold with_new (row_paths l.fn.table.rows) (take l.place (row_paths l.seen));
  known : l.known ≡ count_by (λ row. is_kept_in (row_paths l.fn.table.rows) l.fates row.path) (take l.place l.seen);
  met : map (row_met (row_paths l.table.rows)) l.met ≡ not_kept_in (row_paths l.fn.table.rows) l.fates (take l.place l.seen);
  there : All (λ m. m.place < length l.table.rows) l.met;
}
