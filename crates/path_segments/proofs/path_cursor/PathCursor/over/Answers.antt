use Rattle.std.proofs.Common.{sym, arith}
use Rattle.path_segments.proofs.PathLemmas.{count_fits}
use Rattle.path_segments.proofs.path_cursor.PathCursor.over.Goals as goal

pub merged_with-requires : goal.merged_with-requires
merged_with-requires c =
    omega (arith, c.in-Some.ensures.within, count_fits c.args.width c.in-Some.value.now c.in-Some-over.segments (sym c.in-Some-over.ensures))
