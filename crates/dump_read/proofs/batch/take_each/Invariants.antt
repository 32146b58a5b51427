use Rattle.std.proofs.Common.{List, drop}
use Rattle.path_clean.specs.declared.cleaned.Sets.{Sets}
use Rattle.dump_read.specs.Routes.{Route}
use Rattle.dump_read.specs.Batches.{StandAtPlaces, AreOf}
use Rattle.dump_read.proofs.Takings.{SoFar}
use Rattle.dump_read.proofs.batch.take_each.Given as goal

abbrev pub invariant-loop-place : goal.invariant-loop-place
invariant-loop-place l = StandAtPlaces l.taken.table.rows l.batch
    × ((sets : Sets) (routes : List Route) → AreOf sets routes l.batch → SoFar sets l.fn.taken l.taken routes (drop l.place routes))
