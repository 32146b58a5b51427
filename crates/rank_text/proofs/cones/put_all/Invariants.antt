use Rattle.std.proofs.Common.{◌≡◌, ℕ, List}
use Rattle.tor_io.specs.Outflow.{state, Puts}
use Rattle.as_rel.specs.declared.line.RelLine.{RelLine}
use Rattle.as_ranks.specs.Cones.{Cone, AreConesTo}
use Rattle.rank_text.specs.RankText.{cones_text}
use Rattle.as_ranks.specs.Named.{IsNetOf}
use Rattle.rank_text.proofs.cones.put_all.Given as goal

-- so far the cones are put
abbrev pub invariant-loop-place : goal.invariant-loop-place
invariant-loop-place g l =
    let sink = g.S.Sink in
    record {
      ases : l.cones.ases ≡ l.fn.cones.ases;
      graph : l.cones.graph ≡ l.fn.cones.graph;
      put : (rel : List RelLine) → IsNetOf rel l.fn.cones.ases l.fn.cones.graph → (done : List Cone) × AreConesTo rel l.fn.cones.ases l.place done ×
          Puts (state (sink.held l.fn.out) (sink.faults l.fn.out) l.fn.flow) (state (sink.held l.out) (sink.faults l.out) l.flow) (cones_text done);
    }
