use Rattle.std.proofs.Common.{◌≡◌, take}
use Rattle.tor_io.specs.Outflow.{state, Puts}
use Rattle.leak_text.specs.LeakText.{strange_rows, strange_lines, strange_totals}
use Rattle.leak_text.proofs.writing.put_lines.Given as goal

-- the lines so far were put, and the totals are those of the paths so far
abbrev pub invariant-loop-place : goal.invariant-loop-place
invariant-loop-place g l =
    let sink = g.S.Sink in
    record {
      lines : Puts (state (sink.held l.fn.out) (sink.faults l.fn.out) l.fn.flow) (state (sink.held l.out) (sink.faults l.out) l.flow)
          (strange_lines l.leaks.rel l.leaks.own (take l.place (strange_rows l.leaks)) (take l.place l.leaks.fates));
      totals : l.totals ≡ strange_totals l.leaks.rel l.leaks.known (take l.place (strange_rows l.leaks)) (take l.place l.leaks.fates);
    }
