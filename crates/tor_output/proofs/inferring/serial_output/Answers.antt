use Rattle.std.proofs.Common.{◌≢◌, ◌<◌, List, All, sym, subst}
use Rattle.std.specs.List.{AllPairs}
use Rattle.result_text.specs.declared.file.EdgeLine.{EdgeLine}
use Rattle.as_rel.specs.Labelled.{ends_of}
use Rattle.tor_output.proofs.GradingLemmas.{result_ends_law}
use Rattle.tor_output.proofs.inferring.serial_output.Goals as goal

pub serial_alone-output-requires-clause-order : goal.serial_alone-output-requires-clause-order
serial_alone-output-requires-clause-order c =
    let ends = result_ends_law c.args.settings.now c.args.said c.args.taken c.in_ok-file.file c.has_table_rows.ensures c.in_ok-file.ensures in
    subst (λ (edges : List EdgeLine). All (λ (e : EdgeLine). e.low < e.high) edges) (sym c.as_slice.ensures) ends.0

pub serial_alone-output-requires-clause-once : goal.serial_alone-output-requires-clause-once
serial_alone-output-requires-clause-once c =
    let ends = result_ends_law c.args.settings.now c.args.said c.args.taken c.in_ok-file.file c.has_table_rows.ensures c.in_ok-file.ensures in
    subst (λ (edges : List EdgeLine). AllPairs (λ (e f : EdgeLine). ends_of e ≢ ends_of f) edges) (sym c.as_slice.ensures) ends.1
