use Rattle.std.proofs.Common.{List, ℕ, ◌∙◌, sym, map, subst}
use Rattle.relationships.specs.declared.mark.Mark.{Mark}
use Rattle.relationships.specs.declared.mark.Probe.{Probe}
use Rattle.relationships.specs.declared.walk.Walk.{Walk}
use Rattle.relationships.specs.Checking.{MarksHold}
use Rattle.relationships.specs.Graph.{edges, support}
use Rattle.relationships.specs.Marking.{claims_of, orders_of}
use Rattle.result_text.specs.declared.file.EdgeLine.{EdgeLine}
use Rattle.as_graph.specs.Paths.{paths_at}
use Rattle.tor_clauses.specs.Formulas.{numbered_of}
use Rattle.rel_infer.specs.EdgeLines.{AreLinesOf}
use Rattle.rel_infer.proofs.finding.found_in.Goals as goal

pub returns-in-Ok-lines : goal.returns-in-Ok-lines
returns-in-Ok-lines c =
    let graph = c.args.graph.now in
    let f = c.args.selector.now.formula in
    let labels = c.in-Ok.labelled.labels in
    let found = c.in-Ok-marks_of.found in
    let lines = c.in-Ok-lines.edges in
    let made = c.found_by.ensures in
    let claims = claims_of (edges graph) labels found.marks in
    let listed = subst (λ (ss : List ℕ). AreLinesOf (edges graph) labels found.marks ss lines) (c.as_slice-2.ensures ∙ c.in-Ok.ensures.supports)
    (subst (λ (ms : List Mark). AreLinesOf (edges graph) labels ms c.as_slice-2.result.now lines) c.as_slice.ensures c.in-Ok-lines.ensures) in
    record {
      labels = labels;
      marks = found.marks;
      lines = subst (λ (es : List EdgeLine). AreLinesOf (edges graph) labels found.marks (map (support (paths_at graph c.args.counted.now)) (edges graph)) es)
          (sym made.edges) listed;
      are_labels = c.in-Ok.ensures.labels;
      free = c.in-Ok.ensures.valley_free;
      exact = c.in-Ok-marks_of.ensures.marks;
      borne = subst (λ (ws : List Walk). MarksHold (numbered_of graph f) claims ws (orders_of c.found_by.result.probes)) (sym made.whys)
          (subst (λ (ps : List Probe). MarksHold (numbered_of graph f) claims found.whys (orders_of ps)) (sym made.probes) c.in-Ok-marks_of.ensures.evidence);
      either_way = c.in-Ok.ensures.either_way;
      none_left_out = c.in-Ok.ensures.none_left_out;
    }
