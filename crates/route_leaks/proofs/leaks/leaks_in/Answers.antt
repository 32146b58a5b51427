use Rattle.std.proofs.Common.{length, map, ap, ◌∙◌}
use Rattle.std.proofs.lemmas.List.{length-map}
use Rattle.route_leaks.specs.Leaks.{IsFateBehind, row_met}
use Rattle.route_leaks.proofs.Assembling.{edge_ends, zip_length}
use Rattle.route_leaks.proofs.leaks.leaks_in.Goals as goal

pub rel_of-requires-clause-order : goal.rel_of-requires-clause-order
rel_of-requires-clause-order c =
    let e = c.requires.begins in (edge_ends e.file c.as_slice-2.result.now e.accepted (c.as_slice-2.ensures ∙ e.left.edges)).0

pub rel_of-requires-clause-once : goal.rel_of-requires-clause-once
rel_of-requires-clause-once c =
    let e = c.requires.begins in (edge_ends e.file c.as_slice-2.result.now e.accepted (c.as_slice-2.ensures ∙ e.left.edges)).1

pub invariant_of-result : goal.invariant_of-result
invariant_of-result c =
    let e = c.requires.begins in
    let met = c.args.meeting.met in
    let rows = c.args.rows in
    let fates = c.in_ok-fates.ensures e.file e.accepted e.left e.begins in
    let many = zip_length (λ row fate. IsFateBehind e.file row.path fate) (map (row_met rows) c.as_slice.result.now) c.in_ok-fates.fates fates in
    record {
      each = many ∙ length-map c.as_slice.result.now (row_met rows) ∙ ap length c.as_slice.ensures;
      there = c.requires.there;
      few = c.requires.few_met;
      short = c.requires.short;
    }
