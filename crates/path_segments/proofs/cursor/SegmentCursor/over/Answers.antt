use Rattle.std.proofs.Common.{◌≡◌, ◌*◌, length, drop, sym, ap, ◌∙◌}
use Rattle.path_segments.specs.Segments.{octets_in, big_numbers}
use Rattle.path_segments.specs.declared.as_path.Segment.{Segment}
use Rattle.path_attrs.proofs.Reading.{not_empty, no_octet}
use Rattle.path_segments.proofs.Values.{is_some-next, malformed_value, whole_value, segments_in-whole}
use Rattle.path_segments.proofs.cursor.SegmentCursor.over.Goals as goal

pub returns-in_default : goal.returns-in_default
returns-in_default c =
    malformed_value c.args.width c.args.value.now c.segments.rest.now
    (not_empty (length c.segments.rest.now) c.is_empty.result c.is_empty.ensures c.segments-test.true) c.in_default.ensures.gives c.segments.invariant

pub segments-preserved : goal.segments-preserved
segments-preserved c =
    let n = octets_in c.args.width in
    let octets = c.in-Some.octets.now in
    let count = c.in-Some.count in
    let left : c.split_at.result.1.now ≡ drop (n * count) octets = c.split_at.ensures.back ∙ ap (λ k. drop (k * count) octets) c.octets.ensures in
    let one : Segment = record { kind = c.in-Some.field-0-0; ases = big_numbers n count octets } in
    rw left (sym (is_some-next c.args.width c.segments.rest.now one (drop (n * count) octets) c.in-Some.ensures.gives) ∙ c.segments.invariant)

pub invariant_of-result : goal.invariant_of-result
invariant_of-result c =
    whole_value c.args.width c.args.value.now c.segments.rest.now
    (no_octet c.segments.rest.now c.is_empty.result c.is_empty.ensures c.segments-test.false) c.segments.invariant

pub returns : goal.returns
returns c =
    segments_in-whole c.args.width c.args.value.now (whole_value c.args.width c.args.value.now c.segments.rest.now
    (no_octet c.segments.rest.now c.is_empty.result c.is_empty.ensures c.segments-test.false) c.segments.invariant)
