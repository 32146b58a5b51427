use Rattle.std.proofs.Common.{◌≡◌, ◌*◌, [], drop, sym, ap, ◌∙◌}
use Rattle.path_segments.specs.Segments.{octets_in, big_numbers}
use Rattle.path_segments.specs.declared.as_path.Segment.{Segment}
use Rattle.path_segments.proofs.Values.{is_some-next, next_in, none_in}
use Rattle.path_segments.proofs.cursor.SegmentCursor.next.Goals as goal

pub returns-in_default : goal.returns-in_default
returns-in_default c =
    let end : c.args.self.now ≡ [] = sym c.self.view_is ∙ none_in c.self.inside.width c.self.inside.rest.now c.in_default.ensures.gives c.self.invariant in
    (end, end)

pub invariant_of-self : goal.invariant_of-self
invariant_of-self c =
    let width = c.self.inside.width in
    let n = octets_in width in
    let octets = c.in-Some.octets.now in
    let count = c.in-Some.count in
    let left : c.split_at.result.1.now ≡ drop (n * count) octets = c.split_at.ensures.back ∙ ap (λ k. drop (k * count) octets) c.octets.ensures in
    let one : Segment = record { kind = c.in-Some.kind; ases = big_numbers n count octets } in
    rw left (sym (is_some-next width c.self.inside.rest.now one (drop (n * count) octets) c.in-Some.ensures.gives) ∙ c.self.invariant)

pub returns : goal.returns
returns c =
    let width = c.self.inside.width in
    let n = octets_in width in
    let octets = c.in-Some.octets.now in
    let count = c.in-Some.count in
    let left : c.split_at.result.1.now ≡ drop (n * count) octets = c.split_at.ensures.back ∙ ap (λ k. drop (k * count) octets) c.octets.ensures in
    let one : Segment = record { kind = c.in-Some.kind; ases = big_numbers n count octets } in
    rw left (sym c.self.view_is ∙ next_in width c.self.inside.rest.now one (drop (n * count) octets) c.in-Some.ensures.gives c.self.invariant)
