use Rattle.std.proofs.Common.{◌≡◌, ◌+◌, ◌++◌, ℕ, List, length, take, drop, refl, arith, ap, ◌∙◌}
use Rattle.std.proofs.lemmas.List.{length-append, length-take, take_at}
use Rattle.run_base.proofs.Gathered.{gathered_more, gathered_rest, gathered_some}
use Rattle.run_base.proofs.whole_file.read_open.Goals as goal

pub parts-preserved : goal.parts-preserved
parts-preserved g c =
    let left = g.H.Shelf.left in
    let old = c.parts.bytes in
    let new = c.extend_from_slice.new.self in
    let part = take c.in_ok-count.count c.read_prefix.new.buffer in
    let size : length c.read_prefix.new.buffer ≡ c.parts.buffer.len = omega (arith, c.in_ok-count.ensures.same_length, c.as_mut_slice.ensures.len) in
    let buffer : c.deref.result.now ≡ c.read_prefix.new.buffer = c.deref.ensures.value ∙
    take_at c.read_prefix.new.buffer (drop (length c.read_prefix.new.buffer) c.parts.buffer.items) c.parts.buffer.len size in
    let gains : new ≡ old ++ part = c.in_ok-extend_from_slice.ensures.ok ∙ ap (λ (t : List ℕ). old ++ take c.in_ok-count.count t) buffer in
    record {
      taken = gathered_more (left c.args.shelf.now) (left c.parts.shelf) (left c.read_prefix.new.shelf) old part new c.parts.invariant.taken c.in_ok-count.ensures.taken gains;
      few = omega (arith, ap length gains, length-append old part, length-take c.in_ok-count.count c.read_prefix.new.buffer, c.in_ok-count.ensures.bound);
      room = c.parts.invariant.room;
      files = c.in_ok-count.ensures.files ∙ c.parts.invariant.files;
      opens = c.in_ok-count.ensures.opens ∙ c.parts.invariant.opens;
      quiet = c.in_ok-count.ensures.cause.quiet ∙ c.parts.invariant.quiet;
      steady = λ held. c.in_ok-count.ensures.steady (c.parts.invariant.steady held);
    }

pub returns-clause-rest : goal.returns-clause-rest
returns-clause-rest g c = λ _.
    let left = g.H.Shelf.left in
    let size : length c.parts.bytes ≡ c.args.most + 1 = omega (arith, c.parts.invariant.few, c.parts-test.false, c.len.ensures) in
    gathered_rest (left c.args.shelf.now) (left c.parts.shelf) c.parts.bytes (c.args.most + 1) c.parts.invariant.taken size

pub returns-in_err-extend_from_slice-clause-unread : goal.returns-in_err-extend_from_slice-clause-unread
returns-in_err-extend_from_slice-clause-unread g c =
    let left = g.H.Shelf.left in
    let old = c.parts.bytes in
    let part = take c.in_ok-count.count c.read_prefix.new.buffer in
    gathered_some c.args.most (left c.args.shelf.now) (left c.read_prefix.new.shelf) (old ++ part)
    (gathered_more (left c.args.shelf.now) (left c.parts.shelf) (left c.read_prefix.new.shelf) old part (old ++ part) c.parts.invariant.taken c.in_ok-count.ensures.taken refl)
    (omega (arith, length-append old part, length-take c.in_ok-count.count c.read_prefix.new.buffer, c.in_ok-count.ensures.bound))
