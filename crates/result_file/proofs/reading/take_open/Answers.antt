use Rattle.std.proofs.Common.{◌≡◌, ◌++◌, ℕ, List, length, take, drop, refl, arith, subst, ◌∙◌}
use Rattle.std.proofs.lemmas.List.{length-append, length-take, length-take-le, take_at}
use Rattle.run_base.proofs.Gathered.{gathered_more, gathered_some}
use Rattle.result_text.specs.Taking.{Takes}
use Rattle.result_file.proofs.Takings.{takes_more}
use Rattle.result_file.proofs.reading.take_open.Goals as goal

pub parts-preserved : goal.parts-preserved
parts-preserved g c =
    let left = g.H.Shelf.left in
    let i = c.parts.invariant in
    let count = c.in_ok-count.count in
    let gained = c.read_prefix.new.buffer in
    let part = take count gained in
    let size : length gained ≡ c.parts.buffer.len = omega (arith, c.in_ok-count.ensures.same_length, c.as_mut_slice.ensures.len) in
    let buffer : c.deref.result.now ≡ gained = c.deref.ensures.value ∙ take_at gained (drop (length gained) c.parts.buffer.items) c.parts.buffer.len size in
    let took : Takes c.parts.parser c.take.new.self part = subst (λ (t : List ℕ). Takes c.parts.parser c.take.new.self (take count t)) buffer c.in_ok-take.ensures in
    let long : length part ≡ count = length-take-le count gained (omega (arith, size, i.room, c.in_ok-count.ensures.bound)) in
    record {
      octets = i.octets ++ part;
      count = omega (arith, length-append i.octets part, long, i.count);
      stood = gathered_more (left c.args.shelf.now) (left c.parts.shelf) (left c.read_prefix.new.shelf) i.octets part (i.octets ++ part) i.stood c.in_ok-count.ensures.taken refl;
      took = takes_more c.args.parser.now c.parts.parser c.take.new.self i.octets part i.took took;
      few = omega (arith, c.in_ok-count.ensures.bound);
      room = i.room;
      files = c.in_ok-count.ensures.files ∙ i.files;
      opens = c.in_ok-count.ensures.opens ∙ i.opens;
      quiet = c.in_ok-count.ensures.cause.quiet ∙ i.quiet;
      steady = λ held. c.in_ok-count.ensures.steady (i.steady held);
    }

pub returns-in_err-take-clause-unread : goal.returns-in_err-take-clause-unread
returns-in_err-take-clause-unread g c =
    let left = g.H.Shelf.left in
    let i = c.parts.invariant in
    let part = take c.in_ok-count.count c.read_prefix.new.buffer in
    gathered_some c.args.most (left c.args.shelf.now) (left c.read_prefix.new.shelf) (i.octets ++ part)
    (gathered_more (left c.args.shelf.now) (left c.parts.shelf) (left c.read_prefix.new.shelf) i.octets part (i.octets ++ part) i.stood c.in_ok-count.ensures.taken refl)
    (omega (arith, length-append i.octets part, length-take c.in_ok-count.count c.read_prefix.new.buffer, i.count, c.in_ok-count.ensures.bound))
