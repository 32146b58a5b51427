use Rattle.std.proofs.Common.{◌≡◌, ◌≤◌, ◌+◌, ◌-◌, length, take, drop, arith, sym}
use Rattle.std.proofs.lemmas.List.{length-take}
use Rattle.mrt_frame.proofs.Parts.{written_behind, resized_prefix}
use Rattle.mrt_frame.proofs.part.read_behind.Goals as goal

pub returns-clause-taken : goal.returns-clause-taken
returns-clause-taken g c =
    let old = c.args.buffer.now.items in
    let buf = c.read.new.buf in
    let start = c.len-start.result in
    let count = c.in_ok-count.count in
    let size : start ≡ length old = omega arith in
    let prefix : take start c.deref_mut.result.now ≡ old =
    resized_prefix old c.resize.new.self.items c.deref_mut.result.now _ start c.args.most size c.deref_mut.ensures.value c.in_ok-resize.ensures.items in
    let within : start + count ≤ c.resize.new.self.len =
    omega (
      arith,
      c.in_ok-count.ensures.bound.0,
      c.in_ok-resize.ensures.len,
      c.read.auto.buf,
      c.deref_mut.ensures.len,
      length-take (length c.deref_mut.result.now - start)
          (drop start c.deref_mut.result.now),
    ) in (
      take count buf,
      sym c.in_ok-count.ensures.bound.1,
      written_behind old c.deref_mut.result.now buf _ _ c.truncate.new.self.items start count c.resize.new.self.len size prefix c.in_ok-count.ensures.bound.0 within c.truncate.ensures.items,
      c.in_ok-count.ensures.taken,
    )
