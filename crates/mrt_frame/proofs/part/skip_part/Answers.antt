use Rattle.std.proofs.Common.{◌+◌, take, arith, sym, ◌∙◌}
use Rattle.std.proofs.lemmas.List.{length-take}
use Rattle.mrt_frame.proofs.Parts.{skips_read}
use Rattle.mrt_frame.proofs.Reaches.{reads_then}
use Rattle.mrt_frame.proofs.Somes.{so_many_more}
use Rattle.mrt_frame.proofs.part.skip_part.Goals as goal

pub parts-preserved : goal.parts-preserved
parts-preserved g c =
    let left = g.H.Shelf.left in
    let count = c.in_ok-count.count in
    let facts = c.in_ok-count.ensures in
    let before = c.parts.invariant in
    record {
      files = facts.files ∙ before.files;
      opens = facts.opens ∙ before.opens;
      skipped = skips_read (left c.args.shelf.now) (left c.parts.shelf) (left c.read.new.self) c.parts.passed count (take count c.read.new.buf) before.skipped facts.taken facts.bound.1;
      gathered = so_many_more (left c.args.shelf.now) (left c.parts.shelf) (left c.read.new.self) c.parts.passed count (take count c.read.new.buf) before.gathered (sym facts.bound.1) facts.taken;
      reads = reads_then (left c.args.shelf.now) (left c.parts.shelf) (left c.read.new.self) 0 c.parts.passed (c.parts.passed + count) before.reads
          (take count c.read.new.buf, omega (arith, facts.bound.1), facts.taken);
      no_more = omega (arith, facts.bound.0, c.read.auto.buf, c.min-most.ensures, c.deref_mut.ensures.len, before.no_more, length-take c.min-most.result c.deref_mut.result.now);
      room = before.room;
      quiet = facts.cause.quiet ∙ before.quiet;
      steady = λ s. facts.steady (before.steady s);
    }
