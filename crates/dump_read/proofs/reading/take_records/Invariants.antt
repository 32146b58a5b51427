use Rattle.std.proofs.Common.{◌≡◌, ◌-◌, ◌^◌, true}
use Rattle.mrt_frame.specs.Reader.{shelf_of, reference_of, next_place, is_live}
use Rattle.mrt_frame.specs.Reach.{ReadsUpTo}
use Rattle.dump_read.proofs.Somes.{Standing}
use Rattle.dump_read.proofs.Reaches.{BehindOf}
use Rattle.dump_read.proofs.reading.take_records.Given as goal

abbrev pub invariant-records : goal.invariant-records
invariant-records g l =
    let shelf = g.H.Shelf in
    record {
      same_reference : reference_of l.frames ≡ reference_of l.fn.frames;
      live : is_live l.frames ≡ true;
      stands : Standing l.wanted (shelf.left (shelf_of l.fn.frames)) (shelf.left (shelf_of l.frames)) (next_place l.frames) l.peers l.fn.taken l.taken l.file;
      reads : ReadsUpTo 0 (next_place l.frames).offset (shelf.left (shelf_of l.fn.frames)) (shelf.left (shelf_of l.frames));
      behind : BehindOf (shelf.left (shelf_of l.fn.frames)) (shelf.left (shelf_of l.frames)) (next_place l.frames);
      files : shelf.files (shelf_of l.frames) ≡ shelf.files (shelf_of l.fn.frames);
      opens : shelf.opens (shelf_of l.frames) ≡ shelf.opens (shelf_of l.fn.frames);
      quiet : shelf.faults (shelf_of l.frames) ≡ shelf.faults (shelf_of l.fn.frames);
      steady : shelf.steady (shelf_of l.fn.frames) → shelf.steady (shelf_of l.frames);
    }

-- no record ends behind 2 ^ 40
abbrev pub decreases-records : goal.decreases-records
decreases-records g l = 2 ^ 40 - (next_place l.frames).offset
