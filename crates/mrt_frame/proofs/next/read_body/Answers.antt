use Rattle.std.proofs.Common.{◌<◌, length, arith, refl}
use Rattle.mrt_frame.specs.declared.error.FrameError.TheVariants.{BodyCut, ReadFault}
use Rattle.mrt_frame.specs.Frames.{end_of_error}
use Rattle.mrt_frame.proofs.Errors.{no_error, same_error, error_on, no_fault}
use Rattle.mrt_frame.proofs.Parts.{skips_part, takes_part, part_cut}
use Rattle.mrt_frame.proofs.Passing.{if_some}
use Rattle.mrt_frame.proofs.next.read_body.Goals as goal

pub returns-in-Err : goal.returns-in-Err
returns-in-Err g c =
    let error = c.in-Err.error in
    let e = c.in-Err.ensures in
    record {
      files = e.files;
      opens = e.opens;
      skipped = tt;
      gathered = tt;
      taken = tt;
      len = tt;
      reads = e.reads;
      cut = if_some (end_of_error error) (λ _. ⊥) _ (λ _ no. absurd no) e.no_fault;
      later = e.later;
      quiet = e.quiet;
      failed = λ is. e.failed (error_on error ReadFault is);
      steady = e.steady;
      steady_reads = λ s is. e.steady_reads s (error_on error ReadFault is);
    }

pub returns-then-len : goal.returns-then-len
returns-then-len g c =
    let before = g.H.Shelf.left c.args.shelf.now in
    let after = g.H.Shelf.left c.read_part.new.shelf in
    let at = c.args.at in
    let items = c.read_part.new.buffer.items in
    let e = c.in-Ok.ensures in
    let few : length items < c.args.len = omega arith in
    record {
      files = e.files;
      opens = e.opens;
      skipped = tt;
      gathered = tt;
      taken = tt;
      len = tt;
      reads = e.reads;
      cut = (refl, part_cut before after c.args.len items e.taken few);
      later = e.later;
      quiet = λ _. e.quiet tt;
      failed = λ is. absurd (no_fault (BodyCut at) _ refl (same_error (BodyCut at) ReadFault is));
      steady = e.steady;
      steady_reads = λ _ is. no_fault (BodyCut at) _ refl (same_error (BodyCut at) ReadFault is);
    }

pub returns : goal.returns
returns g c =
    let before = g.H.Shelf.left c.args.shelf.now in
    let after = g.H.Shelf.left c.read_part.new.shelf in
    let items = c.read_part.new.buffer.items in
    let e = c.in-Ok.ensures in
    record {
      files = e.files;
      opens = e.opens;
      skipped = skips_part before after c.args.len items e.taken (omega arith);
      gathered = e.gathered;
      taken = takes_part before after c.args.len items e.taken;
      len = omega (arith, e.no_more);
      reads = e.reads;
      cut = tt;
      later = e.later;
      quiet = λ _. e.quiet tt;
      failed = λ bad. absurd (no_error _ _ bad);
      steady = e.steady;
      steady_reads = λ _ bad. no_error _ _ bad;
    }
