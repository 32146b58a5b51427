use Rattle.std.proofs.Common.{refl}
use Rattle.mrt_frame.specs.declared.error.FrameError.TheVariants.{BodyCut, ReadFault}
use Rattle.mrt_frame.specs.Frames.{end_of_error}
use Rattle.mrt_frame.proofs.Errors.{no_error, same_error, error_on, no_fault}
use Rattle.mrt_frame.proofs.Passing.{if_some}
use Rattle.mrt_frame.proofs.next.pass_body.Goals as goal

pub returns-in-Ok-true : goal.returns-in-Ok-true
returns-in-Ok-true g c =
    let e = c.in-Ok-true.ensures in
    let is = c.in-Ok-true.field-0-test in
    record {
      files = e.files;
      opens = e.opens;
      gathered = e.gathered is;
      skipped = e.skipped is;
      reads = e.reads;
      cut = tt;
      later = e.later;
      quiet = λ _. e.quiet tt;
      failed = λ bad. absurd (no_error _ _ bad);
      steady = e.steady;
      steady_reads = λ _ bad. no_error _ _ bad;
    }

pub returns-in-Ok-false : goal.returns-in-Ok-false
returns-in-Ok-false g c =
    let at = c.args.at in
    let e = c.in-Ok-false.ensures in
    let is = c.in-Ok-false.field-0-test in
    record {
      files = e.files;
      opens = e.opens;
      gathered = tt;
      skipped = tt;
      reads = e.reads;
      cut = (refl, e.cut is);
      later = e.later;
      quiet = λ _. e.quiet tt;
      failed = λ is. absurd (no_fault (BodyCut at) _ refl (same_error (BodyCut at) ReadFault is));
      steady = e.steady;
      steady_reads = λ _ is. no_fault (BodyCut at) _ refl (same_error (BodyCut at) ReadFault is);
    }

pub returns-in-Err : goal.returns-in-Err
returns-in-Err g c =
    let error = c.in-Err.error in
    let e = c.in-Err.ensures in
    record {
      files = e.files;
      opens = e.opens;
      gathered = tt;
      skipped = tt;
      reads = e.reads;
      cut = if_some (end_of_error error) (λ _. ⊥) _ (λ _ no. absurd no) e.no_fault;
      later = e.later;
      quiet = e.quiet;
      failed = λ is. e.failed (error_on error ReadFault is);
      steady = e.steady;
      steady_reads = λ s is. e.steady_reads s (error_on error ReadFault is);
    }
