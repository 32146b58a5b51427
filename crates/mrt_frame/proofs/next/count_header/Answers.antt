use Rattle.std.proofs.Common.{◌+◌, ◌≤◌, IfSome, refl, ap, ◌∙◌}
use Rattle.record_counts.specs.Counting.{with_more}
use Rattle.mrt_frame.specs.declared.error.FrameError.TheVariants.{TooManyBytes, ReadFault, NoMemory}
use Rattle.mrt_frame.specs.Limits.{max_file}
use Rattle.mrt_frame.specs.Part.{TakesHeader}
use Rattle.mrt_frame.specs.Some.{HasRead, AreHeader}
use Rattle.mrt_frame.proofs.Errors.{no_error, same_error, error_on, memory_not_long, memory_not_fault, at_none, at_some}
use Rattle.mrt_frame.proofs.next.count_header.Goals as goal

pub returns-in-Ok : goal.returns-in-Ok
returns-in-Ok g c =
    let before = g.H.Shelf.left c.args.shelf.now in
    let after = g.H.Shelf.left c.read_header.new.shelf in
    let at = c.args.at in
    let header = c.in-Ok-Some.header in
    let e = c.in-Ok-Some.ensures in
    let is = c.in-Ok-Some.field-0-is in
    record {
      files = e.files;
      opens = e.opens;
      header = at_some _ header (λ h. IfSome before (λ octets. TakesHeader at octets h after)) is e.header;
      within = at_some _ header (λ h. at.offset + 12 + h.len ≤ max_file) is e.within;
      some = at_some _ header (λ h. HasRead before after (AreHeader at h)) is e.some;
      nothing = tt;
      end = tt;
      at_end = tt;
      stopped = tt;
      reads = e.reads;
      shown = λ bad. absurd (no_error _ _ bad);
      counted = c.in-Ok.ensures.ok ∙ ap (λ t. with_more t 1 c.args.counts.now) c.record_type.ensures;
      same = tt;
      later = e.later;
      quiet = λ _. e.quiet tt;
      failed = λ bad. absurd (no_error _ _ bad);
      steady = e.steady;
      steady_reads = λ _ bad. no_error _ _ bad;
    }

pub returns-in-Ok-None : goal.returns-in-Ok-None
returns-in-Ok-None g c =
    let e = c.in-Ok-None.ensures in
    let is = c.in-Ok-None.field-0-is in
    record {
      files = e.files;
      opens = e.opens;
      header = tt;
      within = tt;
      some = tt;
      nothing = at_none _ _ is e.nothing;
      end = at_none _ _ is e.end;
      at_end = at_none _ _ is e.at_end;
      stopped = tt;
      reads = e.reads;
      shown = λ bad. absurd (no_error _ _ bad);
      counted = tt;
      same = refl;
      later = e.later;
      quiet = λ _. e.quiet tt;
      failed = λ bad. absurd (no_error _ _ bad);
      steady = e.steady;
      steady_reads = λ _ bad. no_error _ _ bad;
    }

pub returns-in-Err : goal.returns-in-Err
returns-in-Err g c =
    let error = c.in-Err.error in
    let e = c.in-Err.ensures in
    record {
      files = e.files;
      opens = e.opens;
      header = tt;
      within = tt;
      some = tt;
      nothing = tt;
      end = tt;
      at_end = tt;
      stopped = e.stopped;
      reads = e.reads;
      shown = λ is. e.shown (error_on error TooManyBytes is);
      counted = tt;
      same = tt;
      later = e.later;
      quiet = e.quiet;
      failed = λ is. e.failed (error_on error ReadFault is);
      steady = e.steady;
      steady_reads = λ s is. e.steady_reads s (error_on error ReadFault is);
    }

pub returns-in-Err-add : goal.returns-in-Err-add
returns-in-Err-add g c =
    let e = c.in-Ok-Some.ensures in
    record {
      files = e.files;
      opens = e.opens;
      header = tt;
      within = tt;
      some = tt;
      nothing = tt;
      end = tt;
      at_end = tt;
      stopped = tt;
      reads = e.reads;
      shown = λ is. absurd (memory_not_long (same_error NoMemory TooManyBytes is));
      counted = tt;
      same = tt;
      later = e.later;
      quiet = λ _. e.quiet tt;
      failed = λ is. absurd (memory_not_fault (same_error NoMemory ReadFault is));
      steady = e.steady;
      steady_reads = λ _ is. memory_not_fault (same_error NoMemory ReadFault is);
    }
