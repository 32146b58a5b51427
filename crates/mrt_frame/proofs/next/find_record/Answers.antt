use Rattle.std.proofs.Common.{length, ◌≤◌, ◌+◌, IfSome, Err, arith, rules, false, refl, ◌≡◌, sym, ap, subst, ◌∙◌}
use Rattle.std.specs.Prelude.{IfNone, ◌<◌}
use Rattle.std.specs.Io.KnownBytes.{IsAtEnd}
use Rattle.tor_io.specs.Counts.{Rose}
use Rattle.record_counts.specs.Counting.{with_more}
use Rattle.mrt_frame.specs.Limits.{max_file}
use Rattle.mrt_frame.specs.Records.{Ends, Well, BodyCut, TooManyBytes as too_many, place_behind, next_of}
use Rattle.mrt_frame.specs.Frames.{StopsWith, record_as, end_of_error}
use Rattle.mrt_frame.specs.Reach.{max_read}
use Rattle.mrt_frame.specs.declared.error.FrameError.{FrameError}
use Rattle.mrt_frame.specs.declared.error.FrameError.TheVariants.{TooManyBytes, ReadFault}
use Rattle.mrt_frame.proofs.CountLemmas.{begins_counting, counted_one, counted_end}
use Rattle.mrt_header.specs.Kinds.{is_read}
use Rattle.mrt_frame.specs.Part.{TakesHeader}
use Rattle.mrt_frame.proofs.Errors.{no_error, same_error, error_on, cut_not_long}
use Rattle.mrt_frame.proofs.Passing.{begins, passed_one, finds, stops, cut_body, if_some}
use Rattle.mrt_frame.proofs.Reaches.{reads_none, reads_then, reads_from, reads_record, shown_at}
use Rattle.mrt_frame.specs.Some.{HasRead, AreHeader}
use Rattle.mrt_frame.proofs.Somes.{none_passed, passed_more, found_some, ended_some}
use Rattle.mrt_frame.proofs.next.find_record.Goals as goal

pub records-init : goal.records-init
records-init g c =
    let left = g.H.Shelf.left c.args.shelf.now in
    record {
      files = refl;
      opens = refl;
      passed = begins left c.args.start;
      counted = begins_counting left c.args.start c.args.counts.now;
      some = none_passed left c.args.start c.args.counts.now;
      reads = reads_none left c.args.start.offset c.args.start.offset (omega arith);
      onward = omega arith;
      numbered = c.requires.numbered;
      near = c.requires.near;
      quiet = refl;
      steady = λ s. s;
    }

pub records-preserved : goal.records-preserved
records-preserved g c =
    let shelf = g.H.Shelf in
    let at = c.records.at in
    let header = c.in-Ok-Some.header in
    let mid = shelf.left c.count_header.new.shelf in
    let e = c.in-Ok-Some.ensures in
    let is = c.in-Ok-Some.field-0-is in
    let taken : IfSome (shelf.left c.records.shelf) (λ octets. TakesHeader at octets header mid) =
    subst (λ o. IfSome o (λ h. IfSome (shelf.left c.records.shelf) (λ octets. TakesHeader at octets h mid))) is e.header in
    let within : at.offset + 12 + header.len ≤ max_file = subst (λ o. IfSome o (λ h. at.offset + 12 + h.len ≤ max_file)) is e.within in
    let counts_are : c.count_header.new.counts ≡ with_more (record { kind = header.kind; subtype = header.subtype }) 1 c.records.counts =
    subst (λ o. IfSome o (λ h. c.count_header.new.counts ≡ with_more (record { kind = h.kind; subtype = h.subtype }) 1 c.records.counts)) is e.counted in
    let unread : is_read header.kind header.subtype ≡ false = search rules in
    let passed = c.in-Ok-pass_body.ensures in
    record {
      files = passed.files ∙ e.files ∙ c.records.invariant.files;
      opens = passed.opens ∙ e.opens ∙ c.records.invariant.opens;
      passed = passed_one (shelf.left c.args.shelf.now) (shelf.left c.records.shelf) mid (shelf.left c.pass_body.new.shelf) c.args.start at c.behind-at.result header
          c.records.invariant.passed taken passed.skipped unread c.behind-at.ensures.number c.behind-at.ensures.offset;
      counted = counted_one (shelf.left c.args.shelf.now) (shelf.left c.records.shelf) mid (shelf.left c.pass_body.new.shelf) c.args.start at c.behind-at.result header
          c.args.counts.now c.records.counts c.count_header.new.counts c.records.invariant.passed c.records.invariant.counted taken passed.skipped
          counts_are c.behind-at.ensures.number c.behind-at.ensures.offset;
      some = passed_more (shelf.left c.args.shelf.now) (shelf.left c.records.shelf) mid (shelf.left c.pass_body.new.shelf) c.args.start at c.behind-at.result header
          c.args.counts.now c.records.counts c.count_header.new.counts c.records.invariant.some
          (subst (λ o. IfSome o (λ h. HasRead (shelf.left c.records.shelf) mid (AreHeader at h))) is e.some) passed.gathered
          counts_are unread c.behind-at.ensures.number c.behind-at.ensures.offset;
      reads = reads_record (shelf.left c.args.shelf.now) (shelf.left c.records.shelf) mid (shelf.left c.pass_body.new.shelf) c.args.start.offset at.offset header.len
          c.behind-at.result.offset c.records.invariant.reads e.reads passed.reads (omega (arith, c.behind-at.ensures.offset));
      onward = omega (arith, c.records.invariant.onward, c.behind-at.ensures.offset);
      numbered = omega (arith, c.records.invariant.numbered, c.behind-at.ensures.number, c.behind-at.ensures.offset);
      near = omega (arith, within, c.behind-at.ensures.offset);
      quiet = passed.quiet tt ∙ e.quiet tt ∙ c.records.invariant.quiet;
      steady = λ s. passed.steady (e.steady (c.records.invariant.steady s));
    }

pub returns-in-Ok : goal.returns-in-Ok
returns-in-Ok g c =
    let left = g.H.Shelf.left in
    let before = left c.args.shelf.now in
    let at = c.records.at in
    let header = c.in-Ok-Some.header in
    let mid = left c.count_header.new.shelf in
    let after = left c.read_body.new.shelf in
    let body = c.read_body.new.body.items in
    let kind = c.in-Some.kind in
    let so_far = c.records.invariant in
    let e = c.in-Ok-Some.ensures in
    let is = c.in-Ok-Some.field-0-is in
    let b = c.in-Ok.ensures in
    let taken : IfSome (left c.records.shelf) (λ octets. TakesHeader at octets header mid) =
    subst (λ o. IfSome o (λ h. IfSome (left c.records.shelf) (λ octets. TakesHeader at octets h mid))) is e.header in
    let within : at.offset + 12 + header.len ≤ max_file = subst (λ o. IfSome o (λ h. at.offset + 12 + h.len ≤ max_file)) is e.within in
    let counts_are : c.count_header.new.counts ≡ with_more (record { kind = header.kind; subtype = header.subtype }) 1 c.records.counts =
    subst (λ o. IfSome o (λ h. c.count_header.new.counts ≡ with_more (record { kind = h.kind; subtype = h.subtype }) 1 c.records.counts)) is e.counted in
    let len : length body ≡ header.len = omega (arith, b.len) in
    record {
      files = b.files ∙ e.files ∙ so_far.files;
      opens = b.opens ∙ e.opens ∙ so_far.opens;
      «record» = finds before (left c.records.shelf) mid after c.args.start at header kind body so_far.passed taken b.skipped b.taken (sym c.in-Some.ensures);
      some = found_some before (left c.records.shelf) mid after c.args.start at header kind body c.args.counts.now c.records.counts c.count_header.new.counts so_far.some
          (subst (λ o. IfSome o (λ h. HasRead (left c.records.shelf) mid (AreHeader at h))) is e.some) b.gathered len counts_are (sym c.in-Some.ensures);
      some_end = tt;
      body = b.len;
      onward = so_far.onward;
      numbered = so_far.numbered;
      within = within;
      end = tt;
      at_end = tt;
      stopped = tt;
      reads = reads_record before (left c.records.shelf) mid after c.args.start.offset at.offset header.len max_read so_far.reads e.reads b.reads (omega (arith, within));
      reached = reads_record before (left c.records.shelf) mid after c.args.start.offset at.offset header.len (at.offset + 12 + header.len) so_far.reads e.reads b.reads
          (omega arith);
      shown = λ bad. absurd (no_error _ _ bad);
      counted = counted_one before (left c.records.shelf) mid after c.args.start at (place_behind (record_as at kind body)) header c.args.counts.now c.records.counts
          c.count_header.new.counts so_far.passed so_far.counted taken b.skipped counts_are refl (ap (λ n. at.offset + 12 + n) len);
      counted_all = tt;
      later = omega (arith, so_far.quiet, e.later, b.later);
      quiet = λ _. b.quiet tt ∙ e.quiet tt ∙ so_far.quiet;
      failed = λ bad. absurd (no_error _ _ bad);
      steady = λ s. b.steady (e.steady (so_far.steady s));
      steady_reads = λ _ bad. no_error _ _ bad;
    }

pub returns-in-Ok-None : goal.returns-in-Ok-None
returns-in-Ok-None g c =
    let left = g.H.Shelf.left in
    let before = left c.args.shelf.now in
    let at = c.records.at in
    let last = left c.count_header.new.shelf in
    let so_far = c.records.invariant in
    let e = c.in-Ok-None.ensures in
    let is = c.in-Ok-None.field-0-is in
    let ends : IfSome (left c.records.shelf) (λ octets. next_of at octets ≡ Ends Well) =
    subst (λ o. IfNone o (IfSome (left c.records.shelf) (λ octets. next_of at octets ≡ Ends Well))) is e.end in
    let nothing : left c.records.shelf ≡ last = subst (λ o. IfNone o (left c.records.shelf ≡ last)) is e.nothing in
    let same : c.count_header.new.counts ≡ c.records.counts = subst (λ o. IfNone o (c.count_header.new.counts ≡ c.records.counts)) is e.same in
    record {
      files = e.files ∙ so_far.files;
      opens = e.opens ∙ so_far.opens;
      «record» = tt;
      some = tt;
      some_end = ended_some before (left c.records.shelf) last c.args.start at c.args.counts.now c.records.counts c.count_header.new.counts so_far.some nothing same;
      body = tt;
      onward = tt;
      numbered = tt;
      within = tt;
      end = stops before (left c.records.shelf) c.args.start at Well so_far.passed ends;
      at_end = subst (λ o. IfNone o (IsAtEnd last)) is e.at_end;
      stopped = tt;
      reads = reads_then before (left c.records.shelf) last c.args.start.offset at.offset max_read so_far.reads
          (reads_from (left c.records.shelf) last 12 at.offset max_read e.reads (omega (arith, so_far.near)));
      reached = tt;
      shown = λ bad. absurd (no_error _ _ bad);
      counted = tt;
      counted_all = rw same (counted_end before (left c.records.shelf) c.args.start at c.args.counts.now c.records.counts so_far.passed so_far.counted ends);
      later = omega (arith, so_far.quiet, e.later);
      quiet = λ _. e.quiet tt ∙ so_far.quiet;
      failed = λ bad. absurd (no_error _ _ bad);
      steady = λ s. e.steady (so_far.steady s);
      steady_reads = λ _ bad. no_error _ _ bad;
    }

pub returns-in-Err : goal.returns-in-Err
returns-in-Err g c =
    let shelf = g.H.Shelf in
    let left = shelf.left in
    let before = left c.args.shelf.now in
    let at = c.records.at in
    let last = left c.count_header.new.shelf in
    let so_far = c.records.invariant in
    let error = c.in-Err.error in
    let e = c.in-Err.ensures in
    record {
      files = e.files ∙ so_far.files;
      opens = e.opens ∙ so_far.opens;
      «record» = tt;
      some = tt;
      some_end = tt;
      body = tt;
      onward = tt;
      numbered = tt;
      within = tt;
      end = tt;
      at_end = tt;
      stopped = if_some (end_of_error error) (λ end. IfSome (left c.records.shelf) (λ octets. next_of at octets ≡ Ends end))
          (λ end. IfSome before (λ octets. StopsWith c.args.start octets end))
          (λ end is. stops before (left c.records.shelf) c.args.start at end so_far.passed is) e.stopped;
      reads = reads_then before (left c.records.shelf) last c.args.start.offset at.offset max_read so_far.reads
          (reads_from (left c.records.shelf) last 12 at.offset max_read e.reads (omega (arith, so_far.near)));
      reached = tt;
      shown = λ is.
          let bytes = same_error error TooManyBytes is in
          let stops : IfSome (left c.records.shelf) (λ octets. next_of at octets ≡ Ends too_many) =
          subst (λ (x : FrameError). IfSome (end_of_error x) (λ end. IfSome (left c.records.shelf) (λ octets. next_of at octets ≡ Ends end))) bytes e.stopped in
          shown_at before (left c.records.shelf) last c.args.start at too_many so_far.passed stops (e.shown (ap (λ (x : FrameError). Err x) bytes));
      counted = tt;
      counted_all = tt;
      later = omega (arith, so_far.quiet, e.later);
      quiet = λ w. e.quiet w ∙ so_far.quiet;
      failed = λ is. subst (λ n. Rose n (shelf.faults c.count_header.new.shelf)) so_far.quiet (e.failed (error_on error ReadFault is));
      steady = λ s. e.steady (so_far.steady s);
      steady_reads = λ s is. e.steady_reads (so_far.steady s) (error_on error ReadFault is);
    }

pub returns-in-Err-read_body : goal.returns-in-Err-read_body
returns-in-Err-read_body g c =
    let shelf = g.H.Shelf in
    let left = shelf.left in
    let before = left c.args.shelf.now in
    let at = c.records.at in
    let header = c.in-Ok-Some.header in
    let mid = left c.count_header.new.shelf in
    let last = left c.read_body.new.shelf in
    let so_far = c.records.invariant in
    let error = c.in-Err-read_body.error in
    let e = c.in-Ok-Some.ensures in
    let is = c.in-Ok-Some.field-0-is in
    let b = c.in-Err-read_body.ensures in
    let taken : IfSome (left c.records.shelf) (λ octets. TakesHeader at octets header mid) =
    subst (λ o. IfSome o (λ h. IfSome (left c.records.shelf) (λ octets. TakesHeader at octets h mid))) is e.header in
    let within : at.offset + 12 + header.len ≤ max_file = subst (λ o. IfSome o (λ h. at.offset + 12 + h.len ≤ max_file)) is e.within in
    let cut : IfSome (end_of_error error) (λ end. (end ≡ BodyCut at) × IfSome mid (λ octets. length octets < header.len)) = b.cut in
    let quiet : shelf.faults c.count_header.new.shelf ≡ shelf.faults c.args.shelf.now = e.quiet tt ∙ so_far.quiet in
    record {
      files = b.files ∙ e.files ∙ so_far.files;
      opens = b.opens ∙ e.opens ∙ so_far.opens;
      «record» = tt;
      some = tt;
      some_end = tt;
      body = tt;
      onward = tt;
      numbered = tt;
      within = tt;
      end = tt;
      at_end = tt;
      stopped = if_some (end_of_error error) (λ end. (end ≡ BodyCut at) × IfSome mid (λ octets. length octets < header.len))
          (λ end. IfSome before (λ octets. StopsWith c.args.start octets end))
          (λ end short. stops before (left c.records.shelf) c.args.start at end so_far.passed (cut_body (left c.records.shelf) mid at header end taken short)) cut;
      reads = reads_record before (left c.records.shelf) mid last c.args.start.offset at.offset header.len max_read so_far.reads e.reads b.reads (omega (arith, within));
      reached = tt;
      shown = λ is.
          let bytes = same_error error TooManyBytes is in
          let short = subst (λ (x : FrameError). IfSome (end_of_error x) (λ end. (end ≡ BodyCut at) × IfSome mid (λ octets. length octets < header.len))) bytes cut in
          absurd (cut_not_long at short.0);
      counted = tt;
      counted_all = tt;
      later = omega (arith, quiet, b.later);
      quiet = λ w. b.quiet w ∙ quiet;
      failed = λ is. subst (λ n. Rose n (shelf.faults c.read_body.new.shelf)) quiet (b.failed (error_on error ReadFault is));
      steady = λ s. b.steady (e.steady (so_far.steady s));
      steady_reads = λ s is. b.steady_reads (e.steady (so_far.steady s)) (error_on error ReadFault is);
    }

pub returns-in-Err-pass_body : goal.returns-in-Err-pass_body
returns-in-Err-pass_body g c =
    let shelf = g.H.Shelf in
    let left = shelf.left in
    let before = left c.args.shelf.now in
    let at = c.records.at in
    let header = c.in-Ok-Some.header in
    let mid = left c.count_header.new.shelf in
    let last = left c.pass_body.new.shelf in
    let so_far = c.records.invariant in
    let error = c.in-Err-pass_body.error in
    let e = c.in-Ok-Some.ensures in
    let is = c.in-Ok-Some.field-0-is in
    let b = c.in-Err-pass_body.ensures in
    let taken : IfSome (left c.records.shelf) (λ octets. TakesHeader at octets header mid) =
    subst (λ o. IfSome o (λ h. IfSome (left c.records.shelf) (λ octets. TakesHeader at octets h mid))) is e.header in
    let within : at.offset + 12 + header.len ≤ max_file = subst (λ o. IfSome o (λ h. at.offset + 12 + h.len ≤ max_file)) is e.within in
    let cut : IfSome (end_of_error error) (λ end. (end ≡ BodyCut at) × IfSome mid (λ octets. length octets < header.len)) = b.cut in
    let quiet : shelf.faults c.count_header.new.shelf ≡ shelf.faults c.args.shelf.now = e.quiet tt ∙ so_far.quiet in
    record {
      files = b.files ∙ e.files ∙ so_far.files;
      opens = b.opens ∙ e.opens ∙ so_far.opens;
      «record» = tt;
      some = tt;
      some_end = tt;
      body = tt;
      onward = tt;
      numbered = tt;
      within = tt;
      end = tt;
      at_end = tt;
      stopped = if_some (end_of_error error) (λ end. (end ≡ BodyCut at) × IfSome mid (λ octets. length octets < header.len))
          (λ end. IfSome before (λ octets. StopsWith c.args.start octets end))
          (λ end short. stops before (left c.records.shelf) c.args.start at end so_far.passed (cut_body (left c.records.shelf) mid at header end taken short)) cut;
      reads = reads_record before (left c.records.shelf) mid last c.args.start.offset at.offset header.len max_read so_far.reads e.reads b.reads (omega (arith, within));
      reached = tt;
      shown = λ is.
          let bytes = same_error error TooManyBytes is in
          let short = subst (λ (x : FrameError). IfSome (end_of_error x) (λ end. (end ≡ BodyCut at) × IfSome mid (λ octets. length octets < header.len))) bytes cut in
          absurd (cut_not_long at short.0);
      counted = tt;
      counted_all = tt;
      later = omega (arith, quiet, b.later);
      quiet = λ w. b.quiet w ∙ quiet;
      failed = λ is. subst (λ n. Rose n (shelf.faults c.pass_body.new.shelf)) quiet (b.failed (error_on error ReadFault is));
      steady = λ s. b.steady (e.steady (so_far.steady s));
      steady_reads = λ s is. b.steady_reads (e.steady (so_far.steady s)) (error_on error ReadFault is);
    }
