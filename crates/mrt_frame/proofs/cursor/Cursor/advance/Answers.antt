use Rattle.std.proofs.Common.{◌≡◌, ℕ, ◌+◌, ◌≤◌, length, vec_len, IfSome, arith, refl, sym, ap, subst, ◌∙◌}
use Rattle.std.proofs.Math.Path.{ap₂}
use Rattle.std.proofs.lemmas.Bool.{false≢true}
use Rattle.mrt_frame.specs.declared.header.At.{At}
use Rattle.mrt_frame.specs.declared.error.FrameError.TheVariants.{TooManyBytes, ReadFault}
use Rattle.mrt_frame.specs.Counting.{CountsOn}
use Rattle.mrt_frame.specs.Frames.{FindsNext, record_as}
use Rattle.mrt_frame.specs.Limits.{max_file}
use Rattle.mrt_frame.specs.Reach.{ReadsUpTo}
use Rattle.mrt_frame.specs.Records.{place_behind}
use Rattle.mrt_frame.specs.Some.{HasRead, GiveRecord}
use Rattle.mrt_frame.proofs.Errors.{no_error, no_answer, false_not_true, error_on, at_none, at_some}
use Rattle.mrt_frame.proofs.Reaches.{reads_more}
use Rattle.mrt_frame.proofs.cursor.Cursor.advance.Goals as goal

pub returns-in-Ok-Some : goal.returns-in-Ok-Some
returns-in-Ok-Some g c =
    let before = g.H.Shelf.left c.args.shelf.now in
    let after = g.H.Shelf.left c.find_record.new.shelf in
    let place = c.args.self.now.next in
    let found = c.in-Ok-Some.found in
    let body = c.find_record.new.body in
    let last = found.at.offset + 12 + found.len in
    let first = c.args.counts.now in
    let second = c.find_record.new.counts in
    let e = c.in-Ok-Some.ensures in
    let is = c.in-Ok-Some.field-0-is in
    let size : vec_len body ≡ found.len = at_some _ found (λ f. vec_len body ≡ f.len) is e.body in
    let len : length body.items ≡ found.len = omega (arith, size) in
    let within : last ≤ max_file = at_some _ found (λ f. f.at.offset + 12 + f.len ≤ max_file) is e.within in
    let same : place_behind (record_as found.at found.kind body.items) ≡ c.behind-self.result =
    ap₂ (λ (n o : ℕ). record { number = n; offset = o }) (sym c.behind-self.ensures.number) (ap (λ n. found.at.offset + 12 + n) len ∙ sym c.behind-self.ensures.offset) in
    record {
      files = e.files;
      opens = e.opens;
      «record» = λ _. at_some _ found (λ f. IfSome before (λ octets. FindsNext place octets (record_as f.at f.kind body.items) after)) is e.record;
      some = λ _. at_some _ found (λ f. HasRead before after (GiveRecord place first (record_as f.at f.kind body.items) second)) is e.some;
      some_end = λ bad. absurd (false_not_true (sym bad));
      next = λ _. sym same;
      onward = λ _. at_some _ found (λ f. place.offset ≤ f.at.offset) is e.onward;
      end = λ bad. absurd (false_not_true (sym bad));
      at_end = λ bad. absurd (false_not_true (sym bad));
      stopped = tt;
      live = ((λ _. refl), λ _. refl);
      bounded = e.reads;
      reached = λ _. reads_more before after place.offset last c.behind-self.result.offset
          (at_some _ found (λ f. ReadsUpTo place.offset (f.at.offset + 12 + f.len) before after) is e.reached) (omega (arith, c.behind-self.ensures.offset));
      shown = λ bad. absurd (no_error _ _ bad);
      within = omega (arith, within, c.behind-self.ensures.offset);
      counted = λ _. subst (λ (a : At). CountsOn before place first after a second) same
          (at_some _ found (λ f. CountsOn before place first after (place_behind (record_as f.at f.kind body.items)) second) is e.counted);
      counted_all = λ bad. absurd (false_not_true (sym bad));
      later = e.later;
      quiet = λ _. e.quiet tt;
      failed = λ bad. absurd (no_error _ _ bad);
      steady = e.steady;
      steady_reads = λ _ bad. no_error _ _ bad;
    }

pub returns-in-Ok-None : goal.returns-in-Ok-None
returns-in-Ok-None g c =
    let e = c.in-Ok-None.ensures in
    let is = c.in-Ok-None.field-0-is in
    record {
      files = e.files;
      opens = e.opens;
      «record» = λ bad. absurd (false_not_true bad);
      some = λ bad. absurd (false_not_true bad);
      some_end = λ _. at_none _ _ is e.some_end;
      next = λ bad. absurd (false_not_true bad);
      onward = λ bad. absurd (false_not_true bad);
      end = λ _. at_none _ _ is e.end;
      at_end = λ _. at_none _ _ is e.at_end;
      stopped = tt;
      live = ((λ bad. absurd (false≢true bad)), λ bad. absurd (false_not_true bad));
      bounded = e.reads;
      reached = λ bad. absurd (false_not_true bad);
      shown = λ bad. absurd (no_error _ _ bad);
      within = c.args.self.now.bounded;
      counted = λ bad. absurd (false_not_true bad);
      counted_all = λ _. at_none _ _ is e.counted_all;
      later = e.later;
      quiet = λ _. e.quiet tt;
      failed = λ bad. absurd (no_error _ _ bad);
      steady = e.steady;
      steady_reads = λ _ bad. no_error _ _ bad;
    }

pub returns-in-Err : goal.returns-in-Err
returns-in-Err g c =
    let error = c.in-Err.error in
    let e = c.in-Err.ensures in
    record {
      files = e.files;
      opens = e.opens;
      «record» = λ bad. absurd (no_answer _ _ bad);
      some = λ bad. absurd (no_answer _ _ bad);
      some_end = λ bad. absurd (no_answer _ _ bad);
      next = λ bad. absurd (no_answer _ _ bad);
      onward = λ bad. absurd (no_answer _ _ bad);
      end = λ bad. absurd (no_answer _ _ bad);
      at_end = λ bad. absurd (no_answer _ _ bad);
      stopped = e.stopped;
      live = ((λ bad. absurd (false≢true bad)), λ bad. absurd (no_answer _ _ bad));
      bounded = e.reads;
      reached = λ bad. absurd (no_answer _ _ bad);
      shown = λ is. e.shown (error_on error TooManyBytes is);
      within = c.args.self.now.bounded;
      counted = λ bad. absurd (no_answer _ _ bad);
      counted_all = λ bad. absurd (no_answer _ _ bad);
      later = e.later;
      quiet = e.quiet;
      failed = λ is. e.failed (error_on error ReadFault is);
      steady = e.steady;
      steady_reads = λ s is. e.steady_reads s (error_on error ReadFault is);
    }
