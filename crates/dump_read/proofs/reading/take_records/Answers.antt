use Rattle.std.proofs.Common.{◌≡◌, Err, sym, ap, subst, ◌∙◌, refl, arith}
use Rattle.std.specs.Prelude.{IfSome, IfNone}
use Rattle.mrt_frame.specs.Records.{Well}
use Rattle.mrt_frame.specs.Reader.{shelf_of, next_place}
use Rattle.mrt_frame.specs.Frames.{StopsWith}
use Rattle.mrt_frame.specs.Steps.{lent_record}
use Rattle.tor_io.specs.Counts.{Rose}
use Rattle.dump_read.specs.Refusals.{of_frame, IsOfDump}
use Rattle.mrt_frame.specs.Counting.{CountsOn, CountsAll}
use Rattle.dump_read.proofs.FileLemmas.{all_counted}
use Rattle.dump_read.proofs.Goings.{ends, breaks, some_so_far, some_with, frame_named}
use Rattle.mrt_frame.proofs.Reaches.{reads_none, reads_then}
use Rattle.mrt_frame.specs.Reach.{max_read}
use Rattle.mrt_frame.specs.declared.error.FrameError.{FrameError}
use Rattle.dump_read.specs.declared.error.DumpError.TheVariants as error
use Rattle.dump_read.specs.declared.error.LimitKind.TheVariants.{Bytes}
use Rattle.dump_read.specs.Routes.{routes_of}
use Rattle.dump_read.proofs.Reaches.{BehindOf, begins, goes_behind, shown_behind, frame_bytes, frame_fault, frame_place, no_record, unread_fault, unread_place}
use Rattle.dump_read.proofs.Somes.{Standing, all_taken, first_standing, next_standing}
use Rattle.dump_read.proofs.reading.take_records.Goals as goal

pub records-init : goal.records-init
records-init g c =
    let left = g.H.Shelf.left in
    let shelf = shelf_of c.args.frames.now in
    record {
      same_reference = refl;
      live = c.requires.live;
      stands = rw (c.requires.first, c.requires.start, c.requires.none) (first_standing c.args.wanted.now (left shelf) c.args.taken.now);
      reads = reads_none (left shelf) 0 (next_place c.args.frames.now).offset (omega arith);
      behind = rw c.requires.start (begins (left shelf));
      files = refl;
      opens = refl;
      quiet = refl;
      steady = λ s. s;
    }

pub returns-in-Ok-None-clause-some : goal.returns-in-Ok-None-clause-some
returns-in-Ok-None-clause-some g c =
    let left = g.H.Shelf.left in
    some_so_far c.args.wanted.now (left (shelf_of c.args.frames.now)) (left (shelf_of c.records.frames)) (next_place c.records.frames) c.records.invariant.stands.named
    c.args.taken.now c.records.taken c.records.invariant.stands.goes

pub returns-in-Ok-None-clause-read : goal.returns-in-Ok-None-clause-read
returns-in-Ok-None-clause-read g c =
    let left = g.H.Shelf.left in
    let at = next_place c.records.frames in
    let before = left (shelf_of c.records.frames) in
    let stops : IfSome before (λ octets. StopsWith at octets Well) =
    subst (λ o. IfNone o (IfSome before (λ octets. StopsWith at octets Well))) c.in-Ok-None.field-0-is c.in-Ok-None.ensures.end in
    ends c.args.wanted.now c.args.dump (left (shelf_of c.args.frames.now)) before at c.records.invariant.stands.named c.args.taken.now c.records.taken Well c.records.invariant.stands.goes stops

pub returns-in-Ok-None-clause-counted : goal.returns-in-Ok-None-clause-counted
returns-in-Ok-None-clause-counted g c =
    let left = g.H.Shelf.left in
    let at = next_place c.records.frames in
    let before = left (shelf_of c.records.frames) in
    let stops : IfSome before (λ octets. StopsWith at octets Well) =
    subst (λ o. IfNone o (IfSome before (λ octets. StopsWith at octets Well))) c.in-Ok-None.field-0-is c.in-Ok-None.ensures.end in
    let all : CountsAll before at c.records.file.records c.next.new.counts =
    subst (λ o. IfNone o (CountsAll before at c.records.file.records c.next.new.counts)) c.in-Ok-None.field-0-is c.in-Ok-None.ensures.counted_all in
    all_counted c.args.wanted.now (left (shelf_of c.args.frames.now)) before at c.records.invariant.stands.named c.records.file c.next.new.counts c.records.invariant.stands.counted stops all

pub returns-in-Err-clause-stopped : goal.returns-in-Err-clause-stopped
returns-in-Err-clause-stopped g c =
    let left = g.H.Shelf.left in
    rw c.of_frame.ensures (frame_named c.args.wanted.now c.args.dump (left (shelf_of c.args.frames.now)) (left (shelf_of c.records.frames)) (next_place c.records.frames) c.records.invariant.stands.named
    c.args.taken.now c.records.taken c.in-Err.error c.records.invariant.stands.goes c.in-Err.ensures.stopped)

pub returns-in-Err-clause-some : goal.returns-in-Err-clause-some
returns-in-Err-clause-some g c =
    let left = g.H.Shelf.left in
    some_so_far c.args.wanted.now (left (shelf_of c.args.frames.now)) (left (shelf_of c.records.frames)) (next_place c.records.frames) c.records.invariant.stands.named
    c.args.taken.now c.records.taken c.records.invariant.stands.goes

pub records-preserved : goal.records-preserved
records-preserved g c =
    let left = g.H.Shelf.left in
    let frames = c.next.follows.lender-at-none in
    let step = rw (c.in-Ok-Some.is, c.in-Ok-Some.field-0-is) at c.next.follows.holds-at-none in
    let old = c.args.taken.now in
    let mid = c.records.taken in
    let new = c.take_record.new.taken in
    record {
      same_reference = step.same_reference ∙ c.records.invariant.same_reference;
      live = step.live;
      stands = subst (λ at. Standing c.args.wanted.now (left (shelf_of c.args.frames.now)) (left (shelf_of frames)) at c.take_record.new.peers old new c.take_record.new.file) (sym step.next)
          (next_standing c.args.wanted.now (left (shelf_of c.args.frames.now)) (left (shelf_of c.records.frames)) (left (shelf_of frames))
          (next_place c.records.frames) c.records.peers c.take_record.new.peers (lent_record c.in-Ok-Some.found) old mid new c.records.file c.take_record.new.file c.next.new.counts
          c.records.invariant.stands step.stands
          (subst (λ at. CountsOn (left (shelf_of c.records.frames)) (next_place c.records.frames) c.records.file.records (left (shelf_of frames)) at c.next.new.counts) step.next step.counted)
          step.some c.in_default.ensures.taken c.in_default.ensures.peers c.in_default.ensures.counted);
      reads = reads_then (left (shelf_of c.args.frames.now)) (left (shelf_of c.records.frames)) (left (shelf_of frames)) 0 (next_place c.records.frames).offset (next_place frames).offset
          c.records.invariant.reads step.reached;
      behind = subst (λ at. BehindOf (left (shelf_of c.args.frames.now)) (left (shelf_of frames)) at) (sym step.next)
          (goes_behind (left (shelf_of c.args.frames.now)) (left (shelf_of c.records.frames)) (left (shelf_of frames)) (next_place c.records.frames) (lent_record c.in-Ok-Some.found)
          c.records.invariant.behind step.stands);
      files = step.leaves.files ∙ c.records.invariant.files;
      opens = step.leaves.opens ∙ c.records.invariant.opens;
      quiet = step.leaves.quiet tt ∙ c.records.invariant.quiet;
      steady = λ s. step.leaves.steady (c.records.invariant.steady s);
    }

pub returns-in-Err-take_record-clause-stopped : goal.returns-in-Err-take_record-clause-stopped
returns-in-Err-take_record-clause-stopped g c =
    let left = g.H.Shelf.left in
    let step = rw (c.in-Ok-Some.is, c.in-Ok-Some.field-0-is) at c.next.follows.holds-at-none in
    rw c.of_unread.ensures (breaks c.args.wanted.now c.args.dump (left (shelf_of c.args.frames.now)) (left (shelf_of c.records.frames)) (left (shelf_of c.next.follows.lender-at-none))
    (next_place c.records.frames)
    c.records.invariant.stands.named (lent_record c.in-Ok-Some.found) c.args.taken.now c.records.taken c.in-Err-take_record.unread
    c.records.invariant.stands.goes step.stands (c.in-Err-take_record.ensures.unread c.records.invariant.stands.named c.records.invariant.stands.kept))

pub returns-in-Err-take_record-clause-some : goal.returns-in-Err-take_record-clause-some
returns-in-Err-take_record-clause-some g c =
    let left = g.H.Shelf.left in
    let step = rw (c.in-Ok-Some.is, c.in-Ok-Some.field-0-is) at c.next.follows.holds-at-none in
    some_with c.args.wanted.now (left (shelf_of c.args.frames.now)) (left (shelf_of c.records.frames)) (left (shelf_of c.next.follows.lender-at-none)) (next_place c.records.frames)
    c.records.invariant.stands.named (lent_record c.in-Ok-Some.found) c.args.taken.now c.records.taken
    c.take_record.new.taken c.records.invariant.stands.goes step.stands (c.in-Err-take_record.ensures.some c.records.invariant.stands.named c.records.invariant.stands.kept)

pub returns-in-Ok-None-clause-bounded : goal.returns-in-Ok-None-clause-bounded
returns-in-Ok-None-clause-bounded g c =
    let left = g.H.Shelf.left in
    reads_then (left (shelf_of c.args.frames.now)) (left (shelf_of c.records.frames)) (left (shelf_of c.next.follows.lender-at-none)) 0 (next_place c.records.frames).offset max_read
    c.records.invariant.reads c.next.follows.holds-at-none.bounded

pub returns-in-Err-clause-bounded : goal.returns-in-Err-clause-bounded
returns-in-Err-clause-bounded g c =
    let left = g.H.Shelf.left in
    reads_then (left (shelf_of c.args.frames.now)) (left (shelf_of c.records.frames)) (left (shelf_of c.next.follows.lender-at-none)) 0 (next_place c.records.frames).offset max_read
    c.records.invariant.reads c.next.follows.holds-at-none.bounded

pub returns-in-Err-take_record-clause-bounded : goal.returns-in-Err-take_record-clause-bounded
returns-in-Err-take_record-clause-bounded g c =
    let left = g.H.Shelf.left in
    reads_then (left (shelf_of c.args.frames.now)) (left (shelf_of c.records.frames)) (left (shelf_of c.next.follows.lender-at-none)) 0 (next_place c.records.frames).offset max_read
    c.records.invariant.reads c.next.follows.holds-at-none.bounded

pub returns-in-Err-clause-shown : goal.returns-in-Err-clause-shown
returns-in-Err-clause-shown g c = λ is.
    let left = g.H.Shelf.left in
    let same : c.of_frame.result ≡ error.Limit Bytes = cc in
    let bytes = frame_bytes c.args.dump c.in-Err.error (sym c.of_frame.ensures ∙ same) in
    shown_behind (left (shelf_of c.args.frames.now)) (left (shelf_of c.records.frames)) (left (shelf_of c.next.follows.lender-at-none)) (next_place c.records.frames)
    c.records.invariant.behind (c.next.follows.holds-at-none.shown (c.in-Err.is ∙ ap (λ (e : FrameError). Err e) bytes))

pub returns-in-Err-take_record-clause-shown : goal.returns-in-Err-take_record-clause-shown
returns-in-Err-take_record-clause-shown g c = λ is.
    let same : c.of_unread.result ≡ error.Limit Bytes = cc in
    absurd (no_record c.args.wanted.now c.args.dump c.in-Ok-Some.found.at c.records.taken (routes_of c.records.invariant.stands.named (lent_record c.in-Ok-Some.found)) c.in-Err-take_record.unread
    (c.in-Err-take_record.ensures.unread c.records.invariant.stands.named c.records.invariant.stands.kept) (sym c.of_unread.ensures ∙ same))

pub returns-in-Ok-None-clause-some_file : goal.returns-in-Ok-None-clause-some_file
returns-in-Ok-None-clause-some_file g c =
    let left = g.H.Shelf.left in
    let step = rw (c.in-Ok-None.is, c.in-Ok-None.field-0-is) at c.next.follows.holds-at-none in
    all_taken (left (shelf_of c.args.frames.now)) (left (shelf_of c.records.frames)) (left (shelf_of c.next.follows.lender-at-none)) c.args.wanted.now c.args.dump
    (next_place c.records.frames) c.records.invariant.stands.named c.args.taken.now c.records.taken c.records.file c.next.new.counts c.records.invariant.stands.some step.some_end

-- ---- the reader and its shelf

pub returns-in-Ok-None-clause-at_end : goal.returns-in-Ok-None-clause-at_end
returns-in-Ok-None-clause-at_end g c = let step = rw (c.in-Ok-None.is, c.in-Ok-None.field-0-is) at c.next.follows.holds-at-none in step.at_end

pub returns-in-Ok-None-clause-same_reference : goal.returns-in-Ok-None-clause-same_reference
returns-in-Ok-None-clause-same_reference g c = c.next.follows.holds-at-none.same_reference ∙ c.records.invariant.same_reference

pub returns-in-Ok-None-clause-files : goal.returns-in-Ok-None-clause-files
returns-in-Ok-None-clause-files g c = c.next.follows.holds-at-none.leaves.files ∙ c.records.invariant.files

pub returns-in-Ok-None-clause-later : goal.returns-in-Ok-None-clause-later
returns-in-Ok-None-clause-later g c = omega (arith, c.next.follows.holds-at-none.leaves.later, c.records.invariant.quiet)

pub returns-in-Ok-None-clause-quiet : goal.returns-in-Ok-None-clause-quiet
returns-in-Ok-None-clause-quiet g c =
    let step = rw (c.in-Ok-None.is, c.in-Ok-None.field-0-is) at c.next.follows.holds-at-none in
    λ _. step.leaves.quiet tt ∙ c.records.invariant.quiet

pub returns-in-Ok-None-clause-steady : goal.returns-in-Ok-None-clause-steady
returns-in-Ok-None-clause-steady g c = λ s. c.next.follows.holds-at-none.leaves.steady (c.records.invariant.steady s)

pub returns-in-Err-clause-place : goal.returns-in-Err-clause-place
returns-in-Err-clause-place g c = subst (IsOfDump c.args.dump) (sym c.of_frame.ensures) (frame_place c.args.dump c.in-Err.error)

pub returns-in-Err-clause-same_reference : goal.returns-in-Err-clause-same_reference
returns-in-Err-clause-same_reference g c = c.next.follows.holds-at-none.same_reference ∙ c.records.invariant.same_reference

pub returns-in-Err-clause-files : goal.returns-in-Err-clause-files
returns-in-Err-clause-files g c = c.next.follows.holds-at-none.leaves.files ∙ c.records.invariant.files

pub returns-in-Err-clause-later : goal.returns-in-Err-clause-later
returns-in-Err-clause-later g c = omega (arith, c.next.follows.holds-at-none.leaves.later, c.records.invariant.quiet)

pub returns-in-Err-clause-failed : goal.returns-in-Err-clause-failed
returns-in-Err-clause-failed g c = λ is.
    let same : c.of_frame.result ≡ error.ReadFault = cc in
    let fault = frame_fault c.args.dump c.in-Err.error (sym c.of_frame.ensures ∙ same) in
    subst (λ n. Rose n (g.H.Shelf.faults (shelf_of c.next.follows.lender-at-none))) c.records.invariant.quiet
    (c.next.follows.holds-at-none.leaves.failed (c.in-Err.is ∙ ap (λ (e : FrameError). Err e) fault))

pub returns-in-Err-clause-quiet : goal.returns-in-Err-clause-quiet
returns-in-Err-clause-quiet g c = λ not.
    let step = rw c.in-Err.is at c.next.follows.holds-at-none in
    step.leaves.quiet (λ fault. not (ap (λ e. Err e) (c.of_frame.ensures ∙ ap (of_frame c.args.dump) fault))) ∙ c.records.invariant.quiet

pub returns-in-Err-clause-steady : goal.returns-in-Err-clause-steady
returns-in-Err-clause-steady g c = λ s. c.next.follows.holds-at-none.leaves.steady (c.records.invariant.steady s)

pub returns-in-Err-clause-steady_reads : goal.returns-in-Err-clause-steady_reads
returns-in-Err-clause-steady_reads g c = λ s is.
    let same : c.of_frame.result ≡ error.ReadFault = cc in
    c.in-Err.ensures.steady_reads (c.records.invariant.steady s) (ap (λ (e : FrameError). Err e) (frame_fault c.args.dump c.in-Err.error (sym c.of_frame.ensures ∙ same)))

pub returns-in-Err-take_record-clause-place : goal.returns-in-Err-take_record-clause-place
returns-in-Err-take_record-clause-place g c =
    subst (IsOfDump c.args.dump) (sym c.of_unread.ensures) (unread_place c.args.dump c.in-Ok-Some.found.at c.in-Err-take_record.unread)

pub returns-in-Err-take_record-clause-same_reference : goal.returns-in-Err-take_record-clause-same_reference
returns-in-Err-take_record-clause-same_reference g c = c.next.follows.holds-at-none.same_reference ∙ c.records.invariant.same_reference

pub returns-in-Err-take_record-clause-files : goal.returns-in-Err-take_record-clause-files
returns-in-Err-take_record-clause-files g c = c.next.follows.holds-at-none.leaves.files ∙ c.records.invariant.files

pub returns-in-Err-take_record-clause-later : goal.returns-in-Err-take_record-clause-later
returns-in-Err-take_record-clause-later g c = omega (arith, c.next.follows.holds-at-none.leaves.later, c.records.invariant.quiet)

pub returns-in-Err-take_record-clause-failed : goal.returns-in-Err-take_record-clause-failed
returns-in-Err-take_record-clause-failed g c = λ is.
    let same : c.of_unread.result ≡ error.ReadFault = cc in
    absurd (unread_fault c.args.dump c.in-Ok-Some.found.at c.in-Err-take_record.unread (sym c.of_unread.ensures ∙ same))

pub returns-in-Err-take_record-clause-quiet : goal.returns-in-Err-take_record-clause-quiet
returns-in-Err-take_record-clause-quiet g c =
    let step = rw (c.in-Ok-Some.is, c.in-Ok-Some.field-0-is) at c.next.follows.holds-at-none in
    λ _. step.leaves.quiet tt ∙ c.records.invariant.quiet

pub returns-in-Err-take_record-clause-steady : goal.returns-in-Err-take_record-clause-steady
returns-in-Err-take_record-clause-steady g c = λ s. c.next.follows.holds-at-none.leaves.steady (c.records.invariant.steady s)

pub returns-in-Err-take_record-clause-steady_reads : goal.returns-in-Err-take_record-clause-steady_reads
returns-in-Err-take_record-clause-steady_reads g c = λ _ is.
    let same : c.of_unread.result ≡ error.ReadFault = cc in
    unread_fault c.args.dump c.in-Ok-Some.found.at c.in-Err-take_record.unread (sym c.of_unread.ensures ∙ same)
