use Rattle.std.proofs.Common.{◌≡◌, None, Ok, Err, inl, inr, refl, ap, ◌∙◌, subst, arith}
use Rattle.std.specs.Prelude.{IfSome}
use Rattle.std.proofs.lemmas.Result.{on_ok_weaker}
use Rattle.mrt_frame.specs.Reach.{ReadsUpTo, LeavesBehindHeader, max_read}
use Rattle.mrt_frame.specs.Records.{start}
use Rattle.tor_io.specs.Counts.{Rose}
use Rattle.dump_read.specs.Reach.{StopsBounded}
use Rattle.dump_read.specs.Wanted.{file_routes}
use Rattle.dump_read.specs.Seen.{of_file, of_octets, end_named}
use Rattle.dump_read.specs.Taking.{TakesSome}
use Rattle.dump_read.proofs.FileLemmas.{on_err}
use Rattle.dump_read.proofs.Goings.{none_so_far}
use Rattle.dump_read.proofs.Openings.{file_read, file_and, not_absent, any_some, any_ok, any_err, err_then, some_then, no_limit, no_limit_memory, no_fault}
use Rattle.dump_read.proofs.reading.read_dump.Goals as goal

pub returns-in-Ok : goal.returns-in-Ok
returns-in-Ok g c =
    let r = c.read_records.result in
    let known = g.H.Shelf.files c.args.shelf.now in
    let name = c.args.name.now in
    let left = g.H.Shelf.left c.open_file.new.self in
    let behind = g.H.Shelf.left c.read_records.new.shelf in
    let wanted = c.args.wanted.now in
    let dump = c.args.dump in
    let old = c.args.taken.now in
    let new = c.read_records.new.taken in
    let opened = c.in-Ok.ensures.opened in
    let read = c.read_records.ensures in
    let quiet = c.in-Ok.ensures.quiet in
    let bounded = file_and known name left (λ l. ReadsUpTo 0 max_read l behind) opened read.bounded in record {
      read = on_ok_weaker r (λ h. file_read known name left (λ o. of_file wanted dump old o ≡ Ok new) opened h) read.read;
      stopped = err_then r (λ e. IfSome (end_named dump e) (λ end. IfSome left (λ octets. of_octets wanted dump old octets ≡ Err end)))
          (λ e. IfSome (end_named dump e) (λ end. IfSome known (λ files. of_file wanted dump old (files name) ≡ Err end)))
          (λ e. some_then (end_named dump e) (λ end. IfSome left (λ octets. of_octets wanted dump old octets ≡ Err end)) (λ end. IfSome known (λ files. of_file wanted dump old (files name) ≡ Err end))
          (λ end h. file_read known name left (λ o. of_file wanted dump old o ≡ Err end) opened h)) read.stopped;
      some_file = read.some_file;
      some = on_err r read.some (λ h. file_read known name left (λ o. IfSome o (λ octets. TakesSome wanted.sets old (file_routes wanted octets) new)) opened h);
      absent = not_absent known name left (new ≡ old) opened;
      place = read.place;
      at_end = read.at_end;
      bounded = any_ok r _ bounded;
      bounded_stop = any_err r (λ e. StopsBounded e name known behind) (λ e. inl bounded);
      shown = λ is. file_and known name left (λ l. LeavesBehindHeader start l behind) opened (read.shown is);
      files = read.files ∙ c.in-Ok.ensures.files;
      opens = read.opens ∙ c.in-Ok.ensures.opens;
      later = omega (arith, read.later, c.in-Ok.ensures.later);
      failed = λ is. subst (λ n. Rose n (g.H.Shelf.faults c.read_records.new.shelf)) quiet (read.failed is);
      quiet = λ not. read.quiet not ∙ quiet;
      steady = λ s. read.steady (c.in-Ok.ensures.steady s);
      steady_failed = λ s is. absurd (read.steady_reads (c.in-Ok.ensures.steady s) is);
    }

pub returns-in-Err-Failed : goal.returns-in-Err-Failed
returns-in-Err-Failed g c =
    let opening = c.in-Err-Failed.ensures in
    let known = g.H.Shelf.files c.args.shelf.now in
    let name = c.args.name.now in
    let is = ap (λ e. Err e) c.in-Err-Failed.field-0-is in record {
      read = tt;
      stopped = tt;
      some_file = tt;
      some = none_so_far c.args.wanted.now c.args.taken.now known name;
      absent = any_some known (λ files. files name ≡ None → c.args.taken.now ≡ c.args.taken.now) (λ files _. refl);
      place = tt;
      at_end = tt;
      bounded = tt;
      bounded_stop = inr (inl refl, opening.refused);
      shown = λ e. absurd (no_limit e);
      files = opening.files;
      opens = opening.opens;
      later = opening.later;
      failed = λ _. opening.failed is;
      quiet = λ not. absurd (not refl);
      steady = opening.steady;
      steady_failed = λ s _. opening.steady_failed s is;
    }

pub returns-in-Err-NoMemory : goal.returns-in-Err-NoMemory
returns-in-Err-NoMemory g c =
    let opening = c.in-Err-NoMemory.ensures in
    let known = g.H.Shelf.files c.args.shelf.now in
    let name = c.args.name.now in
    let is = ap (λ e. Err e) c.in-Err-NoMemory.field-0-is in record {
      read = tt;
      stopped = tt;
      some_file = tt;
      some = none_so_far c.args.wanted.now c.args.taken.now known name;
      absent = any_some known (λ files. files name ≡ None → c.args.taken.now ≡ c.args.taken.now) (λ files _. refl);
      place = tt;
      at_end = tt;
      bounded = tt;
      bounded_stop = inr (inr refl, opening.refused);
      shown = λ e. absurd (no_limit_memory e);
      files = opening.files;
      opens = opening.opens;
      later = opening.later;
      failed = λ e. absurd (no_fault e);
      quiet = λ _. opening.memory is;
      steady = opening.steady;
      steady_failed = λ _ e. absurd (no_fault e);
    }
