use Rattle.std.proofs.Common.{◌≡◌, Some, sym, subst}
use Rattle.std.specs.Prelude.{IfSome}
use Rattle.std.proofs.lemmas.Result.{on_ok_weaker}
use Rattle.dump_read.specs.declared.error.DumpError.TheVariants.{NoMemory}
use Rattle.dump_read.specs.Wanted.{file_routes}
use Rattle.dump_read.specs.Refusals.{IsOfDump}
use Rattle.dump_read.specs.Taking.{Taken, TakesSome}
use Rattle.dump_read.proofs.FileLemmas.{read_to_end, on_err}
use Rattle.dump_read.proofs.Openings.{any_ok, err_then}
use Rattle.dump_read.proofs.reading.read_records.Goals as goal

pub returns-in-Err : goal.returns-in-Err
returns-in-Err g c =
    let stopped = c.in-Err.ensures in record {
      read = tt;
      stopped = stopped.stopped;
      some_file = tt;
      some = stopped.some;
      place = stopped.place;
      at_end = tt;
      bounded = stopped.bounded;
      shown = stopped.shown;
      files = stopped.files;
      opens = stopped.opens;
      later = stopped.later;
      failed = stopped.failed;
      quiet = stopped.quiet;
      steady = stopped.steady;
      steady_reads = stopped.steady_reads;
    }

pub returns-clause-some : goal.returns-clause-some
returns-clause-some g c =
    let left = g.H.Shelf.left c.args.shelf.now in
    on_err c.keep_file.result c.keep_file.ensures.unchanged (λ same.
    subst (λ (t : Taken). IfSome left (λ octets. TakesSome c.args.wanted.now.sets c.args.taken.now (file_routes c.args.wanted.now octets) t)) (sym same) c.in_default.ensures.some)

pub returns-clause-read : goal.returns-clause-read
returns-clause-read g c =
    on_ok_weaker c.keep_file.result (λ kept.
    read_to_end c.args.wanted.now c.args.dump (g.H.Shelf.left c.args.shelf.now) c.args.taken.now c.take_file.new.taken c.keep_file.new.taken c.take_file.new.file kept
    c.in_default.ensures.read c.in_default.ensures.counted) c.keep_file.ensures.ok

pub returns-clause-some_file : goal.returns-clause-some_file
returns-clause-some_file g c =
    on_ok_weaker c.keep_file.result (λ kept.
    let file = c.in_default.ensures.some_file in (
      file.0,
      read_to_end c.args.wanted.now c.args.dump (Some file.0) c.args.taken.now c.take_file.new.taken c.keep_file.new.taken c.take_file.new.file kept file.1 file.2,
    )) c.keep_file.ensures.ok

pub returns-clause-place : goal.returns-clause-place
returns-clause-place g c =
    err_then c.keep_file.result (λ e. e ≡ NoMemory) (IsOfDump c.args.dump) (λ e is. subst (IsOfDump c.args.dump) (sym is) tt) c.keep_file.ensures.memory

pub returns-clause-at_end : goal.returns-clause-at_end
returns-clause-at_end g c = any_ok c.keep_file.result _ c.in_default.ensures.at_end

pub returns-clause-bounded : goal.returns-clause-bounded
returns-clause-bounded g c = c.in_default.ensures.bounded

pub returns-clause-files : goal.returns-clause-files
returns-clause-files g c = c.in_default.ensures.files

pub returns-clause-later : goal.returns-clause-later
returns-clause-later g c = c.in_default.ensures.later

pub returns-clause-steady : goal.returns-clause-steady
returns-clause-steady g c = c.in_default.ensures.steady
