use Rattle.std.proofs.Common.{◌≡◌, ◌+◌, ◌∙◌, ℕ, List, Ok, Err, ap, subst}
use Rattle.std.specs.Prelude.{IfSome}
use Rattle.tor_io.specs.Contents.{LacksFile}
use Rattle.dump_read.specs.Seen.{end_named, of_file}
use Rattle.dump_read.specs.Reach.{StopsBounded, LeavesRestOfDump}
use Rattle.run_base.specs.Reading.{name_of_dump}
use Rattle.run_base.proofs.Dumps.{absent, one_more, stops, named, some_more}
use Rattle.run_base.proofs.Openings.{dump_opened}
use Rattle.run_base.proofs.reading.read_dumps.Goals as goal

pub returns-in-Err-clause-stopped : goal.returns-in-Err-clause-stopped
returns-in-Err-clause-stopped g c =
    let known = g.H.Shelf.files c.args.shelf.now in
    let i = c.loop-place.place in
    let name = c.index-dumps-place.result in
    let mid = c.loop-place.taken in
    let one : IfSome (end_named (i + 1) c.in-Err.error) (λ end. IfSome known (λ files. of_file c.args.wanted.now (i + 1) mid (files name) ≡ Err end)) =
    subst (λ (n : List ℕ). IfSome (end_named (i + 1) c.in-Err.error) (λ end. IfSome known (λ files. of_file c.args.wanted.now (i + 1) mid (files n) ≡ Err end))) c.as_text.ensures
    (subst (λ o. IfSome (end_named (i + 1) c.in-Err.error) (λ end. IfSome o (λ files. of_file c.args.wanted.now (i + 1) mid (files c.as_text.result.now) ≡ Err end))) c.loop-place.invariant.files
    c.in-Err.ensures.stopped) in
    stops c.args.wanted.now c.args.taken.now mid known c.args.dumps.now i name c.in-Err.error c.loop-place-test.true c.index-dumps-place.is c.loop-place.invariant.seen one

pub returns-in-Err-clause-steady_failed : goal.returns-in-Err-clause-steady_failed
returns-in-Err-clause-steady_failed g c = λ steady is.
    let known = g.H.Shelf.files c.args.shelf.now in
    let i = c.loop-place.place in
    let name = c.index-dumps-place.result in
    let lacks : LacksFile known name =
    subst (λ (n : List ℕ). LacksFile known n) c.as_text.ensures
    (subst (λ o. LacksFile o c.as_text.result.now) c.loop-place.invariant.files
    (c.in-Err.ensures.steady_failed (c.loop-place.invariant.steady steady) (ap (λ x. Err x) is))) in
    absent c.args.wanted.now c.args.taken.now c.loop-place.taken known c.args.dumps.now i name
    c.loop-place-test.true c.index-dumps-place.is c.loop-place.invariant.seen lacks

pub loop-place-preserved : goal.loop-place-preserved
loop-place-preserved g c =
    let known = g.H.Shelf.files c.args.shelf.now in
    let i = c.loop-place.place in
    let name = c.index-dumps-place.result in
    let mid = c.loop-place.taken in
    let new = c.read_dump.new.taken in
    let one : IfSome known (λ files. of_file c.args.wanted.now (i + 1) mid (files name) ≡ Ok new) =
    subst (λ (n : List ℕ). IfSome known (λ files. of_file c.args.wanted.now (i + 1) mid (files n) ≡ Ok new)) c.as_text.ensures
    (subst (λ o. IfSome o (λ files. of_file c.args.wanted.now (i + 1) mid (files c.as_text.result.now) ≡ Ok new)) c.loop-place.invariant.files c.in-Ok.ensures.read) in
    record {
      seen = one_more c.args.wanted.now c.args.taken.now mid new known c.args.dumps.now i name c.loop-place-test.true c.index-dumps-place.is c.loop-place.invariant.seen one;
      some = some_more c.args.wanted.now c.args.taken.now mid new i c.loop-place.invariant.some c.in-Ok.ensures.some_file;
      read_out = λ _. c.in-Ok.ensures.at_end;
      files = c.in-Ok.ensures.files ∙ c.loop-place.invariant.files;
      opens = dump_opened (g.H.Shelf.opens c.args.shelf.now) (g.H.Shelf.opens c.loop-place.shelf) (g.H.Shelf.opens c.read_dump.new.shelf) c.args.dumps.now i name c.as_text.result.now
          c.loop-place-test.true c.index-dumps-place.is c.as_text.ensures c.loop-place.invariant.opens c.in-Ok.ensures.opens;
      quiet = c.in-Ok.ensures.quiet (λ e. cc) ∙ c.loop-place.invariant.quiet;
      steady = λ s. c.in-Ok.ensures.steady (c.loop-place.invariant.steady s);
    }

pub returns-in-Err-clause-bounded : goal.returns-in-Err-clause-bounded
returns-in-Err-clause-bounded g c =
    let known = g.H.Shelf.files c.args.shelf.now in
    let left = g.H.Shelf.left c.read_dump.new.shelf in
    let i = c.loop-place.place in
    let name = c.index-dumps-place.result in
    let same : c.as_text.result.now ≡ name_of_dump c.args.dumps.now (i + 1) = c.as_text.ensures ∙ named c.args.dumps.now i name c.loop-place-test.true c.index-dumps-place.is in
    subst (λ (n : List ℕ). StopsBounded c.in-Err.error n known left) same
    (subst (λ o. StopsBounded c.in-Err.error c.as_text.result.now o left) c.loop-place.invariant.files c.in-Err.ensures.bounded_stop)

pub returns-in-Err-clause-shown : goal.returns-in-Err-clause-shown
returns-in-Err-clause-shown g c = λ is.
    let known = g.H.Shelf.files c.args.shelf.now in
    let left = g.H.Shelf.left c.read_dump.new.shelf in
    let i = c.loop-place.place in
    let name = c.index-dumps-place.result in
    let same : c.as_text.result.now ≡ name_of_dump c.args.dumps.now (i + 1) = c.as_text.ensures ∙ named c.args.dumps.now i name c.loop-place-test.true c.index-dumps-place.is in
    subst (λ (n : List ℕ). LeavesRestOfDump n known left) same
    (subst (λ o. LeavesRestOfDump c.as_text.result.now o left) c.loop-place.invariant.files (c.in-Err.ensures.shown (ap (λ x. Err x) is)))

pub returns-in-Err-clause-opens_stop : goal.returns-in-Err-clause-opens_stop
returns-in-Err-clause-opens_stop g c =
    dump_opened (g.H.Shelf.opens c.args.shelf.now) (g.H.Shelf.opens c.loop-place.shelf) (g.H.Shelf.opens c.read_dump.new.shelf) c.args.dumps.now c.loop-place.place
    c.index-dumps-place.result c.as_text.result.now c.loop-place-test.true c.index-dumps-place.is c.as_text.ensures c.loop-place.invariant.opens c.in-Err.ensures.opens
