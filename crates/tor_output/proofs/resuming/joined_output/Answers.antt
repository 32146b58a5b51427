use Rattle.std.proofs.Common.{◌≡◌, ◌++◌, ◌-◌, length, Ok, Err, ap, sym, subst, ◌∙◌}
use Rattle.std.specs.Prelude.{IfSome, IsOk, take}
use Rattle.dump_read.specs.declared.wanted.Wanted.{Wanted}
use Rattle.dump_read.specs.Seen.{Absent, end_named}
use Rattle.run_base.specs.declared.answer.Refusal.TheVariants as refusal
use Rattle.run_base.specs.Reading.{IsOfSomeDumps, seen_from}
use Rattle.tor_output.specs.Reach.{StopsDumpsInReach}
use Rattle.tor_output.proofs.Openings.{memory_opens, read_stopped}
use Rattle.tor_output.specs.Written.{written}
use Rattle.tor_output.proofs.Resumings.{rows_begin, joined_made, joined_some, joined_refused}
use Rattle.tor_output.proofs.resuming.joined_output.Goals as goal

pub returns-in-Ok-resumed_text-clause-output : goal.returns-in-Ok-resumed_text-clause-output
returns-in-Ok-resumed_text-clause-output g c = λ old begun.
    let new = c.read_dumps.new.taken in
    let rows = rows_begin old c.args.settings.now.max_paths _ _ c.args.taken new begun.begun c.in-Ok.ensures.some_dumps in
    joined_made c.args.settings.now old c.args.earlier c.args.taken c.as_slice.result.now begun (c.as_slice.ensures ∙ sym c.requires.dumps) (g.H.Shelf.files c.args.shelf.now)
    new (written c.in-Ok-resumed_text.output)
    (subst (λ (w : Wanted). IfSome (g.H.Shelf.files c.args.shelf.now) (λ files. seen_from w 1 c.args.taken c.as_slice.result.now files ≡ Ok new)) c.all-wanted.ensures c.in-Ok.ensures.read)
    (c.in-Ok-resumed_text.ensures old begun.left rows)

pub returns-in-Ok-resumed_text-clause-of_some : goal.returns-in-Ok-resumed_text-clause-of_some
returns-in-Ok-resumed_text-clause-of_some g c = λ old begun.
    let new = c.read_dumps.new.taken in
    let rows = rows_begin old c.args.settings.now.max_paths _ _ c.args.taken new begun.begun c.in-Ok.ensures.some_dumps in
    joined_some c.args.settings.now old c.args.earlier c.args.taken c.as_slice.result.now begun (c.as_slice.ensures ∙ sym c.requires.dumps) new
    (written c.in-Ok-resumed_text.output)
    (subst (λ (w : Wanted). IsOfSomeDumps w (length c.as_slice.result.now) c.args.taken new) c.all-wanted.ensures c.in-Ok.ensures.some_dumps) c.has_table_rows.ensures (c.in-Ok-resumed_text.ensures old begun.left rows)

pub resumed_text-requires-clause-begins : goal.resumed_text-requires-clause-begins
resumed_text-requires-clause-begins g c =
    let e = c.requires.begun in
    record {
      file = e.0;
      left = e.2.left;
      accepted = e.1;
      begins = rows_begin e.0 c.args.settings.now.max_paths _ _ c.args.taken c.read_dumps.new.taken e.2.begun c.in-Ok.ensures.some_dumps;
    }

pub returns-clause-refused : goal.returns-clause-refused
returns-clause-refused g c = λ old begun.
    let shelf = g.H.Shelf in
    let e = c.in-Err.ensures in
    let s = c.in-Err.stopped in
    let known = shelf.files c.args.shelf.now in
    let read = c.as_slice.result.now in
    let all = c.all-wanted.ensures in
    joined_refused c.args.settings.now old c.args.earlier c.args.taken c.as_slice.result.now begun (c.as_slice.ensures ∙ sym c.requires.dumps) (shelf.files c.args.shelf.now)
    (shelf.steady c.args.shelf.now) s (subst (λ (w : Wanted). IfSome (end_named s.dump s.error) (λ end. IfSome known (λ files. seen_from w 1 c.args.taken read files ≡ Err end))) all e.stopped)
    e.named (subst (λ (w : Wanted). IfSome known (λ files. IsOk (seen_from w 1 c.args.taken (take (s.dump - 1) read) files))) all e.before)
    (λ held is. subst (λ (w : Wanted). IfSome known (λ files. seen_from w 1 c.args.taken read files ≡ Err (Absent s.dump))) all (e.steady_failed held is))

pub returns-clause-reach : goal.returns-clause-reach
returns-clause-reach g c =
    let shelf = g.H.Shelf in
    let e = c.in-Err.ensures in
    subst (λ ds. StopsDumpsInReach ds (shelf.files c.args.shelf.now) (shelf.left c.read_dumps.new.shelf) (refusal.Dumps c.in-Err.stopped)) c.as_slice.ensures
    (e.place, (e.named.0, e.named.1, e.bounded, e.shown))

pub returns-clause-opens_stop : goal.returns-clause-opens_stop
returns-clause-opens_stop g c =
    let opens = g.H.Shelf.opens in
    let e = c.in-Err.ensures in
    read_stopped c.args.dumps.now c.as_slice.result.now (opens c.args.shelf.now) (opens c.read_dumps.new.shelf) c.in-Err.stopped c.as_slice.ensures e.named e.place e.opens_stop

pub returns-in-Ok-clause-opens_stop : goal.returns-in-Ok-clause-opens_stop
returns-in-Ok-clause-opens_stop g c =
    let before = g.H.Shelf.opens c.args.shelf.now in
    memory_opens c.args.dumps.now before (g.H.Shelf.opens c.read_dumps.new.shelf) (c.in-Ok.ensures.opens ∙ ap (λ ds. before ++ ds) c.as_slice.ensures)
