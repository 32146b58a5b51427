use Rattle.std.proofs.Common.{◌≡◌, None, refl, sym}
use Rattle.std.proofs.lemmas.List.{append-nil}
use Rattle.tor_words.specs.declared.job.Job.TheVariants.{Count}
use Rattle.run_base.specs.declared.answer.Refusal.TheVariants as refusal
use Rattle.run_base.specs.Opening.{AllRead}
use Rattle.tor_output.specs.declared.unwritten.Unwritten.TheVariants as unwritten
use Rattle.tor_output.specs.Opening.{UnwrittenEnds}
use Rattle.tor_output.specs.Written.{written}
use Rattle.tor_output.proofs.AcceptingLemmas.{none_sound}
use Rattle.tor_output.proofs.Openings.{all_behind_first, memory_opens, stop_behind_first}
use Rattle.tor_output.proofs.Sampled.{all_known, any_known}
use Rattle.tor_output.proofs.Unwritings as lemma
use Rattle.tor_output.proofs.counting.counted_output.Goals as goal

pub returns-in-Ok-counted_of-clause-output : goal.returns-in-Ok-counted_of-clause-output
returns-in-Ok-counted_of-clause-output g c =
    let known = g.H.Shelf.files c.args.shelf.now in
    lemma.made c.args.settings.now (Count c.args.counted c.args.dumps.now) c.requires.job None (written c.in-Ok-counted_of.output) known known refl (any_known known _ (λ files. tt))
    (all_known known _ _ (λ files seen. (c.in-Ok.taken, seen, c.in-Ok-counted_of.ensures)) c.in-Ok.ensures.seen)

pub returns-in-Ok-counted_of-clause-of_some : goal.returns-in-Ok-counted_of-clause-of_some
returns-in-Ok-counted_of-clause-of_some g c =
    lemma.made_some c.args.settings.now (Count c.args.counted c.args.dumps.now) c.requires.job None (written c.in-Ok-counted_of.output) tt none_sound
    (c.in-Ok.taken, c.in-Ok.ensures.of_some, c.in-Ok.ensures.rows, c.in-Ok-counted_of.ensures)

pub returns-in-Ok-counted_of-clause-opens : goal.returns-in-Ok-counted_of-clause-opens
returns-in-Ok-counted_of-clause-opens g c =
    let before = g.H.Shelf.opens c.args.shelf.now in
    let after = g.H.Shelf.opens c.dumps_taken.new.shelf in
    lemma.opens c.args.settings.now (Count c.args.counted c.args.dumps.now) c.requires.job (λ end. end ≡ AllRead) before after
    (all_behind_first None c.args.dumps.now before before after (sym (append-nil before)) c.in-Ok.ensures.opens)

pub returns-in-Err-counted_of-clause-opens_stop : goal.returns-in-Err-counted_of-clause-opens_stop
returns-in-Err-counted_of-clause-opens_stop g c =
    let before = g.H.Shelf.opens c.args.shelf.now in
    let after = g.H.Shelf.opens c.dumps_taken.new.shelf in
    lemma.opens c.args.settings.now (Count c.args.counted c.args.dumps.now) c.requires.job (UnwrittenEnds (unwritten.Refused refusal.NoMemory)) before after
    (stop_behind_first None c.args.dumps.now before before after refusal.NoMemory (sym (append-nil before)) (memory_opens c.args.dumps.now before after c.in-Ok.ensures.opens))

pub returns-in-Err-clause-unwritten : goal.returns-in-Err-clause-unwritten
returns-in-Err-clause-unwritten g c =
    let known = g.H.Shelf.files c.args.shelf.now in
    let steady = g.H.Shelf.steady c.args.shelf.now in
    lemma.dumps_refused c.args.settings.now (Count c.args.counted c.args.dumps.now) c.requires.job known known steady steady None c.in-Err.refusal refl (λ held. held)
    (any_known known _ (λ files. tt)) c.in-Err.ensures.refused

pub returns-in-Err-clause-reach : goal.returns-in-Err-clause-reach
returns-in-Err-clause-reach g c =
    let known = g.H.Shelf.files c.args.shelf.now in
    lemma.reach_behind c.args.settings.now (Count c.args.counted c.args.dumps.now) c.requires.job known known (g.H.Shelf.left c.dumps_taken.new.shelf) c.in-Err.refusal refl
    c.in-Err.ensures.reach

pub returns-in-Err-clause-opens_stop : goal.returns-in-Err-clause-opens_stop
returns-in-Err-clause-opens_stop g c =
    let before = g.H.Shelf.opens c.args.shelf.now in
    let after = g.H.Shelf.opens c.dumps_taken.new.shelf in
    lemma.opens c.args.settings.now (Count c.args.counted c.args.dumps.now) c.requires.job (UnwrittenEnds (unwritten.Refused c.in-Err.refusal)) before after
    (stop_behind_first None c.args.dumps.now before before after c.in-Err.refusal (sym (append-nil before)) c.in-Err.ensures.opens_stop)
