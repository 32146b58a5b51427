use Rattle.std.proofs.Common.{◌≡◌, refl}
use Rattle.tor_words.specs.declared.job.Job.TheVariants.{Infer}
use Rattle.run_base.specs.Opening.{AllRead}
use Rattle.tor_output.specs.declared.unwritten.Unwritten.TheVariants as unwritten
use Rattle.tor_output.specs.Opening.{UnwrittenEnds}
use Rattle.tor_output.specs.Written.{written}
use Rattle.tor_output.proofs.Openings.{all_behind_first, first_stop, stop_behind_first}
use Rattle.tor_output.proofs.Unwritings as lemma
use Rattle.tor_output.proofs.inferring.inferred_output.Goals as goal

pub returns-in-Ok-made_under-clause-output : goal.returns-in-Ok-made_under-clause-output
returns-in-Ok-made_under-clause-output g c =
    let files = g.H.Shelf.files in
    lemma.made c.args.settings.now (Infer c.args.made c.args.given.now c.args.dumps.now) c.requires.job c.in-Ok.said (written c.in-Ok-made_under.output)
    (files c.givens_for.new.shelf) (files c.args.shelf.now) c.in-Ok.ensures.reads_shelf.keeps.files c.in-Ok.ensures.known c.in-Ok-made_under.ensures.output

pub returns-in-Ok-made_under-clause-of_some : goal.returns-in-Ok-made_under-clause-of_some
returns-in-Ok-made_under-clause-of_some g c =
    lemma.made_some c.args.settings.now (Infer c.args.made c.args.given.now c.args.dumps.now) c.requires.job c.in-Ok.said (written c.in-Ok-made_under.output)
    c.in-Ok.ensures.of_some c.in-Ok.ensures.sound c.in-Ok-made_under.ensures.of_some

pub returns-in-Ok-made_under-clause-opens : goal.returns-in-Ok-made_under-clause-opens
returns-in-Ok-made_under-clause-opens g c =
    let opens = g.H.Shelf.opens in
    let before = opens c.args.shelf.now in
    let after = opens c.made_under.new.shelf in
    lemma.opens c.args.settings.now (Infer c.args.made c.args.given.now c.args.dumps.now) c.requires.job (λ end. end ≡ AllRead) before after
    (all_behind_first c.args.given.now c.args.dumps.now before (opens c.givens_for.new.shelf) after c.in-Ok.ensures.opens c.in-Ok-made_under.ensures.opens)

pub returns-in-Err-made_under-clause-unwritten : goal.returns-in-Err-made_under-clause-unwritten
returns-in-Err-made_under-clause-unwritten g c =
    let shelf = g.H.Shelf in
    let keeps = c.in-Ok.ensures.reads_shelf.keeps in
    lemma.dumps_refused c.args.settings.now (Infer c.args.made c.args.given.now c.args.dumps.now) c.requires.job (shelf.files c.givens_for.new.shelf) (shelf.files c.args.shelf.now)
    (shelf.steady c.args.shelf.now) (shelf.steady c.givens_for.new.shelf) c.in-Ok.said c.in-Err-made_under.refusal keeps.files keeps.steady c.in-Ok.ensures.known
    c.in-Err-made_under.ensures.refused

pub returns-in-Err-made_under-clause-reach : goal.returns-in-Err-made_under-clause-reach
returns-in-Err-made_under-clause-reach g c =
    let shelf = g.H.Shelf in
    lemma.reach_behind c.args.settings.now (Infer c.args.made c.args.given.now c.args.dumps.now) c.requires.job (shelf.files c.givens_for.new.shelf) (shelf.files c.args.shelf.now)
    (shelf.left c.made_under.new.shelf) c.in-Err-made_under.refusal c.in-Ok.ensures.reads_shelf.keeps.files c.in-Err-made_under.ensures.reach

pub returns-in-Err-made_under-clause-opens_stop : goal.returns-in-Err-made_under-clause-opens_stop
returns-in-Err-made_under-clause-opens_stop g c =
    let opens = g.H.Shelf.opens in
    let before = opens c.args.shelf.now in
    let after = opens c.made_under.new.shelf in
    let r = c.in-Err-made_under.refusal in
    lemma.opens c.args.settings.now (Infer c.args.made c.args.given.now c.args.dumps.now) c.requires.job (UnwrittenEnds (unwritten.Refused r)) before after
    (stop_behind_first c.args.given.now c.args.dumps.now before (opens c.givens_for.new.shelf) after r c.in-Ok.ensures.opens c.in-Err-made_under.ensures.opens_stop)

pub returns-in-Err-clause-unwritten : goal.returns-in-Err-clause-unwritten
returns-in-Err-clause-unwritten g c =
    let shelf = g.H.Shelf in
    lemma.first_unwritten c.args.settings.now (Infer c.args.made c.args.given.now c.args.dumps.now) c.requires.job (shelf.files c.args.shelf.now) (shelf.steady c.args.shelf.now)
    (shelf.left c.givens_for.new.shelf) c.in-Err.unwritten c.in-Err.ensures.unwritten

pub returns-in-Err-clause-reach : goal.returns-in-Err-clause-reach
returns-in-Err-clause-reach g c =
    let shelf = g.H.Shelf in
    lemma.first_reach c.args.settings.now (Infer c.args.made c.args.given.now c.args.dumps.now) c.requires.job (shelf.files c.args.shelf.now) (shelf.steady c.args.shelf.now)
    (shelf.left c.givens_for.new.shelf) c.in-Err.unwritten c.in-Err.ensures.unwritten c.in-Err.ensures.reach

pub returns-in-Err-clause-opens_stop : goal.returns-in-Err-clause-opens_stop
returns-in-Err-clause-opens_stop g c =
    let before = g.H.Shelf.opens c.args.shelf.now in
    let after = g.H.Shelf.opens c.givens_for.new.shelf in
    lemma.opens c.args.settings.now (Infer c.args.made c.args.given.now c.args.dumps.now) c.requires.job (UnwrittenEnds c.in-Err.unwritten) before after
    (first_stop c.args.given.now c.args.dumps.now before after after c.in-Err.ensures.opens c.in-Err.unwritten c.in-Err.ensures.some refl c.in-Err.ensures.at_first)
