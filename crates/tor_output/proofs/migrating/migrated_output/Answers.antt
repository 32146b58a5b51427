use Rattle.std.proofs.Common.{◌≡◌, [], Some, refl, sym}
use Rattle.std.proofs.lemmas.List.{append-nil}
use Rattle.tor_words.specs.declared.job.Job.TheVariants.{Migrate}
use Rattle.run_base.specs.declared.answer.Refusal.TheVariants as refusal
use Rattle.run_base.specs.Opening.{AllRead}
use Rattle.tor_output.specs.declared.unwritten.Unwritten.TheVariants as unwritten
use Rattle.tor_output.specs.Opening.{UnwrittenEnds}
use Rattle.tor_output.specs.Written.{written}
use Rattle.tor_output.proofs.Openings.{all_behind_first, first_stop}
use Rattle.tor_output.proofs.Unwritings as lemma
use Rattle.tor_output.proofs.migrating.migrated_output.Goals as goal

pub returns-in-Ok-migration_of-clause-output : goal.returns-in-Ok-migration_of-clause-output
returns-in-Ok-migration_of-clause-output g c =
    lemma.held c.args.settings.now (Migrate c.args.name.now) c.requires.job (g.H.Shelf.files c.args.shelf.now) c.in-Ok.file (written c.in-Ok-migration_of.output) c.in-Ok.ensures.held
    c.in-Ok-migration_of.ensures

pub returns-in-Ok-migration_of-clause-of_some : goal.returns-in-Ok-migration_of-clause-of_some
returns-in-Ok-migration_of-clause-of_some g c =
    lemma.held_some c.args.settings.now (Migrate c.args.name.now) c.requires.job c.in-Ok.file (written c.in-Ok-migration_of.output) c.in-Ok.ensures.of_some c.in-Ok-migration_of.ensures

pub returns-in-Ok-migration_of-clause-opens : goal.returns-in-Ok-migration_of-clause-opens
returns-in-Ok-migration_of-clause-opens g c =
    let before = g.H.Shelf.opens c.args.shelf.now in
    let after = g.H.Shelf.opens c.result_in.new.shelf in
    lemma.opens c.args.settings.now (Migrate c.args.name.now) c.requires.job (λ end. end ≡ AllRead) before after
    (all_behind_first (Some c.args.name.now) [] before after after c.in-Ok.ensures.opens (sym (append-nil after)))

pub returns-in-Err-migration_of-clause-opens_stop : goal.returns-in-Err-migration_of-clause-opens_stop
returns-in-Err-migration_of-clause-opens_stop g c =
    let before = g.H.Shelf.opens c.args.shelf.now in
    let after = g.H.Shelf.opens c.result_in.new.shelf in
    let none = unwritten.Refused refusal.NoMemory in
    lemma.opens c.args.settings.now (Migrate c.args.name.now) c.requires.job (UnwrittenEnds none) before after
    (first_stop (Some c.args.name.now) [] before after after c.in-Ok.ensures.opens none refl refl tt)

pub returns-in-Err-clause-unwritten : goal.returns-in-Err-clause-unwritten
returns-in-Err-clause-unwritten g c =
    let shelf = g.H.Shelf in
    lemma.first_unwritten c.args.settings.now (Migrate c.args.name.now) c.requires.job (shelf.files c.args.shelf.now) (shelf.steady c.args.shelf.now) (shelf.left c.result_in.new.shelf)
    c.in-Err.unwritten c.in-Err.ensures.unwritten

pub returns-in-Err-clause-reach : goal.returns-in-Err-clause-reach
returns-in-Err-clause-reach g c =
    let shelf = g.H.Shelf in
    lemma.first_reach c.args.settings.now (Migrate c.args.name.now) c.requires.job (shelf.files c.args.shelf.now) (shelf.steady c.args.shelf.now) (shelf.left c.result_in.new.shelf)
    c.in-Err.unwritten c.in-Err.ensures.unwritten c.in-Err.ensures.reach

pub returns-in-Err-clause-opens_stop : goal.returns-in-Err-clause-opens_stop
returns-in-Err-clause-opens_stop g c =
    let before = g.H.Shelf.opens c.args.shelf.now in
    let after = g.H.Shelf.opens c.result_in.new.shelf in
    lemma.opens c.args.settings.now (Migrate c.args.name.now) c.requires.job (UnwrittenEnds c.in-Err.unwritten) before after
    (first_stop (Some c.args.name.now) [] before after after c.in-Err.ensures.opens c.in-Err.unwritten refl refl c.in-Err.ensures.at_first)
