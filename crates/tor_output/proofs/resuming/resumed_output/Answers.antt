use Rattle.std.proofs.Common.{◌≡◌, Some, refl, ap, sym, subst, arith}
use Rattle.tor_words.specs.declared.job.Job.{Job}
use Rattle.tor_words.specs.declared.job.Job.TheVariants.{Resume}
use Rattle.tor_words.specs.Given.{dumps_of}
use Rattle.run_base.specs.Opening.{AllRead}
use Rattle.run_base.proofs.Openings.{stop_behind}
use Rattle.tor_output.specs.declared.unwritten.Unwritten.TheVariants as unwritten
use Rattle.tor_output.specs.First.{IsTakenUp, first_of}
use Rattle.tor_output.specs.Opening.{UnwrittenEnds}
use Rattle.tor_output.specs.Reach.{StopsInReach}
use Rattle.tor_output.specs.Written.{written}
use Rattle.result_rules.specs.declared.rule.Rule.TheVariants.{HeadSound}
use Rattle.result_rules.proofs.GivenLines.{name_once}
use Rattle.top_laws.proofs.Fewness.{few_in_result}
use Rattle.tor_output.proofs.Openings.{all_behind_first, first_stop}
use Rattle.tor_output.proofs.Unwritings as lemma
use Rattle.tor_output.proofs.resuming.resumed_output.Goals as goal

pub output_on-requires-clause-accepted : goal.output_on-requires-clause-accepted
output_on-requires-clause-accepted g c = c.in-Ok.ensures.of_some.2.rules

pub output_on-requires-clause-few : goal.output_on-requires-clause-few
output_on-requires-clause-few g c =
    let some = c.in-Ok.ensures.of_some in
    let few = few_in_result c.in-Ok.earlier some.0 some.2.text some.1 (name_once c.in-Ok.earlier (some.2.rules HeadSound)) in
    omega (arith, few)

pub output_on-requires-clause-dumps : goal.output_on-requires-clause-dumps
output_on-requires-clause-dumps g c = ap dumps_of c.requires.job

pub output_on-requires-clause-resumes : goal.output_on-requires-clause-resumes
output_on-requires-clause-resumes g c = subst (λ (j : Job). IsTakenUp (first_of j)) (sym c.requires.job) tt

pub returns-in-Ok-output_on-clause-output : goal.returns-in-Ok-output_on-clause-output
returns-in-Ok-output_on-clause-output g c =
    let files = g.H.Shelf.files in
    lemma.taken_made c.args.settings.now (Resume c.args.name.now c.args.dumps.now) c.requires.job (files c.earlier_in.new.shelf) (files c.args.shelf.now) c.in-Ok.earlier
    (written c.in-Ok-output_on.output) c.in-Ok.ensures.reads_shelf.keeps.files c.in-Ok.ensures.held c.in-Ok-output_on.ensures.output

pub returns-in-Ok-output_on-clause-of_some : goal.returns-in-Ok-output_on-clause-of_some
returns-in-Ok-output_on-clause-of_some g c =
    lemma.taken_some c.args.settings.now (Resume c.args.name.now c.args.dumps.now) c.requires.job c.in-Ok.earlier (written c.in-Ok-output_on.output) c.in-Ok.ensures.of_some
    c.in-Ok-output_on.ensures.of_some

pub returns-in-Ok-output_on-clause-opens : goal.returns-in-Ok-output_on-clause-opens
returns-in-Ok-output_on-clause-opens g c =
    let opens = g.H.Shelf.opens in
    let before = opens c.args.shelf.now in
    let after = opens c.output_on.new.shelf in
    lemma.opens c.args.settings.now (Resume c.args.name.now c.args.dumps.now) c.requires.job (λ end. end ≡ AllRead) before after
    (all_behind_first (Some c.args.name.now) c.args.dumps.now before (opens c.earlier_in.new.shelf) after c.in-Ok.ensures.opens c.in-Ok-output_on.ensures.opens)

pub returns-in-Err-output_on-clause-unwritten : goal.returns-in-Err-output_on-clause-unwritten
returns-in-Err-output_on-clause-unwritten g c =
    let shelf = g.H.Shelf in
    let keeps = c.in-Ok.ensures.reads_shelf.keeps in
    lemma.taken_refused c.args.settings.now (Resume c.args.name.now c.args.dumps.now) c.requires.job (shelf.files c.earlier_in.new.shelf) (shelf.files c.args.shelf.now)
    (shelf.steady c.args.shelf.now) (shelf.steady c.earlier_in.new.shelf) c.in-Ok.earlier c.in-Err-output_on.refusal keeps.files keeps.steady c.in-Ok.ensures.held
    c.in-Err-output_on.ensures.refused

pub returns-in-Err-output_on-clause-reach : goal.returns-in-Err-output_on-clause-reach
returns-in-Err-output_on-clause-reach g c =
    subst (λ o. StopsInReach c.args.settings.now o (g.H.Shelf.left c.output_on.new.shelf) c.in-Err-output_on.refusal) c.in-Ok.ensures.reads_shelf.keeps.files
    c.in-Err-output_on.ensures.reach

pub returns-in-Err-output_on-clause-opens_stop : goal.returns-in-Err-output_on-clause-opens_stop
returns-in-Err-output_on-clause-opens_stop g c =
    let opens = g.H.Shelf.opens in
    let before = opens c.args.shelf.now in
    let after = opens c.output_on.new.shelf in
    let name = c.args.name.now in
    let dumps = c.args.dumps.now in
    let r = c.in-Err-output_on.refusal in
    lemma.opens c.args.settings.now (Resume name dumps) c.requires.job (UnwrittenEnds (unwritten.Refused r)) before after
    (stop_behind before (opens c.earlier_in.new.shelf) after dumps dumps name name 0 r refl refl c.in-Ok.ensures.opens c.in-Err-output_on.ensures.opens_stop)

pub returns-in-Err-clause-unwritten : goal.returns-in-Err-clause-unwritten
returns-in-Err-clause-unwritten g c =
    let shelf = g.H.Shelf in
    lemma.first_unwritten c.args.settings.now (Resume c.args.name.now c.args.dumps.now) c.requires.job (shelf.files c.args.shelf.now) (shelf.steady c.args.shelf.now)
    (shelf.left c.earlier_in.new.shelf) c.in-Err.unwritten c.in-Err.ensures.unwritten

pub returns-in-Err-clause-reach : goal.returns-in-Err-clause-reach
returns-in-Err-clause-reach g c =
    let shelf = g.H.Shelf in
    lemma.first_reach c.args.settings.now (Resume c.args.name.now c.args.dumps.now) c.requires.job (shelf.files c.args.shelf.now) (shelf.steady c.args.shelf.now)
    (shelf.left c.earlier_in.new.shelf) c.in-Err.unwritten c.in-Err.ensures.unwritten c.in-Err.ensures.reach

pub returns-in-Err-clause-opens_stop : goal.returns-in-Err-clause-opens_stop
returns-in-Err-clause-opens_stop g c =
    let before = g.H.Shelf.opens c.args.shelf.now in
    let after = g.H.Shelf.opens c.earlier_in.new.shelf in
    lemma.opens c.args.settings.now (Resume c.args.name.now c.args.dumps.now) c.requires.job (UnwrittenEnds c.in-Err.unwritten) before after
    (first_stop (Some c.args.name.now) c.args.dumps.now before after after c.in-Err.ensures.opens c.in-Err.unwritten refl refl c.in-Err.ensures.at_first)
