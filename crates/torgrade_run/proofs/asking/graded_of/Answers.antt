use Rattle.std.proofs.Common.{Ok, Err, ap, refl, subst, ◌∙◌}
use Rattle.path_clean.specs.declared.cleaned.Sets.TheVariants.{Cut}
use Rattle.dump_read.specs.Wanted.{all_wanted}
use Rattle.run_base.specs.Stopping.{ReadsDumps}
use Rattle.run_base.specs.declared.whole_file.Unread.TheVariants.{Failed as failed}
use Rattle.as_rel.specs.Limits.{max_rel}
use Rattle.run_base.proofs.Askings.{has_octets, not_read, whole_first}
use Rattle.run_base.proofs.Values as values
use Rattle.torgrade_run.specs.Grading.{basis_of, grading}
use Rattle.torgrade_run.proofs.Stops.{all_read, dumps_end, memory, rel_file}
use Rattle.torgrade_run.proofs.asking.graded_of.Goals as goal

pub returns-in-Err-clause-asks : goal.returns-in-Err-clause-asks
returns-in-Err-clause-asks g c =
    let read = c.in-Err.ensures in
    let settings = c.args.settings.now in
    let unread = c.in-Err.unread in
    not_read grading settings (rel_file settings) settings.dumps g.H.Shelf basis_of c.as_text.result.now unread c.args.shelf.now c.read_whole.new.shelf
    refl c.as_text.ensures (λ is. is) (λ is. is) tt (λ is. read.long (ap (λ u. Err u) is)) (λ is. read.rest (ap (λ u. Err u) is)) read.unread read.opens
    (λ held is. read.steady_failed held (ap (λ u. Err u) is))
    (record {
      keeps = record { files = read.files; steady = read.steady; later = read.later };
      rose = λ is. read.failed (ap (λ u. Err u) is);
      quiet = λ not. read.quiet (λ is. not (values.err_is c.read_whole.result unread failed c.in-Err.is (c.in-Err.is ∙ is)));
    })

pub returns-in-Err-NoMemory-clause-asks : goal.returns-in-Err-NoMemory-clause-asks
returns-in-Err-NoMemory-clause-asks g c =
    let read = c.in-Ok.ensures in
    let settings = c.args.settings.now in
    let shelf = g.H.Shelf in
    memory settings shelf c.args.shelf.now c.read_whole.new.shelf
    (whole_first shelf (rel_file settings) settings.dumps c.as_text.result.now c.args.shelf.now c.read_whole.new.shelf c.as_text.ensures read.files read.opens read.steady (read.quiet (λ e. absurd cc)))
    c.in-Ok.bytes (has_octets (shelf.files c.args.shelf.now) settings.rel c.as_text.result.now max_rel c.in-Ok.bytes c.as_text.ensures read.read read.short) read.read_out

pub returns-in-Ok-read_onto-clause-asks : goal.returns-in-Ok-read_onto-clause-asks
returns-in-Ok-read_onto-clause-asks g c =
    let read = c.in-Ok.ensures in
    let settings = c.args.settings.now in
    let shelf = g.H.Shelf in
    all_read settings shelf c.args.shelf.now c.read_whole.new.shelf
    (whole_first shelf (rel_file settings) settings.dumps c.as_text.result.now c.args.shelf.now c.read_whole.new.shelf c.as_text.ensures read.files read.opens read.steady (read.quiet (λ e. absurd cc)))
    c.in-Ok.bytes (has_octets (shelf.files c.args.shelf.now) settings.rel c.as_text.result.now max_rel c.in-Ok.bytes c.as_text.ensures read.read read.short) read.read_out
    (record { known = c.in-Ok-known_in.known; taken = c.in-Ok-read_onto.taken }) c.read_onto.new.shelf c.requires.named c.in-Ok-known_in.ensures.known
    (subst (λ t. ReadsDumps shelf (all_wanted Cut) settings.dumps t (Ok c.in-Ok-read_onto.taken) c.read_whole.new.shelf c.read_onto.new.shelf) c.nothing_taken-start.ensures
    (subst (λ d. ReadsDumps shelf (all_wanted Cut) d c.nothing_taken-start.result (Ok c.in-Ok-read_onto.taken) c.read_whole.new.shelf c.read_onto.new.shelf) c.as_slice.ensures
    (subst (λ w. ReadsDumps shelf w c.as_slice.result.now c.nothing_taken-start.result (Ok c.in-Ok-read_onto.taken) c.read_whole.new.shelf c.read_onto.new.shelf) c.all-wanted.ensures
    c.in-Ok-read_onto.ensures)))

pub returns-clause-asks : goal.returns-clause-asks
returns-clause-asks g c =
    let read = c.in-Ok.ensures in
    let settings = c.args.settings.now in
    let shelf = g.H.Shelf in
    dumps_end settings shelf c.args.shelf.now c.read_whole.new.shelf
    (whole_first shelf (rel_file settings) settings.dumps c.as_text.result.now c.args.shelf.now c.read_whole.new.shelf c.as_text.ensures read.files read.opens read.steady (read.quiet (λ e. absurd cc)))
    c.in-Ok.bytes (has_octets (shelf.files c.args.shelf.now) settings.rel c.as_text.result.now max_rel c.in-Ok.bytes c.as_text.ensures read.read read.short) read.read_out
    c.in-Ok-known_in.known.rel c.in-Err-read_onto.stopped c.read_onto.new.shelf c.in-Ok-known_in.ensures.known
    (subst (λ t. ReadsDumps shelf (all_wanted Cut) settings.dumps t (Err c.in-Err-read_onto.stopped) c.read_whole.new.shelf c.read_onto.new.shelf) c.nothing_taken-start.ensures
    (subst (λ d. ReadsDumps shelf (all_wanted Cut) d c.nothing_taken-start.result (Err c.in-Err-read_onto.stopped) c.read_whole.new.shelf c.read_onto.new.shelf) c.as_slice.ensures
    (subst (λ w. ReadsDumps shelf w c.as_slice.result.now c.nothing_taken-start.result (Err c.in-Err-read_onto.stopped) c.read_whole.new.shelf c.read_onto.new.shelf) c.all-wanted.ensures
    c.in-Err-read_onto.ensures)))
