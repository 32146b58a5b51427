use Rattle.std.proofs.Common.{[], Err, ap, refl, ◌∙◌}
use Rattle.run_base.specs.declared.whole_file.Unread.TheVariants.{Failed as failed}
use Rattle.as_rel.specs.Limits.{max_rel}
use Rattle.run_base.proofs.Askings.{has_octets, not_read, whole_first}
use Rattle.run_base.proofs.Values as values
use Rattle.torrank_run.specs.Ranking.{ranking, known_rel}
use Rattle.torrank_run.proofs.Stops.{known, rel_file}
use Rattle.torrank_run.proofs.asking.ranked_of.Goals as goal

pub returns-in-Err-clause-asks : goal.returns-in-Err-clause-asks
returns-in-Err-clause-asks g c =
    let read = c.in-Err.ensures in
    let settings = c.args.settings.now in
    let unread = c.in-Err.unread in
    not_read ranking settings (rel_file settings) [] g.H.Shelf known_rel c.as_text.result.now unread c.args.shelf.now c.read_whole.new.shelf
    refl c.as_text.ensures (λ is. is) (λ is. is) tt (λ is. read.long (ap (λ u. Err u) is)) (λ is. read.rest (ap (λ u. Err u) is)) read.unread read.opens
    (λ held is. read.steady_failed held (ap (λ u. Err u) is))
    (record {
      keeps = record { files = read.files; steady = read.steady; later = read.later };
      rose = λ is. read.failed (ap (λ u. Err u) is);
      quiet = λ not. read.quiet (λ is. not (values.err_is c.read_whole.result unread failed c.in-Err.is (c.in-Err.is ∙ is)));
    })

pub returns-in-Ok-ranked_in-clause-asks : goal.returns-in-Ok-ranked_in-clause-asks
returns-in-Ok-ranked_in-clause-asks g c =
    let read = c.in-Ok.ensures in
    let settings = c.args.settings.now in
    let shelf = g.H.Shelf in
    known settings shelf c.args.shelf.now c.read_whole.new.shelf
    (whole_first shelf (rel_file settings) [] c.as_text.result.now c.args.shelf.now c.read_whole.new.shelf c.as_text.ensures read.files read.opens read.steady (read.quiet (λ e. absurd cc)))
    c.in-Ok.bytes (has_octets (shelf.files c.args.shelf.now) settings.rel c.as_text.result.now max_rel c.in-Ok.bytes c.as_text.ensures read.read read.short) read.read_out
    c.in-Ok-ranked_in.ranked c.in-Ok-ranked_in.ensures.rel
