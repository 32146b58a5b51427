use Rattle.std.proofs.Common.{Err, ap, subst}
use Rattle.result_file.specs.Ruled.{IsRulingIn}
use Rattle.result_rules.specs.declared.rule.Rule.TheVariants.{PathsDistinct}
use Rattle.torcheck_run.proofs.Stops.{dumps_end, not_ruled}
use Rattle.torcheck_run.proofs.judging.judged_of.Goals as goal

pub returns-in-Err-judged : goal.returns-in-Err-judged
returns-in-Err-judged g c =
    let ruled = c.in-Ok-Met.ensures in
    let judged = c.in-Err-judged.ensures in
    dumps_end c.args.settings.now g.H.Shelf c.as_text.result.now c.as_slice.result.now c.in-Ok-Met.file c.in-Err-judged.stopped c.args.shelf.now c.ruling_of_file.new.shelf
    c.judged_by_dumps-judged.new.shelf c.as_text.ensures c.as_slice.ensures
    (subst (IsRulingIn (g.H.Shelf.files c.args.shelf.now) c.as_text.result.now) c.in-Ok-Met.field-0-is ruled.ruling) ruled.opens ruled.reads_shelf judged.stopped judged.opens_stop judged.reach judged.reads_shelf

pub returns-in-Err : goal.returns-in-Err
returns-in-Err g c =
    let ruled = c.in-Err.ensures in
    not_ruled c.args.settings.now g.H.Shelf c.as_text.result.now c.in-Err.unread c.args.shelf.now c.ruling_of_file.new.shelf c.as_text.ensures ruled.unruled ruled.opens
    (λ is. ruled.rest (ap (λ u. Err u) is)) ruled.unread ruled.reads_shelf

pub judged_by_dumps-judged-requires-clause-once : goal.judged_by_dumps-judged-requires-clause-once
judged_by_dumps-judged-requires-clause-once g c =
    (subst (IsRulingIn (g.H.Shelf.files c.args.shelf.now) c.as_text.result.now) c.in-Ok-Met.field-0-is c.in-Ok-Met.ensures.ruling).2.rules PathsDistinct
