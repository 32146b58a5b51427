use Rattle.std.proofs.Common.{◌∙◌, ap, not, sym}
use Rattle.std.proofs.lemmas.Result.{on_ok_weaker}
use Rattle.dump_read.proofs.Merges.{all_merged, none_is}
use Rattle.dump_read.proofs.records.merge_entries.Goals as goal

pub returns-then-has_family-clause-routes : goal.returns-then-has_family-clause-routes
returns-then-has_family-clause-routes c =
    on_ok_weaker c.merge_all.result
    (all_merged c.args.wanted.now c.args.family c.args.peers.now.marks c.args.entries.entries c.merge_all.new.batch (none_is c.args.wanted.now.from (c.is_none.ensures ∙ ap not c.if-is_none.true))
    (sym c.has_family.ensures ∙ c.if-has_family.true)) c.merge_all.ensures.routes
