use Rattle.std.proofs.Common.{length, refl}
use Rattle.std.proofs.lemmas.Option.{slice_get_read}
use Rattle.telling.proofs.NamingLemmas.{naming_none, naming_why}
use Rattle.telling.proofs.writing.put_other_whys.Goals as goal

pub loop-why-init : goal.loop-why-init
loop-why-init g c = naming_none _ c.args.named.now

pub loop-why-preserved : goal.loop-why-preserved
loop-why-preserved g c =
    let whys = c.args.whys.now in
    let at = c.loop-why.why-index in
    let there = slice_get_read whys (length whys) at c.why-item.result refl c.loop-why-test.true c.why-item.is in
    naming_why c.args.file.now whys at c.why-item.result there c.loop-why.invariant c.put_why_at.ensures
