use Rattle.std.proofs.Common.{subst}
use Rattle.result_file.specs.declared.ruling.Ruling.{Ruling}
use Rattle.result_file.specs.Ruled.{IsRulingIn}
use Rattle.tor_output.proofs.Unwritings.{earlier_broken, earlier_held}
use Rattle.tor_output.proofs.first.earlier_in.Goals as goal

pub returns-in-Ok-Met-clause-held : goal.returns-in-Ok-Met-clause-held
returns-in-Ok-Met-clause-held g c =
    let known = g.H.Shelf.files c.args.shelf.now in
    let name = c.as_text.result.now in
    let ruled = subst (λ (r : Ruling). IsRulingIn known name r) c.in-Ok-Met.field-0-is c.in-Ok-Met.ensures.ruling in
    earlier_held known c.args.name.now name ruled.0 c.in-Ok-Met.file c.as_text.ensures ruled.1.there ruled.1.short ruled.2

pub returns-in-Ok-Met-clause-of_some : goal.returns-in-Ok-Met-clause-of_some
returns-in-Ok-Met-clause-of_some g c =
    let known = g.H.Shelf.files c.args.shelf.now in
    let ruled = subst (λ (r : Ruling). IsRulingIn known c.as_text.result.now r) c.in-Ok-Met.field-0-is c.in-Ok-Met.ensures.ruling in
    (ruled.0, ruled.1.short, ruled.2)

pub returns-in-Ok-Broken-clause-unwritten : goal.returns-in-Ok-Broken-clause-unwritten
returns-in-Ok-Broken-clause-unwritten g c =
    let known = g.H.Shelf.files c.args.shelf.now in
    let name = c.as_text.result.now in
    let broken = subst (λ (r : Ruling). IsRulingIn known name r) c.in-Ok-Broken.field-0-is c.in-Ok-Broken.ensures.ruling in
    (tt, earlier_broken known c.args.name.now name broken.0 _ _ c.as_text.ensures broken.1.there broken.1.short broken.2)
