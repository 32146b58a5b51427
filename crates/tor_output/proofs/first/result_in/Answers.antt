use Rattle.std.proofs.Common.{subst}
use Rattle.result_file.specs.declared.reading.NoResult.{NoResult}
use Rattle.result_file.specs.FileText.{IsNoText}
use Rattle.result_file.specs.Limits.{max_result}
use Rattle.tor_output.proofs.Unwritings.{result_bad, result_held}
use Rattle.tor_output.proofs.first.result_in.Goals as goal

pub returns-in-Ok-clause-held : goal.returns-in-Ok-clause-held
returns-in-Ok-clause-held g c =
    result_held (g.H.Shelf.files c.args.shelf.now) c.args.name.now c.as_text.result.now c.in-Ok.file c.as_text.ensures c.in-Ok.ensures.text

pub returns-in-Ok-clause-of_some : goal.returns-in-Ok-clause-of_some
returns-in-Ok-clause-of_some g c =
    let read = c.in-Ok.ensures.text in
    (read.octets, read.short, read.such)

pub returns-in-Err-BadLine-clause-unwritten : goal.returns-in-Err-BadLine-clause-unwritten
returns-in-Err-BadLine-clause-unwritten g c =
    let known = g.H.Shelf.files c.args.shelf.now in
    let name = c.as_text.result.now in
    let bad = subst (λ (e : NoResult). IsNoText max_result known name e) c.in-Err-BadLine.field-0-is c.in-Err-BadLine.ensures.no_text in
    result_bad known c.args.name.now name bad.octets _ c.as_text.ensures bad.stand bad.short bad.such
