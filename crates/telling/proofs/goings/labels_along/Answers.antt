use Rattle.std.proofs.Common.{◌≡◌, List, Some, slice_get, get_or, subst}
use Rattle.std.proofs.lemmas.Option.{slice_get-get_or}
use Rattle.relationships.specs.declared.label.Label.TheVariants.{Low}
use Rattle.relationships.specs.declared.mark.Mark.TheVariants.{Forced}
use Rattle.result_text.specs.declared.file.EdgeLine.{EdgeLine}
use Rattle.telling.proofs.goings.labels_along.Goals as goal

-- what a read outside of the lines would give
abbrev no_line : EdgeLine
no_line = record { low = 0; high = 0; label = Low; mark = Forced; support = 0 }

pub loop-line-preserved : goal.loop-line-preserved
loop-line-preserved c =
    let items = c.as_slice-line-items.result.now in
    let i = c.loop-line.line-index in
    let at : slice_get c.args.file.now.edges i ≡ Some (get_or items i no_line) =
    subst (λ (l : List EdgeLine). slice_get l i ≡ Some (get_or items i no_line)) c.as_slice-line-items.ensures (slice_get-get_or items i no_line c.loop-line-test.true) in
    (c.put_label.ensures.many, c.put_label.ensures.put c.args.file.now i c.requires.accepted at c.loop-line.invariant.1)
