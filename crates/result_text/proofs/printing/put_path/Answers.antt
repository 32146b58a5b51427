use Rattle.std.proofs.Common.{◌≡◌, ◌∙◌, None, sym, ap, ap₂}
use Rattle.std.specs.Option.{option_copied}
use Rattle.relationships.specs.Fates.{walk_of}
use Rattle.relationships.specs.declared.fate.Fate.TheVariants as fate
use Rattle.tor_io.proofs.Putting.{puts_as}
use Rattle.result_text.specs.declared.line.Line.TheVariants as line
use Rattle.result_text.specs.PathLines.{line_with}
use Rattle.result_text.specs.Text.{line_text}
use Rattle.result_text.proofs.PathLineLemmas.{line_kept}
use Rattle.result_text.proofs.printing.put_path.Goals as goal

pub returns-in-None : goal.returns-in-None
returns-in-None g c =
    let none : walk_of c.args.path.now.fate ≡ None = sym c.walk.ensures ∙ ap option_copied c.in-None.is in
    puts_as (c.put_kept.ensures c.args.version) (ap (λ l. line_text c.args.version (line.Path l))
    (ap₂ (λ times path. line_with times path fate.Kept) c.times.ensures c.path.ensures ∙ line_kept c.args.path.now none))
