use Rattle.std.proofs.Common.{◌∙◌, ◌∷◌, [], Bool, sym, ap}
use Rattle.std.specs.Prelude.{if◌then◌else◌}
use Rattle.tor_io.proofs.Putting.{puts_as, puts_none, puts_then}
use Rattle.telling.specs.PathText.{excerpt}
use Rattle.telling.proofs.excerpt.put_path_text.Goals as goal

pub returns-then-is_left_out : goal.returns-then-is_left_out
returns-then-is_left_out g c =
    puts_as (puts_none _) (ap (λ (b : Bool). if b then [] else 124 ∷ excerpt c.args.path.now c.args.at) (sym c.if-is_left_out.true ∙ c.is_left_out.ensures))

pub returns : goal.returns
returns g c =
    puts_as (puts_then c.put_byte.ensures c.put_excerpt.ensures)
    (ap (λ (b : Bool). if b then [] else 124 ∷ excerpt c.args.path.now c.args.at) (sym c.if-is_left_out.false ∙ c.is_left_out.ensures))
