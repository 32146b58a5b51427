use Rattle.std.proofs.Common.{◌++◌, ◌∷◌, [], ◌∙◌, ap, append_assoc}
use Rattle.std.specs.Fmt.{decimal}
use Rattle.tor_io.proofs.Putting.{puts_as, puts_then}
use Rattle.result_text.specs.Text.{numbers_text}
use Rattle.leak_text.proofs.LineLemmas.{joined_spaced}
use Rattle.leak_text.specs.LeakText.{leak_links_text}
use Rattle.leak_text.proofs.lines.put_leak.Goals as goal

pub returns : goal.returns
returns g c =
    let row = puts_as c.put_row.ensures (ap (λ t. decimal c.args.times ++ (124 ∷ t) ++ 124 ∷ []) (joined_spaced decimal c.args.path.now)) in
    let ases = puts_as c.put_joined.ensures (joined_spaced decimal c.ases.result.now ∙ ap numbers_text c.ases.ensures) in
    let links = puts_as c.put_links.ensures (ap (leak_links_text c.args.own) c.links.ensures) in
    puts_as (puts_then c.put.ensures (puts_then row (puts_then ases (puts_then c.put_byte.ensures (puts_then links c.put_byte-2.ensures))))) (simp append_assoc)
