use Rattle.text_fields.proofs.Padding.{pair_at, two_put}
use Rattle.text_fields.proofs.numbers.write_two_padded.Goals as goal

pub returns-clause-digits : goal.returns-clause-digits
returns-clause-digits c =
    let pair = pair_at c.args.n c.requires.0 in
    rw (pair.0, pair.1) (two_put c.args.bytes.now c.args.at _ _ c.requires.1)
