use Rattle.path_segments.proofs.Values.{sole_sequence_in}
use Rattle.path_segments.proofs.cursor.sole_sequence.Goals as goal

pub returns-in-len2-up : goal.returns-in-len2-up
returns-in-len2-up c =
    sole_sequence_in c.args.value.now c.from.result c.from-in-len2-up.result c.in-len2-up.len_at_least c.if-code-eq-SEQUENCE.true c.if-count-gt0.true
    c.from.ensures c.from-in-len2-up.ensures c.if-octets-from.true
