use Rattle.text_fields.proofs.Words.{prefix_is}
use Rattle.text_fields.proofs.reading.after.Goals as goal

pub returns : goal.returns
returns c = prefix_is c.args.word.now c.args.bytes.now c.strip_prefix.result c.strip_prefix.ensures.cases
