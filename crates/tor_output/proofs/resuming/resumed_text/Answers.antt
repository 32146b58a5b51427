use Rattle.tor_output.proofs.Resumings.{text_on}
use Rattle.tor_output.proofs.resuming.resumed_text.Goals as goal

pub returns : goal.returns
returns c =
    text_on c.args.settings.now c.args.earlier c.args.taken c.in_ok-file.file c.text_and_summary.result c.in_ok-file.ensures c.text_and_summary.ensures.text c.text_and_summary.ensures.note
