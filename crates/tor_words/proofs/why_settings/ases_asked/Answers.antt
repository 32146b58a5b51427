use Rattle.tor_words.proofs.AsWords.{too_many}
use Rattle.tor_words.proofs.why_settings.ases_asked.Goals as goal

pub returns-in_default-2 : goal.returns-in_default-2
returns-in_default-2 c = too_many (λ t. t.now) c.args.ases.now c.in_default.len_at_least
