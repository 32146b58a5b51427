use Rattle.clap.specs.Words.{fault_of, found_of, matches_of, rows_of}
use Rattle.tor_words.specs.WhyGiven.{why_settings_given, why_settings_in}
use Rattle.tor_words.specs.TorwhyCommand.{torwhy_command}
use Rattle.tor_words.proofs.Taken.{given-err, given-ok, given-refused, torwhy-is_plain}
use Rattle.tor_words.proofs.why_settings.why_settings_of.Goals as goal

pub returns-in-Ok-clause-given : goal.returns-in-Ok-clause-given
unfolding why_settings_given
returns-in-Ok-clause-given c =
    given-ok torwhy_command why_settings_in c.args.words.now (rows_of (found_of c.in-Ok.matches)) c.why_settings_in-settings.result
    (c.in-Ok.ensures.ok torwhy_command torwhy-is_plain c.why_command.ensures) c.why_settings_in-settings.ensures.ok

pub returns-in-Ok-clause-refused : goal.returns-in-Ok-clause-refused
unfolding why_settings_given
returns-in-Ok-clause-refused c =
    given-err torwhy_command why_settings_in c.args.words.now (rows_of (found_of c.in-Ok.matches)) c.why_settings_in-settings.result
    (c.in-Ok.ensures.ok torwhy_command torwhy-is_plain c.why_command.ensures) c.why_settings_in-settings.ensures.err

pub returns-in-Err-clause-refused : goal.returns-in-Err-clause-refused
unfolding why_settings_given
returns-in-Err-clause-refused c u =
    given-refused (fault_of torwhy_command c.args.words.now) (why_settings_in (matches_of torwhy_command c.args.words.now))
    (c.in-Err.ensures.err torwhy_command torwhy-is_plain c.why_command.ensures u)
