use Rattle.clap.specs.Words.{fault_of, found_of, matches_of, rows_of}
use Rattle.tor_words.specs.Given.{settings_given, settings_in}
use Rattle.tor_words.specs.TorCommand.{tor_command}
use Rattle.tor_words.proofs.Taken.{given-err, given-ok, given-refused, tor-is_plain}
use Rattle.tor_words.proofs.settings.settings_of.Goals as goal

pub returns-in-Ok-clause-given : goal.returns-in-Ok-clause-given
unfolding settings_given
returns-in-Ok-clause-given c =
    given-ok tor_command settings_in c.args.words.now (rows_of (found_of c.in-Ok.matches)) c.settings_in-settings.result
    (c.in-Ok.ensures.ok tor_command tor-is_plain c.command.ensures) c.settings_in-settings.ensures.ok

pub returns-in-Ok-clause-refused : goal.returns-in-Ok-clause-refused
unfolding settings_given
returns-in-Ok-clause-refused c =
    given-err tor_command settings_in c.args.words.now (rows_of (found_of c.in-Ok.matches)) c.settings_in-settings.result
    (c.in-Ok.ensures.ok tor_command tor-is_plain c.command.ensures) c.settings_in-settings.ensures.err

pub returns-in-Err-clause-refused : goal.returns-in-Err-clause-refused
unfolding settings_given
returns-in-Err-clause-refused c u =
    given-refused (fault_of tor_command c.args.words.now) (settings_in (matches_of tor_command c.args.words.now))
    (c.in-Err.ensures.err tor_command tor-is_plain c.command.ensures u)
