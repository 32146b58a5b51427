use Rattle.clap.specs.Words.{fault_of, found_of, matches_of, rows_of}
use Rattle.tor_words.specs.CheckGiven.{check_settings_given, check_settings_in}
use Rattle.tor_words.specs.TorcheckCommand.{torcheck_command}
use Rattle.tor_words.proofs.Taken.{given-err, given-ok, given-refused, torcheck-is_plain}
use Rattle.tor_words.proofs.check_settings.check_settings_of.Goals as goal

pub returns-in-Ok-clause-given : goal.returns-in-Ok-clause-given
unfolding check_settings_given
returns-in-Ok-clause-given c =
    given-ok torcheck_command check_settings_in c.args.words.now (rows_of (found_of c.in-Ok.matches)) c.check_settings_in-settings.result
    (c.in-Ok.ensures.ok torcheck_command torcheck-is_plain c.check_command.ensures) c.check_settings_in-settings.ensures.ok

pub returns-in-Ok-clause-refused : goal.returns-in-Ok-clause-refused
unfolding check_settings_given
returns-in-Ok-clause-refused c =
    given-err torcheck_command check_settings_in c.args.words.now (rows_of (found_of c.in-Ok.matches)) c.check_settings_in-settings.result
    (c.in-Ok.ensures.ok torcheck_command torcheck-is_plain c.check_command.ensures) c.check_settings_in-settings.ensures.err

pub returns-in-Err-clause-refused : goal.returns-in-Err-clause-refused
unfolding check_settings_given
returns-in-Err-clause-refused c u =
    given-refused (fault_of torcheck_command c.args.words.now) (check_settings_in (matches_of torcheck_command c.args.words.now))
    (c.in-Err.ensures.err torcheck_command torcheck-is_plain c.check_command.ensures u)
