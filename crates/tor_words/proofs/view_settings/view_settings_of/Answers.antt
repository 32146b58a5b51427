use Rattle.clap.specs.Words.{fault_of, found_of, matches_of, rows_of}
use Rattle.tor_words.specs.ViewGiven.{view_settings_given, view_settings_in}
use Rattle.tor_words.specs.TorviewCommand.{torview_command}
use Rattle.tor_words.proofs.Taken.{given-err, given-ok, given-refused, torview-is_plain}
use Rattle.tor_words.proofs.view_settings.view_settings_of.Goals as goal

pub returns-in-Ok-clause-given : goal.returns-in-Ok-clause-given
unfolding view_settings_given
returns-in-Ok-clause-given c =
    given-ok torview_command view_settings_in c.args.words.now (rows_of (found_of c.in-Ok.matches)) c.view_settings_in-settings.result
    (c.in-Ok.ensures.ok torview_command torview-is_plain c.view_command.ensures) c.view_settings_in-settings.ensures.ok

pub returns-in-Ok-clause-refused : goal.returns-in-Ok-clause-refused
unfolding view_settings_given
returns-in-Ok-clause-refused c =
    given-err torview_command view_settings_in c.args.words.now (rows_of (found_of c.in-Ok.matches)) c.view_settings_in-settings.result
    (c.in-Ok.ensures.ok torview_command torview-is_plain c.view_command.ensures) c.view_settings_in-settings.ensures.err

pub returns-in-Err-clause-refused : goal.returns-in-Err-clause-refused
unfolding view_settings_given
returns-in-Err-clause-refused c u =
    given-refused (fault_of torview_command c.args.words.now) (view_settings_in (matches_of torview_command c.args.words.now))
    (c.in-Err.ensures.err torview_command torview-is_plain c.view_command.ensures u)
