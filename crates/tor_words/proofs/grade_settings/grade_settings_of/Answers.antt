use Rattle.clap.specs.Words.{fault_of, found_of, matches_of, rows_of}
use Rattle.tor_words.specs.GradeGiven.{grade_settings_given, grade_settings_in}
use Rattle.tor_words.specs.TorgradeCommand.{torgrade_command}
use Rattle.tor_words.proofs.Taken.{given-err, given-ok, given-refused, torgrade-is_plain}
use Rattle.tor_words.proofs.grade_settings.grade_settings_of.Goals as goal

pub returns-in-Ok-clause-given : goal.returns-in-Ok-clause-given
unfolding grade_settings_given
returns-in-Ok-clause-given c =
    given-ok torgrade_command grade_settings_in c.args.words.now (rows_of (found_of c.in-Ok.matches)) c.grade_settings_in-settings.result
    (c.in-Ok.ensures.ok torgrade_command torgrade-is_plain c.grade_command.ensures) c.grade_settings_in-settings.ensures.ok

pub returns-in-Ok-clause-refused : goal.returns-in-Ok-clause-refused
unfolding grade_settings_given
returns-in-Ok-clause-refused c =
    given-err torgrade_command grade_settings_in c.args.words.now (rows_of (found_of c.in-Ok.matches)) c.grade_settings_in-settings.result
    (c.in-Ok.ensures.ok torgrade_command torgrade-is_plain c.grade_command.ensures) c.grade_settings_in-settings.ensures.err

pub returns-in-Err-clause-refused : goal.returns-in-Err-clause-refused
unfolding grade_settings_given
returns-in-Err-clause-refused c u =
    given-refused (fault_of torgrade_command c.args.words.now) (grade_settings_in (matches_of torgrade_command c.args.words.now))
    (c.in-Err.ensures.err torgrade_command torgrade-is_plain c.grade_command.ensures u)
