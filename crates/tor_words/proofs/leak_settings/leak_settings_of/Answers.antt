use Rattle.clap.specs.Words.{fault_of, found_of, matches_of, rows_of}
use Rattle.tor_words.specs.LeakGiven.{leak_settings_given, leak_settings_in}
use Rattle.tor_words.specs.TorleakCommand.{torleak_command}
use Rattle.tor_words.proofs.LeakWords.{torleak-is_plain}
use Rattle.tor_words.proofs.Taken.{given-err, given-ok, given-refused}
use Rattle.tor_words.proofs.leak_settings.leak_settings_of.Goals as goal

pub returns-in-Ok-clause-given : goal.returns-in-Ok-clause-given
unfolding leak_settings_given
returns-in-Ok-clause-given c =
    given-ok torleak_command leak_settings_in c.args.words.now (rows_of (found_of c.in-Ok.matches)) c.leak_settings_in-settings.result
    (c.in-Ok.ensures.ok torleak_command torleak-is_plain c.leak_command.ensures) c.leak_settings_in-settings.ensures.ok

pub returns-in-Ok-clause-refused : goal.returns-in-Ok-clause-refused
unfolding leak_settings_given
returns-in-Ok-clause-refused c =
    given-err torleak_command leak_settings_in c.args.words.now (rows_of (found_of c.in-Ok.matches)) c.leak_settings_in-settings.result
    (c.in-Ok.ensures.ok torleak_command torleak-is_plain c.leak_command.ensures) c.leak_settings_in-settings.ensures.err

pub returns-in-Err-clause-refused : goal.returns-in-Err-clause-refused
unfolding leak_settings_given
returns-in-Err-clause-refused c u =
    given-refused (fault_of torleak_command c.args.words.now) (leak_settings_in (matches_of torleak_command c.args.words.now))
    (c.in-Err.ensures.err torleak_command torleak-is_plain c.leak_command.ensures u)
