use Rattle.clap.specs.Words.{fault_of, found_of, matches_of, rows_of}
use Rattle.tor_words.specs.RankGiven.{rank_settings_given, rank_settings_in}
use Rattle.tor_words.specs.TorrankCommand.{torrank_command}
use Rattle.tor_words.proofs.RankWords.{torrank-is_plain}
use Rattle.tor_words.proofs.Taken.{given-err, given-ok, given-refused}
use Rattle.tor_words.proofs.rank_settings.rank_settings_of.Goals as goal

pub returns-in-Ok-clause-given : goal.returns-in-Ok-clause-given
unfolding rank_settings_given
returns-in-Ok-clause-given c =
    given-ok torrank_command rank_settings_in c.args.words.now (rows_of (found_of c.in-Ok.matches)) c.rank_settings_in-settings.result
    (c.in-Ok.ensures.ok torrank_command torrank-is_plain c.rank_command.ensures) c.rank_settings_in-settings.ensures.ok

pub returns-in-Ok-clause-refused : goal.returns-in-Ok-clause-refused
unfolding rank_settings_given
returns-in-Ok-clause-refused c =
    given-err torrank_command rank_settings_in c.args.words.now (rows_of (found_of c.in-Ok.matches)) c.rank_settings_in-settings.result
    (c.in-Ok.ensures.ok torrank_command torrank-is_plain c.rank_command.ensures) c.rank_settings_in-settings.ensures.err

pub returns-in-Err-clause-refused : goal.returns-in-Err-clause-refused
unfolding rank_settings_given
returns-in-Err-clause-refused c u =
    given-refused (fault_of torrank_command c.args.words.now) (rank_settings_in (matches_of torrank_command c.args.words.now))
    (c.in-Err.ensures.err torrank_command torrank-is_plain c.rank_command.ensures u)
