-- The words of `torleak`: clap's clauses say everything of its command, and words that were read by hand, as clap reads them.
use Rattle.std.proofs.Common.{◌≡◌, [], ◌∷◌, Some, None, refl}
use Rattle.std.specs.Prelude.{codes}
use Rattle.clap.specs.Faults.{flags_fault, walk_fault, defaults_fault}
use Rattle.clap.specs.Walk.{bundle_met, walked}
use Rattle.clap.proofs.OnLiterals.{clap_on_literals}
use Rattle.tor_words.specs.Matching.{IsPlain}
use Rattle.tor_words.specs.LeakGiven.{leak_settings_given}
use Rattle.tor_words.specs.TorleakCommand.{torleak_command}

pub torleak-is_plain : IsPlain torleak_command
unfolding clap_on_literals torleak_command
torleak-is_plain = record { simple = refl; free = refl }

a_result_and_two_dumps : leak_settings_given (codes "r" ∷ codes "a" ∷ codes "b" ∷ []) ≡ Some (record { result = codes "r"; dumps = codes "a" ∷ codes "b" ∷ [] })
unfolding leak_settings_given torleak_command bundle_met walked flags_fault walk_fault defaults_fault
a_result_and_two_dumps = refl

no_dump : leak_settings_given (codes "r" ∷ []) ≡ None
unfolding leak_settings_given torleak_command bundle_met walked flags_fault walk_fault defaults_fault
no_dump = refl
