-- The words of `torrank`: clap's clauses say everything of its command, and words that were read by hand, as clap reads them.
use Rattle.std.proofs.Common.{◌≡◌, [], ◌∷◌, Some, None, refl}
use Rattle.std.specs.Prelude.{codes}
use Rattle.clap.specs.Faults.{flags_fault, walk_fault, defaults_fault}
use Rattle.clap.specs.Walk.{bundle_met, walked}
use Rattle.clap.proofs.OnLiterals.{clap_on_literals}
use Rattle.tor_words.specs.Matching.{IsPlain}
use Rattle.tor_words.specs.declared.rank_settings.RankTask.TheVariants.{Ranks, Cones, Cycles}
use Rattle.tor_words.specs.RankGiven.{rank_settings_given}
use Rattle.tor_words.specs.TorrankCommand.{torrank_command}

pub torrank-is_plain : IsPlain torrank_command
unfolding clap_on_literals torrank_command
torrank-is_plain = record { simple = refl; free = refl }

ranks_alone : rank_settings_given (codes "k" ∷ []) ≡ Some (record { rel = codes "k"; task = Ranks })
unfolding rank_settings_given torrank_command bundle_met walked flags_fault walk_fault defaults_fault
ranks_alone = refl

cones_behind_the_file : rank_settings_given (codes "k" ∷ codes "--cones" ∷ []) ≡ Some (record { rel = codes "k"; task = Cones })
unfolding rank_settings_given torrank_command bundle_met walked flags_fault walk_fault defaults_fault
cones_behind_the_file = refl

cycles_of_the_name_of_a_flag : rank_settings_given (codes "--cycles" ∷ codes "--" ∷ codes "--cones" ∷ []) ≡ Some (record { rel = codes "--cones"; task = Cycles })
unfolding rank_settings_given torrank_command bundle_met walked flags_fault walk_fault defaults_fault
cycles_of_the_name_of_a_flag = refl

both_flags : rank_settings_given (codes "--cones" ∷ codes "--cycles" ∷ codes "k" ∷ []) ≡ None
unfolding rank_settings_given torrank_command bundle_met walked flags_fault walk_fault defaults_fault
both_flags = refl

two_files : rank_settings_given (codes "k" ∷ codes "k" ∷ []) ≡ None
unfolding rank_settings_given torrank_command bundle_met walked flags_fault walk_fault defaults_fault
two_files = refl
