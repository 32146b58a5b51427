-- Words that were read by hand, as clap reads them.
use Rattle.std.proofs.Common.{◌≡◌, [], ◌∷◌, Some, None, true, false, refl}
use Rattle.std.specs.Prelude.{codes}
use Rattle.clap.specs.Faults.{flags_fault, walk_fault, defaults_fault}
use Rattle.clap.specs.Walk.{bundle_met, walked}
use Rattle.text_fields.specs.Reading.{digit_at, digits_at, u64_at, u32_at}
use Rattle.path_clean.specs.declared.cleaned.Sets.TheVariants.{Cut, Skip}
use Rattle.path_order.specs.declared.choice.Order.TheVariants.{Seen, Short}
use Rattle.tor_words.specs.declared.job.Job.{Job}
use Rattle.tor_words.specs.declared.job.Job.TheVariants.{Count, Infer, Sample, Migrate, Resume}
use Rattle.tor_words.specs.declared.settings.Settings.{Settings}
use Rattle.tor_words.specs.declared.task.Counted.TheVariants.{Listing, Survey}
use Rattle.tor_words.specs.declared.task.Made.TheVariants.{Result, Ties, Asks, Serial}
use Rattle.tor_words.specs.Given.{settings_given}
use Rattle.tor_words.specs.CheckGiven.{check_settings_given}
use Rattle.tor_words.specs.TorCommand.{tor_command}
use Rattle.tor_words.specs.TorcheckCommand.{torcheck_command}

-- what is set where no option is named
abbrev by_default : Job → Settings
by_default job = record { job = job; sets = Cut; order = Seen; top = None; ratio = 60; max_paths = 8388608 }

one_dump : settings_given (codes "d" ∷ []) ≡ Some (by_default (Infer Result None (codes "d" ∷ [])))
unfolding settings_given tor_command bundle_met walked flags_fault walk_fault defaults_fault
one_dump = refl

skipped_sets : settings_given (codes "--as-sets=skip" ∷ codes "--" ∷ codes "d" ∷ []) ≡ Some (record (by_default (Infer Result None (codes "d" ∷ []))) { sets = Skip })
unfolding settings_given tor_command bundle_met walked flags_fault walk_fault defaults_fault
skipped_sets = refl

options_between_dumps : settings_given (codes "a" ∷ codes "--list" ∷ codes "b" ∷ codes "--as-sets" ∷ codes "cut" ∷ codes "c" ∷ []) ≡ Some (by_default (Count Listing (codes "a" ∷ codes "b" ∷ codes "c" ∷ [])))
unfolding settings_given tor_command bundle_met walked flags_fault walk_fault defaults_fault
options_between_dumps = refl

ratio_0 : settings_given (codes "--ratio" ∷ codes "0" ∷ codes "d" ∷ []) ≡ Some (record (by_default (Infer Result None (codes "d" ∷ []))) { ratio = 0 })
unfolding settings_given tor_command bundle_met walked flags_fault walk_fault defaults_fault
ratio_0 = refl

greatest_ratio : settings_given (codes "--list" ∷ codes "--ratio=1000000" ∷ codes "d" ∷ codes "d" ∷ []) ≡ Some (record (by_default (Count Listing (codes "d" ∷ codes "d" ∷ []))) { ratio = 1000000 })
unfolding settings_given tor_command bundle_met walked flags_fault walk_fault defaults_fault
greatest_ratio = refl

plus_signs_and_leading_zeros : settings_given (codes "--ratio" ∷ codes "+007" ∷ codes "--max-paths" ∷ codes "+007" ∷ codes "d" ∷ [])
    ≡ Some (record (by_default (Infer Result None (codes "d" ∷ []))) { ratio = 7; max_paths = 7 })
unfolding settings_given tor_command bundle_met walked flags_fault walk_fault defaults_fault
plus_signs_and_leading_zeros = refl

flag_and_a_dump_of_its_name : settings_given (codes "--list" ∷ codes "--" ∷ codes "--list" ∷ []) ≡ Some (by_default (Count Listing (codes "--list" ∷ [])))
unfolding settings_given tor_command bundle_met walked flags_fault walk_fault defaults_fault
flag_and_a_dump_of_its_name = refl

dump_of_the_name_of_a_flag : settings_given (codes "--" ∷ codes "--list" ∷ []) ≡ Some (by_default (Infer Result None (codes "--list" ∷ [])))
unfolding settings_given tor_command bundle_met walked flags_fault walk_fault defaults_fault
dump_of_the_name_of_a_flag = refl

dash_no_octet_and_help : settings_given (codes "-" ∷ codes "" ∷ codes "help" ∷ []) ≡ Some (by_default (Infer Result None (codes "-" ∷ codes "" ∷ codes "help" ∷ [])))
unfolding settings_given tor_command bundle_met walked flags_fault walk_fault defaults_fault
dash_no_octet_and_help = refl

a_sample : settings_given (codes "--sample" ∷ codes "7" ∷ []) ≡ Some (by_default (Sample 7))
unfolding settings_given tor_command bundle_met walked flags_fault walk_fault defaults_fault
a_sample = refl

greatest_sample : settings_given (codes "--sample=18446744073709551615" ∷ codes "--ratio" ∷ codes "0" ∷ []) ≡ Some (record (by_default (Sample 18446744073709551615)) { ratio = 0 })
unfolding settings_given tor_command bundle_met walked flags_fault walk_fault defaults_fault
greatest_sample = refl

sample_with_a_limit : settings_given (codes "--max-paths" ∷ codes "9" ∷ codes "--sample" ∷ codes "0" ∷ codes "--as-sets" ∷ codes "skip" ∷ [])
    ≡ Some (record (by_default (Sample 0)) { sets = Skip; max_paths = 9 })
unfolding settings_given tor_command bundle_met walked flags_fault walk_fault defaults_fault
sample_with_a_limit = refl

a_survey : settings_given (codes "--survey" ∷ codes "d" ∷ []) ≡ Some (by_default (Count Survey (codes "d" ∷ [])))
unfolding settings_given tor_command bundle_met walked flags_fault walk_fault defaults_fault
a_survey = refl

dump_of_the_name_of_another_flag : settings_given (codes "--" ∷ codes "--survey" ∷ []) ≡ Some (by_default (Infer Result None (codes "--survey" ∷ [])))
unfolding settings_given tor_command bundle_met walked flags_fault walk_fault defaults_fault
dump_of_the_name_of_another_flag = refl

survey_with_a_limit : settings_given (codes "--survey" ∷ codes "--as-sets" ∷ codes "skip" ∷ codes "--max-paths" ∷ codes "5" ∷ codes "d1" ∷ codes "d2" ∷ [])
    ≡ Some (record (by_default (Count Survey (codes "d1" ∷ codes "d2" ∷ []))) { sets = Skip; max_paths = 5 })
unfolding settings_given tor_command bundle_met walked flags_fault walk_fault defaults_fault
survey_with_a_limit = refl

ties_under_givens : settings_given (codes "--ties" ∷ codes "--given" ∷ codes "k" ∷ codes "d" ∷ []) ≡ Some (by_default (Infer Ties (Some (codes "k")) (codes "d" ∷ [])))
unfolding settings_given tor_command bundle_met walked flags_fault walk_fault defaults_fault
ties_under_givens = refl

serial_lines_under_givens : settings_given (codes "d" ∷ codes "d" ∷ codes "--given=k" ∷ codes "--serial1" ∷ [])
    ≡ Some (by_default (Infer Serial (Some (codes "k")) (codes "d" ∷ codes "d" ∷ [])))
unfolding settings_given tor_command bundle_met walked flags_fault walk_fault defaults_fault
serial_lines_under_givens = refl

migration_with_options : settings_given (codes "--migrate" ∷ codes "--as-sets" ∷ codes "skip" ∷ codes "--ratio" ∷ codes "5" ∷ codes "r" ∷ [])
    ≡ Some (record (by_default (Migrate (codes "r"))) { sets = Skip; ratio = 5 })
unfolding settings_given tor_command bundle_met walked flags_fault walk_fault defaults_fault
migration_with_options = refl

an_earlier_result : settings_given (codes "--resume" ∷ codes "r" ∷ codes "d" ∷ []) ≡ Some (by_default (Resume (codes "r") (codes "d" ∷ [])))
unfolding settings_given tor_command bundle_met walked flags_fault walk_fault defaults_fault
an_earlier_result = refl

earlier_result_with_options : settings_given (codes "d1" ∷ codes "--resume=r" ∷ codes "--as-sets" ∷ codes "skip" ∷ codes "--ratio" ∷ codes "5" ∷ codes "d2" ∷ [])
    ≡ Some (record (by_default (Resume (codes "r") (codes "d1" ∷ codes "d2" ∷ []))) { sets = Skip; ratio = 5 })
unfolding settings_given tor_command bundle_met walked flags_fault walk_fault defaults_fault
earlier_result_with_options = refl

labels_under_givens : settings_given (codes "d" ∷ codes "--given" ∷ codes "k" ∷ []) ≡ Some (by_default (Infer Result (Some (codes "k")) (codes "d" ∷ [])))
unfolding settings_given tor_command bundle_met walked flags_fault walk_fault defaults_fault
labels_under_givens = refl

givens_of_the_name_of_a_flag : settings_given (codes "--given=--list" ∷ codes "d" ∷ []) ≡ Some (by_default (Infer Result (Some (codes "--list")) (codes "d" ∷ [])))
unfolding settings_given tor_command bundle_met walked flags_fault walk_fault defaults_fault
givens_of_the_name_of_a_flag = refl

a_migration : settings_given (codes "--migrate" ∷ codes "r" ∷ []) ≡ Some (by_default (Migrate (codes "r")))
unfolding settings_given tor_command bundle_met walked flags_fault walk_fault defaults_fault
a_migration = refl

migration_of_a_file_of_the_name_of_a_flag : settings_given (codes "--migrate" ∷ codes "--" ∷ codes "--migrate" ∷ [])
    ≡ Some (by_default (Migrate (codes "--migrate")))
unfolding settings_given tor_command bundle_met walked flags_fault walk_fault defaults_fault
migration_of_a_file_of_the_name_of_a_flag = refl

earlier_result_of_the_name_of_a_flag : settings_given (codes "d" ∷ codes "--resume=--list" ∷ codes "d" ∷ [])
    ≡ Some (by_default (Resume (codes "--list") (codes "d" ∷ codes "d" ∷ [])))
unfolding settings_given tor_command bundle_met walked flags_fault walk_fault defaults_fault
earlier_result_of_the_name_of_a_flag = refl

dashes_for_names : settings_given (codes "--resume" ∷ codes "-" ∷ codes "-" ∷ []) ≡ Some (by_default (Resume (codes "-") (codes "-" ∷ [])))
unfolding settings_given tor_command bundle_met walked flags_fault walk_fault defaults_fault
dashes_for_names = refl

shortest_first : settings_given (codes "--order" ∷ codes "short" ∷ codes "d" ∷ []) ≡ Some (record (by_default (Infer Result None (codes "d" ∷ []))) { order = Short })
unfolding settings_given tor_command bundle_met walked flags_fault walk_fault defaults_fault
shortest_first = refl

order_as_seen : settings_given (codes "--list" ∷ codes "--order=seen" ∷ codes "d" ∷ []) ≡ Some (by_default (Count Listing (codes "d" ∷ [])))
unfolding settings_given tor_command bundle_met walked flags_fault walk_fault defaults_fault
order_as_seen = refl

order_of_a_sample : settings_given (codes "--order" ∷ codes "short" ∷ codes "--sample" ∷ codes "7" ∷ []) ≡ Some (record (by_default (Sample 7)) { order = Short })
unfolding settings_given tor_command bundle_met walked flags_fault walk_fault defaults_fault
order_of_a_sample = refl

order_behind_an_earlier_result : settings_given (codes "--resume" ∷ codes "r" ∷ codes "d" ∷ codes "--order" ∷ codes "short" ∷ [])
    ≡ Some (record (by_default (Resume (codes "r") (codes "d" ∷ []))) { order = Short })
unfolding settings_given tor_command bundle_met walked flags_fault walk_fault defaults_fault
order_behind_an_earlier_result = refl

another_order : settings_given (codes "--order" ∷ codes "long" ∷ codes "d" ∷ []) ≡ None
unfolding settings_given tor_command bundle_met walked flags_fault walk_fault defaults_fault
another_order = refl

order_twice : settings_given (codes "--order" ∷ codes "short" ∷ codes "--order" ∷ codes "short" ∷ codes "d" ∷ []) ≡ None
unfolding settings_given tor_command bundle_met walked flags_fault walk_fault defaults_fault
order_twice = refl

networks_that_buy_from_nobody : settings_given (codes "--top" ∷ codes "701,1299" ∷ codes "d" ∷ []) ≡ Some (record (by_default (Infer Result None (codes "d" ∷ []))) { top = Some (701 ∷ 1299 ∷ []) })
unfolding settings_given tor_command bundle_met walked flags_fault walk_fault defaults_fault u32_at u64_at digit_at digits_at
networks_that_buy_from_nobody = refl

networks_behind_an_earlier_result : settings_given (codes "--top=10" ∷ codes "--resume" ∷ codes "r" ∷ codes "d" ∷ [])
    ≡ Some (record (by_default (Resume (codes "r") (codes "d" ∷ []))) { top = Some (10 ∷ []) })
unfolding settings_given tor_command bundle_met walked flags_fault walk_fault defaults_fault u32_at u64_at digit_at digits_at
networks_behind_an_earlier_result = refl

networks_beside_a_list : settings_given (codes "--list" ∷ codes "--top" ∷ codes "10" ∷ codes "d" ∷ []) ≡ None
unfolding settings_given tor_command bundle_met walked flags_fault walk_fault defaults_fault u32_at u64_at digit_at digits_at
networks_beside_a_list = refl

no_networks : settings_given (codes "--top" ∷ codes "10,,20" ∷ codes "d" ∷ []) ≡ None
unfolding settings_given tor_command bundle_met walked flags_fault walk_fault defaults_fault u32_at u64_at digit_at digits_at
no_networks = refl

what_to_ask : settings_given (codes "--ask" ∷ codes "--order" ∷ codes "short" ∷ codes "d" ∷ []) ≡ Some (record (by_default (Infer Asks None (codes "d" ∷ []))) { order = Short })
unfolding settings_given tor_command bundle_met walked flags_fault walk_fault defaults_fault
what_to_ask = refl

asks_beside_ties : settings_given (codes "--ask" ∷ codes "--ties" ∷ codes "d" ∷ []) ≡ None
unfolding settings_given tor_command bundle_met walked flags_fault walk_fault defaults_fault
asks_beside_ties = refl

-- ---- words of a check

any_order : check_settings_given (codes "r" ∷ codes "--any-order" ∷ codes "d" ∷ []) ≡ Some (record { result = codes "r"; dumps = codes "d" ∷ []; any_order = true })
unfolding check_settings_given torcheck_command bundle_met walked flags_fault walk_fault defaults_fault
any_order = refl

a_result : check_settings_given (codes "r" ∷ []) ≡ Some (record { result = codes "r"; dumps = []; any_order = false })
unfolding check_settings_given torcheck_command bundle_met walked flags_fault walk_fault defaults_fault
a_result = refl

result_and_dumps : check_settings_given (codes "r" ∷ codes "d" ∷ codes "d" ∷ []) ≡ Some (record { result = codes "r"; dumps = codes "d" ∷ codes "d" ∷ []; any_order = false })
unfolding check_settings_given torcheck_command bundle_met walked flags_fault walk_fault defaults_fault
result_and_dumps = refl

result_of_the_name_of_a_flag : check_settings_given (codes "--" ∷ codes "--help" ∷ codes "d" ∷ []) ≡ Some (record { result = codes "--help"; dumps = codes "d" ∷ []; any_order = false })
unfolding check_settings_given torcheck_command bundle_met walked flags_fault walk_fault defaults_fault
result_of_the_name_of_a_flag = refl

result_of_no_octet : check_settings_given (codes "" ∷ codes "-" ∷ []) ≡ Some (record { result = codes ""; dumps = codes "-" ∷ []; any_order = false })
unfolding check_settings_given torcheck_command bundle_met walked flags_fault walk_fault defaults_fault
result_of_no_octet = refl
