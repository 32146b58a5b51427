-- The settings and the files of a hunt come to one outcome at most.
use Rattle.std.proofs.Common.{◌≡◌, inl, inr, ℕ, List, length, Some, None, Result, Ok, Err, refl, sym, ap, ap₂, subst, ◌∙◌}
use Rattle.tor_arena.specs.Limits.{max_paths}
use Rattle.tor_io.specs.Contents.{Files}
use Rattle.path_table.specs.declared.table.AddRefused.{AddRefused}
use Rattle.result_text.specs.declared.file.ResultFile.{ResultFile}
use Rattle.result_text.specs.Grammar.{IsTextOf}
use Rattle.result_rules.specs.declared.verdict.Verdict.TheVariants.{No}
use Rattle.dump_read.specs.declared.taking.Taken.{Taken}
use Rattle.dump_read.specs.Seen.{DumpsEnd, end_named}
use Rattle.dump_read.specs.Wanted.{all_wanted}
use Rattle.tor_words.specs.declared.leak_settings.LeakSettings.{LeakSettings}
use Rattle.run_base.specs.Programs.{Outcome, Makes, NoFile, TooLong, BadLine, Breaks, Lacks, Ends, OneOutcome, HasOctets}
use Rattle.run_base.specs.Reading.{nothing, seen_from}
use Rattle.run_base.specs.WholeFile.{IsLongFile}
use Rattle.run_base.proofs.Values as values
use Rattle.result_file.specs.Limits.{max_result}
use Rattle.result_file.specs.Ruled.{BreaksRule}
use Rattle.result_file.proofs.OneRuling.{OneValue, none_broken, one_broken, same_file}
use Rattle.torleak_run.specs.Hunting.{Basis, GivesLeaks, HoldsSuch, error_of, hunting, limit_behind}

one_no : {M : Type 0} (l r l' r' : ℕ) → No l r ≡ No l' r' → ◌≡◌ {A = Outcome M} (Breaks l r) (Breaks l' r')
one_no l r l' r' e = cc

module _ (law : OneValue) (settings : LeakSettings) (files : Files) where
  abbrev Has : List ℕ → Type 0
  Has bytes = HasOctets (Some files) settings.result max_result bytes

  abbrev Such : ResultFile → Type 0
  Such file = HoldsSuch settings (Some files) file

  abbrev seen : ResultFile → Result Taken DumpsEnd
  seen file = seen_from (all_wanted file.sets) 1 (nothing max_paths) settings.dumps files

  abbrev Broken : ℕ → ℕ → Type 0
  Broken line rule = (bytes : List ℕ) × Has bytes × BreaksRule bytes (No line rule)

  abbrev Ended : DumpsEnd → Type 0
  Ended end = GivesLeaks settings (Some files) (Ends end)

  not_there : {X : Type 0} (bytes : List ℕ) → Has bytes → files settings.result ≡ None → X
  not_there bytes is none = values.some_not_none (files settings.result) bytes is.there none

  not_long : {X : Type 0} (bytes : List ℕ) → Has bytes → IsLongFile max_result (files settings.result) → X
  not_long bytes is long = values.not_long max_result (files settings.result) bytes is.there is.short long

  none_long : {X : Type 0} → files settings.result ≡ None → IsLongFile max_result (files settings.result) → X
  none_long is long = values.none_long max_result (files settings.result) is long

  same_octets : (a b : List ℕ) → Has a → Has b → a ≡ b
  same_octets a b one other = values.some_is (files settings.result) a b one.there other.there

  same_held : (f g : ResultFile) → Such f → Such g → f ≡ g
  same_held f g one other = same_file law one.0 f g one.2.text (subst (IsTextOf g) (same_octets other.0 one.0 other.1 one.1) other.2.text)

  not_broken : {X : Type 0} (file : ResultFile) (line rule : ℕ) → Such file → Broken line rule → X
  not_broken file line rule held broken =
      absurd (none_broken law held.0 file (No line rule) held.2 (subst (λ b. BreaksRule b (No line rule)) (same_octets broken.0 held.0 broken.1 held.1) broken.2))

  same_broken : (l r l' r' : ℕ) → Broken l r → Broken l' r' → No l r ≡ No l' r'
  same_broken l r l' r' one other = one_broken law one.0 (No l r) (No l' r') one.2 (subst (λ b. BreaksRule b (No l' r')) (same_octets other.0 one.0 other.1 one.1) other.2)

  same_seen : (f g : ResultFile) (r : Result Taken DumpsEnd) → Such f → Such g → seen g ≡ r → seen f ≡ r
  same_seen f g r one other is = ap seen (same_held f g one other) ∙ is

  same_made : (a b : Basis) → GivesLeaks settings (Some files) (Makes a) → GivesLeaks settings (Some files) (Makes b) → a ≡ b
  same_made a b one other =
      ap₂ (λ (file : ResultFile) (taken : Taken). record { file = file; taken = taken }) (same_held a.file b.file one.0 other.0)
      (values.ok_is (seen a.file) a.taken b.taken one.1 (same_seen a.file b.file (Ok b.taken) one.0 other.0 other.1))

  -- what is made is not where a limit is passed, or reading ends
  no_end : {X : Type 0} (a : Basis) (end : DumpsEnd) → GivesLeaks settings (Some files) (Makes a) → Ended end → X
  no_end a end one (file, held, inl ends) = values.ok_not_err (seen a.file) a.taken end one.1 (same_seen a.file file (Err end) one.0 held ends)
  no_end a end one (file, held, inr (taken, give, (why, passed, is))) =
      let same : taken ≡ a.taken = values.ok_is (seen a.file) taken a.taken (same_seen a.file file (Ok taken) one.0 held give) one.1 in
      let none : limit_behind file taken ≡ None = ap₂ limit_behind (same_held file a.file held one.0) same ∙ one.2 in
      values.some_not_none (limit_behind file taken) why passed none

  same_end : (e e' : DumpsEnd) → Ended e → Ended e' → e ≡ e'
  same_end e e' (file, held, inl ends) (file', held', inl ends') = values.err_is (seen file) e e' ends (same_seen file file' (Err e') held held' ends')
  same_end e e' (file, held, inl ends) (file', held', inr (taken', give', (why', passed', is'))) =
      values.ok_not_err (seen file) taken' e (same_seen file file' (Ok taken') held held' give') ends
  same_end e e' (file, held, inr (taken, give, (why, passed, is))) (file', held', inl ends') =
      values.ok_not_err (seen file) taken e' give (same_seen file file' (Err e') held held' ends')
  same_end e e' (file, held, inr (taken, give, (why, passed, is))) (file', held', inr (taken', give', (why', passed', is'))) =
      let same : taken ≡ taken' = values.ok_is (seen file) taken taken' give (same_seen file file' (Ok taken') held held' give') in
      let limit : limit_behind file' taken' ≡ Some why = sym (ap₂ limit_behind (same_held file file' held held') same) ∙ passed in
      let reason : why ≡ why' = values.some_is (limit_behind file' taken') why why' limit passed' in
      values.some_is (end_named (length settings.dumps) (error_of why')) e e' (ap (λ (w : AddRefused). end_named (length settings.dumps) (error_of w)) (sym reason) ∙ is) is'

  same : (x y : Outcome Basis) → GivesLeaks settings (Some files) x → GivesLeaks settings (Some files) y → x ≡ y
  same (Makes a) (Makes b) one other = ap Makes (same_made a b one other)
  same (Makes a) NoFile one other = not_there one.0.0 one.0.1 other
  same (Makes a) TooLong one other = not_long one.0.0 one.0.1 other
  same (Makes a) (BadLine line) one other = absurd other
  same (Makes a) (Breaks line rule) one other = not_broken a.file line rule one.0 other
  same (Makes a) (Lacks note) one other = absurd other
  same (Makes a) (Ends end) one other = no_end a end one other
  same NoFile (Makes b) one other = not_there other.0.0 other.0.1 one
  same NoFile NoFile one other = refl
  same NoFile TooLong one other = none_long one other
  same NoFile (BadLine line) one other = absurd other
  same NoFile (Breaks line rule) one other = not_there other.0 other.1 one
  same NoFile (Lacks note) one other = absurd other
  same NoFile (Ends end) one other = not_there other.1.0 other.1.1 one
  same TooLong (Makes b) one other = not_long other.0.0 other.0.1 one
  same TooLong NoFile one other = none_long other one
  same TooLong TooLong one other = refl
  same TooLong (BadLine line) one other = absurd other
  same TooLong (Breaks line rule) one other = not_long other.0 other.1 one
  same TooLong (Lacks note) one other = absurd other
  same TooLong (Ends end) one other = not_long other.1.0 other.1.1 one
  same (BadLine line) y one other = absurd one
  same (Breaks line rule) (Makes b) one other = not_broken b.file line rule other.0 one
  same (Breaks line rule) NoFile one other = not_there one.0 one.1 other
  same (Breaks line rule) TooLong one other = not_long one.0 one.1 other
  same (Breaks line rule) (BadLine other_line) one other = absurd other
  same (Breaks l r) (Breaks l' r') one other = one_no l r l' r' (same_broken l r l' r' one other)
  same (Breaks line rule) (Lacks note) one other = absurd other
  same (Breaks line rule) (Ends end) one other = not_broken other.0 line rule other.1 one
  same (Lacks note) y one other = absurd one
  same (Ends end) (Makes b) one other = no_end b end other one
  same (Ends end) NoFile one other = not_there one.1.0 one.1.1 other
  same (Ends end) TooLong one other = not_long one.1.0 one.1.1 other
  same (Ends end) (BadLine line) one other = absurd other
  same (Ends end) (Breaks line rule) one other = not_broken one.0 line rule one.1 other
  same (Ends end) (Lacks note) one other = absurd other
  same (Ends end) (Ends end') one other = ap Ends (same_end end end' one other)

pub one_outcome : OneValue → OneOutcome hunting
one_outcome law settings files x y one other = same law settings files x y one other
