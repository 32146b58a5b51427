-- The words and the files of a run give one outcome.
use Rattle.std.proofs.Common.{◌≡◌, ◌⊎◌, inl, inr, ℕ, List, Option, Some, None, Ok, Err, refl, sym, ap, ap₂, subst, ◌∙◌}
use Rattle.tor_io.specs.Contents.{Files}
use Rattle.relationships.specs.declared.given.Given.{Given}
use Rattle.as_rel.specs.Givens.{SaysKnown, givens_in, peer_pairs}
use Rattle.as_rel.specs.declared.givens.KnownLines.{KnownLines}
use Rattle.as_rel.specs.Serial.{rel_in}
use Rattle.dump_read.specs.declared.taking.Taken.{Taken}
use Rattle.dump_read.specs.Seen.{DumpsEnd, Absent, Malformed, Limit}
use Rattle.result_text.specs.declared.file.ResultFile.{ResultFile}
use Rattle.result_text.specs.Grammar.{IsTextOf, IsBadLine}
use Rattle.result_rules.specs.declared.verdict.Verdict.TheVariants.{No}
use Rattle.tor_words.specs.declared.settings.Settings.{Settings}
use Rattle.tor_words.specs.Given.{dumps_in, settings_given}
use Rattle.run_base.specs.declared.status.Status.{Status}
use Rattle.run_base.specs.declared.status.Status.TheVariants as status
use Rattle.run_base.specs.WholeFile.{IsFile}
use Rattle.run_base.specs.Programs as program
use Rattle.run_base.specs.Programs.{OneOutcome}
use Rattle.run_base.proofs.Values as values
use Rattle.tor_output.specs.Inferring.{Basis, Seen, Joined, Held, GivesOutcome, inferring, outcome_of}
use Rattle.tor_output.specs.Sampling.{known_beside, no_files, sample_of}
use Rattle.result_file.specs.Limits.{max_result}
use Rattle.result_file.specs.Ruled.{BreaksRule, IsAccepted}
use Rattle.result_file.proofs.OneRuling.{OneValue, none_broken, one_bad_line, one_broken, same_file}
use Rattle.tor_output.specs.First.{First, Nothing, Givens, Result, Earlier, FirstEnd, NoFile, TooLong, BadLine, Broken, AreGivens, HoldsResult, TakesUp, EndsAtFirst, first_in}
use Rattle.tor_output.specs.Limits.{max_given_octets}
use Rattle.tor_output.specs.Seen.{Outcome, Reads, Joins, Holds, Stops, Ends, EndsBehindGivens, EndsOnEarlier, ComesTo, OneOutcomeLaw, seen_in, joined}

-- the status that an outcome asks for
abbrev pub status_for : Outcome → Status
status_for (Reads known taken) = status.Done
status_for (Joins earlier taken) = status.Done
status_for (Holds file) = status.Done
status_for (Stops NoFile) = status.ReadFault
status_for (Stops TooLong) = status.Limit
status_for (Stops (BadLine line)) = status.Malformed
status_for (Stops (Broken line rule)) = status.No
status_for (Ends (Absent dump)) = status.ReadFault
status_for (Ends (Malformed place fault)) = status.Malformed
status_for (Ends (Limit kind dump)) = status.Limit

-- ---- the file that is read first

-- a file has one list of octets
same_bytes : (most : ℕ) (files : Files) (name a b : List ℕ) → IsFile most files name a → IsFile most files name b → a ≡ b
same_bytes most files name a b one other = values.some_is (files name) a b one.there other.there

-- octets say one thing, or have a bad line
one_saying : (a b : List ℕ) (g h : KnownLines) → a ≡ b → SaysKnown a g → SaysKnown b h → g ≡ h
one_saying a b g h same one other =
    let rel = values.ok_is (rel_in a) one.rel other.rel one.said (ap rel_in same ∙ other.said) in
    ap₂ (λ (gs : List Given) (ps : List (ℕ × ℕ)). record { givens = gs; peers = ps }) (one.givens ∙ ap givens_in rel ∙ sym other.givens)
    (one.peers ∙ ap peer_pairs rel ∙ sym other.peers)

said_or_bad : {X : Type 0} (a b : List ℕ) (g : KnownLines) (line : ℕ) → a ≡ b → SaysKnown a g → rel_in b ≡ Err line → X
said_or_bad a b g line same one bad = values.ok_not_err (rel_in a) one.rel line one.said (ap rel_in same ∙ bad)

same_givens : (f : First) (files : Files) (a b : Option KnownLines) → AreGivens f files a → AreGivens f files b → a ≡ b
same_givens Nothing files None None one other = refl
same_givens Nothing files None (Some h) one other = absurd other
same_givens Nothing files (Some g) b one other = absurd one
same_givens (Givens name) files None b one other = absurd one
same_givens (Givens name) files (Some g) None one other = absurd other
same_givens (Givens name) files (Some g) (Some h) one other =
    ap (λ (k : KnownLines). Some k) (one_saying one.0 other.0 g h (same_bytes max_given_octets files name one.0 other.0 one.1 other.1) one.2 other.2)
same_givens (Result name) files a b one other = absurd one
same_givens (Earlier name) files a b one other = absurd one

pub given_or_end : {X : Type 0} (f : First) (files : Files) (a : Option KnownLines) (end : FirstEnd) → AreGivens f files a → EndsAtFirst f files end → X
given_or_end Nothing files a NoFile one other = absurd other
given_or_end Nothing files a TooLong one other = absurd other
given_or_end Nothing files a (BadLine line) one other = absurd other
given_or_end Nothing files a (Broken line rule) one other = absurd other
given_or_end (Givens name) files None end one other = absurd one
given_or_end (Givens name) files (Some g) NoFile one other = values.some_not_none (files name) one.0 one.1.there other
given_or_end (Givens name) files (Some g) TooLong one other = values.not_long max_given_octets (files name) one.0 one.1.there one.1.short other
given_or_end (Givens name) files (Some g) (BadLine line) one other =
    said_or_bad one.0 other.0 g line (same_bytes max_given_octets files name one.0 other.0 one.1 other.1) one.2 other.2
given_or_end (Givens name) files (Some g) (Broken line rule) one other = absurd other
given_or_end (Result name) files a end one other = absurd one
given_or_end (Earlier name) files a end one other = absurd one

given_or_result : {X : Type 0} (f : First) (files : Files) (a : Option KnownLines) (file : ResultFile) → AreGivens f files a → HoldsResult f files file → X
given_or_result Nothing files a file one other = absurd other
given_or_result (Givens name) files a file one other = absurd other
given_or_result (Result name) files a file one other = absurd one
given_or_result (Earlier name) files a file one other = absurd one

given_or_taken : {X : Type 0} (f : First) (files : Files) (a : Option KnownLines) (file : ResultFile) → AreGivens f files a → TakesUp f files file → X
given_or_taken Nothing files a file one other = absurd other
given_or_taken (Givens name) files a file one other = absurd other
given_or_taken (Result name) files a file one other = absurd other
given_or_taken (Earlier name) files a file one other = absurd one

result_or_taken : {X : Type 0} (f : First) (files : Files) (a b : ResultFile) → HoldsResult f files a → TakesUp f files b → X
result_or_taken Nothing files a b one other = absurd one
result_or_taken (Givens name) files a b one other = absurd one
result_or_taken (Result name) files a b one other = absurd other
result_or_taken (Earlier name) files a b one other = absurd one

-- octets that are accepted break no rule
accepted_or_broken : {X : Type 0} → OneValue → (a b : List ℕ) (file : ResultFile) (line rule : ℕ) → a ≡ b → IsAccepted file a → BreaksRule b (No line rule) → X
accepted_or_broken law a b file line rule same accepted broken =
    absurd (none_broken law a file (No line rule) accepted (subst (λ (bytes : List ℕ). BreaksRule bytes (No line rule)) (sym same) broken))

taken_or_end : {X : Type 0} → OneValue → (f : First) (files : Files) (file : ResultFile) (end : FirstEnd) → TakesUp f files file → EndsAtFirst f files end → X
taken_or_end law Nothing files file end one other = absurd one
taken_or_end law (Givens name) files file end one other = absurd one
taken_or_end law (Result name) files file end one other = absurd one
taken_or_end law (Earlier name) files file NoFile one other = values.some_not_none (files name) one.0 one.1.there other
taken_or_end law (Earlier name) files file TooLong one other = values.not_long max_result (files name) one.0 one.1.there one.1.short other
taken_or_end law (Earlier name) files file (BadLine line) one other = absurd other
taken_or_end law (Earlier name) files file (Broken line rule) one other =
    accepted_or_broken law one.0 other.0 file line rule (same_bytes max_result files name one.0 other.0 one.1 other.1) one.2 other.2

result_or_end : {X : Type 0} (f : First) (files : Files) (file : ResultFile) (end : FirstEnd) → HoldsResult f files file → EndsAtFirst f files end → X
result_or_end Nothing files file end one other = absurd one
result_or_end (Givens name) files file end one other = absurd one
result_or_end (Result name) files file NoFile one other = values.some_not_none (files name) one.0 one.1.there other
result_or_end (Result name) files file TooLong one other = values.not_long max_result (files name) one.0 one.1.there one.1.short other
result_or_end (Result name) files file (BadLine line) one other =
    let same = same_bytes max_result files name other.0 one.0 other.1 one.1 in
    absurd (other.2.outside (file, subst (IsTextOf file) (sym same) one.2))
result_or_end (Result name) files file (Broken line rule) one other = absurd other
result_or_end (Earlier name) files file end one other = absurd one

same_result : OneValue → (f : First) (files : Files) (a b : ResultFile) → HoldsResult f files a → HoldsResult f files b → a ≡ b
same_result law Nothing files a b one other = absurd one
same_result law (Givens name) files a b one other = absurd one
same_result law (Result name) files a b one other =
    same_file law one.0 a b one.2 (subst (IsTextOf b) (same_bytes max_result files name other.0 one.0 other.1 one.1) other.2)
same_result law (Earlier name) files a b one other = absurd one

same_taken : OneValue → (f : First) (files : Files) (a b : ResultFile) → TakesUp f files a → TakesUp f files b → a ≡ b
same_taken law Nothing files a b one other = absurd one
same_taken law (Givens name) files a b one other = absurd one
same_taken law (Result name) files a b one other = absurd one
same_taken law (Earlier name) files a b one other =
    same_file law one.0 a b one.2.text (subst (IsTextOf b) (same_bytes max_result files name other.0 one.0 other.1 one.1) other.2.text)

same_broken : OneValue → (a b : List ℕ) (line line' rule rule' : ℕ) → a ≡ b → BreaksRule a (No line rule) → BreaksRule b (No line' rule') → Broken line rule ≡ Broken line' rule'
same_broken law a b line line' rule rule' same one other =
    same_no (one_broken law a (No line rule) (No line' rule') one (subst (λ (bytes : List ℕ). BreaksRule bytes (No line' rule')) (sym same) other))
  where
    same_no : No line rule ≡ No line' rule' → Broken line rule ≡ Broken line' rule'
    same_no e = cc

same_end : OneValue → (f : First) (files : Files) (a b : FirstEnd) → EndsAtFirst f files a → EndsAtFirst f files b → a ≡ b
same_end law Nothing files NoFile b one other = absurd one
same_end law Nothing files TooLong b one other = absurd one
same_end law Nothing files (BadLine line) b one other = absurd one
same_end law Nothing files (Broken line rule) b one other = absurd one
same_end law (Givens name) files NoFile NoFile one other = refl
same_end law (Givens name) files NoFile TooLong one other = values.none_long max_given_octets (files name) one other
same_end law (Givens name) files NoFile (BadLine m) one other = values.some_not_none (files name) other.0 other.1.there one
same_end law (Givens name) files NoFile (Broken line rule) one other = absurd other
same_end law (Givens name) files TooLong NoFile one other = values.none_long max_given_octets (files name) other one
same_end law (Givens name) files TooLong TooLong one other = refl
same_end law (Givens name) files TooLong (BadLine m) one other = values.not_long max_given_octets (files name) other.0 other.1.there other.1.short one
same_end law (Givens name) files TooLong (Broken line rule) one other = absurd other
same_end law (Givens name) files (BadLine n) NoFile one other = values.some_not_none (files name) one.0 one.1.there other
same_end law (Givens name) files (BadLine n) TooLong one other = values.not_long max_given_octets (files name) one.0 one.1.there one.1.short other
same_end law (Givens name) files (BadLine n) (BadLine m) one other =
    ap BadLine (values.err_is (rel_in one.0) n m one.2 (ap rel_in (same_bytes max_given_octets files name one.0 other.0 one.1 other.1) ∙ other.2))
same_end law (Givens name) files (BadLine n) (Broken line rule) one other = absurd other
same_end law (Givens name) files (Broken line rule) b one other = absurd one
same_end law (Result name) files NoFile NoFile one other = refl
same_end law (Result name) files NoFile TooLong one other = values.none_long max_result (files name) one other
same_end law (Result name) files NoFile (BadLine m) one other = values.some_not_none (files name) other.0 other.1.there one
same_end law (Result name) files NoFile (Broken line rule) one other = absurd other
same_end law (Result name) files TooLong NoFile one other = values.none_long max_result (files name) other one
same_end law (Result name) files TooLong TooLong one other = refl
same_end law (Result name) files TooLong (BadLine m) one other = values.not_long max_result (files name) other.0 other.1.there other.1.short one
same_end law (Result name) files TooLong (Broken line rule) one other = absurd other
same_end law (Result name) files (BadLine n) NoFile one other = values.some_not_none (files name) one.0 one.1.there other
same_end law (Result name) files (BadLine n) TooLong one other = values.not_long max_result (files name) one.0 one.1.there one.1.short other
same_end law (Result name) files (BadLine n) (BadLine m) one other =
    ap BadLine (one_bad_line one.0 n m one.2 (subst (IsBadLine m) (same_bytes max_result files name other.0 one.0 other.1 one.1) other.2))
same_end law (Result name) files (BadLine n) (Broken line rule) one other = absurd other
same_end law (Result name) files (Broken line rule) b one other = absurd one
same_end law (Earlier name) files NoFile NoFile one other = refl
same_end law (Earlier name) files NoFile TooLong one other = values.none_long max_result (files name) one other
same_end law (Earlier name) files NoFile (BadLine m) one other = absurd other
same_end law (Earlier name) files NoFile (Broken line rule) one other = values.some_not_none (files name) other.0 other.1.there one
same_end law (Earlier name) files TooLong NoFile one other = values.none_long max_result (files name) other one
same_end law (Earlier name) files TooLong TooLong one other = refl
same_end law (Earlier name) files TooLong (BadLine m) one other = absurd other
same_end law (Earlier name) files TooLong (Broken line rule) one other = values.not_long max_result (files name) other.0 other.1.there other.1.short one
same_end law (Earlier name) files (BadLine n) b one other = absurd one
same_end law (Earlier name) files (Broken line rule) NoFile one other = values.some_not_none (files name) one.0 one.1.there other
same_end law (Earlier name) files (Broken line rule) TooLong one other = values.not_long max_result (files name) one.0 one.1.there one.1.short other
same_end law (Earlier name) files (Broken line rule) (BadLine m) one other = absurd other
same_end law (Earlier name) files (Broken line rule) (Broken line' rule') one other =
    same_broken law one.0 other.0 line line' rule rule' (same_bytes max_result files name one.0 other.0 one.1 other.1) one.2 other.2

-- ---- outcomes

module _ (law : OneValue) (settings : Settings) (files : Files) where
  -- of dumps behind what is known
  known_or_ends : {X : Type 0} (a : Option KnownLines) (taken : Taken) (end : DumpsEnd) → AreGivens (first_in settings) files a → seen_in settings files ≡ Ok taken
      → EndsBehindGivens settings files end ⊎ EndsOnEarlier settings files end → X
  known_or_ends a taken end are is (inl ends) = values.ok_not_err (seen_in settings files) taken end is ends.2
  known_or_ends a taken end are is (inr ends) = given_or_taken (first_in settings) files a ends.0 are ends.1

  -- of dumps on top of a result
  joined_or_ends : {X : Type 0} (file : ResultFile) (taken : Taken) (end : DumpsEnd) → TakesUp (first_in settings) files file
      → joined file settings.max_paths (dumps_in settings) files ≡ Ok taken → EndsBehindGivens settings files end ⊎ EndsOnEarlier settings files end → X
  joined_or_ends file taken end takes is (inl ends) = given_or_taken (first_in settings) files ends.0 file ends.1 takes
  joined_or_ends file taken end takes is (inr ends) =
      let same = same_taken law (first_in settings) files ends.0 file ends.1 takes in
      values.ok_not_err (joined file settings.max_paths (dumps_in settings) files) taken end is
      (subst (λ (x : ResultFile). joined x settings.max_paths (dumps_in settings) files ≡ Err end) same ends.2)

  result_or_ends : {X : Type 0} (file : ResultFile) (end : DumpsEnd) → HoldsResult (first_in settings) files file
      → EndsBehindGivens settings files end ⊎ EndsOnEarlier settings files end → X
  result_or_ends file end holds (inl ends) = given_or_result (first_in settings) files ends.0 file ends.1 holds
  result_or_ends file end holds (inr ends) = result_or_taken (first_in settings) files file ends.0 holds ends.1

  end_or_ends : {X : Type 0} (end : FirstEnd) (other : DumpsEnd) → EndsAtFirst (first_in settings) files end
      → EndsBehindGivens settings files other ⊎ EndsOnEarlier settings files other → X
  end_or_ends end other stops (inl ends) = given_or_end (first_in settings) files ends.0 end ends.1 stops
  end_or_ends end other stops (inr ends) = taken_or_end law (first_in settings) files ends.0 end ends.1 stops

  same_ends : (end end' : DumpsEnd) → EndsBehindGivens settings files end ⊎ EndsOnEarlier settings files end
      → EndsBehindGivens settings files end' ⊎ EndsOnEarlier settings files end' → end ≡ end'
  same_ends end end' (inl one) (inl other) = values.err_is (seen_in settings files) end end' one.2 other.2
  same_ends end end' (inl one) (inr other) = given_or_taken (first_in settings) files one.0 other.0 one.1 other.1
  same_ends end end' (inr one) (inl other) = given_or_taken (first_in settings) files other.0 one.0 other.1 one.1
  same_ends end end' (inr one) (inr other) =
      let same = same_taken law (first_in settings) files other.0 one.0 other.1 one.1 in
      values.err_is (joined one.0 settings.max_paths (dumps_in settings) files) end end' one.2
      (subst (λ (x : ResultFile). joined x settings.max_paths (dumps_in settings) files ≡ Err end') same other.2)

  same_joined : (a b : ResultFile) (taken taken' : Taken) → TakesUp (first_in settings) files a → joined a settings.max_paths (dumps_in settings) files ≡ Ok taken
      → TakesUp (first_in settings) files b → joined b settings.max_paths (dumps_in settings) files ≡ Ok taken' → Joins a taken ≡ Joins b taken'
  same_joined a b taken taken' takes is takes' is' =
      let same = same_taken law (first_in settings) files a b takes takes' in
      ap₂ Joins same
      (values.ok_is (joined b settings.max_paths (dumps_in settings) files) taken taken' (subst (λ (x : ResultFile). joined x settings.max_paths (dumps_in settings) files ≡ Ok taken) same is) is')

  same_outcome : (x y : Outcome) → ComesTo settings files x → ComesTo settings files y → x ≡ y
  same_outcome (Reads a taken) (Reads b taken') one other =
      ap₂ Reads (same_givens (first_in settings) files a b one.0 other.0) (values.ok_is (seen_in settings files) taken taken' one.1 other.1)
  same_outcome (Reads a taken) (Joins file taken') one other = given_or_taken (first_in settings) files a file one.0 other.0
  same_outcome (Reads a taken) (Holds file) one other = given_or_result (first_in settings) files a file one.0 other
  same_outcome (Reads a taken) (Stops end) one other = given_or_end (first_in settings) files a end one.0 other
  same_outcome (Reads a taken) (Ends end) one other = known_or_ends a taken end one.0 one.1 other
  same_outcome (Joins file taken) (Reads b taken') one other = given_or_taken (first_in settings) files b file other.0 one.0
  same_outcome (Joins file taken) (Joins file' taken') one other = same_joined file file' taken taken' one.0 one.1 other.0 other.1
  same_outcome (Joins file taken) (Holds file') one other = result_or_taken (first_in settings) files file' file other one.0
  same_outcome (Joins file taken) (Stops end) one other = taken_or_end law (first_in settings) files file end one.0 other
  same_outcome (Joins file taken) (Ends end) one other = joined_or_ends file taken end one.0 one.1 other
  same_outcome (Holds file) (Reads b taken) one other = given_or_result (first_in settings) files b file other.0 one
  same_outcome (Holds file) (Joins file' taken) one other = result_or_taken (first_in settings) files file file' one other.0
  same_outcome (Holds file) (Holds file') one other = ap Holds (same_result law (first_in settings) files file file' one other)
  same_outcome (Holds file) (Stops end) one other = result_or_end (first_in settings) files file end one other
  same_outcome (Holds file) (Ends end) one other = result_or_ends file end one other
  same_outcome (Stops end) (Reads b taken) one other = given_or_end (first_in settings) files b end other.0 one
  same_outcome (Stops end) (Joins file taken) one other = taken_or_end law (first_in settings) files file end other.0 one
  same_outcome (Stops end) (Holds file) one other = result_or_end (first_in settings) files file end other one
  same_outcome (Stops end) (Stops end') one other = ap Stops (same_end law (first_in settings) files end end' one other)
  same_outcome (Stops end) (Ends end') one other = end_or_ends end end' one other
  same_outcome (Ends end) (Reads b taken) one other = known_or_ends b taken end other.0 other.1 one
  same_outcome (Ends end) (Joins file taken) one other = joined_or_ends file taken end other.0 other.1 one
  same_outcome (Ends end) (Holds file) one other = result_or_ends file end other one
  same_outcome (Ends end) (Stops end') one other = end_or_ends end' end other one
  same_outcome (Ends end) (Ends end') one other = ap Ends (same_ends end end' one other)

pub one_outcome : OneValue → OneOutcomeLaw
one_outcome law words files x y one other =
    let same : other.0 ≡ one.0 = values.some_is (settings_given words) other.0 one.0 other.1 one.1 in
    same_outcome law one.0 files x y one.2 (subst (λ s. ComesTo s files y) same other.2)

-- ---- of a run

abbrev to_seen : program.Outcome Basis → Outcome
to_seen (program.Makes basis) = outcome_of basis
to_seen program.NoFile = Stops NoFile
to_seen program.TooLong = Stops TooLong
to_seen (program.BadLine line) = Stops (BadLine line)
to_seen (program.Breaks line rule) = Stops (Broken line rule)
to_seen (program.Lacks note) = Stops NoFile
to_seen (program.Ends end) = Ends end

abbrev from_seen : Outcome → program.Outcome Basis
from_seen (Reads known taken) = program.Makes (Seen known taken)
from_seen (Joins file taken) = program.Makes (Joined file taken)
from_seen (Holds file) = program.Makes (Held file)
from_seen (Stops NoFile) = program.NoFile
from_seen (Stops TooLong) = program.TooLong
from_seen (Stops (BadLine line)) = program.BadLine line
from_seen (Stops (Broken line rule)) = program.Breaks line rule
from_seen (Ends end) = program.Ends end

there_and_back : (settings : Settings) (known : Option Files) (x : program.Outcome Basis) → GivesOutcome settings known x → from_seen (to_seen x) ≡ x
there_and_back settings known (program.Makes (Seen given taken)) gives = refl
there_and_back settings known (program.Makes (Joined file taken)) gives = refl
there_and_back settings known (program.Makes (Held file)) gives = refl
there_and_back settings known program.NoFile gives = refl
there_and_back settings known program.TooLong gives = refl
there_and_back settings known (program.BadLine line) gives = refl
there_and_back settings known (program.Breaks line rule) gives = refl
there_and_back settings known (program.Lacks note) gives = absurd gives
there_and_back settings known (program.Ends end) gives = refl

comes_seen : (settings : Settings) (files : Files) (x : program.Outcome Basis) → GivesOutcome settings (Some files) x → ComesTo settings files (to_seen x)
comes_seen settings files (program.Makes basis) gives = gives
comes_seen settings files program.NoFile gives = gives
comes_seen settings files program.TooLong gives = gives
comes_seen settings files (program.BadLine line) gives = gives
comes_seen settings files (program.Breaks line rule) gives = gives.1
comes_seen settings files (program.Lacks note) gives = absurd gives
comes_seen settings files (program.Ends end) gives = gives

one_of : OneValue → (settings : Settings) (files : Files) (x y : program.Outcome Basis) → GivesOutcome settings (Some files) x → GivesOutcome settings (Some files) y → x ≡ y
one_of law settings files x y one other =
    sym (there_and_back settings (Some files) x one)
    ∙ ap from_seen (same_outcome law settings files (to_seen x) (to_seen y) (comes_seen settings files x one) (comes_seen settings files y other))
    ∙ there_and_back settings (Some files) y other

pub one_ending : OneValue → OneOutcome inferring
one_ending law settings files x y one other = by (sample_of settings.job) one other
  where
    by : (o : Option ℕ) → GivesOutcome settings (known_beside o (Some files)) x → GivesOutcome settings (known_beside o (Some files)) y → x ≡ y
    by (Some seed) one other = one_of law settings no_files x y one other
    by None one other = one_of law settings files x y one other
