-- The settings and the files of a check come to one outcome at most, and what a yes has shown.
use Rattle.std.proofs.Common.{◌≡◌, ◌<◌, inl, inr, ℕ, Bool, true, false, List, [], ◌∷◌, length, Some, None, Ok, Err, refl, sym, ap, subst, ◌∙◌, arith}
use Rattle.tor_io.specs.Contents.{Files}
use Rattle.result_text.specs.declared.file.ResultFile.{ResultFile}
use Rattle.result_text.specs.Grammar.{IsTextOf}
use Rattle.result_rules.specs.declared.verdict.Verdict.{Verdict}
use Rattle.result_rules.specs.declared.verdict.Verdict.TheVariants.{Yes, No}
use Rattle.result_rules.specs.Valid.{AcceptanceLaw}
use Rattle.result_rules.proofs.OneVerdict.{one_against_law}
use Rattle.any_order.proofs.OneVerdicts.{one_law}
use Rattle.dump_read.specs.declared.taking.Taken.{Taken}
use Rattle.dump_read.specs.Seen.{DumpsEnd}
use Rattle.tor_words.specs.declared.check_settings.CheckSettings.{CheckSettings}
use Rattle.run_base.specs.Programs.{Outcome, Makes, NoFile, TooLong, BadLine, Breaks, Lacks, Ends, OneOutcome, HasOctets, Gives}
use Rattle.run_base.specs.WholeFile.{IsLongFile}
use Rattle.run_base.proofs.Values as values
use Rattle.result_file.specs.Limits.{max_result}
use Rattle.result_file.specs.Ruled.{BreaksRule}
use Rattle.result_file.proofs.OneRuling.{OneValue, none_broken, one_broken, same_file}
use Rattle.torcheck_run.specs.declared.judging.Judged.{Judged}
use Rattle.torcheck_run.specs.declared.judging.Judged.TheVariants.{ByFile, ByDumps}
use Rattle.torcheck_run.specs.Checking.{GivesOutcome, GivesVerdict, Holds, JudgesDumps, JudgesTaken, checking, verdict_in}
use Rattle.torcheck_run.specs.Judging.{IsVerdict, IsVouched, JudgesByDumps, seen_for}

-- ---- yes and no

-- the dumps say one thing
one_taken : (any : Bool) (file : ResultFile) (taken : Taken) (v w : Verdict) → JudgesTaken any file taken v → JudgesTaken any file taken w → v ≡ w
one_taken false file taken v w one other = one_against_law file taken.table.rows taken.counts v w one other
one_taken true file taken v w one other = one_law file taken.table.rows taken.counts v w one other

by_dumps : (any : Bool) (file : ResultFile) (dumps : List (List ℕ)) (files : Files) (v w : Verdict) → JudgesByDumps any file dumps files v → JudgesByDumps any file dumps files w → v ≡ w
by_dumps any file [] files v w one other = one ∙ sym other
by_dumps any file (dump ∷ dumps) files v w one other =
    let same : other.0 ≡ one.0 = values.ok_is (seen_for file (dump ∷ dumps) files) other.0 one.0 other.1 one.1 in
    one_taken any file one.0 v w one.2 (subst (λ (t : Taken). JudgesTaken any file t w) same other.2)

pub one_verdict : OneValue → (any : Bool) (bytes : List ℕ) (dumps : List (List ℕ)) (files : Files) (v w : Verdict) → IsVerdict any bytes dumps files v → IsVerdict any bytes dumps files w → v ≡ w
one_verdict law any bytes dumps files v w (inl one) (inl other) = one_broken law bytes v w one other
one_verdict law any bytes dumps files v w (inl one) (inr other) = absurd (none_broken law bytes other.0 v other.1 one)
one_verdict law any bytes dumps files v w (inr one) (inl other) = absurd (none_broken law bytes one.0 w one.1 other)
one_verdict law any bytes dumps files v w (inr one) (inr other) =
    let same : other.0 ≡ one.0 = same_file law bytes other.0 one.0 other.1.text one.1.text in
    by_dumps any one.0 dumps files v w one.2 (subst (λ f. JudgesByDumps any f dumps files w) same other.2)

-- ---- outcomes

-- where the files are known
pub as_known : (any : Bool) (file : ResultFile) (dumps : List (List ℕ)) (files : Files) (v : Verdict) → JudgesDumps any (Some files) file dumps v → JudgesByDumps any file dumps files v
as_known any file [] files v judged = judged
as_known any file (dump ∷ dumps) files v judged = judged

-- where a verdict comes of the dumps these have no end
no_end : (any : Bool) (file : ResultFile) (dumps : List (List ℕ)) (files : Files) (verdict : Verdict) (end : DumpsEnd) → JudgesDumps any (Some files) file dumps verdict → seen_for file dumps files ≡ Err end → ⊥
no_end any file [] files verdict end judged ends = values.ok_not_err (seen_for file [] files) _ end refl ends
no_end any file (dump ∷ dumps) files verdict end judged ends = values.ok_not_err (seen_for file (dump ∷ dumps) files) judged.0 end judged.1 ends

by_file : (l r l' r' : ℕ) → No l r ≡ No l' r' → ByFile l r ≡ ByFile l' r'
by_file l r l' r' e = cc

module _ (law : OneValue) (settings : CheckSettings) (files : Files) where
  abbrev Has : List ℕ → Type 0
  Has bytes = HasOctets (Some files) settings.result max_result bytes

  not_there : {X : Type 0} (bytes : List ℕ) → Has bytes → files settings.result ≡ None → X
  not_there bytes is none = values.some_not_none (files settings.result) bytes is.there none

  not_long : {X : Type 0} (bytes : List ℕ) → Has bytes → IsLongFile max_result (files settings.result) → X
  not_long bytes is long = values.not_long max_result (files settings.result) bytes is.there is.short long

  none_long : {X : Type 0} → files settings.result ≡ None → IsLongFile max_result (files settings.result) → X
  none_long is long = values.none_long max_result (files settings.result) is long

  same_octets : (a b : List ℕ) → Has a → Has b → a ≡ b
  same_octets a b one other = values.some_is (files settings.result) a b one.there other.there

  same_held : (f g : ResultFile) → Holds settings (Some files) f → Holds settings (Some files) g → f ≡ g
  same_held f g one other =
      same_file law one.0 f g one.2.text (subst (IsTextOf g) (same_octets other.0 one.0 other.1 one.1) other.2.text)

  not_broken : {X : Type 0} (file : ResultFile) (line rule : ℕ) → Holds settings (Some files) file → GivesVerdict settings (Some files) (ByFile line rule) → X
  not_broken file line rule held broken =
      absurd (none_broken law held.0 file (No line rule) held.2 (subst (λ b. BreaksRule b (No line rule)) (same_octets broken.0 held.0 broken.1 held.1) broken.2))

  octets_of : (j : Judged) → GivesVerdict settings (Some files) j → (bytes : List ℕ) × Has bytes
  octets_of (ByFile line rule) gives = (gives.0, gives.1)
  octets_of (ByDumps v) gives = (gives.1.0, gives.1.1)

  same_judged : (j k : Judged) → GivesVerdict settings (Some files) j → GivesVerdict settings (Some files) k → j ≡ k
  same_judged (ByFile l r) (ByFile l' r') one other =
      by_file l r l' r' (one_broken law one.0 (No l r) (No l' r') one.2 (subst (λ b. BreaksRule b (No l' r')) (same_octets other.0 one.0 other.1 one.1) other.2))
  same_judged (ByFile l r) (ByDumps w) one other = not_broken other.0 l r other.1 one
  same_judged (ByDumps v) (ByFile l r) one other = not_broken one.0 l r one.1 other
  same_judged (ByDumps v) (ByDumps w) one other =
      let same : other.0 ≡ one.0 = same_held other.0 one.0 other.1 one.1 in
      ap ByDumps (by_dumps settings.any_order one.0 settings.dumps files v w (as_known settings.any_order one.0 settings.dumps files v one.2)
      (as_known settings.any_order one.0 settings.dumps files w (subst (λ f. JudgesDumps settings.any_order (Some files) f settings.dumps w) same other.2)))

  no_verdict : {X : Type 0} (j : Judged) (file : ResultFile) (end : DumpsEnd) → GivesVerdict settings (Some files) j → Holds settings (Some files) file
      → seen_for file settings.dumps files ≡ Err end → X
  no_verdict (ByFile l r) file end gives held ends = not_broken file l r held gives
  no_verdict (ByDumps v) file end gives held ends =
      absurd (no_end settings.any_order file settings.dumps files v end (subst (λ f. JudgesDumps settings.any_order (Some files) f settings.dumps v) (same_held gives.0 file gives.1 held) gives.2) ends)

  same : (x y : Outcome Judged) → GivesOutcome settings (Some files) x → GivesOutcome settings (Some files) y → x ≡ y
  same (Makes j) (Makes k) one other = ap Makes (same_judged j k one other)
  same (Makes j) NoFile one other = let has = octets_of j one in not_there has.0 has.1 other
  same (Makes j) TooLong one other = let has = octets_of j one in not_long has.0 has.1 other
  same (Makes j) (BadLine line) one other = absurd other
  same (Makes j) (Breaks line rule) one other = absurd other
  same (Makes j) (Lacks note) one other = absurd other
  same (Makes j) (Ends end) one other = no_verdict j other.0 end one other.1 other.2
  same NoFile (Makes k) one other = let has = octets_of k other in not_there has.0 has.1 one
  same NoFile NoFile one other = refl
  same NoFile TooLong one other = none_long one other
  same NoFile (BadLine line) one other = absurd other
  same NoFile (Breaks line rule) one other = absurd other
  same NoFile (Lacks note) one other = absurd other
  same NoFile (Ends end) one other = not_there other.1.0 other.1.1 one
  same TooLong (Makes k) one other = let has = octets_of k other in not_long has.0 has.1 one
  same TooLong NoFile one other = none_long other one
  same TooLong TooLong one other = refl
  same TooLong (BadLine line) one other = absurd other
  same TooLong (Breaks line rule) one other = absurd other
  same TooLong (Lacks note) one other = absurd other
  same TooLong (Ends end) one other = not_long other.1.0 other.1.1 one
  same (BadLine line) y one other = absurd one
  same (Breaks line rule) y one other = absurd one
  same (Lacks note) y one other = absurd one
  same (Ends end) (Makes k) one other = no_verdict k one.0 end other one.1 one.2
  same (Ends end) NoFile one other = not_there one.1.0 one.1.1 other
  same (Ends end) TooLong one other = not_long one.1.0 one.1.1 other
  same (Ends end) (BadLine line) one other = absurd other
  same (Ends end) (Breaks line rule) one other = absurd other
  same (Ends end) (Lacks note) one other = absurd other
  same (Ends end) (Ends end') one other =
      let file : other.0 ≡ one.0 = same_held other.0 one.0 other.1 one.1 in
      ap Ends (values.err_is (seen_for one.0 settings.dumps files) end end' one.2 (subst (λ f. seen_for f settings.dumps files ≡ Err end') file other.2))

pub one_outcome : OneValue → OneOutcome checking
one_outcome law settings files x y one other = same law settings files x y one other

-- ---- what a yes has shown

agrees : (any : Bool) (file : ResultFile) (dumps : List (List ℕ)) (files : Files) → JudgesDumps any (Some files) file dumps Yes → 0 < length dumps
    → (taken : Taken) × (seen_for file dumps files ≡ Ok taken) × JudgesTaken any file taken Yes
agrees any file [] files judged some = absurd (omega arith)
agrees any file (dump ∷ dumps) files judged some = judged

pub vouched : AcceptanceLaw → (words : List (List ℕ)) (files : Files) (judged : Judged) → verdict_in judged ≡ Yes → Gives checking words (Some files) (Makes judged) → IsVouched words files
vouched law words files (ByFile line rule) is gives = absurd cc
vouched law words files (ByDumps v) is gives =
    let judged = subst (JudgesDumps gives.0.any_order (Some files) gives.2.0 gives.0.dumps) is gives.2.2 in
    record {
      settings = gives.0;
      given = gives.1;
      bytes = gives.2.1.0;
      there = gives.2.1.1.there;
      file = gives.2.0;
      text = gives.2.1.2.text;
      valid = law gives.2.0 gives.2.1.2.rules;
      agrees = agrees gives.0.any_order gives.2.0 gives.0.dumps files judged;
    }
