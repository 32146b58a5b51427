-- The settings and the file that they name come to one outcome at most.
use Rattle.std.proofs.Common.{◌≡◌, ℕ, List, Some, None, refl, sym, ap, subst, ◌∙◌}
use Rattle.tor_io.specs.Contents.{Files}
use Rattle.result_text.specs.declared.file.ResultFile.{ResultFile}
use Rattle.result_text.specs.Grammar.{IsTextOf}
use Rattle.result_rules.specs.declared.verdict.Verdict.TheVariants.{No}
use Rattle.run_base.specs.Programs.{Outcome, Makes, NoFile, TooLong, BadLine, Breaks, Lacks, Ends, OneOutcome, HasOctets}
use Rattle.run_base.specs.WholeFile.{IsLongFile}
use Rattle.run_base.proofs.Values as values
use Rattle.result_file.specs.Limits.{max_result}
use Rattle.result_file.specs.Ruled.{BreaksRule}
use Rattle.result_file.proofs.OneRuling.{OneValue, none_broken, one_broken, same_file}
use Rattle.showing_run.specs.Asking.{Asking, HoldsMet, GivesAnswer, showing}

-- what is asked for is there or isn't
abbrev pub NotBoth : {S : Type 0} → Asking S → Type 0
NotBoth {S = S} ask = (settings : S) (file : ResultFile) (text : List ℕ) → ask.IsAnswer settings file None → ask.IsAnswer settings file (Some text) → ⊥

module _ (law : OneValue) (files : Files) (name : List ℕ) where
  abbrev Has : List ℕ → Type 0
  Has bytes = HasOctets (Some files) name max_result bytes

  abbrev Breaking : ℕ → ℕ → Type 0
  Breaking line rule = (bytes : List ℕ) × Has bytes × BreaksRule bytes (No line rule)

  not_there : {X : Type 0} (bytes : List ℕ) → Has bytes → files name ≡ None → X
  not_there bytes is none = values.some_not_none (files name) bytes is.there none

  not_long : {X : Type 0} (bytes : List ℕ) → Has bytes → IsLongFile max_result (files name) → X
  not_long bytes is long = values.not_long max_result (files name) bytes is.there is.short long

  none_long : {X : Type 0} → files name ≡ None → IsLongFile max_result (files name) → X
  none_long is long = values.none_long max_result (files name) is long

  same_octets : (a b : List ℕ) → Has a → Has b → a ≡ b
  same_octets a b one other = values.some_is (files name) a b one.there other.there

  one_met : (f g : ResultFile) → HoldsMet (Some files) name f → HoldsMet (Some files) name g → f ≡ g
  one_met f g one other =
      same_file law one.0 f g one.2.text (subst (IsTextOf g) (same_octets other.0 one.0 other.1 one.1) other.2.text)

  -- a result that meets the rules breaks none
  met_broken : {X : Type 0} (file : ResultFile) (line rule : ℕ) → HoldsMet (Some files) name file → Breaking line rule → X
  met_broken file line rule met broken =
      absurd (none_broken law met.0 file (No line rule) met.2 (subst (λ b. BreaksRule b (No line rule)) (same_octets broken.0 met.0 broken.1 met.1) broken.2))

  one_breaking : (line line' rule rule' : ℕ) → Breaking line rule → Breaking line' rule' → ◌≡◌ {A = Outcome ResultFile} (Breaks line rule) (Breaks line' rule')
  one_breaking line line' rule rule' one other =
      by (one_broken law one.0 (No line rule) (No line' rule') one.2 (subst (λ b. BreaksRule b (No line' rule')) (same_octets other.0 one.0 other.1 one.1) other.2))
    where
      by : No line rule ≡ No line' rule' → ◌≡◌ {A = Outcome ResultFile} (Breaks line rule) (Breaks line' rule')
      by e = cc

module _ {S : Type 0} (ask : Asking S) (law : OneValue) (not_both : NotBoth ask) (settings : S) (files : Files) where
  abbrev its_name : List ℕ
  its_name = ask.result settings

  -- what is asked for is there, or it isn't
  said_lacked : {X : Type 0} (f g : ResultFile) (text : List ℕ) → HoldsMet (Some files) its_name f → HoldsMet (Some files) its_name g → ask.IsAnswer settings f (Some text)
      → ask.IsAnswer settings g None → X
  said_lacked f g text one other says lacks = absurd (not_both settings f text (subst (λ x. ask.IsAnswer settings x None) (one_met law files its_name g f other one) lacks) says)

  same : (x y : Outcome ResultFile) → GivesAnswer ask settings (Some files) x → GivesAnswer ask settings (Some files) y → x ≡ y
  same (Makes f) (Makes g) one other = ap Makes (one_met law files its_name f g one.0 other.0)
  same (Makes f) NoFile one other = not_there law files its_name one.0.0 one.0.1 other
  same (Makes f) TooLong one other = not_long law files its_name one.0.0 one.0.1 other
  same (Makes f) (BadLine line) one other = absurd other
  same (Makes f) (Breaks line rule) one other = met_broken law files its_name f line rule one.0 other
  same (Makes f) (Lacks note) one other = said_lacked f other.1.0 one.1.0 one.0 other.1.1 one.1.1 other.1.2
  same (Makes f) (Ends end) one other = absurd other
  same NoFile (Makes g) one other = not_there law files its_name other.0.0 other.0.1 one
  same NoFile NoFile one other = refl
  same NoFile TooLong one other = none_long law files its_name one other
  same NoFile (BadLine line) one other = absurd other
  same NoFile (Breaks line rule) one other = not_there law files its_name other.0 other.1 one
  same NoFile (Lacks note) one other = not_there law files its_name other.1.1.0 other.1.1.1 one
  same NoFile (Ends end) one other = absurd other
  same TooLong (Makes g) one other = not_long law files its_name other.0.0 other.0.1 one
  same TooLong NoFile one other = none_long law files its_name other one
  same TooLong TooLong one other = refl
  same TooLong (BadLine line) one other = absurd other
  same TooLong (Breaks line rule) one other = not_long law files its_name other.0 other.1 one
  same TooLong (Lacks note) one other = not_long law files its_name other.1.1.0 other.1.1.1 one
  same TooLong (Ends end) one other = absurd other
  same (BadLine line) y one other = absurd one
  same (Breaks line rule) (Makes g) one other = met_broken law files its_name g line rule other.0 one
  same (Breaks line rule) NoFile one other = not_there law files its_name one.0 one.1 other
  same (Breaks line rule) TooLong one other = not_long law files its_name one.0 one.1 other
  same (Breaks line rule) (BadLine line') one other = absurd other
  same (Breaks line rule) (Breaks line' rule') one other = one_breaking law files its_name line line' rule rule' one other
  same (Breaks line rule) (Lacks note) one other = met_broken law files its_name other.1.0 line rule other.1.1 one
  same (Breaks line rule) (Ends end) one other = absurd other
  same (Lacks note) (Makes g) one other = said_lacked g one.1.0 other.1.0 other.0 one.1.1 other.1.1 one.1.2
  same (Lacks note) NoFile one other = not_there law files its_name one.1.1.0 one.1.1.1 other
  same (Lacks note) TooLong one other = not_long law files its_name one.1.1.0 one.1.1.1 other
  same (Lacks note) (BadLine line) one other = absurd other
  same (Lacks note) (Breaks line rule) one other = met_broken law files its_name one.1.0 line rule one.1.1 other
  same (Lacks note) (Lacks note') one other = ap Lacks (one.0 ∙ sym other.0)
  same (Lacks note) (Ends end) one other = absurd other
  same (Ends end) y one other = absurd one

pub one_outcome : {S : Type 0} (ask : Asking S) → OneValue → NotBoth ask → OneOutcome (showing ask)
one_outcome ask law not_both settings files x y one other = same ask law not_both settings files x y one other
