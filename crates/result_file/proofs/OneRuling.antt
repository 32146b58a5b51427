-- The rules 0 to 10 say one thing of the octets of a result file.
use Rattle.std.proofs.Common.{◌≡◌, inl, inr, ℕ, List, sym, subst, ◌∙◌}
use Rattle.std.proofs.lemmas.Bool.{cases_order}
use Rattle.result_text.specs.declared.file.ResultFile.{ResultFile}
use Rattle.result_text.specs.Grammar.{IsBadLine, IsTextOf}
use Rattle.result_text.specs.Ranges.{IsInRange}
use Rattle.result_text.specs.Text.{text}
use Rattle.result_rules.specs.declared.verdict.Verdict.{Verdict}
use Rattle.result_rules.specs.declared.verdict.Verdict.TheVariants.{Yes, No}
use Rattle.result_rules.specs.Rules.{IsRefused}
use Rattle.result_rules.proofs.OneVerdict.{one_verdict_law}
use Rattle.result_file.specs.Ruled.{BreaksRule, IsAccepted}

-- each text has one value
abbrev pub OneValue : Type 0
OneValue = (file other : ResultFile) → IsInRange file → IsInRange other → text file ≡ text other → file ≡ other

pub same_file : OneValue → (bytes : List ℕ) (f g : ResultFile) → IsTextOf f bytes → IsTextOf g bytes → f ≡ g
same_file law bytes f g a b = law f g a.in_range b.in_range (sym a.encoded ∙ b.encoded)

-- octets that are accepted break no rule of 0 to 10
pub none_broken : OneValue → (bytes : List ℕ) (file : ResultFile) (verdict : Verdict) → IsAccepted file bytes → BreaksRule bytes verdict → ⊥
none_broken law bytes file Yes accepted broken = broken
none_broken law bytes file (No line rule) accepted (inl zero) = zero.1.outside (file, accepted.text)
none_broken law bytes file (No line rule) accepted (inr broken) =
    let same : broken.0 ≡ file = same_file law bytes broken.0 file broken.1 accepted.text in
    let refused : IsRefused file line rule = subst (λ f. IsRefused f line rule) same broken.2 in
    refused.first.breach (accepted.rules refused.rule refused.place refused.first.within)

-- a bad line is one
pub one_bad_line : (bytes : List ℕ) (n m : ℕ) → IsBadLine n bytes → IsBadLine m bytes → n ≡ m
one_bad_line bytes n m a b = elim (cases_order n m) [
  | inl e ↦ e
  | inr o ↦ elim o [
    | inl lt ↦ absurd (a.bad (b.least n lt))
    | inr lt ↦ absurd (b.bad (a.least m lt))
  ]
]

no_is : (line line' rule rule' : ℕ) → line ≡ line' → rule ≡ rule' → No line rule ≡ No line' rule'
no_is line line' rule rule' e f = cc

-- the rules 0 to 10 say one thing
pub one_broken : OneValue → (bytes : List ℕ) (v w : Verdict) → BreaksRule bytes v → BreaksRule bytes w → v ≡ w
one_broken law bytes Yes w one other = absurd one
one_broken law bytes (No line rule) Yes one other = absurd other
one_broken law bytes (No line rule) (No line' rule') (inl zero) (inl zero') =
    no_is line line' rule rule' (one_bad_line bytes line line' zero.1 zero'.1) (zero.0 ∙ sym zero'.0)
one_broken law bytes (No line rule) (No line' rule') (inl zero) (inr broken) = absurd (zero.1.outside (broken.0, broken.1))
one_broken law bytes (No line rule) (No line' rule') (inr broken) (inl zero) = absurd (zero.1.outside (broken.0, broken.1))
one_broken law bytes (No line rule) (No line' rule') (inr broken) (inr broken') =
    let same : broken'.0 ≡ broken.0 = same_file law bytes broken'.0 broken.0 broken'.1 broken.1 in
    one_verdict_law broken.0 (No line rule) (No line' rule') broken.2 (subst (λ f. IsRefused f line' rule') same broken'.2)
