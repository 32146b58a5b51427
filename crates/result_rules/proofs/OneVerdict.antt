-- A file has one verdict.
use Rattle.std.proofs.Common.{◌≡◌, ◌-◌, inl, inr, ℕ, List, Option, Some, None, refl, sym, ap, subst, ◌∙◌, ◌==◌}
use Rattle.std.specs.Prelude.{slice_get, if◌then◌else◌}
use Rattle.std.proofs.lemmas.Bool.{cases_order}
use Rattle.std.proofs.lemmas.Option.{same_Some}
use Rattle.path_clean.specs.Counts.{CauseCounts}
use Rattle.path_table.specs.Rows.{Counted}
use Rattle.result_text.specs.declared.file.ResultFile.{ResultFile}
use Rattle.result_rules.specs.declared.verdict.Verdict.TheVariants.{Yes, No}
use Rattle.result_rules.specs.declared.rule.Rule.{Rule}
use Rattle.result_rules.specs.declared.rule.Rule.TheVariants.{HeadSound, PathsCleaned, PathsDistinct, LostRefuted, EdgesListed}
use Rattle.result_rules.specs.declared.rule.Rule.TheVariants.{LabelsServe, SupportCounted, OrdersShown, MarksBorneOut, TotalsRight}
use Rattle.result_rules.specs.Rules.{rule_number, line_for, Accepts, BreaksFirst, IsRefused}
use Rattle.result_rules.specs.Against.{in_order, line_against, Departs, JudgesAgainst}
use Rattle.result_rules.specs.Judging.{OneVerdictLaw, OneAgainstLaw}

abbrev numbered : ℕ → Option Rule
numbered n =
    if n == 1 then Some HeadSound
    else if n == 2 then Some PathsCleaned
    else if n == 3 then Some PathsDistinct
    else if n == 4 then Some LostRefuted
    else if n == 5 then Some EdgesListed
    else if n == 6 then Some LabelsServe
    else if n == 7 then Some SupportCounted
    else if n == 8 then Some OrdersShown
    else if n == 9 then Some MarksBorneOut
    else if n == 10 then Some TotalsRight
    else None

numbered_back : (rule : Rule) → numbered (rule_number rule) ≡ Some rule
numbered_back HeadSound = refl
numbered_back PathsCleaned = refl
numbered_back PathsDistinct = refl
numbered_back LostRefuted = refl
numbered_back EdgesListed = refl
numbered_back LabelsServe = refl
numbered_back SupportCounted = refl
numbered_back OrdersShown = refl
numbered_back MarksBorneOut = refl
numbered_back TotalsRight = refl

same_rule : (r s : Rule) → rule_number r ≡ rule_number s → r ≡ s
same_rule r s e = same_Some r s (sym (numbered_back r) ∙ ap numbered e ∙ numbered_back s)

one_place : (file : ResultFile) (rule : Rule) (j k : ℕ) → BreaksFirst file rule j → BreaksFirst file rule k → j ≡ k
one_place file rule j k a b = elim (cases_order j k) [
  | inl e ↦ e
  | inr o ↦ elim o [
    | inl lt ↦ absurd (a.breach (b.before j lt))
    | inr lt ↦ absurd (b.breach (a.before k lt))
  ]
]

one_rule : (file : ResultFile) (l n l' n' : ℕ) (a : IsRefused file l n) (b : IsRefused file l' n') → a.rule ≡ b.rule
one_rule file l n l' n' a b = elim (cases_order (rule_number a.rule) (rule_number b.rule)) [
  | inl e ↦ same_rule a.rule b.rule e
  | inr o ↦ elim o [
    | inl lt ↦ absurd (a.first.breach (b.earlier a.rule lt a.place a.first.within))
    | inr lt ↦ absurd (b.first.breach (a.earlier b.rule lt b.place b.first.within))
  ]
]

verdicts_same : (l n l' n' : ℕ) → l ≡ l' → n ≡ n' → No l n ≡ No l' n'
verdicts_same l n l' n' e f = cc

one_refused : (file : ResultFile) (l n l' n' : ℕ) → IsRefused file l n → IsRefused file l' n' → No l n ≡ No l' n'
one_refused file l n l' n' a b =
    let same : a.rule ≡ b.rule = one_rule file l n l' n' a b in
    let place : a.place ≡ b.place = one_place file b.rule a.place b.place (subst (λ r. BreaksFirst file r a.place) same a.first) b.first in
    let line : line_for file a.rule a.place ≡ line_for file b.rule b.place = ap (λ r. line_for file r a.place) same ∙ ap (λ k. line_for file b.rule k) place in
    verdicts_same l n l' n' (a.numbered ∙ line ∙ sym b.numbered) (a.named ∙ ap rule_number same ∙ sym b.named)

refused_or_accepted : (file : ResultFile) (l n : ℕ) → Accepts file → IsRefused file l n → ⊥
refused_or_accepted file l n accepts r = r.first.breach (accepts r.rule r.place r.first.within)

pub one_verdict_law : OneVerdictLaw
one_verdict_law file Yes Yes a b = refl
one_verdict_law file Yes (No l n) a b = absurd (refused_or_accepted file l n a b)
one_verdict_law file (No l n) Yes a b = absurd (refused_or_accepted file l n b a)
one_verdict_law file (No l n) (No l' n') a b = one_refused file l n l' n' a b

-- ---- beside dumps

departs_or_agrees : (file : ResultFile) (rows : List Counted) (counts : CauseCounts) (l n : ℕ) → JudgesAgainst file rows counts Yes → Departs file rows counts l n → ⊥
departs_or_agrees file rows counts l n right d =
    d.breach (record {
      count = λ lt. ap (λ c. slice_get (in_order c) d.place) right.0;
      path = λ le. ap (λ (t : List Counted). slice_get t (d.place - 7)) right.1;
    })

one_departure : (file : ResultFile) (rows : List Counted) (counts : CauseCounts) (l n l' n' : ℕ) → Departs file rows counts l n → Departs file rows counts l' n' → No l n ≡ No l' n'
one_departure file rows counts l n l' n' a b =
    let place : a.place ≡ b.place = elim (cases_order a.place b.place) [
      | inl e ↦ e
      | inr o ↦ elim o [
        | inl lt ↦ absurd (a.breach (b.before a.place lt))
        | inr lt ↦ absurd (b.breach (a.before b.place lt))
      ]
    ] in
    verdicts_same l n l' n' (a.numbered ∙ ap (line_against file) place ∙ sym b.numbered) (a.named ∙ sym b.named)

pub one_against_law : OneAgainstLaw
one_against_law file rows counts Yes Yes a b = refl
one_against_law file rows counts Yes (No l n) a b = absurd (departs_or_agrees file rows counts l n a b)
one_against_law file rows counts (No l n) Yes a b = absurd (departs_or_agrees file rows counts l n b a)
one_against_law file rows counts (No l n) (No l' n') a b = one_departure file rows counts l n l' n' a b
