-- From the rules that are met up to a number to the next rule.
use Rattle.std.proofs.Common.{◌≡◌, ℕ, ◌+◌, ◌≤◌, ◌∙◌, refl, sym, ap, subst, arith, Option, Some, None, inl, inr, ◌==◌, if◌then◌else◌}
use Rattle.std.proofs.lemmas.Bool.{cases_order}
use Rattle.result_text.specs.declared.file.ResultFile.{ResultFile}
use Rattle.result_rules.specs.declared.rule.Rule.{Rule}
use Rattle.result_rules.specs.declared.rule.Rule.TheVariants.{HeadSound, PathsCleaned, PathsDistinct, LostRefuted, EdgesListed, LabelsServe, SupportCounted, OrdersShown, MarksBorneOut}
use Rattle.result_rules.specs.declared.rule.Rule.TheVariants.{TotalsRight}
use Rattle.result_rules.specs.Rules.{rule_number, line_for, IsMet, Accepts, BreaksFirst, IsRefused}
use Rattle.rel_checker.specs.Steps.{MetUpTo}
use Rattle.result_rules.specs.Judging.{Judges}
use Rattle.line_rules.specs.Breaches.{FindsBreach}
use Rattle.result_rules.specs.declared.verdict.Verdict.{Verdict}
use Rattle.result_rules.specs.declared.verdict.Verdict.TheVariants.{No}

abbrev rule_of : ℕ → Rule
rule_of n =
    if n == 1 then HeadSound else if n == 2 then PathsCleaned else if n == 3 then PathsDistinct else if n == 4 then LostRefuted
    else if n == 5 then EdgesListed else if n == 6 then LabelsServe else if n == 7 then SupportCounted else if n == 8 then OrdersShown
    else if n == 9 then MarksBorneOut else TotalsRight

back : (rule : Rule) → rule_of (rule_number rule) ≡ rule
back HeadSound = refl
back PathsCleaned = refl
back PathsDistinct = refl
back LostRefuted = refl
back EdgesListed = refl
back LabelsServe = refl
back SupportCounted = refl
back OrdersShown = refl
back MarksBorneOut = refl
back TotalsRight = refl

bounded : (rule : Rule) → (1 ≤ rule_number rule) × (rule_number rule ≤ 10)
bounded HeadSound = (omega arith, omega arith)
bounded PathsCleaned = (omega arith, omega arith)
bounded PathsDistinct = (omega arith, omega arith)
bounded LostRefuted = (omega arith, omega arith)
bounded EdgesListed = (omega arith, omega arith)
bounded LabelsServe = (omega arith, omega arith)
bounded SupportCounted = (omega arith, omega arith)
bounded OrdersShown = (omega arith, omega arith)
bounded MarksBorneOut = (omega arith, omega arith)
bounded TotalsRight = (omega arith, omega arith)

same_rule : (rule other : Rule) → rule_number other ≡ rule_number rule → other ≡ rule
same_rule rule other e = sym (back other) ∙ ap rule_of e ∙ back rule

module _ (file : ResultFile) where
  pub none_met : MetUpTo file 0
  none_met rule le = absurd (omega (arith, le, (bounded rule).0))

  pub next_met : (rule : Rule) (n : ℕ) → n + 1 ≡ rule_number rule → MetUpTo file n → IsMet file rule → MetUpTo file (n + 1)
  next_met rule n at met is other le =
      elim (cases_order (rule_number other) (rule_number rule)) [
        | inl e ↦ subst (IsMet file) (sym (same_rule rule other e)) is
        | inr o ↦ elim o [ inl lt ↦ met other (omega (arith, at, lt)) | inr lt ↦ absurd (omega (arith, at, le, lt)) ]
      ]

  pub all_met : MetUpTo file 10 → Accepts file
  all_met met rule = met rule (bounded rule).1

  pub refused : (rule : Rule) (n place line number : ℕ) → n + 1 ≡ rule_number rule → MetUpTo file n → BreaksFirst file rule place → number ≡ rule_number rule → line ≡ line_for file rule place →
      IsRefused file line number
  refused rule n place line number at met first named numbered = record {
    rule = rule;
    named = named;
    place = place;
    numbered = numbered;
    first = first;
    earlier = λ other lt. met other (omega (arith, at, lt));
  }

  -- the verdict that names a broken rule
  pub judged : (verdict : Verdict) (line number : ℕ) → verdict ≡ No line number → IsRefused file line number → Judges file verdict
  judged verdict line number is r = subst (Judges file) (sym is) r

  -- what a search for a breach found
  pub found_none : (rule : Rule) (found : Option ℕ) → FindsBreach file rule found → found ≡ None → IsMet file rule
  found_none rule found f is = subst (FindsBreach file rule) is f

  pub found_some : (rule : Rule) (found : Option ℕ) (place : ℕ) → FindsBreach file rule found → found ≡ Some place → BreaksFirst file rule place
  found_some rule found place f is = subst (FindsBreach file rule) is f
