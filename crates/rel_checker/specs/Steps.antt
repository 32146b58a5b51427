-- How far a check has come.
use Rattle.std.specs.Prelude.{ℕ, ◌≤◌, Option, Some, None}
use Rattle.result_text.specs.declared.file.ResultFile.{ResultFile}
use Rattle.result_rules.specs.declared.verdict.Verdict.{Verdict}
use Rattle.result_rules.specs.declared.rule.Rule.{Rule}
use Rattle.result_rules.specs.Rules.{rule_number, IsMet}
use Rattle.result_rules.specs.Judging.{Judges}

-- the rules up to this number are met
abbrev pub MetUpTo : ResultFile → ℕ → Type 0
MetUpTo file n = (rule : Rule) → rule_number rule ≤ n → IsMet file rule

-- the verdict is found, or the rules up to this number are met
abbrev pub IsDecidedUpTo : ResultFile → ℕ → Option Verdict → Type 0
IsDecidedUpTo file n None = MetUpTo file n
IsDecidedUpTo file n (Some verdict) = Judges file verdict
