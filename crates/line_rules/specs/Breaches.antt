-- What is found where something doesn't hold.
use Rattle.std.specs.Prelude.{ℕ, ◌<◌, Option, Some, None}
use Rattle.result_text.specs.declared.file.ResultFile.{ResultFile}
use Rattle.result_rules.specs.declared.rule.Rule.{Rule}
use Rattle.result_rules.specs.Rules.{IsMet, BreaksFirst}

-- the first place below `end` where P does not hold, if there is one
abbrev pub First : (ℕ → Type 0) → ℕ → Option ℕ → Type 0
First P end None = (k : ℕ) → k < end → P k
First P end (Some k) = (k < end) × (P k → ⊥) × ((j : ℕ) → j < k → P j)

-- the place of the first line that breaks the rule, or none where it is met
abbrev pub FindsBreach : ResultFile → Rule → Option ℕ → Type 0
FindsBreach file rule None = IsMet file rule
FindsBreach file rule (Some k) = BreaksFirst file rule k
