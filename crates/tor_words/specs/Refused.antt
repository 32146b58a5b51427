-- Why words give no settings.
use Rattle.std.specs.Prelude.{◌≡◌, ℕ, List, [], ◌∷◌, ◌++◌, codes}
use Rattle.tor_words.specs.declared.refused.WordsRefused.{WordsRefused}
use Rattle.tor_words.specs.declared.refused.WordsRefused.TheVariants.{Usage, NoMemory}

abbrev pub IsUsage : WordsRefused → Type 0
IsUsage (Usage text) = Unit {0}
IsUsage NoMemory = ⊥

-- the first line is `usage`
abbrev pub HasUsageLine : List ℕ → Type 0
HasUsageLine text = (rest : List ℕ) × (text ≡ (codes "usage" ++ 10 ∷ []) ++ rest)

-- the text of the refusal begins with the line `usage`
abbrev pub SaysUsage : WordsRefused → Type 0
SaysUsage (Usage text) = HasUsageLine text
SaysUsage NoMemory = Unit {0}
