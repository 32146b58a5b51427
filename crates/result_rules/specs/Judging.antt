-- What a verdict on a result means.
use Rattle.std.specs.Prelude.{◌≡◌, List}
use Rattle.path_clean.specs.Counts.{CauseCounts}
use Rattle.path_table.specs.Rows.{Counted}
use Rattle.result_rules.specs.Against.{JudgesAgainst}
use Rattle.result_rules.specs.declared.verdict.Verdict.{Verdict}
use Rattle.result_rules.specs.declared.verdict.Verdict.TheVariants.{Yes, No}
use Rattle.result_text.specs.declared.file.ResultFile.{ResultFile}
use Rattle.result_rules.specs.Rules.{Accepts, IsRefused}

-- yes exactly if all rules are met, else the least rule that is broken and its first line
abbrev pub Judges : ResultFile → Verdict → Type 0
Judges file Yes = Accepts file
Judges file (No line rule) = IsRefused file line rule

-- a file has one verdict
abbrev pub OneVerdictLaw : Type 0
OneVerdictLaw = (file : ResultFile) (verdict other : Verdict) → Judges file verdict → Judges file other → verdict ≡ other

-- and one beside dumps
abbrev pub OneAgainstLaw : Type 0
OneAgainstLaw =
    (file : ResultFile) (rows : List Counted) (counts : CauseCounts) (verdict other : Verdict) → JudgesAgainst file rows counts verdict →
    JudgesAgainst file rows counts other → verdict ≡ other
