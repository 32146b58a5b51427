-- Two results of the same paths in different orders.
use Rattle.std.specs.Prelude.{◌≡◌, ◌↔◌, ℕ, List, All, Contains}
use Rattle.relationships.specs.declared.fate.Fate.TheVariants.{Kept}
use Rattle.relationships.specs.declared.mark.Mark.TheVariants.{Forced}
use Rattle.relationships.specs.Graph.{Edge}
use Rattle.result_text.specs.declared.file.EdgeLine.{EdgeLine}
use Rattle.result_text.specs.declared.file.ResultFile.{ResultFile}
use Rattle.result_rules.specs.File.{its_givens, its_paths, its_edges}
use Rattle.result_rules.specs.Rules.{Accepts}

-- the results have the same paths, in whatever order, and the same givens
pub record HaveSamePaths (file other : ResultFile) : Type 0 where
  pub paths : (path : List ℕ) → Contains (its_paths file) path ↔ Contains (its_paths other) path
  pub givens : its_givens other ≡ its_givens file

-- no path is lost
abbrev pub LosesNone : ResultFile → Type 0
LosesNone file = All (λ line. line.fate ≡ Kept) file.paths

-- the results have the same edges, each with the same mark, and a forced one with the same label
pub record HaveSameMarks (file other : ResultFile) : Type 0 where
  pub edges : (e : Edge) → Contains (its_edges file) e ↔ Contains (its_edges other) e
  pub marks : (line line' : EdgeLine) → Contains file.edges line → Contains other.edges line' →
      line.low ≡ line'.low → line.high ≡ line'.high → (line.mark ≡ line'.mark) × (line.mark ≡ Forced → line.label ≡ line'.label)

-- where no path is lost, their order doesn't matter
abbrev pub AnyOrderLaw : Type 0
AnyOrderLaw =
    (file other : ResultFile) → Accepts file → Accepts other → HaveSamePaths file other → LosesNone file →
    LosesNone other × HaveSameMarks file other
