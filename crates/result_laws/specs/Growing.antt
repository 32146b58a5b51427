-- What a result has decided stays so where paths are added after its own.
use Rattle.std.specs.Prelude.{◌≡◌, length, map, take, is_none, Contains}
use Rattle.relationships.specs.declared.mark.Mark.TheVariants.{Forced}
use Rattle.result_text.specs.declared.file.EdgeLine.{EdgeLine}
use Rattle.result_text.specs.declared.file.ResultFile.{ResultFile}
use Rattle.result_rules.specs.File.{its_givens, its_paths, its_walks, its_claims, claim_on}
use Rattle.result_rules.specs.Rules.{Accepts}

-- the later result has the paths of the earlier one first, in their order, and the same givens
pub record GoesOnFrom (earlier later : ResultFile) : Type 0 where
  pub paths : take (length earlier.paths) (its_paths later) ≡ its_paths earlier
  pub givens : its_givens later ≡ its_givens earlier

-- what the earlier result has decided stays so in the later one
pub record StaysDecided (earlier later : ResultFile) : Type 0 where
  -- its kept paths stay kept, and its lost ones lost
  pub kept : take (length earlier.paths) (map is_none (its_walks later)) ≡ map is_none (its_walks earlier)
  -- and a line of the later one claims what the line of a forced edge claims: its label, and that it is forced
  pub forced : (line : EdgeLine) → Contains earlier.edges line → line.mark ≡ Forced → Contains (its_claims later) (claim_on line)

-- so it is whatever paths are added
abbrev pub ForcedStaysLaw : Type 0
ForcedStaysLaw =
    (earlier later : ResultFile) → Accepts earlier → Accepts later → GoesOnFrom earlier later → StaysDecided earlier later
