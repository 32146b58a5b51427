-- Which why lines prove an order, and the order of a label.
use Rattle.std.specs.Prelude.{ℕ, ◌<◌, List, [], length, map, All, slice_index_or}
use Rattle.std.specs.List.Sorted.{IsStrictlyIncreasing}
use Rattle.relationships.specs.declared.walk.Walk.{Walk}
use Rattle.relationships.specs.Flat.{walk_with}
use Rattle.relationships.specs.Checking.{OtherOrder}
use Rattle.relationships.specs.Telling.{Prove}
use Rattle.result_text.specs.declared.file.EdgeLine.{EdgeLine}
use Rattle.result_text.specs.declared.file.ResultFile.{ResultFile}
use Rattle.result_rules.specs.File.{its_givens, its_kept, claim_on}

-- the order that the label has, the provider first: the opposite of the one against it
abbrev pub HasOrder : EdgeLine → (over under : ℕ) → Type 0
HasOrder line over under = OtherOrder (claim_on line) under over

-- the walks of the why lines in these places, from 0
abbrev pub whys_at : ResultFile → List ℕ → List Walk
whys_at file places = map (λ k. slice_index_or file.whys k (walk_with [] [])) places

-- the why lines in these places, each once and in the order of the file, prove "over over under" by the givens over the kept paths
pub record ProveTogether (file : ResultFile) (whys : List ℕ) (over under : ℕ) : Type 0 where
  pub there : All (λ k. k < length file.whys) whys
  pub in_order : IsStrictlyIncreasing whys
  pub proved : Prove (its_givens file) (its_kept file) (whys_at file whys) over under
