-- What a file that meets all rules has shown. An orientation that agrees with the givens and serves paths is one that serves the returns of
-- the givens and these paths (`given_serving_law`), so the returns stand in front of the kept paths wherever an orientation is asked for.
use Rattle.std.specs.Prelude.{◌≡◌, ◌≢◌, ◌↔◌, ℕ, ◌++◌, ◌∷◌, [], map, is_none, All, Contains, IsTrue, Some, slice_get}
use Rattle.relationships.specs.declared.label.Label.TheVariants as label
use Rattle.relationships.specs.declared.walk.Walk.{Walk}
use Rattle.relationships.specs.Relationship.{ValleyFree}
use Rattle.relationships.specs.Evidence.{paths_of}
use Rattle.relationships.specs.Givens.{AgreesWith}
use Rattle.relationships.specs.Selection.{IsServable, KeepsFrom, IsForced}
use Rattle.relationships.specs.declared.fate.Fate.TheVariants.{Lost}
use Rattle.result_text.specs.declared.file.PathLine.{PathLine}
use Rattle.result_text.specs.declared.file.EdgeLine.{EdgeLine}
use Rattle.result_text.specs.declared.file.ResultFile.{ResultFile}
use Rattle.relationships.specs.Marking.{is_forced}
use Rattle.result_rules.specs.File.{its_givens, its_paths, its_walks, its_returns, kept_before, its_kept, its_labels}
use Rattle.result_rules.specs.Rules.{Accepts}

pub record Valid (file : ResultFile) : Type 0 where
  -- every kept path is valley-free under the labels
  pub valley_free : All (ValleyFree (its_labels file)) (paths_of (its_kept file))
  -- and these agree with each given whose two are an edge
  pub agrees : AgreesWith (its_givens file) (its_paths file) (its_labels file)
  -- no orientation that agrees with the givens serves a lost path together with the paths kept before it
  pub lost : (k : ℕ) (line : PathLine) (walk : Walk) → slice_get file.paths k ≡ Some line → line.fate ≡ Lost walk →
      IsServable (its_returns file ++ (paths_of (kept_before file k) ++ line.path ∷ [])) → ⊥
  -- the kept lines are exactly those that selection in order keeps under the givens
  pub kept : KeepsFrom (its_returns file) (its_paths file) (map is_none (its_walks file))
  -- an edge is marked forced exactly if all orientations that agree with the givens and serve the kept paths give it the same provider
  pub forced : (line : EdgeLine) → Contains file.edges line →
      IsTrue (is_forced line.mark) ↔ IsForced (its_returns file ++ paths_of (its_kept file)) line.low line.high
  -- and then it is no peering
  pub no_peering : (line : EdgeLine) → Contains file.edges line → IsTrue (is_forced line.mark) → line.label ≢ label.Peer

-- what meets all rules is valid
abbrev pub AcceptanceLaw : Type 0
AcceptanceLaw = (file : ResultFile) → Accepts file → Valid file
