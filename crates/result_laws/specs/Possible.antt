-- Which orientations a result leaves possible, and what follows for its lost paths and its open edges.
use Rattle.std.specs.Prelude.{◌≡◌, [], ◌∷◌, ◌++◌, map, is_none, Contains}
use Rattle.relationships.specs.declared.label.End.{End}
use Rattle.relationships.specs.declared.given.Given.{Given}
use Rattle.relationships.specs.declared.walk.Walk.{Walk}
use Rattle.relationships.specs.declared.fate.Fate.TheVariants.{Lost}
use Rattle.relationships.specs.declared.mark.Mark.TheVariants.{Open}
use Rattle.relationships.specs.Relationship.{Orientation, labels_of, ValleyFree}
use Rattle.relationships.specs.Graph.{edge_of}
use Rattle.relationships.specs.Evidence.{paths_of}
use Rattle.relationships.specs.Selection.{KeepsFrom}
use Rattle.relationships.specs.Givens.{ServesWith, returns}
use Rattle.result_text.specs.declared.file.EdgeLine.{EdgeLine}
use Rattle.result_text.specs.declared.file.PathLine.{PathLine}
use Rattle.result_text.specs.declared.file.ResultFile.{ResultFile}
use Rattle.result_rules.specs.File.{its_givens, its_paths, its_walks, its_kept}
use Rattle.result_rules.specs.Rules.{Accepts}

-- the orientation agrees with the givens of the result and serves its kept paths
abbrev pub IsPossible : ResultFile → Orientation → Type 0
IsPossible file O = ServesWith (its_givens file) (its_paths file) O (paths_of (its_kept file))

-- a lost path is valley-free under no possible orientation: so none could be added to all kept paths, also those after it
abbrev pub NoneAddedLaw : Type 0
NoneAddedLaw =
    (file : ResultFile) → Accepts file → (line : PathLine) (walk : Walk) → Contains file.paths line → line.fate ≡ Lost walk →
    (O : Orientation) → IsPossible file O → ValleyFree (labels_of O) line.path → ⊥

-- each end of an edge that is marked open is the provider in some possible orientation
abbrev pub OpenEdgeLaw : Type 0
OpenEdgeLaw =
    (file : ResultFile) → Accepts file → (line : EdgeLine) → Contains file.edges line → line.mark ≡ Open →
    (end : End) → (O : Orientation) × IsPossible file O × (O line.low line.high ≡ end)

-- the other result has the same paths, and one given more
pub record HasOneMore (file : ResultFile) (given : Given) (other : ResultFile) : Type 0 where
  pub paths : its_paths other ≡ its_paths file
  pub givens : its_givens other ≡ its_givens file ++ given ∷ []

-- with one given more, for an edge that is marked open and either way, exactly the same paths are kept; so each such result keeps them
abbrev pub GivenOpenLaw : Type 0
GivenOpenLaw =
    (file : ResultFile) → Accepts file → (line : EdgeLine) → Contains file.edges line → line.mark ≡ Open →
    (given : Given) → edge_of given.over given.under ≡ (line.low, line.high) →
    KeepsFrom (returns (its_paths file) (its_givens file ++ given ∷ [])) (its_paths file) (map is_none (its_walks file)) ×
    ((other : ResultFile) → Accepts other → HasOneMore file given other → map is_none (its_walks other) ≡ map is_none (its_walks file))
