-- What is told of an edge and of a path of a result that meets all rules.
use Rattle.std.specs.Prelude.{◌≡◌, ℕ, ◌+◌, ◌<◌, List, ◌++◌, ◌∷◌, [], length, map, Option, Some, None, Contains, slice_get}
use Rattle.relationships.specs.declared.label.Label.TheVariants as label
use Rattle.relationships.specs.declared.mark.Mark.TheVariants as mark
use Rattle.relationships.specs.declared.fate.Fate.TheVariants as fate
use Rattle.relationships.specs.declared.walk.Walk.{Walk}
use Rattle.relationships.specs.Relationship.{Slope, Up, Down, Flat, slopes}
use Rattle.relationships.specs.Graph.{Edge, edge_of}
use Rattle.relationships.specs.Evidence.{paths_of, Closure}
use Rattle.relationships.specs.GivenEvidence.{RefutesWith}
use Rattle.relationships.specs.Checking.{OtherOrder}
use Rattle.result_text.specs.declared.file.EdgeLine.{EdgeLine}
use Rattle.result_text.specs.declared.file.PathLine.{PathLine}
use Rattle.result_text.specs.declared.file.ResultFile.{ResultFile}
use Rattle.result_rules.specs.File.{its_givens, its_kept, its_edges, its_labels, its_probes, its_returns, kept_before, claim_on}
use Rattle.result_rules.specs.Rules.{its_served}
use Rattle.telling.specs.declared.told.Going.{Going}
use Rattle.telling.specs.declared.told.Question.{Question}
use Rattle.telling.specs.declared.told.Told.{Told}
use Rattle.telling.specs.declared.told.Going.TheVariants as going
use Rattle.telling.specs.declared.told.Question.TheVariants as question
use Rattle.telling.specs.declared.told.Told.TheVariants as told
use Rattle.relationships.specs.Telling.{Leads, CanBeEither}
use Rattle.telling.specs.Labelling.{HasStep}
use Rattle.telling.specs.Proving.{HasOrder, ProveTogether}

-- ---- edges

-- the edge of a line
abbrev pub edge_on : EdgeLine → Edge
edge_on line = (line.low, line.high)

-- the line is one of the file, and its edge is that of the two
abbrev pub IsLineOf : ResultFile → (one other : ℕ) → EdgeLine → Type 0
IsLineOf file one other line = Contains file.edges line × (edge_on line ≡ edge_of one other)

-- the order against the label
abbrev pub IsAgainst : EdgeLine → (over under : ℕ) → Type 0
IsAgainst line over under = OtherOrder (claim_on line) over under

-- the edge is forced, and these why lines and no others prove the order of its label
pub record IsProved (file : ResultFile) (line : EdgeLine) (whys : List ℕ) : Type 0 where
  pub is_forced : line.mark ≡ mark.Forced
  pub over : ℕ
  pub under : ℕ
  pub order : HasOrder line over under
  pub proof : ProveTogether file whys over under
  pub only : (others : List ℕ) → ProveTogether file others over under → others ≡ whys

-- either order of the edge is possible: an orientation that agrees with the givens and serves the kept paths has the one, and one that
-- does has the other
abbrev pub IsUndecided : ResultFile → EdgeLine → Type 0
IsUndecided file line = CanBeEither (its_returns file ++ paths_of (its_kept file)) line.low line.high

-- this open line is the first whose closure has "over over under", if its closure has that
pub record IsFirstTo (file : ResultFile) (probe : ℕ × ℕ) (over under : ℕ) : Type 0 where
  pub place : ℕ
  pub at : slice_get (its_probes file) place ≡ Some probe
  pub none_before : (k : ℕ) (earlier : ℕ × ℕ) → k < place → slice_get (its_probes file) k ≡ Some earlier →
      Closure (its_served file) earlier.0 earlier.1 over under → ⊥

-- no order stands on the walk twice
abbrev pub IsWithoutLoop : Walk → Type 0
IsWithoutLoop walk = (i j x y : ℕ) → HasStep walk.ases i x y → HasStep walk.ases j x y → i ≡ j

-- the edge is open and no peering, and the walk leads without a loop from the order of an open line to the order against the label. The
-- open line is the first whose closure has that order
pub record IsReached (file : ResultFile) (line : EdgeLine) (probe : ℕ × ℕ) (walk : Walk) : Type 0 where
  pub is_open : line.mark ≡ mark.Open
  pub over : ℕ
  pub under : ℕ
  pub order : IsAgainst line over under
  pub first : IsFirstTo file probe over under
  pub reached : Leads (its_givens file) (its_kept file) walk probe.0 probe.1 over under
  pub without_loop : IsWithoutLoop walk
  pub undecided : IsUndecided file line

-- the edge is a peering
pub record IsPeering (file : ResultFile) (line : EdgeLine) : Type 0 where
  pub is_open : line.mark ≡ mark.Open
  pub is_peer : line.label ≡ label.Peer
  pub undecided : IsUndecided file line

-- ---- paths

-- the path in this place, from 0, is lost, and its walk refutes by the givens over the paths kept before it and its own
abbrev pub IsLost : ResultFile → ℕ → Type 0
IsLost file k =
    (line : PathLine) × (slice_get file.paths k ≡ Some line) ×
    ((walk : Walk) × (line.fate ≡ fate.Lost walk) × RefutesWith (its_givens file) (kept_before file k ++ (k + 1, line.path) ∷ []) walk)

abbrev pub going_of : Slope → Going
going_of Up = going.Up
going_of Down = going.Down
going_of Flat = going.Flat

-- the path in this place is kept, and so its steps go under the labels
abbrev pub IsKept : ResultFile → ℕ → List Going → Type 0
IsKept file k goings =
    (line : PathLine) × (slice_get file.paths k ≡ Some line) × (line.fate ≡ fate.Kept) ×
    (goings ≡ map going_of (slopes (its_labels file) line.path))

-- ---- questions

-- what is told of the edge of two ASes
abbrev pub IsToldOfEdge : ResultFile → (one other : ℕ) → Told → Type 0
IsToldOfEdge file one other (told.Forced line whys) = IsLineOf file one other line × IsProved file line whys
IsToldOfEdge file one other (told.Open line probe walk) = IsLineOf file one other line × IsReached file line (probe.over, probe.under) walk
IsToldOfEdge file one other (told.Peering line) = IsLineOf file one other line × IsPeering file line
IsToldOfEdge file one other (told.Lost path) = ⊥
IsToldOfEdge file one other (told.Kept path goings) = ⊥

-- what is told of the path in a place, from 0
abbrev pub IsToldOfPath : ResultFile → ℕ → Told → Type 0
IsToldOfPath file k (told.Lost path) = (path ≡ k) × IsLost file k
IsToldOfPath file k (told.Kept path goings) = (path ≡ k) × IsKept file k goings
IsToldOfPath file k (told.Forced line whys) = ⊥
IsToldOfPath file k (told.Open line probe walk) = ⊥
IsToldOfPath file k (told.Peering line) = ⊥

-- what answers a question about the edge of two ASes: what is told of it, or that it isn't there
abbrev pub AnswersEdge : ResultFile → (one other : ℕ) → Option Told → Type 0
AnswersEdge file one other None = Contains (its_edges file) (edge_of one other) → ⊥
AnswersEdge file one other (Some tale) = IsToldOfEdge file one other tale

-- and about the path of a number, from 1
abbrev pub AnswersPath : ResultFile → ℕ → Option Told → Type 0
AnswersPath file number None = (k : ℕ) → number ≡ k + 1 → k < length file.paths → ⊥
AnswersPath file number (Some tale) = (k : ℕ) × (number ≡ k + 1) × IsToldOfPath file k tale

abbrev pub Answers : ResultFile → Question → Option Told → Type 0
Answers file (question.Edge one other) tale = AnswersEdge file one other tale
Answers file (question.Path number) tale = AnswersPath file number tale
