-- What a telling shows.
-- Each law is proved as the contract of a function in src/laws.rt.
use Rattle.std.specs.Prelude.{◌≡◌, ◌≢◌, ℕ, ◌<◌, List, All, IsTrue, Option}
use Rattle.relationships.specs.declared.label.Label.{Label}
use Rattle.relationships.specs.declared.given.Given.{Given}
use Rattle.relationships.specs.declared.walk.Walk.{Walk}
use Rattle.relationships.specs.Relationship.{Labelling, Orientation, labels_of, is_over, ValleyFree, Serves}
use Rattle.relationships.specs.Evidence.{NeighboursDiffer, Numbered, paths_of, Closure, IsConsistent}
use Rattle.relationships.specs.Givens.{NameTwo}
use Rattle.relationships.specs.GivenEvidence.{served_with}
use Rattle.relationships.specs.Telling.{Prove, CanBeEither}
use Rattle.result_text.specs.declared.file.ResultFile.{ResultFile}
use Rattle.result_rules.specs.Rules.{Accepts}
use Rattle.telling.specs.declared.told.Question.{Question}
use Rattle.telling.specs.declared.told.Told.{Told}
use Rattle.telling.specs.Told.{Answers}

-- what walks prove holds in every orientation that agrees with the givens and serves the paths
abbrev pub ProvingLaw : Type 0
ProvingLaw =
    (givens : List Given) (A : Numbered) (walks : List Walk) (a b : ℕ) → NameTwo givens → All NeighboursDiffer (paths_of A) →
    Prove givens A walks a b → a ≢ b → (O : Orientation) → Serves O (served_with givens (paths_of A)) →
    IsTrue (is_over (labels_of O) a b)

-- where the paths are valley-free under labels with b over a, and a consistent closure has "a over b", either order is possible
abbrev pub EitherLaw : Type 0
EitherLaw =
    (L : Labelling) (paths : List (List ℕ)) (over under a b : ℕ) → All NeighboursDiffer paths → All (ValleyFree L) paths →
    IsTrue (is_over L b a) → IsConsistent paths over under → Closure paths over under a b → CanBeEither paths a b

-- and so it is where the labels have the two as peers
abbrev pub PeersLaw : Type 0
PeersLaw =
    (L : Labelling) (paths : List (List ℕ)) (low high : ℕ) → All (ValleyFree L) paths → low < high → L low high ≡ Label.Peer →
    CanBeEither paths low high

-- each question about a result that meets all rules has an answer: something is told, or the edge or the path isn't there
abbrev pub AnswerLaw : Type 0
AnswerLaw = (file : ResultFile) → Accepts file → (question : Question) → (answer : Option Told) × Answers file question answer
