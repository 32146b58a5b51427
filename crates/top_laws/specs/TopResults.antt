-- What a result shows of networks that are known to buy transit from nobody.
-- Each law is proved as the contract of a function in src/laws.rt.
use Rattle.std.specs.Prelude.{◌≡◌, ℕ, ◌+◌, ◌≤◌, List, [], ◌∷◌, ◌++◌, Some, slice_get, Contains, IsTrue, IsFalse}
use Rattle.tor_arena.specs.Limits.{max_ratio}
use Rattle.path_clean.specs.declared.cleaned.Sets.{Sets}
use Rattle.path_clean.specs.Counts.{CauseCounts}
use Rattle.path_table.specs.Rows.{Counted, row_paths}
use Rattle.relationships.specs.declared.given.Given.{Given}
use Rattle.relationships.specs.declared.walk.Walk.{Walk}
use Rattle.relationships.specs.declared.fate.Fate.TheVariants.{Lost}
use Rattle.relationships.specs.Relationship.{is_over, label_of}
use Rattle.relationships.specs.Graph.{Edge, edge_of, edges}
use Rattle.relationships.specs.Givens.{NameTwo, NameOnce, end_by}
use Rattle.relationships.specs.GivenEvidence.{RefutesWith}
use Rattle.relationships.specs.Marking.{is_forced}
use Rattle.result_text.specs.declared.file.EdgeLine.{EdgeLine}
use Rattle.result_text.specs.declared.file.PathLine.{PathLine}
use Rattle.result_text.specs.declared.file.ResultFile.{ResultFile}
use Rattle.result_rules.specs.File.{its_givens, its_paths, its_labels, kept_before}
use Rattle.result_rules.specs.Rules.{Accepts}
use Rattle.rel_infer.specs.GivenResults.{IsResultWith}
use Rattle.rel_infer.specs.SelfAcceptance.{AreTableRows}
use Rattle.top_givens.specs.TopGivens.{is_top, has_one_top, top_given, is_paired, is_bound, top_givens, top_givens_behind}

-- among what is known is, for each edge of the paths with exactly one end in the top that no pair names, that this end is over the other
abbrev pub AreTopKnown : List ℕ → List (ℕ × ℕ) → List Given → List (List ℕ) → Type 0
AreTopKnown top named known paths = (e : Edge) → Contains (edges paths) e → IsTrue (is_bound top named e) → Contains known (top_given top e)

-- no pair names an edge of the paths with exactly one end in the top
abbrev pub NameNoTop : List ℕ → List (ℕ × ℕ) → List (List ℕ) → Type 0
NameNoTop top named paths = (e : Edge) → Contains (edges paths) e → IsTrue (has_one_top top e) → IsFalse (is_paired named e)

-- an AS that isn't of the top stands on the path anywhere between two that are
pub record HasOtherBetween (top path : List ℕ) : Type 0 where
  pub before : List ℕ
  pub first : ℕ
  pub middle : List ℕ
  pub other : ℕ
  pub more : List ℕ
  pub last : ℕ
  pub after : List ℕ
  pub whole : path ≡ before ++ (first ∷ (middle ++ (other ∷ (more ++ (last ∷ after)))))
  pub first_is : IsTrue (is_top top first)
  pub other_isnt : IsFalse (is_top top other)
  pub last_is : IsTrue (is_top top last)

-- what a result shows of the top, where these pairs are named
pub record BuysFromNobody (top : List ℕ) (named : List (ℕ × ℕ)) (file : ResultFile) : Type 0 where
  -- an edge with exactly one end in the top that isn't named is forced, and has that end as its provider
  pub forced : (line : EdgeLine) → Contains file.edges line → IsTrue (is_bound top named (line.low, line.high)) →
      let g = top_given top (line.low, line.high) in IsTrue (is_forced line.mark) × (line.label ≡ label_of (end_by g.over g.under))
  -- where no such edge is named, no AS of the top has a provider that isn't one
  pub no_provider : NameNoTop top named (its_paths file) → (a m : ℕ) → IsTrue (is_top top m) → IsFalse (is_top top a) →
      IsFalse (is_over (its_labels file) a m)
  -- and each path on which another AS stands anywhere between two of them is lost, with a walk that refutes by the givens
  pub lost : NameNoTop top named (its_paths file) → (k : ℕ) (line : PathLine) → slice_get file.paths k ≡ Some line →
      HasOtherBetween top line.path →
      (walk : Walk) × (line.fate ≡ Lost walk) × RefutesWith (its_givens file) (kept_before file k ++ (k + 1, line.path) ∷ []) walk

-- so does each result that meets all rules and whose givens say it of all these edges
abbrev pub TopAcceptedLaw : Type 0
TopAcceptedLaw =
    (top : List ℕ) (named : List (ℕ × ℕ)) (file : ResultFile) → Accepts file → AreTopKnown top named (its_givens file) (its_paths file) →
    BuysFromNobody top named file

-- each pair of a given is named
abbrev pub NameGivens : List (ℕ × ℕ) → List Given → Type 0
NameGivens named givens = (g : Given) → Contains givens g → IsTrue (is_paired named (edge_of g.over g.under))

-- so does the result of the rows of a table under the givens of a file and, behind them, what is known of the top; the pairs are those that
-- lines of the file name. And so does one on top of an earlier result, whose givens and paths say then what is named
abbrev pub TopResultLaw : Type 0
TopResultLaw =
    (top : List ℕ) (named : List (ℕ × ℕ)) (givens : List Given) (sets : Sets) (ratio : ℕ) (rows : List Counted) (counts : CauseCounts)
    (file : ResultFile) → ratio ≤ max_ratio → AreTableRows rows → NameTwo givens → NameOnce givens → NameGivens named givens →
    IsResultWith (Some (givens ++ top_givens top named (row_paths rows))) sets ratio rows counts file → BuysFromNobody top named file

abbrev pub TopResumedLaw : Type 0
TopResumedLaw =
    (top : List ℕ) (earlier : ResultFile) (sets : Sets) (ratio : ℕ) (rows : List Counted) (counts : CauseCounts) (file : ResultFile) →
    ratio ≤ max_ratio → AreTableRows rows → Accepts earlier →
    (let known = its_givens earlier ++ top_givens_behind top (its_givens earlier) (its_paths earlier) (row_paths rows) in
    IsResultWith (Some known) sets ratio rows counts file →
    -- where the earlier result has the same top, of all edges that no line of its file names
    (named : List (ℕ × ℕ)) (givens : List Given) → NameGivens named givens →
    its_givens earlier ≡ givens ++ top_givens top named (its_paths earlier) → BuysFromNobody top named file)
