-- The result under givens: it is the result of before where nothing is given, and one but for its evidence, which alone depends on givens
-- that name no edge; what it says is said of the orientations that agree with the givens; and an edge that a given names has its line.
-- Each law is proved as the contract of a function in src/given_laws.rt.
use Rattle.std.specs.Prelude.{◌≡◌, ◌≢◌, ◌↔◌, ℕ, Bool, List, [], ◌++◌, Option, None, map, filter, is_none, unwrap_or}
use Rattle.std.specs.Prelude.{All, Contains, IsTrue}
use Rattle.path_clean.specs.declared.cleaned.Sets.{Sets}
use Rattle.path_clean.specs.Counts.{CauseCounts}
use Rattle.path_table.specs.Rows.{Counted, row_paths}
use Rattle.relationships.specs.declared.label.End.{End}
use Rattle.relationships.specs.declared.label.Label.{Label}
use Rattle.relationships.specs.declared.given.Given.{Given}
use Rattle.relationships.specs.declared.walk.Walk.{Walk}
use Rattle.relationships.specs.Relationship.{Orientation, label_of}
use Rattle.relationships.specs.Graph.{Edge, edge_of, edges}
use Rattle.relationships.specs.Evidence.{NeighboursDiffer}
use Rattle.relationships.specs.Selection.{KeepsFrom, IsForced}
use Rattle.relationships.specs.Preference.{IsPreferred}
use Rattle.relationships.specs.Marking.{is_forced}
use Rattle.relationships.specs.GivenEvidence.{MeetsAgreeingRules}
use Rattle.relationships.specs.Givens.{names_edge, return_of, returns, NameTwo, NameOnce, end_by}
use Rattle.result_text.specs.declared.file.EdgeLine.{EdgeLine}
use Rattle.result_text.specs.declared.file.ResultFile.{ResultFile}
use Rattle.result_rules.specs.File.{its_walks, claim_on}
use Rattle.rel_infer.specs.Agreeing.{AgreesOnEdges, AgreesWithAll, KeepsAmong, IsForcedAmong, IsPreferredAmong}
use Rattle.rel_infer.specs.GivenResults.{IsResultWith}
use Rattle.rel_infer.specs.GivenInference.{IsInferredWith, LeaveNoneOutWith}
use Rattle.rel_infer.specs.Peers.{LeaveNoneOut}
use Rattle.rel_infer.specs.Results.{IsInferred, IsResultOf}

-- where nothing is given, with a list that is empty or with none
abbrev pub NoGivensResultLaw : Type 0
NoGivensResultLaw =
    ((ratio : ℕ) (paths : List (List ℕ)) (walks : List (Option Walk)) (lines : List EdgeLine) (whys : List Walk) (probes : List (ℕ × ℕ)) →
    IsInferredWith [] ratio paths walks lines whys probes ↔ IsInferred ratio paths walks lines whys probes) ×
    ((sets : Sets) (ratio : ℕ) (rows : List Counted) (counts : CauseCounts) (file : ResultFile) →
    IsResultWith None sets ratio rows counts file ↔ IsResultOf sets ratio rows counts file) ×
    ((ratio : ℕ) (paths : List (List ℕ)) (walks : List (Option Walk)) (lines : List EdgeLine) →
    LeaveNoneOutWith [] ratio paths walks lines ↔ LeaveNoneOut ratio paths walks lines)

-- which paths are kept, and each edge's label, mark and support, are determined by the paths and by those givens whose two are neighbours
-- on them: all givens or these alone give the same
abbrev pub GivenInferenceLaw : Type 0
GivenInferenceLaw =
    (givens givens' : List Given) (ratio : ℕ) (paths : List (List ℕ)) (walks walks' : List (Option Walk)) (lines lines' : List EdgeLine)
    (whys whys' : List Walk) (probes probes' : List (ℕ × ℕ)) →
    filter (names_edge paths) givens ≡ filter (names_edge paths) givens' →
    IsInferredWith givens ratio paths walks lines whys probes → IsInferredWith givens' ratio paths walks' lines' whys' probes' →
    (map is_none walks ≡ map is_none walks') × (lines ≡ lines')

-- so are the counts of routes that are set aside, and the totals
abbrev pub GivenResultLaw : Type 0
GivenResultLaw =
    (known known' : Option (List Given)) (sets : Sets) (ratio : ℕ) (rows : List Counted) (counts : CauseCounts) (file file' : ResultFile) →
    filter (names_edge (row_paths rows)) (unwrap_or known []) ≡ filter (names_edge (row_paths rows)) (unwrap_or known' []) →
    IsResultWith known sets ratio rows counts file → IsResultWith known' sets ratio rows counts file' →
    (file.asides ≡ file'.asides) × (map is_none (its_walks file) ≡ map is_none (its_walks file')) × (file.edges ≡ file'.edges) ×
    (file.totals ≡ file'.totals)

-- what is kept, forced and preferred behind the returns is so by the orientations that agree with the givens of edges
abbrev pub AgreeingLaw : Type 0
AgreeingLaw =
    (givens : List Given) (paths : List (List ℕ)) →
    ((some : List (List ℕ)) (keeps : List Bool) →
    KeepsFrom (returns paths givens) some keeps ↔ KeepsAmong (AgreesOnEdges givens paths) [] some keeps) ×
    ((kept : List (List ℕ)) (low high : ℕ) →
    IsForced (returns paths givens ++ kept) low high ↔ IsForcedAmong (AgreesOnEdges givens paths) kept low high) ×
    ((kept : List (List ℕ)) (wants : Edge → End) (order : List Edge) (O : Orientation) →
    IsPreferred (returns paths givens ++ kept) wants order O ↔ IsPreferredAmong (AgreesOnEdges givens paths) kept wants order O)

-- where each given names two ASes, and no two of them the same two, a path is kept exactly if some orientation that agrees with all givens
-- serves it together with those kept before it, whether the returns of all givens stand in front or those of edges alone; and an edge of
-- the paths is forced exactly if all orientations that agree with all givens and serve the kept paths agree on it
abbrev pub AllAgreeingLaw : Type 0
AllAgreeingLaw =
    (givens : List Given) (paths : List (List ℕ)) → NameTwo givens → NameOnce givens →
    ((keeps : List Bool) → KeepsFrom (map return_of givens) paths keeps ↔ KeepsAmong (AgreesWithAll givens) [] paths keeps) ×
    ((keeps : List Bool) → KeepsFrom (returns paths givens) paths keeps ↔ KeepsAmong (AgreesWithAll givens) [] paths keeps) ×
    ((kept : List (List ℕ)) → ((e : Edge) → Contains (edges kept) e → Contains (edges paths) e) →
    (low high : ℕ) → Contains (edges paths) (low, high) →
    IsForced (returns paths givens ++ kept) low high ↔ IsForcedAmong (AgreesWithAll givens) kept low high)

-- the line of an edge that a given names says that it is forced, and has the given's provider, also where no kept path holds it
abbrev pub GivenLineLaw : Type 0
GivenLineLaw =
    (givens : List Given) (ratio : ℕ) (paths : List (List ℕ)) (walks : List (Option Walk)) (lines : List EdgeLine) (whys : List Walk)
    (probes : List (ℕ × ℕ)) → IsInferredWith givens ratio paths walks lines whys probes → (g : Given) → Contains givens g →
    All (λ line. (line.low, line.high) ≡ edge_of g.over g.under →
    IsTrue (is_forced line.mark) × (line.label ≡ label_of (end_by g.over g.under))) lines

-- what is inferred meets the rules with givens, so no edge that is marked forced is a peering
abbrev pub GivenRulesMetLaw : Type 0
GivenRulesMetLaw =
    (givens : List Given) (ratio : ℕ) (paths : List (List ℕ)) (walks : List (Option Walk)) (lines : List EdgeLine) (whys : List Walk)
    (probes : List (ℕ × ℕ)) → NameTwo givens → NameOnce givens → All NeighboursDiffer paths →
    IsInferredWith givens ratio paths walks lines whys probes →
    MeetsAgreeingRules givens paths walks (map claim_on lines) whys probes ×
    All (λ line. IsTrue (is_forced line.mark) → line.label ≢ Label.Peer) lines
