-- The result of distinct paths is one but for its evidence.
use Rattle.std.specs.Prelude.{◌≡◌, ℕ, List, Option, map, is_none}
use Rattle.path_clean.specs.declared.cleaned.Sets.{Sets}
use Rattle.path_clean.specs.Counts.{CauseCounts}
use Rattle.path_table.specs.Rows.{Counted}
use Rattle.relationships.specs.declared.walk.Walk.{Walk}
use Rattle.result_text.specs.declared.file.EdgeLine.{EdgeLine}
use Rattle.result_text.specs.declared.file.ResultFile.{ResultFile}
use Rattle.result_rules.specs.File.{its_walks}
use Rattle.rel_infer.specs.Results.{IsInferred, IsResultOf}

-- which paths are kept, and each edge's label, mark and support, are determined
abbrev pub OneInferenceLaw : Type 0
OneInferenceLaw =
    (ratio : ℕ) (paths : List (List ℕ)) (walks walks' : List (Option Walk)) (lines lines' : List EdgeLine) (whys whys' : List Walk)
    (probes probes' : List (ℕ × ℕ)) →
    IsInferred ratio paths walks lines whys probes → IsInferred ratio paths walks' lines' whys' probes' →
    (map is_none walks ≡ map is_none walks') × (lines ≡ lines')

-- so are the counts of routes that are set aside, and the totals
abbrev pub OneResultLaw : Type 0
OneResultLaw =
    (sets : Sets) (ratio : ℕ) (rows : List Counted) (counts : CauseCounts) (file file' : ResultFile) →
    IsResultOf sets ratio rows counts file → IsResultOf sets ratio rows counts file' →
    (file.asides ≡ file'.asides) × (map is_none (its_walks file) ≡ map is_none (its_walks file')) × (file.edges ≡ file'.edges) ×
    (file.totals ≡ file'.totals)
