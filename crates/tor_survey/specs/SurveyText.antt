-- The text of a survey: its lines, in order.
use Rattle.std.specs.Prelude.{ℕ, List, [], ◌∷◌, ◌++◌, flat_map, codes, if◌then◌else◌}
use Rattle.std.specs.Fmt.{decimal}
use Rattle.record_counts.specs.declared.type_count.TypeCount.{TypeCount}
use Rattle.mrt_header.specs.Kinds.{is_read}
use Rattle.result_text.specs.Text.{fields, text_of_asides}
use Rattle.tor_survey.specs.declared.survey.Figures.{Figures}
use Rattle.tor_survey.specs.declared.survey.Survey.{Survey}

-- fields, joined by a bar, and a line feed
abbrev pub survey_line : List (List ℕ) → List ℕ
survey_line parts = fields parts ++ 10 ∷ []

abbrev pub count_line : List ℕ → ℕ → List ℕ
count_line word n = survey_line (word ∷ decimal n ∷ [])

-- a type, a subtype, and how many records of both there are
abbrev pub type_line : List ℕ → TypeCount → List ℕ
type_line word count = survey_line (word ∷ decimal count.kind ∷ decimal count.subtype ∷ decimal count.records ∷ [])

-- the line of a type that is read, and that of one that is passed over
abbrev pub read_line : TypeCount → List ℕ
read_line count = if is_read count.kind count.subtype then type_line (codes "read") count else []

abbrev pub passed_line : TypeCount → List ℕ
passed_line count = if is_read count.kind count.subtype then [] else type_line (codes "passed") count

abbrev pub read_lines : List TypeCount → List ℕ
read_lines types = flat_map read_line types

abbrev pub passed_lines : List TypeCount → List ℕ
passed_lines types = flat_map passed_line types

abbrev pub figure_lines : Figures → List ℕ
figure_lines figures =
    count_line (codes "paths") figures.paths
    ++ (count_line (codes "ases") figures.ases
    ++ (count_line (codes "edges") figures.edges ++ count_line (codes "longest") figures.longest))

-- how many dumps there are, and how many records in all
abbrev pub end_line : ℕ → ℕ → List ℕ
end_line dumps records = survey_line (codes "end" ∷ decimal dumps ∷ decimal records ∷ [])

abbrev pub survey_text : Survey → List ℕ
survey_text survey =
    read_lines survey.types
    ++ (passed_lines survey.types
    ++ (count_line (codes "peers") survey.peers
    ++ (count_line (codes "routes") survey.routes
    ++ (text_of_asides survey.asides ++ (figure_lines survey.figures ++ end_line survey.dumps survey.records)))))
