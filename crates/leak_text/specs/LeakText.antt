-- The text of leaks: a line for each path that the result does not keep, and how many paths there are of each kind.
use Rattle.std.specs.Prelude.{ℕ, ◌+◌, ◌==◌, List, [], ◌∷◌, ◌++◌, map, codes, if◌then◌else◌}
use Rattle.std.specs.Fmt.{decimal}
use Rattle.text_fields.specs.Fields.{fields}
use Rattle.relationships.specs.declared.fate.Fate.{Fate}
use Rattle.relationships.specs.declared.walk.Link.{Link}
use Rattle.relationships.specs.declared.walk.Walk.{Walk}
use Rattle.path_table.specs.Rows.{Counted}
use Rattle.result_text.specs.Text.{numbers_text, spaced}
use Rattle.as_rel.specs.declared.line.RelLine.{RelLine}
use Rattle.as_rel.specs.declared.grading.Grade.{Grade}
use Rattle.as_rel.specs.declared.grading.Grade.TheVariants.{Free, Valley, Unknown}
use Rattle.as_rel.specs.Grading.{grade}
use Rattle.route_leaks.specs.declared.found.Leaks.{Leaks}
use Rattle.route_leaks.specs.Leaks.{row_met}
use Rattle.leak_text.specs.declared.totals.KindTotals.{KindTotals}

-- ---- lines

-- the path of a link: the letter g for a given, the letter p for the path of the line itself, or the number of a kept path
abbrev pub link_into : ℕ → ℕ → List ℕ
link_into own n = if n == 0 then codes "g" else (if n == own then codes "p" else decimal n)

-- behind a colon the number of the given, or the place on the path
abbrev pub leak_link_text : ℕ → Link → List ℕ
leak_link_text own link = link_into own link.path ++ 58 ∷ decimal link.at

-- the links, with a space between two
abbrev pub leak_links_text : ℕ → List Link → List ℕ
leak_links_text own links = spaced (leak_link_text own) links

-- a leak, with its walk and the links of that
abbrev pub leak_line : ℕ → Counted → Walk → List ℕ
leak_line own row walk =
    fields (codes "leak" ∷ decimal row.times ∷ numbers_text row.path ∷ numbers_text walk.ases ∷ leak_links_text own walk.links ∷ []) ++
    10 ∷ []

-- any other path, with its grade: the step with which it is a valley, or that isn't known
abbrev pub graded_row : Counted → Grade → List ℕ
graded_row row Free = fields (codes "free" ∷ decimal row.times ∷ numbers_text row.path ∷ []) ++ 10 ∷ []
graded_row row (Valley step) = fields (codes "valley" ∷ decimal row.times ∷ numbers_text row.path ∷ decimal step ∷ []) ++ 10 ∷ []
graded_row row (Unknown step) = fields (codes "unknown" ∷ decimal row.times ∷ numbers_text row.path ∷ decimal step ∷ []) ++ 10 ∷ []

abbrev pub strange_line : List RelLine → ℕ → Counted → Fate → List ℕ
strange_line rel own row Fate.Kept = graded_row row (grade rel row.path)
strange_line rel own row (Fate.Lost walk) = leak_line own row walk

-- a line for each path, in order
abbrev pub strange_lines : List RelLine → ℕ → List Counted → List Fate → List ℕ
strange_lines rel own [] fates = []
strange_lines rel own (row ∷ rows) [] = []
strange_lines rel own (row ∷ rows) (fate ∷ fates) = strange_line rel own row fate ++ strange_lines rel own rows fates

-- ---- how many there are

abbrev pub with_graded : Grade → KindTotals → KindTotals
with_graded Free totals = record totals { free = totals.free + 1 }
with_graded (Valley step) totals = record totals { valley = totals.valley + 1 }
with_graded (Unknown step) totals = record totals { unknown = totals.unknown + 1 }

-- with one path more
abbrev pub with_strange : List RelLine → Counted → Fate → KindTotals → KindTotals
with_strange rel row Fate.Kept totals = with_graded (grade rel row.path) totals
with_strange rel row (Fate.Lost walk) totals = record totals { leak = totals.leak + 1 }

-- the kinds of these paths, of which so many are known beside them
abbrev pub strange_totals : List RelLine → ℕ → List Counted → List Fate → KindTotals
strange_totals rel known [] fates = record { known = known; free = 0; unknown = 0; valley = 0; leak = 0 }
strange_totals rel known (row ∷ rows) [] = record { known = known; free = 0; unknown = 0; valley = 0; leak = 0 }
strange_totals rel known (row ∷ rows) (fate ∷ fates) = with_strange rel row fate (strange_totals rel known rows fates)

abbrev pub leaks_line : KindTotals → List ℕ
leaks_line t =
    fields (codes "leaks" ∷ decimal t.known ∷ decimal t.free ∷ decimal t.unknown ∷ decimal t.valley ∷ decimal t.leak ∷ []) ++ 10 ∷ []

-- ---- all

abbrev pub strange_rows : Leaks → List Counted
strange_rows leaks = map (row_met leaks.rows) leaks.met

abbrev pub leaks_text : Leaks → List ℕ
leaks_text leaks =
    strange_lines leaks.rel leaks.own (strange_rows leaks) leaks.fates ++
    leaks_line (strange_totals leaks.rel leaks.known (strange_rows leaks) leaks.fates)
