-- The one text of a result. It is of version 1 where the result has no givens, and else of version 2.
use Rattle.std.specs.Prelude.{ℕ, zero, suc, List, [], ◌∷◌, ◌++◌, map, codes, Option, Some, None}
use Rattle.std.specs.Fmt.{decimal}
use Rattle.std.specs.List.{flat_map}
pub use Rattle.text_fields.specs.Fields.{fields}
use Rattle.relationships.specs.declared.label.Label.{Label}
use Rattle.relationships.specs.declared.label.Label.TheVariants as label
use Rattle.relationships.specs.declared.walk.Link.{Link}
use Rattle.path_clean.specs.declared.cleaned.Sets.{Sets}
use Rattle.path_clean.specs.declared.cleaned.Sets.TheVariants as sets
use Rattle.path_clean.specs.declared.cleaned.Cause.{Cause}
use Rattle.path_clean.specs.declared.cleaned.Cause.TheVariants as cause
use Rattle.path_clean.specs.Counts.{CauseCounts}
use Rattle.relationships.specs.declared.fate.Fate.{Fate}
use Rattle.relationships.specs.declared.fate.Fate.TheVariants as fate
use Rattle.relationships.specs.declared.given.Given.{Given}
use Rattle.relationships.specs.declared.mark.Mark.{Mark}
use Rattle.relationships.specs.declared.mark.Mark.TheVariants as mark
use Rattle.result_text.specs.declared.file.ResultFile.{ResultFile}
use Rattle.result_text.specs.declared.line.Line.{Line}
use Rattle.result_text.specs.declared.line.Line.TheVariants as line
use Rattle.result_text.specs.declared.line.Version.{Version}
use Rattle.result_text.specs.declared.line.Version.TheVariants as version

-- ---- versions

-- the version of the text of a result with these givens, or with none
abbrev pub version_of : Option (List Given) → Version
version_of None = version.One
version_of (Some givens) = version.Two

-- how the first line names it
abbrev pub version_name : Version → List ℕ
version_name version.One = codes "1"
version_name version.Two = codes "2"

-- the givens of a result, which are none in a text of version 1
abbrev pub its_givens : ResultFile → List Given
its_givens file = elim file.givens [ None ↦ [] | Some givens ↦ givens ]

-- ---- fields

-- the members of a list behind the first, each behind a space
abbrev pub others : {X : Type 0} → (X → List ℕ) → List X → List ℕ
others member xs = flat_map (λ x. 32 ∷ member x) xs

-- the members of a list, joined by one space
abbrev pub spaced : {X : Type 0} → (X → List ℕ) → List X → List ℕ
spaced member [] = []
spaced member (x ∷ xs) = member x ++ others member xs

abbrev pub numbers_text : List ℕ → List ℕ
numbers_text ns = spaced decimal ns

-- a path's number. In a text of version 2 the letter g stands in the place of number 0, which is no path's
abbrev pub path_name : Version → ℕ → List ℕ
path_name version.One n = decimal n
path_name version.Two zero = codes "g"
path_name version.Two (suc n) = decimal (suc n)

-- a path's number, a colon, and a place on it; or behind g: the number of a given
abbrev pub link : Version → Link → List ℕ
link v l = path_name v l.path ++ 58 ∷ decimal l.at

abbrev pub links : Version → List Link → List ℕ
links v ls = spaced (link v) ls

abbrev pub sets_name : Sets → List ℕ
sets_name sets.Cut = codes "cut"
sets_name sets.Skip = codes "skip"

abbrev pub cause_name : Cause → List ℕ
cause_name cause.NoPath = codes "nopath"
cause_name cause.BadSegments = codes "badsegments"
cause_name cause.Confed = codes "confed"
cause_name cause.Sets = codes "sets"
cause_name cause.Reserved = codes "reserved"
cause_name cause.Loop = codes "loop"
cause_name cause.Short = codes "short"

abbrev pub label_name : Label → List ℕ
label_name label.Low = codes "low"
label_name label.High = codes "high"
label_name label.Peer = codes "peer"

abbrev pub mark_name : Mark → List ℕ
mark_name mark.Forced = codes "forced"
mark_name mark.Open = codes "open"

-- ---- lines

abbrev pub path_fields : Version → ℕ → List ℕ → Fate → List (List ℕ)
path_fields v times path fate.Kept = codes "kept" ∷ decimal times ∷ numbers_text path ∷ []
path_fields v times path (fate.Lost w) = codes "lost" ∷ decimal times ∷ numbers_text path ∷ numbers_text w.ases ∷ links v w.links ∷ []

-- the fields of a line of a text of this version
abbrev pub fields_of : Version → Line → List (List ℕ)
fields_of v (line.Version w) = codes "tor" ∷ version_name w ∷ []
fields_of v (line.Sets s) = codes "sets" ∷ sets_name s ∷ []
fields_of v (line.Ratio n) = codes "ratio" ∷ decimal n ∷ []
fields_of v (line.Aside c n) = codes "aside" ∷ cause_name c ∷ decimal n ∷ []
fields_of v (line.Given g) = codes "given" ∷ decimal g.over ∷ decimal g.under ∷ []
fields_of v (line.Path p) = path_fields v p.times p.path p.fate
fields_of v (line.Edge e) = codes "edge" ∷ decimal e.low ∷ decimal e.high ∷ label_name e.label ∷ mark_name e.mark ∷ decimal e.support ∷ []
fields_of v (line.Why w) = codes "why" ∷ numbers_text w.ases ∷ links v w.links ∷ []
fields_of v (line.Probe p) = codes "open" ∷ decimal p.over ∷ decimal p.under ∷ []
fields_of v (line.End t) = codes "end" ∷ decimal t.kept ∷ decimal t.lost ∷ decimal t.edges ∷ decimal t.forced ∷ decimal t.peers ∷ []

-- a line, with the line feed that ends it
unfoldable pub line_text : Version → Line → List ℕ
line_text v l = fields (fields_of v l) ++ 10 ∷ []

-- ---- the whole

abbrev pub aside_lines : CauseCounts → List Line
aside_lines c =
    line.Aside cause.NoPath c.no_path
    ∷ line.Aside cause.BadSegments c.bad_segments
    ∷ line.Aside cause.Confed c.confed
    ∷ line.Aside cause.Sets c.sets
    ∷ line.Aside cause.Reserved c.reserved
    ∷ line.Aside cause.Loop c.loop
    ∷ line.Aside cause.Short c.short
    ∷ []

-- the lines of a result, in order
abbrev pub head_lines : ResultFile → List Line
head_lines file = line.Version (version_of file.givens) ∷ line.Sets file.sets ∷ line.Ratio file.ratio ∷ aside_lines file.asides

abbrev pub body_lines : ResultFile → List Line
body_lines file =
    map (λ g. line.Given g) (its_givens file)
    ++ (map (λ p. line.Path p) file.paths
    ++ (map (λ e. line.Edge e) file.edges
    ++ (map (λ w. line.Why w) file.whys
    ++ (map (λ p. line.Probe p) file.probes ++ line.End file.totals ∷ []))))

abbrev pub lines_of : ResultFile → List Line
lines_of file = head_lines file ++ body_lines file

abbrev pub text_of_lines : Version → List Line → List ℕ
text_of_lines v ls = flat_map (line_text v) ls

-- the lines of the counts, which are the same in both versions
abbrev pub text_of_asides : CauseCounts → List ℕ
text_of_asides c = text_of_lines version.One (aside_lines c)

abbrev pub text : ResultFile → List ℕ
text file = text_of_lines (version_of file.givens) (lines_of file)
