-- In which order lines come: what is read so far, and what may come next.
use Rattle.std.specs.Prelude.{◌≡◌, ℕ, ◌+◌, Bool, true, false, List, [], ◌∷◌, ◌++◌, Option, Some, None, option_map, Result, Ok, Err, nat_lt}
use Rattle.std.specs.Prelude.{◌==◌, slice_set, if◌then◌else◌}
use Rattle.path_clean.specs.declared.cleaned.Cause.{Cause}
use Rattle.path_clean.specs.declared.cleaned.Cause.TheVariants as cause
use Rattle.path_clean.specs.declared.cleaned.Sets.TheVariants as sets
use Rattle.path_clean.specs.Counts.{counts_from}
use Rattle.relationships.specs.declared.given.Given.{Given}
use Rattle.result_text.specs.declared.error.LineError.{LineError}
use Rattle.result_text.specs.declared.file.ResultFile.{ResultFile}
use Rattle.result_text.specs.declared.line.Line.{Line}
use Rattle.result_text.specs.declared.line.Line.TheVariants as line
use Rattle.result_text.specs.declared.draft.Draft.{Draft}
use Rattle.result_text.specs.declared.draft.Section.{Section}
use Rattle.result_text.specs.declared.draft.Section.TheVariants as section
use Rattle.result_text.specs.declared.line.Version.{Version}
use Rattle.result_text.specs.declared.line.Version.TheVariants as version
use Rattle.result_text.specs.Text.{version_of}
use Rattle.result_text.specs.Reading.{Fails, line_at}
use Rattle.text_fields.specs.Reading.{◌>>=◌}

-- the place among the seven counts
abbrev pub cause_index : Cause → ℕ
cause_index cause.NoPath = 0
cause_index cause.BadSegments = 1
cause_index cause.Confed = 2
cause_index cause.Sets = 3
cause_index cause.Reserved = 4
cause_index cause.Loop = 5
cause_index cause.Short = 6

-- where n of the ten first lines are read
abbrev pub is_head : ℕ → Section → Bool
is_head n (section.Head m) = m == n
is_head n _ = false

abbrev pub after_head : ℕ → Section
after_head n = if nat_lt n 10 then section.Head n else section.Givens

-- which lines may come next
abbrev pub takes_given : Section → Bool
takes_given section.Givens = true
takes_given _ = false

abbrev pub takes_path : Section → Bool
takes_path section.Paths = true
takes_path p = takes_given p

abbrev pub takes_edge : Section → Bool
takes_edge section.Edges = true
takes_edge p = takes_path p

abbrev pub takes_why : Section → Bool
takes_why section.Whys = true
takes_why p = takes_edge p

abbrev pub takes_probe : Section → Bool
takes_probe section.Probes = true
takes_probe p = takes_why p

-- the n-th of the ten first lines, which changes the draft so
abbrev pub pass_head : ℕ → Draft → Draft → Option Draft
pass_head n old new = if is_head n old.section then Some (record new { section = after_head (n + 1) }) else None

-- a text of version 2 has givens, of which none is read where its first line is
abbrev pub no_givens : Version → Option (List Given)
no_givens version.One = None
no_givens version.Two = Some []

-- the draft with a given more, if there is a list of them
abbrev pub with_given : Draft → Given → Option Draft
with_given d g = option_map (λ givens. record d { givens = Some (givens ++ g ∷ []) }) d.givens

-- the draft with one more line, if the line may come next
abbrev pub step : Draft → Line → Option Draft
step d (line.Version v) = pass_head 0 d (record d { givens = no_givens v })
step d (line.Sets s) = pass_head 1 d (record d { sets = s })
step d (line.Ratio n) = pass_head 2 d (record d { ratio = n })
step d (line.Aside c n) = pass_head (3 + cause_index c) d (record d { counts = slice_set d.counts (cause_index c) n })
step d (line.Given g) = if takes_given d.section then with_given d g else None
step d (line.Path p) = if takes_path d.section then Some (record d { section = section.Paths; paths = d.paths ++ p ∷ [] }) else None
step d (line.Edge e) = if takes_edge d.section then Some (record d { section = section.Edges; edges = d.edges ++ e ∷ [] }) else None
step d (line.Why w) = if takes_why d.section then Some (record d { section = section.Whys; whys = d.whys ++ w ∷ [] }) else None
step d (line.Probe p) = if takes_probe d.section then Some (record d { section = section.Probes; probes = d.probes ++ p ∷ [] }) else None
step d (line.End t) = if takes_probe d.section then Some (record d { section = section.End; totals = t }) else None

-- a call left the draft so, unless memory ran out
abbrev pub Steps : {X : Type 0} → Result X LineError → Draft → Option Draft → Type 0
Steps (Ok x) new next = next ≡ Some new
Steps (Err e) new next = Fails e next

abbrev pub empty_draft : Draft
empty_draft = record {
  section = section.Head 0;
  sets = sets.Cut;
  ratio = 0;
  counts = 0 ∷ 0 ∷ 0 ∷ 0 ∷ 0 ∷ 0 ∷ 0 ∷ [];
  givens = None;
  paths = [];
  edges = [];
  whys = [];
  probes = [];
  totals = record { kept = 0; lost = 0; edges = 0; forced = 0; peers = 0 };
}

abbrev pub file_of : Draft → ResultFile
file_of d = record {
  sets = d.sets;
  ratio = d.ratio;
  asides = counts_from d.counts;
  givens = d.givens;
  paths = d.paths;
  edges = d.edges;
  whys = d.whys;
  probes = d.probes;
  totals = d.totals;
}

abbrev pub finished : Draft → Option ResultFile
finished d = elim d.section [
  | section.End ↦ Some (file_of d)
  | _ ↦ None
]

-- the draft with the line that was read, if it may come next, and the octets behind that
abbrev pub with_line : Draft → Option (Line × List ℕ) → Option (Draft × List ℕ)
with_line d read = do
  x ← read
  e ← step d x.0
  Some (e, x.1)

-- the draft with the line at the prefix of the octets, and the octets behind that
unfoldable pub next_at : Draft → List ℕ → Option (Draft × List ℕ)
next_at d bytes = with_line d (line_at (version_of d.givens) bytes)
