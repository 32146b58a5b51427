-- Reading the lists, the names and the lines of a result: a value, and the octets behind it. What may name a given is read by the version
-- of the text.
use Rattle.std.specs.Prelude.{◌≡◌, ℕ, zero, suc, Bool, true, ◌||◌, List, [], ◌∷◌, ◌++◌, length, Option, Some, None, Result, Ok, Err, codes}
use Rattle.std.specs.Prelude.{◌==◌, if◌then◌else◌}
use Rattle.relationships.specs.declared.label.Label.{Label}
use Rattle.relationships.specs.declared.label.Label.TheVariants as label
use Rattle.relationships.specs.declared.walk.Link.{Link}
use Rattle.relationships.specs.declared.walk.Walk.{Walk}
use Rattle.path_clean.specs.declared.cleaned.Sets.{Sets}
use Rattle.path_clean.specs.declared.cleaned.Sets.TheVariants as sets
use Rattle.path_clean.specs.declared.cleaned.Cause.{Cause}
use Rattle.path_clean.specs.declared.cleaned.Cause.TheVariants as cause
use Rattle.relationships.specs.declared.fate.Fate.TheVariants as fate
use Rattle.relationships.specs.declared.mark.Mark.{Mark}
use Rattle.relationships.specs.declared.mark.Mark.TheVariants as mark
use Rattle.text_fields.specs.Reading.{◌>>=◌, on_word, u64_at, u32_at, before, both, mapped}
use Rattle.result_text.specs.declared.line.Line.{Line}
use Rattle.result_text.specs.declared.line.Line.TheVariants as line
use Rattle.result_text.specs.declared.line.Version.{Version}
use Rattle.result_text.specs.declared.line.Version.TheVariants as version
use Rattle.result_text.specs.declared.error.LineError.{LineError}
use Rattle.result_text.specs.declared.error.LineError.TheVariants as errors

-- What a function returned, seen by view, is what reading gives, unless memory ran out.
abbrev pub Fails : {Y : Type 0} → LineError → Option Y → Type 0
Fails errors.NoMemory read = Unit {0}
Fails errors.Bad read = read ≡ None

abbrev pub ReadsAs : {X Y : Type 0} → (X → Y) → Result X LineError → Option Y → Type 0
ReadsAs view (Ok x) read = read ≡ Some (view x)
ReadsAs view (Err e) read = Fails e read

-- the first of the readers whose word is there, each beside its word
abbrev pub by_word : {X : Type 0} → List (List ℕ × (List ℕ → Option X)) → List ℕ → Option X
by_word [] bytes = None
by_word (entry ∷ more) bytes = on_word entry.0 entry.1 (by_word more) bytes

-- ---- lists

-- further members, each behind a space, at most so many
unfoldable pub others_at : {X : Type 0} → (List ℕ → Option (X × List ℕ)) → ℕ → List ℕ → Option (List X × List ℕ)
others_at member zero bytes = Some ([], bytes)
others_at member (suc k) bytes =
    on_word (32 ∷ [])
    (λ rest. member rest >>= λ x. others_at member k x.1 >>= λ xs. Some (x.0 ∷ xs.0, xs.1))
    (λ rest. Some ([], rest)) bytes

-- what was read before, and what is read now
abbrev pub with_prefix : {X : Type 0} → List X → Option (List X × List ℕ) → Option (List X × List ℕ)
with_prefix prefix read = read >>= λ x. Some (prefix ++ x.0, x.1)

-- a field ends at a bar, at a line feed, and with the octets
abbrev pub field_ends : List ℕ → Bool
field_ends [] = true
field_ends (b ∷ bytes) = b == 124 || b == 10

-- an empty field is an empty list; else the list has as many members as the octets give
unfoldable pub list_at : {X : Type 0} → (List ℕ → Option (X × List ℕ)) → List ℕ → Option (List X × List ℕ)
list_at member bytes = if field_ends bytes then Some ([], bytes) else (do
  x ← member bytes
  with_prefix (x.0 ∷ []) (others_at member (length x.1) x.1))

abbrev pub link_from : ℕ × ℕ → Link
link_from p = record { path = p.0; at = p.1 }

-- a number that is not 0
unfoldable pub positive_at : List ℕ → Option (ℕ × List ℕ)
positive_at bytes = u32_at bytes >>= λ x. if x.0 == 0 then None else Some x

-- a path's number, or in a text of version 2 the letter g for 0
unfoldable pub path_name_at : Version → List ℕ → Option (ℕ × List ℕ)
path_name_at version.One bytes = u32_at bytes
path_name_at version.Two bytes = on_word (codes "g") (λ rest. Some (0, rest)) positive_at bytes

unfoldable pub link_at : Version → List ℕ → Option (Link × List ℕ)
link_at v bytes = mapped link_from (both (before 58 (path_name_at v)) u32_at) bytes

-- ---- names

abbrev pub name_at : {X : Type 0} → List (List ℕ × X) → List ℕ → Option (X × List ℕ)
name_at [] bytes = None
name_at (entry ∷ more) bytes = on_word entry.0 (λ rest. Some (entry.1, rest)) (name_at more) bytes

unfoldable pub sets_at : List ℕ → Option (Sets × List ℕ)
sets_at bytes = name_at ((codes "cut\n", sets.Cut) ∷ (codes "skip\n", sets.Skip) ∷ []) bytes

unfoldable pub cause_at : List ℕ → Option (Cause × List ℕ)
cause_at bytes =
    name_at (
    (codes "nopath|", cause.NoPath)
    ∷ (codes "badsegments|", cause.BadSegments)
    ∷ (codes "confed|", cause.Confed)
    ∷ (codes "sets|", cause.Sets)
    ∷ (codes "reserved|", cause.Reserved)
    ∷ (codes "loop|", cause.Loop)
    ∷ (codes "short|", cause.Short)
    ∷ []) bytes

unfoldable pub label_at : List ℕ → Option (Label × List ℕ)
label_at bytes = name_at ((codes "low|", label.Low) ∷ (codes "high|", label.High) ∷ (codes "peer|", label.Peer) ∷ []) bytes

unfoldable pub mark_at : List ℕ → Option (Mark × List ℕ)
mark_at bytes = name_at ((codes "forced|", mark.Forced) ∷ (codes "open|", mark.Open) ∷ []) bytes

-- ---- lines, behind their first word

abbrev pub aside_from : Cause × ℕ → Line
aside_from x = line.Aside x.0 x.1

unfoldable pub aside_at : List ℕ → Option (Line × List ℕ)
aside_at bytes = mapped aside_from (both cause_at (before 10 u64_at)) bytes

abbrev pub walk_from : List ℕ × List Link → Walk
walk_from x = record { ases = x.0; links = x.1 }

-- a walk ends its line
unfoldable pub walk_at : Version → List ℕ → Option (Walk × List ℕ)
walk_at v bytes = mapped walk_from (both (before 124 (list_at u32_at)) (before 10 (list_at (link_at v)))) bytes

abbrev pub line_of_kept : ℕ × List ℕ → Line
line_of_kept x = line.Path (record { times = x.0; path = x.1; fate = fate.Kept })

unfoldable pub kept_at : List ℕ → Option (Line × List ℕ)
kept_at bytes = mapped line_of_kept (both (before 124 u64_at) (before 10 (list_at u32_at))) bytes

abbrev pub lost_from : ℕ × (List ℕ × Walk) → Line
lost_from x = line.Path (record { times = x.0; path = x.1.0; fate = fate.Lost x.1.1 })

unfoldable pub lost_at : Version → List ℕ → Option (Line × List ℕ)
lost_at v bytes = mapped lost_from (both (before 124 u64_at) (both (before 124 (list_at u32_at)) (walk_at v))) bytes

abbrev pub edge_from : ℕ × (ℕ × (Label × (Mark × ℕ))) → Line
edge_from x = line.Edge (record { low = x.0; high = x.1.0; label = x.1.1.0; mark = x.1.1.1.0; support = x.1.1.1.1 })

unfoldable pub edge_line_at : List ℕ → Option (Line × List ℕ)
edge_line_at bytes =
    mapped edge_from (both (before 124 u32_at) (both (before 124 u32_at) (both label_at (both mark_at (before 10 u64_at))))) bytes

unfoldable pub why_at : Version → List ℕ → Option (Line × List ℕ)
why_at v bytes = mapped (λ w. line.Why w) (walk_at v) bytes

-- a given line of these two
abbrev pub given_from : ℕ × ℕ → Line
given_from x = line.Given (record { over = x.0; under = x.1 })

-- the provider, and the customer
unfoldable pub given_at : List ℕ → Option (Line × List ℕ)
given_at bytes = mapped given_from (both (before 124 u32_at) (before 10 u32_at)) bytes

abbrev pub probe_from : ℕ × ℕ → Line
probe_from x = line.Probe (record { over = x.0; under = x.1 })

unfoldable pub probe_at : List ℕ → Option (Line × List ℕ)
probe_at bytes = mapped probe_from (both (before 124 u32_at) (before 10 u32_at)) bytes

abbrev pub end_from : ℕ × (ℕ × (ℕ × (ℕ × ℕ))) → Line
end_from x = line.End (record { kept = x.0; lost = x.1.0; edges = x.1.1.0; forced = x.1.1.1.0; peers = x.1.1.1.1 })

unfoldable pub end_at : List ℕ → Option (Line × List ℕ)
end_at bytes =
    let count = before 124 u64_at in
    mapped end_from (both count (both count (both count (both count (before 10 u64_at))))) bytes

unfoldable pub sets_line_at : List ℕ → Option (Line × List ℕ)
sets_line_at bytes = mapped (λ s. line.Sets s) sets_at bytes

unfoldable pub ratio_at : List ℕ → Option (Line × List ℕ)
ratio_at bytes = mapped (λ n. line.Ratio n) (before 10 u32_at) bytes

-- the first line has its words alone
abbrev pub version_at : Version → List ℕ → Option (Line × List ℕ)
version_at v bytes = Some (line.Version v, bytes)

-- the readers of the lines before the paths and of the last line, each beside the first words of its line
abbrev pub outer_readers : List (List ℕ × (List ℕ → Option (Line × List ℕ)))
outer_readers =
    (codes "aside|", aside_at)
    ∷ (codes "tor|1\n", version_at version.One)
    ∷ (codes "tor|2\n", version_at version.Two)
    ∷ (codes "sets|", sets_line_at)
    ∷ (codes "ratio|", ratio_at)
    ∷ (codes "given|", given_at)
    ∷ (codes "end|", end_at)
    ∷ []

-- the readers of all lines of a text of this version
abbrev pub line_readers : Version → List (List ℕ × (List ℕ → Option (Line × List ℕ)))
line_readers v =
    (codes "kept|", kept_at)
    ∷ (codes "edge|", edge_line_at)
    ∷ (codes "why|", why_at v)
    ∷ (codes "open|", probe_at)
    ∷ (codes "lost|", lost_at v)
    ∷ outer_readers

-- a line, by its first word
unfoldable pub line_at : Version → List ℕ → Option (Line × List ℕ)
line_at v bytes = by_word (line_readers v) bytes
