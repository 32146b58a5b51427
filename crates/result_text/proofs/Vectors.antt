-- Results that were worked by hand, and their texts.
use Rattle.std.proofs.Common.{◌≡◌, ℕ, List, [], ◌∷◌, ◌++◌, Some, None, refl}
use Rattle.std.specs.Prelude.{codes}
use Rattle.std.specs.Fmt.{digits}
use Rattle.relationships.specs.declared.label.Label.TheVariants as label
use Rattle.relationships.specs.declared.walk.Walk.{Walk}
use Rattle.path_clean.specs.declared.cleaned.Sets.TheVariants as sets
use Rattle.path_clean.specs.declared.cleaned.Cause.TheVariants as cause
use Rattle.path_clean.specs.Counts.{no_counts}
use Rattle.relationships.specs.declared.fate.Fate.TheVariants as fate
use Rattle.relationships.specs.declared.mark.Mark.TheVariants as mark
use Rattle.result_text.specs.declared.file.PathLine.{PathLine}
use Rattle.result_text.specs.declared.file.EdgeLine.{EdgeLine}
use Rattle.result_text.specs.declared.file.Totals.{Totals}
use Rattle.result_text.specs.declared.file.ResultFile.{ResultFile}
use Rattle.result_text.specs.declared.line.Line.TheVariants as line
use Rattle.result_text.specs.declared.line.Version.TheVariants as version
use Rattle.text_fields.specs.Reading.{digit_at, digits_at, u64_at, u32_at}
use Rattle.result_text.specs.Text.{line_text, text}
use Rattle.result_text.specs.Reading.{positive_at, path_name_at, link_at}
use Rattle.result_text.specs.Grammar.{first_lines}
use Rattle.result_text.specs.Numbering.{given_line, path_line, edge_line, why_line, probe_line, last_line}

-- the lines behind the first
abbrev head : List ℕ
head = codes "sets|cut\nratio|60\naside|nopath|0\naside|badsegments|0\naside|confed|0\naside|sets|0\naside|reserved|0\naside|loop|0\naside|short|0\n"

abbrev totals : ℕ → ℕ → ℕ → ℕ → ℕ → Totals
totals kept lost edges forced peers = record { kept = kept; lost = lost; edges = edges; forced = forced; peers = peers }

abbrev empty : ResultFile
empty = record { sets = sets.Cut; ratio = 60; asides = no_counts; givens = None; paths = []; edges = []; whys = []; probes = []; totals = totals 0 0 0 0 0 }

-- no path
empty_text : text empty ≡ codes "tor|1\n" ++ head ++ codes "end|0|0|0|0|0\n"
unfolding line_text digits
empty_text = refl

abbrev kept : List ℕ → PathLine
kept path = record { times = 1; path = path; fate = fate.Kept }

-- one edge
one_edge_text : text (record empty {
  paths = kept (10 ∷ 20 ∷ []) ∷ [];
  edges = record { low = 10; high = 20; label = label.Peer; mark = mark.Open; support = 1 } ∷ [];
  totals = totals 1 0 1 0 1;
}) ≡ codes "tor|1\n" ++ head ++ codes "kept|1|10 20\nedge|10|20|peer|open|1\nend|1|0|1|0|1\n"
unfolding line_text digits
one_edge_text = refl

-- there and back
there_and_back_text : text (record empty {
  paths = kept (10 ∷ 20 ∷ 30 ∷ []) ∷ kept (30 ∷ 20 ∷ 10 ∷ []) ∷ [];
  edges = record { low = 10; high = 20; label = label.Peer; mark = mark.Open; support = 2 } ∷ record { low = 20; high = 30; label = label.Low; mark = mark.Open; support = 2 } ∷ [];
  probes = record { over = 30; under = 20 } ∷ [];
  totals = totals 2 0 2 0 1;
})
    ≡ codes "tor|1\n" ++ head ++ codes "kept|1|10 20 30\nkept|1|30 20 10\nedge|10|20|peer|open|2\nedge|20|30|low|open|2\nopen|30|20\nend|2|0|2|0|1\n"
unfolding line_text digits
there_and_back_text = refl

-- each kind of line with a walk, and the names that stand in no text above
abbrev walk : Walk
walk = record { ases = 10 ∷ 20 ∷ 30 ∷ 40 ∷ []; links = record { path = 2; at = 2 } ∷ record { path = 12; at = 13 } ∷ [] }

lost_text : line_text version.One (line.Path (record { times = 7; path = 30 ∷ 40 ∷ []; fate = fate.Lost walk })) ≡ codes "lost|7|30 40|10 20 30 40|2:2 12:13\n"
unfolding line_text digits
lost_text = refl

why_text : line_text version.One (line.Why walk) ≡ codes "why|10 20 30 40|2:2 12:13\n"
unfolding line_text digits
why_text = refl

-- a link of number 0 is written as such in a text of version 1, and names a given in one of version 2
abbrev with_given : Walk
with_given = record { ases = 10 ∷ 20 ∷ 30 ∷ []; links = record { path = 0; at = 3 } ∷ record { path = 12; at = 13 } ∷ [] }

first_why_text : line_text version.One (line.Why with_given) ≡ codes "why|10 20 30|0:3 12:13\n"
unfolding line_text digits
first_why_text = refl

second_why_text : line_text version.Two (line.Why with_given) ≡ codes "why|10 20 30|g:3 12:13\n"
unfolding line_text digits
second_why_text = refl

-- such a link is read in a text of its own version alone
second_link : link_at version.Two (codes "g:3") ≡ Some (record { path = 0; at = 3 }, [])
unfolding link_at path_name_at u32_at u64_at digit_at digits_at
second_link = refl

no_zero_link : link_at version.Two (codes "0:3") ≡ None
unfolding link_at path_name_at positive_at u32_at u64_at digit_at digits_at
no_zero_link = refl

no_given_link : link_at version.One (codes "g:3") ≡ None
unfolding link_at path_name_at u32_at u64_at digit_at digits_at
no_given_link = refl

-- a result with givens, and one with an empty list of them
given_text : text (record empty {
  givens = Some (record { over = 30; under = 20 } ∷ record { over = 10; under = 40 } ∷ []);
  paths = kept (10 ∷ 20 ∷ []) ∷ [];
  edges = record { low = 10; high = 20; label = label.Peer; mark = mark.Open; support = 1 } ∷ [];
  totals = totals 1 0 1 0 1;
})
    ≡ codes "tor|2\n" ++ head ++ codes "given|30|20\ngiven|10|40\nkept|1|10 20\nedge|10|20|peer|open|1\nend|1|0|1|0|1\n"
unfolding line_text digits
given_text = refl

no_given_text : text (record empty { givens = Some [] }) ≡ codes "tor|2\n" ++ head ++ codes "end|0|0|0|0|0\n"
unfolding line_text digits
no_given_text = refl

empty_walk_text : line_text version.Two (line.Why (record { ases = []; links = [] })) ≡ codes "why||\n"
unfolding line_text
empty_walk_text = refl

forced_text : line_text version.One (line.Edge (record { low = 1; high = 4294967295; label = label.High; mark = mark.Forced; support = 18446744073709551615 })) ≡ codes
    "edge|1|4294967295|high|forced|18446744073709551615\n"
unfolding line_text digits
forced_text = refl

skip_text : line_text version.Two (line.Sets sets.Skip) ≡ codes "sets|skip\n"
unfolding line_text
skip_text = refl

reserved_text : line_text version.One (line.Aside cause.Reserved 3) ≡ codes "aside|reserved|3\n"
unfolding line_text digits
reserved_text = refl

-- the first lines of bytes, of which the last has no line feed
two_of_three : first_lines 2 (codes "a\nbc\nd") ≡ Some (codes "a\nbc\n")
two_of_three = refl

three_of_three : first_lines 3 (codes "a\nbc\nd") ≡ None
three_of_three = refl

abbrev edge : EdgeLine
edge = record { low = 10; high = 20; label = label.Peer; mark = mark.Open; support = 1 }

-- a result of three paths, seven edges, three walks and two open lines has 26 lines
abbrev of_three : ResultFile
of_three = record empty {
  paths = kept [] ∷ kept [] ∷ kept [] ∷ [];
  edges = edge ∷ edge ∷ edge ∷ edge ∷ edge ∷ edge ∷ edge ∷ [];
  whys = walk ∷ walk ∷ walk ∷ [];
  probes = record { over = 20; under = 30 } ∷ record { over = 60; under = 10 } ∷ [];
}

of_three_lines : last_line of_three ≡ 26
of_three_lines = refl

of_three_first : edge_line of_three 1 ∷ why_line of_three 1 ∷ probe_line of_three 1 ∷ [] ≡ 14 ∷ 21 ∷ 24 ∷ []
of_three_first = refl

-- two givens in front move all but the first lines
abbrev of_two : ResultFile
of_two = record of_three { givens = Some (record { over = 30; under = 20 } ∷ record { over = 10; under = 40 } ∷ []) }

of_two_first : given_line of_two 1 ∷ path_line of_two 1 ∷ edge_line of_two 1 ∷ why_line of_two 1 ∷ probe_line of_two 1 ∷ last_line of_two ∷ [] ≡ 11 ∷ 13 ∷ 16 ∷ 23 ∷ 26 ∷ 28 ∷ []
of_two_first = refl
