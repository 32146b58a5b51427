-- The text of worked leaks, by computation.
use Rattle.std.proofs.Common.{◌≡◌, ◌++◌, ◌∷◌, [], List, codes, refl}
use Rattle.std.specs.Fmt.{digits}
use Rattle.relationships.specs.declared.fate.Fate.{Fate}
use Rattle.path_table.specs.Rows.{Counted}
use Rattle.as_rel.specs.declared.line.RelKind.TheVariants.{Transit}
use Rattle.as_rel.specs.declared.line.RelLine.{RelLine}
use Rattle.as_rel.specs.Serial.{rel_line}
use Rattle.leak_text.specs.LeakText.{leaks_line, strange_lines, strange_totals}

abbrev labels : List RelLine
labels = rel_line 20 10 Transit ∷ rel_line 20 30 Transit ∷ rel_line 40 30 Transit ∷ []

abbrev seen : List Counted
seen =
    record { path = 30 ∷ 20 ∷ 10 ∷ []; times = 2 } ∷ record { path = 10 ∷ 20 ∷ 30 ∷ []; times = 1 } ∷
    record { path = 20 ∷ 10 ∷ 40 ∷ []; times = 3 } ∷ record { path = 20 ∷ 30 ∷ 40 ∷ []; times = 4 } ∷ []

-- the path itself has the number 9
abbrev fates : List Fate
fates =
    Fate.Lost (record {
      ases = 10 ∷ 20 ∷ 10 ∷ 20 ∷ 30 ∷ [];
      links = record { path = 9; at = 2 } ∷ record { path = 0; at = 1 } ∷ record { path = 7; at = 2 } ∷ [];
    }) ∷ Fate.Kept ∷ Fate.Kept ∷ Fate.Kept ∷ []

worked : strange_lines labels 9 seen fates ++ leaks_line (strange_totals labels 5 seen fates) ≡
    codes "leak|2|30 20 10|10 20 10 20 30|p:2 g:1 7:2\nfree|1|10 20 30\nunknown|3|20 10 40|2\nvalley|4|20 30 40|2\nleaks|5|1|1|1|1\n"
unfolding digits
worked = refl
