-- Lines and notes of a worked grading, by computation.
use Rattle.std.proofs.Common.{◌≡◌, ◌∷◌, [], List, codes, refl}
use Rattle.std.specs.Fmt.{digits}
use Rattle.path_table.specs.Rows.{Counted}
use Rattle.as_rel.specs.declared.line.RelKind.TheVariants.{Transit, Peering}
use Rattle.as_rel.specs.declared.line.RelLine.{RelLine}
use Rattle.as_rel.specs.Serial.{rel_line}
use Rattle.run_base.specs.declared.notes.FirstFile.TheVariants.{Rel}
use Rattle.run_base.specs.Notes.{bad_line_note, too_long_note}
use Rattle.torgrade_run.specs.GradeText.{grades_text}

abbrev known : List RelLine
known = rel_line 20 10 Transit ∷ rel_line 20 30 Transit ∷ rel_line 30 40 Peering ∷ rel_line 10 50 Transit ∷ []

abbrev paths : List Counted
paths =
    record { path = 10 ∷ 20 ∷ 30 ∷ 40 ∷ []; times = 1 } ∷ record { path = 50 ∷ 10 ∷ 20 ∷ 30 ∷ []; times = 1 }
    ∷ record { path = 10 ∷ 20 ∷ 60 ∷ []; times = 1 } ∷ []

worked : grades_text known paths ≡ codes "valley|1|10 20 30 40|3\nfree|1|50 10 20 30\nunknown|1|10 20 60|2\ngrade|1|1|1\n"
unfolding digits
worked = refl

bad_line : bad_line_note Rel 2 ≡ codes "malformed|0|2|0|rel\n"
unfolding digits
bad_line = refl

too_long : too_long_note Rel ≡ codes "limit|rel|0\n"
too_long = refl
