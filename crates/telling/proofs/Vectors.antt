-- The worked row of docs/FORMATS.md, why 20 sells transit to 10, and the texts of tellings, by computation.
use Rattle.std.proofs.Common.{◌≡◌, ℕ, true, false, inl, inr, List, [], ◌∷◌, ◌++◌, Option, Some, None, Contains, refl, arith}
use Rattle.std.specs.Prelude.{codes}
use Rattle.std.specs.Fmt.{digits}
use Rattle.relationships.specs.declared.given.Given.{Given}
use Rattle.relationships.specs.declared.walk.Link.{Link}
use Rattle.relationships.specs.declared.walk.Walk.{Walk}
use Rattle.relationships.specs.declared.fate.Fate.TheVariants as fate
use Rattle.relationships.specs.declared.label.Label.{Label}
use Rattle.relationships.specs.declared.label.Label.TheVariants as label
use Rattle.relationships.specs.declared.mark.Mark.{Mark}
use Rattle.relationships.specs.declared.mark.Mark.TheVariants as mark
use Rattle.path_clean.specs.declared.cleaned.Sets.TheVariants as sets
use Rattle.path_clean.specs.Counts.{no_counts}
use Rattle.relationships.specs.Evidence.{Numbered}
use Rattle.relationships.specs.GivenEvidence.{FitsWith}
use Rattle.relationships.specs.Telling.{steps_of, Prove}
use Rattle.result_text.specs.declared.file.EdgeLine.{EdgeLine}
use Rattle.result_text.specs.declared.file.ResultFile.{ResultFile}
use Rattle.result_text.specs.Text.{line_text, numbers_text}
use Rattle.telling.specs.declared.told.Going.TheVariants as going
use Rattle.telling.specs.declared.told.Told.TheVariants as told
use Rattle.telling.specs.PathText.{path_text}
use Rattle.telling.specs.WalkText.{end_text}
use Rattle.telling.specs.ToldText.{told_text}

abbrev kept : Numbered
kept = (1, 30 ∷ 40 ∷ 20 ∷ 10 ∷ 50 ∷ 60 ∷ []) ∷ (2, 10 ∷ 20 ∷ 30 ∷ 40 ∷ []) ∷ []

abbrev link : ℕ → ℕ → Link
link path at = record { path = path; at = at }

abbrev walk : Walk
walk = record { ases = 10 ∷ 20 ∷ 30 ∷ 40 ∷ 20 ∷ 10 ∷ []; links = link 2 2 ∷ link 2 3 ∷ link 1 2 ∷ link 1 3 ∷ [] }

first : Contains kept (1, 30 ∷ 40 ∷ 20 ∷ 10 ∷ 50 ∷ 60 ∷ [])
first = (0, omega arith, refl)

second : Contains kept (2, 10 ∷ 20 ∷ 30 ∷ 40 ∷ [])
second = (1, omega arith, refl)

then_30 : FitsWith [] kept (link 2 2) 10 20 30
then_30 = inr (10 ∷ 20 ∷ 30 ∷ 40 ∷ [], second, inl (record { before = []; after = 40 ∷ []; whole = refl; place = refl }))

then_40 : FitsWith [] kept (link 2 3) 20 30 40
then_40 = inr (10 ∷ 20 ∷ 30 ∷ 40 ∷ [], second, inl (record { before = 10 ∷ []; after = []; whole = refl; place = refl }))

then_20 : FitsWith [] kept (link 1 2) 30 40 20
then_20 = inr (30 ∷ 40 ∷ 20 ∷ 10 ∷ 50 ∷ 60 ∷ [], first, inl (record { before = []; after = 10 ∷ 50 ∷ 60 ∷ []; whole = refl; place = refl }))

then_10 : FitsWith [] kept (link 1 3) 40 20 10
then_10 = inr (30 ∷ 40 ∷ 20 ∷ 10 ∷ 50 ∷ 60 ∷ [], first, inl (record { before = 30 ∷ []; after = 50 ∷ 60 ∷ []; whole = refl; place = refl }))

worked : Prove [] kept (walk ∷ []) 20 10
worked = (
  20,
  10,
  record {
    walk = (then_30, (then_40, (then_20, (then_10, tt))));
    begins = (30 ∷ 40 ∷ 20 ∷ 10 ∷ [], refl);
    ends = (10 ∷ 20 ∷ 30 ∷ 40 ∷ [], refl);
  },
  (refl, refl),
)

worked_steps : steps_of walk.ases walk.links ≡
    record { over = 20; under = 30; link = link 2 2 } ∷ record { over = 30; under = 40; link = link 2 3 }
    ∷ record { over = 40; under = 20; link = link 1 2 } ∷ record { over = 20; under = 10; link = link 1 3 } ∷ []
worked_steps = refl

-- ---- texts

abbrev refuting : Walk
refuting = record {
  ases = 60 ∷ 10 ∷ 20 ∷ 40 ∷ 30 ∷ 20 ∷ 10 ∷ 60 ∷ [];
  links = link 3 3 ∷ link 1 3 ∷ link 1 2 ∷ link 2 3 ∷ link 2 2 ∷ link 3 3 ∷ [];
}

-- what is told reads the givens, the paths and the why lines alone
abbrev sample : Option (List Given) → List Walk → ResultFile
sample givens whys = record {
  sets = sets.Cut;
  ratio = 60;
  asides = no_counts;
  givens = givens;
  paths =
      record { times = 1; path = 30 ∷ 40 ∷ 20 ∷ 10 ∷ 50 ∷ 60 ∷ []; fate = fate.Kept }
      ∷ record { times = 4; path = 10 ∷ 20 ∷ 30 ∷ 40 ∷ []; fate = fate.Kept }
      ∷ record { times = 2; path = 50 ∷ 60 ∷ 10 ∷ 20 ∷ []; fate = fate.Lost refuting }
      ∷ [];
  edges = [];
  whys = whys;
  probes = [];
  totals = record { kept = 2; lost = 1; edges = 0; forced = 0; peers = 0 };
}

abbrev edge : ℕ → ℕ → Label → Mark → EdgeLine
edge low high label mark = record { low = low; high = high; label = label; mark = mark; support = 2 }

abbrev forced_lines : List ℕ
forced_lines =
    codes "edge|10|20|high|forced|2\nif|10|20\nthen|20|30|2:2|10 20 30 40\nthen|30|40|2:3\n"
    ++ codes "then|40|20|1:2|30 40 20 10 50 60\nthen|20|10|1:3\nso|20|10\n"

-- the worked row
forced_text : told_text (sample None (walk ∷ [])) (told.Forced (edge 10 20 label.High mark.Forced) (0 ∷ [])) ≡ forced_lines
unfolding line_text digits
forced_text = refl

-- an edge that stands on an earlier why line, which is not the first of the result
further_text : told_text (sample None (refuting ∷ walk ∷ record { ases = 20 ∷ 10 ∷ 50 ∷ []; links = link 1 4 ∷ [] } ∷ []))
    (told.Forced (edge 10 20 label.High mark.Forced) (1 ∷ 2 ∷ [])) ≡ forced_lines ++ codes "since|20|10\nthen|10|50|1:4\nso|10|50\n"
unfolding line_text digits
further_text = refl

-- a walk over a given, and links that name nothing
given_text : told_text (sample (Some (record { over = 7; under = 8 } ∷ record { over = 20; under = 10 } ∷ [])) [])
    (told.Open (edge 30 40 label.High mark.Open) (record { over = 20; under = 30 }) (record {
      ases = 20 ∷ 30 ∷ 40 ∷ 30 ∷ 10 ∷ 20 ∷ 5 ∷ [];
      links = link 0 2 ∷ link 0 0 ∷ link 0 3 ∷ link 4 1 ∷ link 2 9 ∷ [];
    }))
    ≡ codes "edge|30|40|high|open|2\nopen|20|30\nthen|30|40|g:2|20 10\nthen|40|30|g:0\nthen|30|10|g:3\nthen|10|20|4:1\n"
    ++ codes "then|20|5|2:9|10 20 30 40\nfree\n"
unfolding line_text digits
given_text = refl

peering_text : told_text (sample None []) (told.Peering (edge 20 40 label.Peer mark.Open)) ≡ codes "edge|20|40|peer|open|2\nfree\n"
unfolding line_text digits
peering_text = refl

-- there, from "60 over 10", and back
lost_text : told_text (sample None []) (told.Lost 2)
    ≡ codes "lost|2|50 60 10 20\nif|60|10\nthen|10|20|3:3|50 60 10 20\nthen|20|40|1:3|30 40 20 10 50 60\n"
    ++ codes "then|40|30|1:2\nthen|30|20|2:3|10 20 30 40\nthen|20|10|2:2\nthen|10|60|3:3\n"
unfolding line_text digits
lost_text = refl

kept_text : told_text (sample None []) (told.Kept 1 (going.Up ∷ going.Flat ∷ going.Down ∷ []))
    ≡ codes "kept|4|10 20 30 40\nstep|10|20|up\nstep|20|30|flat\nstep|30|40|down\n"
unfolding line_text digits
kept_text = refl

-- what isn't there is not written
absent_text : told_text (sample None []) (told.Kept 3 (going.Up ∷ [])) ≡ []
absent_text = refl

no_order : end_text (10 ∷ []) ≡ []
no_order = refl

-- ---- long paths

abbrev sixty_four : List ℕ
sixty_four =
    1 ∷ 2 ∷ 3 ∷ 4 ∷ 5 ∷ 6 ∷ 7 ∷ 8 ∷ 9 ∷ 10 ∷ 11 ∷ 12 ∷ 13 ∷ 14 ∷ 15 ∷ 16 ∷ 17 ∷ 18 ∷ 19 ∷ 20 ∷ 21 ∷ 22 ∷ 23 ∷ 24 ∷ 25 ∷ 26 ∷ 27 ∷ 28 ∷ 29 ∷ 30 ∷ 31 ∷ 32
    ∷ 33 ∷ 34 ∷ 35 ∷ 36 ∷ 37 ∷ 38 ∷ 39 ∷ 40 ∷ 41 ∷ 42 ∷ 43 ∷ 44 ∷ 45 ∷ 46 ∷ 47 ∷ 48 ∷ 49 ∷ 50 ∷ 51 ∷ 52 ∷ 53 ∷ 54 ∷ 55 ∷ 56 ∷ 57 ∷ 58 ∷ 59 ∷ 60 ∷ 61 ∷ 62 ∷ 63 ∷ 64 ∷ []

abbrev sixty_five : List ℕ
sixty_five = sixty_four ++ 65 ∷ []

shortest_long_path : path_text false sixty_five 1 ≡ codes "|1 2 3 4 5 6 7 8 9 .."
unfolding digits
shortest_long_path = refl

last_place_with_the_first_as : path_text true sixty_five 9 ≡ codes "|1 2 3 4 5 6 7 8 9 10 11 12 13 14 15 16 17 .."
unfolding digits
last_place_with_the_first_as = refl

cut_at_both_ends : path_text true sixty_five 10 ≡ codes "|.. 2 3 4 5 6 7 8 9 10 11 12 13 14 15 16 17 18 .."
unfolding digits
cut_at_both_ends = refl

last_place_without_the_last_as : path_text true sixty_five 56 ≡ codes "|.. 48 49 50 51 52 53 54 55 56 57 58 59 60 61 62 63 64 .."
unfolding digits
last_place_without_the_last_as = refl

first_place_with_the_last_as : path_text false sixty_five 57 ≡ codes "|.. 49 50 51 52 53 54 55 56 57 58 59 60 61 62 63 64 65"
unfolding digits
first_place_with_the_last_as = refl

last_place : path_text false sixty_five 64 ≡ codes "|.. 56 57 58 59 60 61 62 63 64 65"
unfolding digits
last_place = refl

longest_short_path : path_text false sixty_four 30 ≡ 124 ∷ numbers_text sixty_four
unfolding digits
longest_short_path = refl

longest_short_path_again : path_text true sixty_four 31 ≡ []
longest_short_path_again = refl
