-- A grading by the relationships that were found for the same paths.
use Rattle.std.proofs.Common.{◌≡◌, ◌↔◌, ℕ, suc, ◌+◌, ◌≤◌, Bool, false, cond, List, [], ◌∷◌, ◌++◌, map, Some, Result, Ok, Contains, IsTrue, refl, sym, ap, ap₂, ◌∙◌, subst, arith, if◌then◌else◌}
use Rattle.std.proofs.Common.{IsPermutation}
use Rattle.std.specs.Prelude.{count_by, slice_get}
use Rattle.std.proofs.lemmas.Bool.{false_from_ne_true}
use Rattle.std.proofs.lemmas.List.Sums.{sum_by-cons}
use Rattle.std.proofs.lemmas.Option.{same_Some}
use Rattle.std.proofs.lemmas.List.Sorted.{Contains-permutation, IsPermutation-map}
use Rattle.path_order.proofs.KeptLemmas.{behind_moves, behind_none}
use Rattle.tor_output.specs.Output.{givens_for, paths_taken}
use Rattle.tor_arena.specs.Limits.{max_paths}
use Rattle.tor_io.specs.Contents.{Files}
use Rattle.path_clean.specs.declared.cleaned.Sets.{Sets}
use Rattle.path_clean.specs.declared.cleaned.Sets.TheVariants.{Cut}
use Rattle.path_table.specs.Rows.{Counted, row_paths}
use Rattle.dump_read.specs.declared.taking.Taken.{Taken}
use Rattle.dump_read.specs.Seen.{DumpsEnd}
use Rattle.relationships.specs.Givens.{returns}
use Rattle.relationships.specs.Selection.{KeepsFrom}
use Rattle.run_base.specs.Reading.{nothing, seen_from}
use Rattle.as_rel.specs.declared.line.RelLine.{RelLine}
use Rattle.as_rel.specs.Serial.{rel_in}
use Rattle.as_rel.specs.declared.grading.Grade.{Grade}
use Rattle.as_rel.specs.declared.grading.Grade.TheVariants.{Free, Valley, Unknown}
use Rattle.as_rel.specs.Grading.{IsGrade, grade, steps_on}
use Rattle.as_rel.proofs.KeptLemmas.{free_exactly, never_unknown}
use Rattle.tor_words.specs.declared.settings.Settings.{Settings}
use Rattle.tor_words.specs.declared.task.Made.TheVariants.{Serial}
use Rattle.tor_words.specs.Given.{BoundsLaw, dumps_in}
use Rattle.torgrade_run.specs.GradeText.{is_free, is_unknown, cone_text, grades_of, grading_text, totals_of}
use Rattle.tor_output.proofs.SeenLemmas.{made_of_files}
use Rattle.tor_output.proofs.WiderLimit.{widened, all_files}
use Rattle.tor_output.proofs.Joining as joining
use Rattle.run_laws.specs.SelfGrading.{SelfGradingLaw}
use Rattle.dump_read.specs.Wanted.{all_wanted}

-- ---- the grades of paths

free_flag : (lines : List RelLine) (path : List ℕ) (keep : Bool) → IsGrade (steps_on lines path) Free ↔ IsTrue keep → is_free (grade lines path) ≡ keep
free_flag lines path keep h = by (grade lines path) refl
  where
    exact : (grade lines path ≡ Free) ↔ IsTrue keep
    exact = free_exactly lines path keep h

    by : (g : Grade) → grade lines path ≡ g → is_free g ≡ keep
    by Free is = sym (exact.0 is)
    by (Valley step) is = sym (false_from_ne_true keep (λ t. let e : Free ≡ Valley step = sym (exact.1 t) ∙ is in absurd (cc e)))
    by (Unknown step) is = sym (false_from_ne_true keep (λ t. let e : Free ≡ Unknown step = sym (exact.1 t) ∙ is in absurd (cc e)))

free_flags : (lines : List RelLine) (kept : List (List ℕ)) (rows : List Counted) (keeps : List Bool) → KeepsFrom kept (row_paths rows) keeps →
    ((k : ℕ) (path : List ℕ) (keep : Bool) → slice_get (row_paths rows) k ≡ Some path → slice_get keeps k ≡ Some keep → IsGrade (steps_on lines path) Free ↔ IsTrue keep) →
    map is_free (grades_of lines rows) ≡ keeps
free_flags lines kept [] [] h each = refl
free_flags lines kept [] (b ∷ keeps) h each = absurd h
free_flags lines kept (r ∷ rows) [] h each = absurd h
free_flags lines kept (r ∷ rows) (b ∷ keeps) h each =
    ap₂ (λ (x : Bool) (xs : List Bool). x ∷ xs) (free_flag lines r.path b (each 0 r.path b refl refl))
    (free_flags lines (if b then kept ++ r.path ∷ [] else kept) rows keeps h.1 (λ k. each (suc k)))

known_flag : (lines : List RelLine) (path : List ℕ) → ((number : ℕ) → IsGrade (steps_on lines path) (Unknown number) → ⊥) → is_unknown (grade lines path) ≡ false
known_flag lines path never = by (grade lines path) refl
  where
    by : (g : Grade) → grade lines path ≡ g → is_unknown g ≡ false
    by Free is = refl
    by (Valley step) is = refl
    by (Unknown step) is = absurd (never_unknown lines path step (never step) is)

none_unknown : (lines : List RelLine) (rows : List Counted) → ((path : List ℕ) (number : ℕ) → Contains (row_paths rows) path → IsGrade (steps_on lines path) (Unknown number) → ⊥) →
    count_by is_unknown (grades_of lines rows) ≡ 0
none_unknown lines [] never = refl
none_unknown lines (r ∷ rows) never =
    let here : is_unknown (grade lines r.path) ≡ false = known_flag lines r.path (λ number. never r.path number (0, omega arith, refl)) in
    let rest = none_unknown lines rows (λ path number c. never path number (suc c.0, omega (arith, c.1), c.2)) in
    sum_by-cons (λ (g : Grade). cond (is_unknown g) 1 0) (grade lines r.path) (grades_of lines rows) ∙ ap₂ (λ (b : Bool) (n : ℕ). cond b 1 0 + n) here rest

-- ---- what a grading reads

same_lines : (a b : List RelLine) → ◌≡◌ {A = Result (List RelLine) ℕ} (Ok a) (Ok b) → a ≡ b
same_lines a b e = cc

same_taken : (a b : Taken) → ◌≡◌ {A = Result Taken DumpsEnd} (Ok a) (Ok b) → a ≡ b
same_taken a b e = cc

sees_all : (settings : Settings) (files : Files) (taken : Taken) (dumps : List (List ℕ)) → settings.max_paths ≤ max_paths → settings.sets ≡ Cut →
    seen_from (all_wanted settings.sets) 1 (nothing settings.max_paths) dumps files ≡ Ok taken → seen_from (all_wanted Cut) 1 (nothing max_paths) dumps files ≡ Ok (widened max_paths taken)
sees_all settings files taken dumps few cut sees =
    all_files settings.max_paths max_paths (all_wanted Cut) 1 (nothing settings.max_paths) taken dumps files (record { same = refl; few = omega arith; less = few })
    (subst (λ (s : Sets). seen_from (all_wanted s) 1 (nothing settings.max_paths) dumps files ≡ Ok taken) cut sees)

-- each path stands in the order of the run, too
taken_there : (settings : Settings) (taken : Taken) (path : List ℕ) → Contains (row_paths taken.table.rows) path → Contains (row_paths (paths_taken settings taken)) path
taken_there settings taken path there =
    let rows = taken.table.rows in
    let moved = subst (IsPermutation rows) (behind_none settings.order rows) (behind_moves settings.order 0 rows) in
    Contains-permutation (row_paths rows) (row_paths (paths_taken settings taken)) path
    (IsPermutation-map (λ (row : Counted). row.path) rows (paths_taken settings taken) moved) there

pub self_grading : BoundsLaw → SelfGradingLaw
self_grading bounds words settings files known taken rel given serial cut comes_to exact grade_words grading later text graded_given there dumps basis note gives is =
    let sees = joining.seen_by (all_wanted settings.sets) 1 (nothing settings.max_paths) grading.dumps (dumps_in settings) later files dumps
    ∙ made_of_files settings.job Serial settings files taken serial comes_to.1 in
    let bytes_same : gives.0.0 ≡ rel = same_Some gives.0.0 rel (sym gives.0.1.there ∙ there) in
    let lines_same : basis.rel ≡ exact.lines = same_lines basis.rel exact.lines (sym gives.0.2 ∙ ap rel_in bytes_same ∙ exact.read) in
    let wide = sees_all settings later taken grading.dumps (bounds words settings given).most cut sees in
    let taken_same : basis.taken ≡ widened max_paths taken = same_taken basis.taken (widened max_paths taken) (sym gives.1 ∙ wide) in
    record {
      rel = basis.rel;
      cone = cone_text is.0;
      is_text = is.2 ∙ ap (λ (t : Taken). grading_text basis.rel t.table.rows is.0) taken_same;
      keeps = exact.graded.keeps;
      kept = exact.graded.kept;
      free = subst (λ (ls : List RelLine). map is_free (grades_of ls (paths_taken settings taken)) ≡ exact.graded.keeps) (sym lines_same)
          (free_flags exact.lines (returns (row_paths (paths_taken settings taken)) (givens_for settings known taken)) (paths_taken settings taken) exact.graded.keeps exact.graded.kept
          exact.graded.free);
      known = subst (λ (ls : List RelLine). (totals_of (grades_of ls taken.table.rows)).unknown ≡ 0) (sym lines_same)
          (none_unknown exact.lines taken.table.rows (λ path number there. exact.graded.known path number (taken_there settings taken path there)));
    }
