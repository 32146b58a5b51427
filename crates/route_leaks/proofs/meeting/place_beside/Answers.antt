use Rattle.std.proofs.Common.{◌≡◌, ◌++◌, ◌∷◌, [], List, ℕ, Some, Err, slice_get, length, refl, sym, ap, ◌∙◌, subst}
use Rattle.std.proofs.lemmas.Bool.{false≢true}
use Rattle.std.proofs.lemmas.List.{length-map, map-append}
use Rattle.tor_arena.proofs.Gets.{slice_get-push_last}
use Rattle.path_table.specs.Rows.{Counted, row_paths}
use Rattle.route_leaks.proofs.Meetings.{kept_by, kept_place, none_of_place, one_of_place, passed_by, there_at, with_known, with_unknown}
use Rattle.route_leaks.proofs.meeting.place_beside.Goals as goal

pub returns-then-is_kept_at-clause-rows : goal.returns-then-is_kept_at-clause-rows
returns-then-is_kept_at-clause-rows c =
    let rows = c.args.table.now.rows in
    let path = c.args.path.now in
    sym (with_known (row_paths rows) path (one_of_place rows path c.in-Some.id (sym c.find.ensures ∙ c.in-Some.is)))

pub returns-then-is_kept_at-clause-kept : goal.returns-then-is_kept_at-clause-kept
returns-then-is_kept_at-clause-kept c =
    let at = sym c.find.ensures ∙ c.in-Some.is in (
      λ e. kept_place c.args.table.now.rows c.args.fates.now c.args.path.now c.facts.ensures.once ∙ ap (kept_by c.args.fates.now) at ∙ sym c.is_kept_at.ensures ∙ c.if-is_kept_at.true,
      λ h. refl,
    )

pub returns-else-is_kept_at-clause-rows : goal.returns-else-is_kept_at-clause-rows
returns-else-is_kept_at-clause-rows c =
    let rows = c.args.table.now.rows in
    let path = c.args.path.now in
    sym (with_known (row_paths rows) path (one_of_place rows path c.in-Some.id (sym c.find.ensures ∙ c.in-Some.is)))

pub returns-else-is_kept_at-clause-kept : goal.returns-else-is_kept_at-clause-kept
returns-else-is_kept_at-clause-kept c =
    let at = sym c.find.ensures ∙ c.in-Some.is in
    let not = kept_place c.args.table.now.rows c.args.fates.now c.args.path.now c.facts.ensures.once ∙ ap (kept_by c.args.fates.now) at ∙ sym c.is_kept_at.ensures ∙ c.if-is_kept_at.false in (
      λ e. absurd cc,
      λ h. absurd (false≢true (sym not ∙ h)),
    )

pub returns-else-is_kept_at-clause-there : goal.returns-else-is_kept_at-clause-there
returns-else-is_kept_at-clause-there c = there_at c.args.table.now.rows c.args.path.now c.in-Some.id (sym c.find.ensures ∙ c.in-Some.is)

pub returns-in-Ok-clause-rows : goal.returns-in-Ok-clause-rows
returns-in-Ok-clause-rows c =
    let rows = c.args.table.now.rows in
    let path = c.args.path.now in
    ap row_paths c.in-Ok.ensures.added ∙ map-append (λ (row : Counted). row.path) rows (record { path = path; times = c.args.times } ∷ []) ∙
    sym (with_unknown (row_paths rows) path (none_of_place rows path (sym c.find.ensures ∙ c.in-None.is)))

pub returns-in-Ok-clause-kept : goal.returns-in-Ok-clause-kept
returns-in-Ok-clause-kept c =
    let at = sym c.find.ensures ∙ c.in-None.is in
    let not = kept_place c.args.table.now.rows c.args.fates.now c.args.path.now c.facts.ensures.once ∙ ap (kept_by c.args.fates.now) at in (
      λ e. absurd cc,
      λ h. absurd (false≢true (sym not ∙ h)),
    )

pub returns-in-Ok-clause-there : goal.returns-in-Ok-clause-there
returns-in-Ok-clause-there c =
    let rows = c.args.table.now.rows in
    let path = c.args.path.now in
    let last = ap row_paths c.in-Ok.ensures.added ∙ map-append (λ (row : Counted). row.path) rows (record { path = path; times = c.args.times } ∷ []) in
    let place : c.in-Ok.id ≡ length (row_paths rows) = c.in-Ok.ensures.place ∙ sym (length-map rows (λ (row : Counted). row.path)) in
    subst (λ (ps : List (List ℕ)). slice_get ps c.in-Ok.id ≡ Some path) (sym last)
    (subst (λ (k : ℕ). slice_get (row_paths rows ++ path ∷ []) k ≡ Some path) (sym place) (slice_get-push_last (row_paths rows) path))

pub returns-in-Err-clause-limit_met : goal.returns-in-Err-clause-limit_met
returns-in-Err-clause-limit_met c =
    passed_by c.args.table.now c.args.path.now c.in-Err.refused c.requires.limit
    (λ is. c.in-Err.ensures.paths.0 (ap (λ e. Err e) is)) (λ is. c.in-Err.ensures.numbers.0 (ap (λ e. Err e) is))
