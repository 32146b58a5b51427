use Rattle.std.proofs.Common.{◌<◌, ◌+◌, List, ℕ, All, length, map, filter, not, take, ap, ap₂, ◌∙◌, sym, subst}
use Rattle.std.specs.Prelude.{count_by, fold}
use Rattle.std.proofs.lemmas.List.{length-map}
use Rattle.relationships.specs.Evidence.{paths_of}
use Rattle.relationships.specs.Checking.{kept_of}
use Rattle.relationships.specs.Fates.{walk_of}
use Rattle.path_table.specs.Rows.{Counted, row_paths}
use Rattle.result_text.specs.declared.file.PathLine.{PathLine}
use Rattle.rel_infer.specs.Earlier.{BeginsWithPathsOf}
use Rattle.rel_infer.proofs.Continuing.{begins_more}
use Rattle.as_rel.specs.Labelled.{line_of_edge}
use Rattle.route_leaks.specs.declared.meeting.Sighting.{Sighting}
use Rattle.route_leaks.specs.Leaks.{AreFatesBehind, is_one_of, row_met, with_new}
use Rattle.route_leaks.proofs.Assembling.{its_all_paths, its_row_paths, kept_same}
use Rattle.route_leaks.proofs.Meetings.{all_behind}
use Rattle.route_leaks.proofs.leaks.leaks_beside.Goals as goal

pub leaks_in-requires-clause-begins : goal.leaks_in-requires-clause-begins
leaks_in-requires-clause-begins c =
    let e = c.requires.begins in
    let (more, are) = all_behind (row_paths c.args.table.rows) (row_paths c.args.seen) in
    let rows = c.into_rows-rows.ensures.paths ∙ c.in-Ok.ensures.rows ∙ are in
    record {
      file = e.file;
      left = e.left;
      accepted = e.accepted;
      begins = subst (λ (ps : List (List ℕ)). BeginsWithPathsOf ps e.file) (sym rows) (begins_more e.file (row_paths c.args.table.rows) e.begins more);
    }

pub leaks_in-requires-clause-there : goal.leaks_in-requires-clause-there
leaks_in-requires-clause-there c =
    let many = ap length c.into_rows-rows.ensures.paths ∙ length-map c.meet-met.new.table.rows (λ (r : Counted). r.path) in
    subst (λ (n : ℕ). All (λ (m : Sighting). m.place < n) c.in-Ok.meeting.met) (sym many) c.in-Ok.ensures.there

pub returns-in-Ok-leaks_in-clause-leaks : goal.returns-in-Ok-leaks_in-clause-leaks
returns-in-Ok-leaks_in-clause-leaks c = λ file accepts left its.
    let seen = c.args.seen in
    let fates = c.args.rest.now.fates in
    let found = c.in-Ok-leaks_in.ensures in
    let rows = c.into_rows-rows.result.0 in
    let paths = sym (ap row_paths its) ∙ its_row_paths file in
    let all = c.into_rows-rows.ensures.paths ∙ c.in-Ok.ensures.rows in
    let kept = ap (λ (ps : List (List ℕ)). paths_of (kept_of (take (length fates) ps) (map walk_of fates))) paths ∙ kept_same file fates left.fates in
    let met = ap (λ (ps : List (List ℕ)). map (row_met ps) c.in-Ok.meeting.met) c.into_rows-rows.ensures.paths ∙ c.in-Ok.ensures.met ∙
    ap (λ (K : List (List ℕ)). filter (λ (row : Counted). not (is_one_of K row.path)) seen) kept in
    let (more, are) = all_behind (row_paths c.args.table.rows) (row_paths seen) in
    let begun : BeginsWithPathsOf (row_paths c.args.table.rows) file = ap (take (length file.paths)) paths ∙ its_all_paths file in
    let begins = subst (λ (ps : List (List ℕ)). BeginsWithPathsOf ps file) (sym (all ∙ are)) (begins_more file (row_paths c.args.table.rows) begun more) in
    record {
      rows = found.rows ∙ all ∙ ap (λ (ps : List (List ℕ)). fold with_new ps (row_paths seen)) paths;
      known = found.known ∙ c.in-Ok.ensures.known ∙ ap (λ (K : List (List ℕ)). count_by (λ (row : Counted). is_one_of K row.path) seen) kept;
      strange = ap₂ (λ (ps : List (List ℕ)) (ms : List Sighting). map (row_met ps) ms) found.rows found.met ∙ met;
      fates = subst (λ (rs : List Counted). AreFatesBehind file rs c.in-Ok-leaks_in.leaks.fates) met (found.fates file accepts left begins);
      labels = found.labels ∙ ap (map line_of_edge) left.edges;
      own = found.own ∙ ap (λ (n : ℕ). n + 1) (ap length left.fates ∙ length-map file.paths (λ (p : PathLine). p.fate));
    }
