use Rattle.std.proofs.Common.{◌≡◌, ◌<◌, ◌≤◌, ◌+◌, All, List, ℕ, Some, get_or, map, slice_get, take, length, rules, sym, ap, ◌∙◌, subst, arith}
use Rattle.std.specs.Prelude.{◌⊎◌, fold, IfSome}
use Rattle.std.proofs.lemmas.List.{length-map, take-map, take_all}
use Rattle.path_table.specs.declared.table.AddRefused.{AddRefused}
use Rattle.path_table.specs.Rows.{Counted, row_paths}
use Rattle.path_table.proofs.AddLemmas.{err-moved}
use Rattle.route_leaks.specs.declared.meeting.Sighting.{Sighting}
use Rattle.route_leaks.specs.Inside.{is_kept_in, FitLimits}
use Rattle.route_leaks.specs.Leaks.{limit_passed, row_met, with_new}
use Rattle.route_leaks.proofs.Meetings.{clean_at, few_met, first_met, length_taken, known_next, known_still, met_more, met_next, none_beside, not_kept, often_at, rows_next, there_more, there_next, there_paths, there_rows}
use Rattle.route_leaks.proofs.meeting.meet.Goals as goal

pub place_beside-requires-clause-clean : goal.place_beside-requires-clause-clean
place_beside-requires-clause-clean c =
    let same : c.unwrap.result ≡ c.loop-place.place = search rules in
    let at = subst (λ (ps : List (List ℕ)). slice_get ps c.unwrap.result ≡ Some c.row-path.result.now) c.rows-rows.ensures c.row-path.ensures in
    clean_at (row_paths c.args.seen.now) c.unwrap.result c.row-path.result.now c.facts.ensures.rows.clean at

pub returns-in-Err-clause-limit_met : goal.returns-in-Err-clause-limit_met
returns-in-Err-clause-limit_met c =
    let start = row_paths c.args.table.now.rows in
    let seen = row_paths c.args.seen.now in
    let k = c.loop-place.place in
    let path = c.row-path.result.now in
    let same : c.unwrap.result ≡ c.loop-place.place = search rules in
    let at = subst (λ (n : ℕ). slice_get seen n ≡ Some path) same (subst (λ (ps : List (List ℕ)). slice_get ps c.unwrap.result ≡ Some path) c.rows-rows.ensures c.row-path.ensures) in
    let rows = c.loop-place.invariant.rows in
    first_met start seen k path c.in-Err.refused at (subst FitLimits rows c.place_beside.ensures.fit)
    (subst (λ (ps : List (List ℕ)). (c.in-Err.refused ≡ AddRefused.NoMemory) ⊎ (limit_passed (with_new ps path) ≡ Some c.in-Err.refused)) rows c.in-Err.ensures.limit_met)

pub returns-clause-room : goal.returns-clause-room
returns-clause-room c =
    let start = row_paths c.args.table.now.rows in
    let seen = row_paths c.args.seen.now in
    let many = ap length c.rows-rows.ensures in
    let all = c.loop-place.invariant.rows ∙ ap (fold with_new start) (take_all c.loop-place.place seen (omega (arith, many, c.len-place-end.ensures, c.loop-place-test.false))) in
    none_beside start seen (subst FitLimits all (c.facts-2.ensures.few, c.facts-2.ensures.numbers))

pub loop-place-preserved : goal.loop-place-preserved
loop-place-preserved c =
    let start = row_paths c.args.table.now.rows in
    let fates = c.args.fates.now in
    let seen = c.args.seen.now in
    let k = c.loop-place.place in
    let path = c.row-path.result.now in
    let times = get_or c.times-times.result.now k 0 in
    let same : c.unwrap.result ≡ c.loop-place.place = search rules in
    let at = subst (λ (n : ℕ). slice_get (row_paths seen) n ≡ Some path) same
    (subst (λ (ps : List (List ℕ)). slice_get ps c.unwrap.result ≡ Some path) c.rows-rows.ensures c.row-path.ensures) in
    let often = often_at seen k path c.times-times.result.now at c.times-times.ensures in
    let old = row_paths c.loop-place.table.rows in
    let new = row_paths c.place_beside.new.table.rows in
    let inv = c.loop-place.invariant in
    let first : length fates ≤ length start = (let le = c.requires.first in let many = length-map c.args.table.now.rows (λ (r : Counted). r.path) in omega (arith, le, many)) in
    let there = there_paths c.loop-place.table.rows c.loop-place.met inv.there in
    let now = c.in-Ok.ensures.rows in
    let out = not_kept c.in-Ok.found c.in-Some.place (is_kept_in old fates path) c.in-Ok.ensures.kept c.in-Some.is in
    let stands = subst (λ o. IfSome o (λ id. slice_get new id ≡ Some path)) c.in-Some.is c.in-Ok.ensures.there in
    let pushed = c.in-Ok-push.ensures.ok in
    record {
      limit = c.place_beside.ensures.limit;
      rows = rows_next start fates seen k path times old new first inv.rows now at often;
      known = known_still start fates seen k path times old new first inv.rows now at often c.loop-place.met there out c.loop-place.known inv.known;
      met = ap (map (row_met new)) pushed ∙ met_more start fates seen k path times old new first inv.rows now at often c.loop-place.met there out c.in-Some.place stands inv.met;
      there = there_rows c.place_beside.new.table.rows c.push.new.self
          (subst (All (λ (m : Sighting). m.place < length new)) (sym pushed) (there_more start fates seen k path times old new first inv.rows now at often c.loop-place.met there out c.in-Some.place stands));
    }

pub loop-place-preserved-in_default : goal.loop-place-preserved-in_default
loop-place-preserved-in_default c =
    let start = row_paths c.args.table.now.rows in
    let fates = c.args.fates.now in
    let seen = c.args.seen.now in
    let k = c.loop-place.place in
    let path = c.row-path.result.now in
    let times = get_or c.times-times.result.now k 0 in
    let same : c.unwrap.result ≡ c.loop-place.place = search rules in
    let at = subst (λ (n : ℕ). slice_get (row_paths seen) n ≡ Some path) same
    (subst (λ (ps : List (List ℕ)). slice_get ps c.unwrap.result ≡ Some path) c.rows-rows.ensures c.row-path.ensures) in
    let often = often_at seen k path c.times-times.result.now at c.times-times.ensures in
    let old = row_paths c.loop-place.table.rows in
    let new = row_paths c.place_beside.new.table.rows in
    let inv = c.loop-place.invariant in
    let first : length fates ≤ length start = (let le = c.requires.first in let many = length-map c.args.table.now.rows (λ (r : Counted). r.path) in omega (arith, le, many)) in
    let there = there_paths c.loop-place.table.rows c.loop-place.met inv.there in
    let now = c.in-Ok.ensures.rows in
    let yes = c.in-Ok.ensures.kept.0 c.in_default.is in
    record {
      limit = c.place_beside.ensures.limit;
      rows = rows_next start fates seen k path times old new first inv.rows now at often;
      known = known_next start fates seen k path times old new first inv.rows now at often c.loop-place.met there yes c.loop-place.known inv.known;
      met = met_next start fates seen k path times old new first inv.rows now at often c.loop-place.met there yes inv.met;
      there = there_rows c.place_beside.new.table.rows c.loop-place.met (there_next start fates seen k path times old new first inv.rows now at often c.loop-place.met there);
    }

pub returns-clause-few : goal.returns-clause-few
returns-clause-few c =
    let few = c.facts.ensures.rows.few in
    let le = few_met (row_paths c.args.table.now.rows) c.args.fates.now (row_paths c.loop-place.table.rows) (take c.loop-place.place c.args.seen.now) c.loop-place.met c.loop-place.invariant.met in
    let some = ap length (take-map (λ (r : Counted). r.path) c.loop-place.place c.args.seen.now) in
    let cut = length_taken c.loop-place.place (row_paths c.args.seen.now) in
    omega (arith, few, le, some, cut)
