-- Where the earlier result is of some dumps, the one on top of it is of these and then the new ones: as they were seen, or in some order.
use Rattle.std.proofs.Common.{◌≡◌, ◌≤◌, ℕ, ◌+◌, List, [], ◌∷◌, ◌++◌, length, map, All, Some, Result, Ok, Err, refl, sym, ap, subst, ◌∙◌, arith}
use Rattle.std.proofs.Common.{append-nil, append_assoc, IsPermutation, sum_by}
use Rattle.std.proofs.lemmas.List.{length-map}
use Rattle.std.proofs.lemmas.List.Elements.{All-append, All-nil, All-cons}
use Rattle.std.proofs.lemmas.List.Concat.{flat_map-append}
use Rattle.std.proofs.lemmas.List.Sorted.{IsPermutation-refl, IsPermutation-sym, IsPermutation-trans}
use Rattle.path_attrs.specs.Fields.{◌>>=◌}
use Rattle.tor_arena.specs.Limits.{max_numbers, max_paths}
use Rattle.tor_io.specs.Contents.{Files}
use Rattle.path_clean.specs.declared.cleaned.Sets.{Sets}
use Rattle.path_clean.specs.Counts.{cause_count}
use Rattle.path_table.specs.Rows.{Counted, row_paths}
use Rattle.path_table.specs.Table.{counted, distinct_paths, times}
use Rattle.path_order.specs.declared.choice.Order.{Order}
use Rattle.path_order.specs.declared.choice.Order.TheVariants.{Seen}
use Rattle.path_order.specs.Orders.{ordered_behind}
use Rattle.path_order.specs.TableRows.{AreTableRows}
use Rattle.path_order.proofs.KeptLemmas.{behind_moves, rows_moved}
use Rattle.dump_read.specs.declared.taking.Taken.{Taken}
use Rattle.dump_read.specs.Laws.{Fit, IsTakenOf, cleaned_paths, routes_in_files}
use Rattle.dump_read.specs.Routes.{Route}
use Rattle.dump_read.specs.Seen.{DumpsEnd, of_octets}
use Rattle.order_laws.specs.RouteOrder.{IsTakenInAnyOrder}
use Rattle.order_laws.proofs.AnyTakings.{taken_on}
use Rattle.order_laws.proofs.RouteOrders.{moved_law, one_order_law}
use Rattle.result_text.specs.declared.file.ResultFile.{ResultFile}
use Rattle.result_rules.specs.Against.{its_rows, row_of}
use Rattle.run_base.specs.Reading.{nothing, seen_of}
use Rattle.run_base.proofs.Values as values
use Rattle.tor_words.specs.declared.settings.Settings.{Settings}
use Rattle.tor_words.specs.Given.{dumps_in}
use Rattle.tor_output.specs.Output.{IsResumed, paths_joined}
use Rattle.tor_output.specs.Resuming.{Hold, IsOfBoth, IsOfDumps, IsOfDumpsInSomeOrder}
use Rattle.tor_output.specs.Seen.{joined, taken_up}
use Rattle.tor_output.specs.SeenLaw.{IsWhole}
use Rattle.tor_output.proofs.AcceptingLemmas.{same_octets}
use Rattle.tor_output.proofs.JoinedRows.{IsTable, all_files}
use Rattle.tor_output.proofs.Joining.{by_octets, dumps_of_both, held, joined_by, joins, octets_of}
use Rattle.tor_output.proofs.ReadableLemmas.{dumps_readable, one_taken}
use Rattle.tor_output.proofs.SeenLemmas.{adds, dumps_law}
use Rattle.dump_read.specs.declared.wanted.Wanted.{Wanted}
use Rattle.dump_read.specs.Wanted.{all_wanted, file_routes}

-- ---- dumps that are taken in on top of others, in whatever order these came

routes_before : (wanted : Wanted) (before : List (List ℕ)) (octets : List ℕ)
    → routes_in_files wanted (before ++ octets ∷ []) ≡ routes_in_files wanted before ++ file_routes wanted octets
routes_before wanted before octets =
    flat_map-append (file_routes wanted) before (octets ∷ [])
    ∙ ap (λ (rs : List Route). routes_in_files wanted before ++ rs) (append-nil (file_routes wanted octets))

one_on : (wanted : Wanted) (dump : ℕ) (before : List (List ℕ)) (octets : List ℕ) (old new : Taken) → IsTakenInAnyOrder wanted.sets (routes_in_files wanted before) old
    → of_octets wanted dump old octets ≡ Ok new → IsTakenInAnyOrder wanted.sets (routes_in_files wanted (before ++ octets ∷ [])) new
one_on wanted dump before octets old new so_far e =
    let is = one_taken wanted dump octets old new e in
    let on = taken_on wanted.sets (routes_in_files wanted before) (file_routes wanted octets) old is.all so_far is.takes in
    let all = subst (λ (rs : List Route). IsTakenInAnyOrder wanted.sets rs is.all) (sym (routes_before wanted before octets)) on in
    subst (IsTakenInAnyOrder wanted.sets (routes_in_files wanted (before ++ octets ∷ []))) is.same (record { rows = all.rows; asides = all.asides })

pub all_on : (wanted : Wanted) (dump : ℕ) (before dumps : List (List ℕ)) (old new : Taken) → IsTakenInAnyOrder wanted.sets (routes_in_files wanted before) old
    → seen_of wanted dump old dumps ≡ Ok new → IsTakenInAnyOrder wanted.sets (routes_in_files wanted (before ++ dumps)) new × All IsWhole dumps
all_on wanted dump before [] old new so_far e = (
  subst (λ ds. IsTakenInAnyOrder wanted.sets (routes_in_files wanted ds) new) (sym (append-nil before))
      (subst (IsTakenInAnyOrder wanted.sets (routes_in_files wanted before)) (values.ok_is (seen_of wanted dump old []) old new refl e) so_far),
  All-nil IsWhole,
)
all_on wanted dump before (octets ∷ dumps) old new so_far e =
    by (of_octets wanted dump old octets) refl e (λ further. all_on wanted (dump + 1) (before ++ octets ∷ []) dumps further new)
  where
    by : (one : Result Taken DumpsEnd) → of_octets wanted dump old octets ≡ one → (one >>= λ further. seen_of wanted (dump + 1) further dumps) ≡ Ok new
        → ((further : Taken) → IsTakenInAnyOrder wanted.sets (routes_in_files wanted (before ++ octets ∷ [])) further → seen_of wanted (dump + 1) further dumps ≡ Ok new
        → IsTakenInAnyOrder wanted.sets (routes_in_files wanted ((before ++ octets ∷ []) ++ dumps)) new × All IsWhole dumps)
        → IsTakenInAnyOrder wanted.sets (routes_in_files wanted (before ++ (octets ∷ dumps))) new × All IsWhole (octets ∷ dumps)
    by (Err end) is e rest = absurd cc
    by (Ok further) is e rest =
        let all = rest further (one_on wanted dump before octets old further so_far is) e in (
          subst (λ ds. IsTakenInAnyOrder wanted.sets (routes_in_files wanted ds) new) (append_assoc before (octets ∷ []) dumps) all.0,
          All-cons IsWhole octets dumps (adds wanted dump octets old further is).whole all.1,
        )

-- ---- they can be read from nothing on

paths_counted : (of : List ℕ → ℕ) (paths : List (List ℕ)) → row_paths (map (λ path. record { path = path; times = of path }) paths) ≡ paths
paths_counted of [] = refl
paths_counted of (path ∷ paths) = ap (λ (ps : List (List ℕ)). path ∷ ps) (paths_counted of paths)

fit_of : (sets : Sets) (routes : List Route) (taken : Taken) → IsTakenInAnyOrder sets routes taken → AreTableRows taken.table.rows → Fit max_paths (cleaned_paths sets routes)
fit_of sets routes taken is are =
    let paths = cleaned_paths sets routes in
    let rows = rows_moved taken.table.rows (counted paths) is.rows are in
    let same = paths_counted (times paths) (distinct_paths paths) in
    record {
      paths_few = subst (λ ps. length ps ≤ max_paths) same rows.few;
      numbers_few = subst (λ ps. sum_by length ps ≤ max_numbers) same rows.numbers;
    }

-- all that these dumps give is taken in from nothing on, too, and these are the same rows but for their order, and the same counts
pub record AreAllSeen (wanted : Wanted) (dumps : List (List ℕ)) (taken : Taken) : Type 0 where
  pub after : Taken
  pub sees : seen_of wanted 1 (nothing max_paths) dumps ≡ Ok after
  pub moved : IsPermutation after.table.rows taken.table.rows
  pub counts : after.counts ≡ taken.counts

pub from_nothing : (wanted : Wanted) (dumps : List (List ℕ)) (taken : Taken) → IsTakenInAnyOrder wanted.sets (routes_in_files wanted dumps) taken → AreTableRows taken.table.rows
    → All IsWhole dumps → AreAllSeen wanted dumps taken
from_nothing wanted dumps taken is are whole =
    let routes = routes_in_files wanted dumps in
    let (after, sees) = (dumps_readable wanted max_paths dumps Some).1 (record { octets = dumps; there = refl; whole = whole; fit = fit_of wanted.sets routes taken is are }) in
    let seen = dumps_law wanted max_paths dumps Some after sees in
    let own = subst (λ (ds : List (List ℕ)). IsTakenInAnyOrder wanted.sets (routes_in_files wanted ds) after) (sym (same_octets dumps seen.octets seen.there))
    (one_order_law.of_routes wanted.sets (routes_in_files wanted seen.octets) after seen.routes) in
    let same = one_order_law.same wanted.sets routes routes after taken (moved_law.routes wanted.sets routes routes (IsPermutation-refl routes)) own is in
    record { after = after; sees = sym (by_octets wanted 1 (nothing max_paths) dumps) ∙ sees; moved = same.rows; counts = same.counts }

-- ---- on top of a result

empty_table : IsTable (nothing max_paths)
empty_table = record {
  rows = record { clean = refl; seen = All-nil (λ times. 1 ≤ times); once = refl; few = omega arith; numbers = omega arith };
  within = omega arith;
  most = omega arith;
}

-- what is known of a result that is of some dumps
pub record IsOfThese (file : ResultFile) (dumps : List (List ℕ)) : Type 0 where
  pub gave : Taken
  pub taken : IsTakenInAnyOrder file.sets (routes_in_files (all_wanted file.sets) dumps) gave
  pub table : AreTableRows gave.table.rows
  pub whole : All IsWhole dumps
  pub moved : IsPermutation gave.table.rows (its_rows file)
  pub counts : gave.counts ≡ file.asides

pub taken_in_some_order : (file : ResultFile) (dumps : List (List ℕ)) → IsOfDumpsInSomeOrder file dumps → IsOfThese file dumps
taken_in_some_order file dumps (gave, gives, moved, counts) =
    let from = by_octets (all_wanted file.sets) 1 (nothing max_paths) dumps ∙ gives in
    let seen = dumps_law (all_wanted file.sets) max_paths dumps Some gave from in
    let same = same_octets seen.octets dumps (sym seen.there) in
    let is = one_order_law.of_routes file.sets (routes_in_files (all_wanted file.sets) dumps) gave
    (subst (λ (ds : List (List ℕ)). IsTakenOf file.sets (routes_in_files (all_wanted file.sets) ds) gave) same seen.routes) in
    record {
      gave = gave;
      taken = is;
      table = (all_files (all_wanted file.sets) 1 (nothing max_paths) gave dumps Some empty_table from).rows;
      whole = subst (All IsWhole) same seen.whole;
      moved = moved;
      counts = counts;
    }

-- it is as if its paths were taken in of these dumps
begun_of : (file : ResultFile) (dumps : List (List ℕ)) (limit : ℕ) → IsOfThese file dumps → IsTakenInAnyOrder file.sets (routes_in_files (all_wanted file.sets) dumps) (taken_up file limit)
begun_of file dumps limit these = record {
  rows = IsPermutation-trans (its_rows file) these.gave.table.rows (counted (cleaned_paths file.sets (routes_in_files (all_wanted file.sets) dumps)))
      (IsPermutation-sym these.gave.table.rows (its_rows file) these.moved) these.taken.rows;
  asides = λ cause. ap (cause_count cause) (sym these.counts) ∙ these.taken.asides cause;
}

module _ (settings : Settings) (files : Files) (earlier : ResultFile) (taken : Taken) (file : ResultFile) (few : settings.max_paths ≤ max_paths)
    (joins_to : joined earlier settings.max_paths (dumps_in settings) files ≡ Ok taken) (resumed : IsResumed settings earlier taken file) where
  its_dumps : (dumps : List (List ℕ)) × Hold files (dumps_in settings) dumps
  its_dumps =
      octets_of (all_wanted earlier.sets) 1 (taken_up earlier settings.max_paths) taken (dumps_in settings) files (joins earlier settings.max_paths (dumps_in settings) files taken joins_to).1

  as_seen : settings.order ≡ Seen → (before : List (List ℕ)) → IsOfDumps earlier before → IsOfDumps file (before ++ its_dumps.0)
  as_seen order before (gave, gives, rows, counts) =
      let (after, sees, its_rows_are, its_counts_are) =
      dumps_of_both earlier settings.max_paths before its_dumps.0 Some gave taken few (by_octets (all_wanted earlier.sets) 1 (nothing max_paths) before ∙ gives) rows counts
      (sym (joined_by earlier settings.max_paths (dumps_in settings) its_dumps.0 files its_dumps.1) ∙ joins_to) in
      let is = resumed.0 in (
        after,
        subst (λ (s : Sets). seen_of (all_wanted s) 1 (nothing max_paths) (before ++ its_dumps.0) ≡ Ok after) (sym is.its_sets)
            (sym (by_octets (all_wanted earlier.sets) 1 (nothing max_paths) (before ++ its_dumps.0)) ∙ sees),
        its_rows_are ∙ sym (is.paths ∙ ap (λ (o : Order). ordered_behind o (length earlier.paths) taken.table.rows) order),
        its_counts_are ∙ sym is.its_counts,
      )

  in_some_order : (before : List (List ℕ)) → IsOfDumpsInSomeOrder earlier before → IsOfDumpsInSomeOrder file (before ++ its_dumps.0)
  in_some_order before is_of =
      let these = taken_in_some_order earlier before is_of in
      let limit = settings.max_paths in
      let all = before ++ its_dumps.0 in
      let joining = joins earlier limit (dumps_in settings) files taken joins_to in
      let gives = sym (held (all_wanted earlier.sets) 1 (taken_up earlier limit) (dumps_in settings) its_dumps.0 files its_dumps.1) ∙ joining.1 in
      let on = all_on (all_wanted earlier.sets) 1 before its_dumps.0 (taken_up earlier limit) taken (begun_of earlier before limit these) gives in
      let room = joining.0 in
      let many : length (row_paths (its_rows earlier)) ≡ length earlier.paths = length-map (its_rows earlier) (λ (row : Counted). row.path) ∙ length-map earlier.paths row_of in
      let begun : IsTable (taken_up earlier limit) = record { rows = rows_moved these.gave.table.rows (its_rows earlier) these.moved these.table; within = omega (arith, room, many); most = few } in
      let table = all_files (all_wanted earlier.sets) 1 (taken_up earlier limit) taken (dumps_in settings) files begun joining.1 in
      let seen = from_nothing (all_wanted earlier.sets) all taken on.0 table.rows (All-append IsWhole before its_dumps.0 these.whole on.1) in
      let is = resumed.0 in (
        seen.after,
        subst (λ (s : Sets). seen_of (all_wanted s) 1 (nothing max_paths) all ≡ Ok seen.after) (sym is.its_sets) seen.sees,
        subst (IsPermutation seen.after.table.rows) (sym is.paths)
            (IsPermutation-trans seen.after.table.rows taken.table.rows (paths_joined settings earlier taken) seen.moved
            (behind_moves settings.order (length earlier.paths) taken.table.rows)),
        seen.counts ∙ sym is.its_counts,
      )

  pub of_both : IsOfBoth settings files earlier file
  of_both = record { dumps = its_dumps.0; hold = its_dumps.1; as_seen = as_seen; in_some_order = in_some_order }
