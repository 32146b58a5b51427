-- The same dumps in another order have the same paths.
use Rattle.std.proofs.Common.{◌≡◌, ◌⊎◌, inl, inr, ℕ, ◌+◌, true, false, not, List, [], ◌∷◌, ◌++◌, map, filter, filter_map, bytes_eq, Some, Result, Ok, Err}
use Rattle.std.proofs.Common.{refl, sym, ap, subst, ◌∙◌, arith, append-nil, append_assoc, Contains}
use Rattle.std.proofs.lemmas.Bool.{cases_Bool}
use Rattle.std.proofs.lemmas.List.{map-append}
use Rattle.std.proofs.lemmas.List.Elements.{Contains-append_cases, Contains-append_left, Contains-append_right, filter_map-append}
use Rattle.std.proofs.lemmas.Option.{same_Some}
use Rattle.path_attrs.specs.Fields.{◌>>=◌}
use Rattle.path_clean.specs.declared.cleaned.Sets.{Sets}
use Rattle.path_clean.specs.Clean.{clean_of}
use Rattle.path_table.specs.Rows.{row_paths}
use Rattle.path_table.specs.Table.{distinct_paths, times}
use Rattle.tor_arena.specs.Limits.{max_paths}
use Rattle.dump_read.specs.declared.taking.Taken.{Taken}
use Rattle.dump_read.specs.Batches.{cleaned}
use Rattle.dump_read.specs.Laws.{IsTakenOf, DumpLaw, cleaned_paths, path_in, routes_in_files}
use Rattle.dump_read.specs.Routes.{Route}
use Rattle.dump_read.specs.Seen.{DumpsEnd, of_octets}
use Rattle.result_text.specs.declared.file.ResultFile.{ResultFile}
use Rattle.result_rules.specs.File.{its_paths}
use Rattle.result_laws.specs.Orders.{AnyOrderLaw}
use Rattle.result_laws.proofs.SettlingLemmas.{behind_first, first_one, first_or_behind}
use Rattle.run_base.specs.Reading.{nothing, seen_of}
use Rattle.run_base.proofs.Values as values
use Rattle.tor_output.specs.Resuming.{IsOfDumps}
use Rattle.tor_output.proofs.TableRows.{eq_true}
use Rattle.run_laws.specs.AnyOrder.{AnyDumpOrderLaw}
use Rattle.run_laws.proofs.GrowingRuns.{rows_paths}
use Rattle.dump_read.specs.declared.wanted.Wanted.{Wanted}
use Rattle.dump_read.specs.Wanted.{all_wanted, file_routes}

-- ---- distinct paths

abbrev others : List ℕ → List (List ℕ) → List (List ℕ)
others path paths = filter (λ other. not (bytes_eq other path)) paths

other_there : (path : List ℕ) (paths : List (List ℕ)) (p : List ℕ) → Contains (others path paths) p → Contains paths p
other_there path [] p c = c
other_there path (q ∷ paths) p c = elim (cases_Bool (bytes_eq q path)) [
  | inl t ↦ behind_first q paths p (other_there path paths p (rw t at c))
  | inr f ↦
      let d : Contains (q ∷ others path paths) p = rw f at c in
      elim (first_or_behind q (others path paths) p d) [ inl is ↦ first_one q paths p is | inr b ↦ behind_first q paths p (other_there path paths p b) ]
]

other_left : (path : List ℕ) (paths : List (List ℕ)) (p : List ℕ) → bytes_eq p path ≡ false → Contains paths p → Contains (others path paths) p
other_left path [] p differs c = c
other_left path (q ∷ paths) p differs c = elim (first_or_behind q paths p c) [
  | inl is ↦ let f : bytes_eq q path ≡ false = subst (λ (r : List ℕ). bytes_eq r path ≡ false) (sym is) differs in rw f (first_one q (others path paths) p is)
  | inr b ↦ later (cases_Bool (bytes_eq q path)) (other_left path paths p differs b)
]
  where
    later : (bytes_eq q path ≡ true) ⊎ (bytes_eq q path ≡ false) → Contains (others path paths) p → Contains (others path (q ∷ paths)) p
    later (inl t) d = rw t d
    later (inr f) d = rw f (behind_first q (others path paths) p d)

distinct_there : (paths : List (List ℕ)) (p : List ℕ) → Contains (distinct_paths paths) p → Contains paths p
distinct_there [] p c = c
distinct_there (path ∷ paths) p c = elim (first_or_behind path (others path (distinct_paths paths)) p c) [
  | inl is ↦ first_one path paths p is
  | inr b ↦ behind_first path paths p (distinct_there paths p (other_there path (distinct_paths paths) p b))
]

there_distinct : (paths : List (List ℕ)) (p : List ℕ) → Contains paths p → Contains (distinct_paths paths) p
there_distinct [] p c = c
there_distinct (path ∷ paths) p c = elim (cases_Bool (bytes_eq p path)) [
  | inl t ↦ first_one path (others path (distinct_paths paths)) p (sym (eq_true p path t))
  | inr f ↦ elim (first_or_behind path paths p c) [
    | inl is ↦ first_one path (others path (distinct_paths paths)) p is
    | inr b ↦ behind_first path (others path (distinct_paths paths)) p (other_left path (distinct_paths paths) p f (there_distinct paths p b))
  ]
]

counted_paths : (of : List ℕ → ℕ) (paths : List (List ℕ)) → row_paths (map (λ path. record { path = path; times = of path }) paths) ≡ paths
counted_paths of [] = refl
counted_paths of (path ∷ paths) = ap (λ (ps : List (List ℕ)). path ∷ ps) (counted_paths of paths)

-- ---- the paths of dumps

abbrev paths_in : Wanted → List (List ℕ) → List (List ℕ)
paths_in wanted dumps = cleaned_paths wanted.sets (routes_in_files wanted dumps)

abbrev paths_on : Wanted → List ℕ → List (List ℕ)
paths_on wanted octets = cleaned_paths wanted.sets (file_routes wanted octets)

one_more : (wanted : Wanted) (octets : List ℕ) (dumps : List (List ℕ)) → paths_in wanted (octets ∷ dumps) ≡ paths_on wanted octets ++ paths_in wanted dumps
one_more wanted octets dumps =
    ap (filter_map path_in) (map-append (λ (route : Route). clean_of wanted.sets route.width route.attrs) (file_routes wanted octets) (routes_in_files wanted dumps)) ∙
    filter_map-append path_in (cleaned wanted.sets (file_routes wanted octets)) (cleaned wanted.sets (routes_in_files wanted dumps))

on_one : (wanted : Wanted) (dumps : List (List ℕ)) (octets : List ℕ) → Contains dumps octets → (p : List ℕ) → Contains (paths_on wanted octets) p → Contains (paths_in wanted dumps) p
on_one wanted [] octets there p c = absurd (omega (arith, there.1))
on_one wanted (first ∷ dumps) octets there p c =
    subst (λ ps. Contains ps p) (sym (one_more wanted first dumps))
    (elim (first_or_behind first dumps octets there) [
      | inl is ↦ Contains-append_left (paths_on wanted first) (paths_in wanted dumps) p (subst (λ o. Contains (paths_on wanted o) p) (sym is) c)
      | inr b ↦ Contains-append_right (paths_on wanted first) (paths_in wanted dumps) p (on_one wanted dumps octets b p c)
    ])

in_all : (wanted : Wanted) (dumps all : List (List ℕ)) → ((octets : List ℕ) → Contains dumps octets → Contains all octets) → (p : List ℕ) → Contains (paths_in wanted dumps) p →
    Contains (paths_in wanted all) p
in_all wanted [] all sub p c = absurd (omega (arith, c.1))
in_all wanted (octets ∷ dumps) all sub p c =
    elim (Contains-append_cases (paths_on wanted octets) (paths_in wanted dumps) p (subst (λ ps. Contains ps p) (one_more wanted octets dumps) c)) [
      | inl i ↦ on_one wanted all octets (sub octets (first_one octets dumps octets refl)) p i
      | inr i ↦ in_all wanted dumps all (λ o there. sub o (behind_first octets dumps o there)) p i
    ]

-- what is taken in of dumps after others
taken_of : DumpLaw → (wanted : Wanted) (d : ℕ) (before : List (List ℕ)) (old new : Taken) (dumps : List (List ℕ)) → IsTakenOf wanted.sets (routes_in_files wanted before) old →
    seen_of wanted d old dumps ≡ Ok new → IsTakenOf wanted.sets (routes_in_files wanted (before ++ dumps)) new
taken_of law wanted d before old new [] so_far e =
    subst (λ ds. IsTakenOf wanted.sets (routes_in_files wanted ds) new) (sym (append-nil before)) (subst (IsTakenOf wanted.sets (routes_in_files wanted before)) (values.ok_is (seen_of wanted d old []) old new refl e) so_far)
taken_of law wanted d before old new (octets ∷ dumps) so_far e =
    by (of_octets wanted d old octets) refl e (λ further. taken_of law wanted (d + 1) (before ++ octets ∷ []) further new dumps)
  where
    by : (one : Result Taken DumpsEnd) → of_octets wanted d old octets ≡ one → (one >>= λ further. seen_of wanted (d + 1) further dumps) ≡ Ok new →
        ((further : Taken) → IsTakenOf wanted.sets (routes_in_files wanted (before ++ octets ∷ [])) further → seen_of wanted (d + 1) further dumps ≡ Ok new →
        IsTakenOf wanted.sets (routes_in_files wanted ((before ++ octets ∷ []) ++ dumps)) new) → IsTakenOf wanted.sets (routes_in_files wanted (before ++ (octets ∷ dumps))) new
    by (Err end) is e rest = absurd cc
    by (Ok further) is e rest =
        let more = law.further wanted d before (Some octets) old further so_far is in
        let taken = subst (λ (o : List ℕ). IsTakenOf wanted.sets (routes_in_files wanted (before ++ o ∷ [])) further) (sym (same_Some octets more.octets more.there)) more.taken in
        subst (λ ds. IsTakenOf wanted.sets (routes_in_files wanted ds) new) (append_assoc before (octets ∷ []) dumps) (rest further taken e)

paths_of_octets : DumpLaw → (file : ResultFile) (dumps : List (List ℕ)) → IsOfDumps file dumps → its_paths file ≡ distinct_paths (paths_in (all_wanted file.sets) dumps)
paths_of_octets law file dumps (taken, gives, rows, counts) =
    let start = law.first (all_wanted file.sets) (nothing max_paths) (record { rows = refl; counts = refl }) in
    let all = taken_of law (all_wanted file.sets) 1 [] (nothing max_paths) taken dumps start gives in
    sym (rows_paths file.paths) ∙ ap row_paths (sym rows ∙ all.rows) ∙ counted_paths (times (paths_in (all_wanted file.sets) dumps)) (distinct_paths (paths_in (all_wanted file.sets) dumps))

paths_there : DumpLaw → (file other : ResultFile) (dumps dumps' : List (List ℕ)) → IsOfDumps file dumps → IsOfDumps other dumps' → other.sets ≡ file.sets →
    ((octets : List ℕ) → Contains dumps octets → Contains dumps' octets) → (path : List ℕ) → Contains (its_paths file) path → Contains (its_paths other) path
paths_there law file other dumps dumps' of of' sets sub path c =
    let here = distinct_there (paths_in (all_wanted file.sets) dumps) path (subst (λ ps. Contains ps path) (paths_of_octets law file dumps of) c) in
    let there = in_all (all_wanted file.sets) dumps dumps' sub path here in
    subst (λ ps. Contains ps path) (sym (paths_of_octets law other dumps' of'))
    (there_distinct (paths_in (all_wanted other.sets) dumps') path (subst (λ (s : Sets). Contains (paths_in (all_wanted s) dumps') path) (sym sets) there))

pub any_dump_order_law : DumpLaw → AnyOrderLaw → AnyDumpOrderLaw
any_dump_order_law law any dumps dumps' file other accepts accepts' of of' same sets givens none =
    any file other accepts accepts' (record {
      paths = λ path. (paths_there law file other dumps dumps' of of' sets (λ o. (same o).0) path, paths_there law other file dumps' dumps of' of (sym sets) (λ o. (same o).1) path);
      givens = givens;
    }) none
