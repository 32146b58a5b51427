-- What dumps give under a limit on paths that isn't met they give under each greater one.
use Rattle.std.proofs.Common.{◌≡◌, ◌≤◌, ◌<◌, ◌+◌, ◌==◌, ◌&&◌, ℕ, suc, Bool, true, false, List, [], ◌∷◌, length, Option, Some, None, Result, Ok, Err, if◌then◌else◌, refl, ap, subst, inl, inr, arith}
use Rattle.std.proofs.Common.{option_map, eq-eqb}
use Rattle.std.specs.Prelude.{is_some, nat_lt}
use Rattle.std.specs.Str.{bytes_eq}
use Rattle.std.proofs.lemmas.Bool.{cases_Bool, cases_order, both_ways, lt-ltb, ne_eqb}
use Rattle.path_attrs.specs.Fields.{◌>>=◌}
use Rattle.path_clean.specs.declared.cleaned.Sets.{Sets}
use Rattle.path_clean.specs.Counts.{counted_one}
use Rattle.tor_arena.specs.Limits.{max_numbers}
use Rattle.path_table.specs.Rows.{Counted, numbers_in}
use Rattle.path_table.specs.Table.{place_of, with_path}
use Rattle.path_clean.specs.declared.cleaned.Cleaned.{Cleaned}
use Rattle.path_clean.specs.declared.cleaned.Cleaned.TheVariants.{Path, Aside}
use Rattle.path_clean.specs.Clean.{clean_of}
use Rattle.tor_io.specs.Contents.{Files}
use Rattle.dump_read.specs.declared.error.LimitKind.{LimitKind}
use Rattle.dump_read.specs.declared.error.LimitKind.TheVariants.{Paths, Numbers}
use Rattle.dump_read.specs.declared.taking.Taken.{Taken}
use Rattle.dump_read.specs.Routes.{Route}
use Rattle.dump_read.specs.Reading.{FileEnd, Whole, Broken, TooLong, file_reading}
use Rattle.dump_read.specs.Files.{with_file}
use Rattle.dump_read.specs.Seen.{DumpsEnd, of_end, of_taking, of_octets, of_file}
use Rattle.dump_read.specs.Taking.{with_one, has_too_many_numbers, take_path, take_cleaned, take_route, take_routes}
use Rattle.run_base.specs.Reading.{seen_from}
use Rattle.dump_read.specs.declared.wanted.Wanted.{Wanted}
use Rattle.dump_read.specs.Wanted.{file_routes}

-- the same with another limit
abbrev pub widened : ℕ → Taken → Taken
widened most taken = record { table = record { limit = most; rows = taken.table.rows }; counts = taken.counts; files = taken.files }

-- the limit is kept, and is at most another one
pub record IsWithin (limit most : ℕ) (taken : Taken) : Type 0 where
  pub same : taken.table.limit ≡ limit
  pub few : length taken.table.rows ≤ limit
  pub less : limit ≤ most

-- ---- one path

known_length : (rows : List Counted) (path : List ℕ) → is_some (place_of rows path) ≡ true → length (with_path rows path) ≡ length rows
known_length [] path h = absurd cc
known_length (row ∷ rows) path h = by (bytes_eq row.path path) refl h (known_length rows path)
  where
    by : (b : Bool) → bytes_eq row.path path ≡ b → is_some (if b then Some 0 else option_map suc (place_of rows path)) ≡ true →
        (is_some (place_of rows path) ≡ true → length (with_path rows path) ≡ length rows) → length (with_path (row ∷ rows) path) ≡ suc (length rows)
    by true is h rest = rw is refl
    by false is h rest = rw is (ap suc (rest (inner (place_of rows path) h)))
      where
        inner : (place : Option ℕ) → is_some (option_map suc place) ≡ true → is_some place ≡ true
        inner None h = h
        inner (Some n) h = refl

one_more_at_most : (rows : List Counted) (path : List ℕ) → length (with_path rows path) ≤ length rows + 1
one_more_at_most [] path = omega arith
one_more_at_most (row ∷ rows) path = by (bytes_eq row.path path) refl (one_more_at_most rows path)
  where
    by : (b : Bool) → bytes_eq row.path path ≡ b → length (with_path rows path) ≤ length rows + 1 → length (with_path (row ∷ rows) path) ≤ suc (length rows) + 1
    by true is rest = rw is (omega arith)
    by false is rest = rw is (omega (arith, rest))

abbrev choose : Bool → Bool → Bool → Taken → Result Taken LimitKind
choose known met many made = if known then Ok made else if met then Err Paths else if many then Err Numbers else Ok made

same_ok : (x y : Taken) → ◌≡◌ {A = Result Taken LimitKind} (Ok x) (Ok y) → x ≡ y
same_ok x y e = cc

same_end : (x y : Taken) → ◌≡◌ {A = Result Taken DumpsEnd} (Ok x) (Ok y) → x ≡ y
same_end x y e = cc

chosen : (most : ℕ) (known met many met' many' : Bool) (made new : Taken) →
    (known ≡ false → met ≡ false → many ≡ false → (met' ≡ false) × (many' ≡ false)) → choose known met many made ≡ Ok new →
    (choose known met' many' (widened most made) ≡ Ok (widened most new)) × (made ≡ new)
chosen most true met many met' many' made new h e =
    let same = same_ok made new e in (ap (λ (t : Taken). Ok (widened most t)) same, same)
chosen most false true many met' many' made new h e = absurd cc
chosen most false false true met' many' made new h e = absurd cc
chosen most false false false met' many' made new h e =
    let same = same_ok made new e in
    let none = h refl refl refl in
    (rw (none.0, none.1) (ap (λ (t : Taken). Ok (widened most t)) same), same)

no_and : (a b : Bool) → b ≡ false → (a && b) ≡ false
no_and true b h = h
no_and false b h = refl

module _ (limit most : ℕ) where
  below : (taken : Taken) → IsWithin limit most taken → (length taken.table.rows == taken.table.limit) ≡ false → length taken.table.rows < limit
  below taken within not_met =
      let few = within.few in
      let same = within.same in
      elim (cases_order (length taken.table.rows) taken.table.limit) [
        | inl e ↦ absurd (both_ways (length taken.table.rows == taken.table.limit) not_met (eq-eqb (length taken.table.rows) taken.table.limit e))
        | inr o ↦ elim o [ inl lt ↦ omega (arith, lt, same) | inr gt ↦ absurd (omega (arith, gt, same, few)) ]
      ]

  room : (taken : Taken) (path : List ℕ) → IsWithin limit most taken → is_some (place_of taken.table.rows path) ≡ false →
      (length taken.table.rows == taken.table.limit) ≡ false → has_too_many_numbers taken.table path ≡ false →
      ((length taken.table.rows == most) ≡ false) × (has_too_many_numbers (widened most taken).table path ≡ false)
  room taken path within known met many =
      let lt = below taken within met in
      let less = within.less in
      let same = within.same in
      let wide : length taken.table.rows < most = omega (arith, lt, less) in
      let few : nat_lt (length taken.table.rows) taken.table.limit ≡ true = lt-ltb (length taken.table.rows) taken.table.limit (omega (arith, lt, same)) in (
        ne_eqb (length taken.table.rows) most (λ e. absurd (omega (arith, e, wide))),
        elim (cases_Bool (nat_lt max_numbers (numbers_in taken.table.rows + length path))) [
          | inl t ↦ absurd (both_ways (has_too_many_numbers taken.table path) many (both_true (nat_lt (length taken.table.rows) taken.table.limit) (nat_lt max_numbers (numbers_in taken.table.rows +
              length path)) few t))
          | inr f ↦ no_and (nat_lt (length taken.table.rows) most) (nat_lt max_numbers (numbers_in taken.table.rows + length path)) f
        ],
      )
    where
      both_true : (a b : Bool) → a ≡ true → b ≡ true → (a && b) ≡ true
      both_true true b h k = k
      both_true false b h k = h

  fits : (taken new : Taken) (path : List ℕ) → IsWithin limit most taken → take_path taken path ≡ Ok new → length (with_path taken.table.rows path) ≤ limit
  fits taken new path within e =
      let few = within.few in
      elim (cases_Bool (is_some (place_of taken.table.rows path))) [
        | inl known ↦ omega (arith, few, known_length taken.table.rows path known)
        | inr fresh ↦ elim (cases_Bool (length taken.table.rows == taken.table.limit)) [
          | inl met ↦ absurd (refused (is_some (place_of taken.table.rows path)) (length taken.table.rows == taken.table.limit) (has_too_many_numbers taken.table path) (record taken {
            table =
                with_one taken.table path;
          }) fresh met e)
          | inr not_met ↦ omega (arith, below taken within not_met, one_more_at_most taken.table.rows path)
        ]
      ]
    where
      refused : (known met many : Bool) (made : Taken) → known ≡ false → met ≡ true → choose known met many made ≡ Ok new → ⊥
      refused true met many made h k e = both_ways true h refl
      refused false true many made h k e = cc
      refused false false many made h k e = both_ways false refl k

  one_path : (taken new : Taken) (path : List ℕ) → IsWithin limit most taken → take_path taken path ≡ Ok new →
      (take_path (widened most taken) path ≡ Ok (widened most new)) × IsWithin limit most new
  one_path taken new path within e =
      let made : Taken = record taken { table = with_one taken.table path } in
      let both = chosen most (is_some (place_of taken.table.rows path)) (length taken.table.rows == taken.table.limit) (has_too_many_numbers taken.table path)
      (length taken.table.rows == most) (has_too_many_numbers (widened most taken).table path) made new (room taken path within) e in
      (both.0, subst (IsWithin limit most) both.1 (record { same = within.same; few = fits taken new path within e; less = within.less }))

  one_route : (sets : Sets) (taken new : Taken) (route : Route) → IsWithin limit most taken → take_route sets taken route ≡ Ok new →
      (take_route sets (widened most taken) route ≡ Ok (widened most new)) × IsWithin limit most new
  one_route sets taken new route within e = by (clean_of sets route.width route.attrs) e
    where
      by : (cleaned : Cleaned) → take_cleaned taken cleaned ≡ Ok new → (take_cleaned (widened most taken) cleaned ≡ Ok (widened most new)) × IsWithin limit most new
      by (Path path) e = one_path taken new path within e
      by (Aside cause) e =
          let made : Taken = record taken { counts = counted_one cause taken.counts } in
          let same = same_ok made new e in
          (ap (λ (t : Taken). Ok (widened most t)) same, subst (IsWithin limit most) same (record { same = within.same; few = within.few; less = within.less }))

  all_routes : (sets : Sets) (taken new : Taken) (routes : List Route) → IsWithin limit most taken → take_routes sets taken routes ≡ Ok new →
      (take_routes sets (widened most taken) routes ≡ Ok (widened most new)) × IsWithin limit most new
  unfolding take_routes
  all_routes sets taken new [] within e =
      let same = same_ok taken new e in (ap (λ (t : Taken). Ok (widened most t)) same, subst (IsWithin limit most) same within)
  all_routes sets taken new (route ∷ routes) within e = by (take_route sets taken route) refl e (λ further. all_routes sets further new routes)
    where
      by : (one : Result Taken LimitKind) → take_route sets taken route ≡ one → (one >>= λ further. take_routes sets further routes) ≡ Ok new →
          ((further : Taken) → IsWithin limit most further → take_routes sets further routes ≡ Ok new →
          (take_routes sets (widened most further) routes ≡ Ok (widened most new)) × IsWithin limit most new) →
          ((take_route sets (widened most taken) route >>= λ further. take_routes sets further routes) ≡ Ok (widened most new)) × IsWithin limit most new
      by (Err kind) is e rest = absurd cc
      by (Ok further) is e rest =
          let step = one_route sets taken further route within is in
          let more = rest further step.1 e in
          (rw step.0 more.0, more.1)

  one_file : (wanted : Wanted) (dump : ℕ) (taken new : Taken) (file : Option (List ℕ)) → IsWithin limit most taken → of_file wanted dump taken file ≡ Ok new →
      (of_file wanted dump (widened most taken) file ≡ Ok (widened most new)) × IsWithin limit most new
  one_file wanted dump taken new None within e = absurd cc
  one_file wanted dump taken new (Some octets) within e =
      by (take_routes wanted.sets taken (file_routes wanted octets)) refl (file_reading octets).end refl e
    where
      by : (took : Result Taken LimitKind) → take_routes wanted.sets taken (file_routes wanted octets) ≡ took → (end : FileEnd) → (file_reading octets).end ≡ end →
          (of_taking dump took >>= λ all. of_end dump end (with_file wanted octets all)) ≡ Ok new →
          (of_octets wanted dump (widened most taken) octets ≡ Ok (widened most new)) × IsWithin limit most new
      by (Err kind) is end ends e = absurd cc
      by (Ok all) is (Broken at fault) ends e = absurd cc
      by (Ok all) is TooLong ends e = absurd cc
      by (Ok all) is Whole ends e =
          let routes = all_routes wanted.sets taken all (file_routes wanted octets) within is in
          let same : with_file wanted octets all ≡ new = same_end (with_file wanted octets all) new e in
          let within_too : IsWithin limit most (with_file wanted octets all) = record { same = routes.1.same; few = routes.1.few; less = routes.1.less } in
          (rw (routes.0, ends) (ap (λ (t : Taken). Ok (widened most t)) same), subst (IsWithin limit most) same within_too)

  pub all_files : (wanted : Wanted) (dump : ℕ) (taken new : Taken) (names : List (List ℕ)) (files : Files) → IsWithin limit most taken →
      seen_from wanted dump taken names files ≡ Ok new → seen_from wanted dump (widened most taken) names files ≡ Ok (widened most new)
  all_files wanted dump taken new [] files within e = ap (λ (r : Result Taken DumpsEnd). widened_in r) e
    where
      widened_in : Result Taken DumpsEnd → Result Taken DumpsEnd
      widened_in (Ok t) = Ok (widened most t)
      widened_in (Err end) = Err end
  all_files wanted dump taken new (name ∷ names) files within e = by (of_file wanted dump taken (files name)) refl e (λ further. all_files wanted (dump + 1) further new names files)
    where
      by : (one : Result Taken DumpsEnd) → of_file wanted dump taken (files name) ≡ one → (one >>= λ further. seen_from wanted (dump + 1) further names files) ≡ Ok new →
          ((further : Taken) → IsWithin limit most further → seen_from wanted (dump + 1) further names files ≡ Ok new →
          seen_from wanted (dump + 1) (widened most further) names files ≡ Ok (widened most new)) →
          (of_file wanted dump (widened most taken) (files name) >>= λ further. seen_from wanted (dump + 1) further names files) ≡ Ok (widened most new)
      by (Err end) is e rest = absurd cc
      by (Ok further) is e rest =
          let step = one_file wanted dump taken further (files name) within is in
          rw step.0 (rest further step.1 e)
