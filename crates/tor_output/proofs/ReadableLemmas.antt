-- A run sees all its dumps exactly where they are readable.
use Rattle.std.proofs.Common.{◌≡◌, ◌↔◌, ◌==◌, Bool, true, false, ℕ, ◌+◌, List, [], ◌∷◌, ◌++◌, map, length, Option, None, Some, Result, Ok, Err, refl, sym, ap, subst, arith}
use Rattle.std.specs.Prelude.{is_some}
use Rattle.std.specs.List.{All}
use Rattle.std.proofs.lemmas.List.Elements.{All-head, All-tail}
use Rattle.path_attrs.specs.Fields.{◌>>=◌}
use Rattle.path_clean.specs.declared.cleaned.Sets.{Sets}
use Rattle.path_clean.specs.declared.cleaned.Cleaned.{Cleaned}
use Rattle.path_clean.specs.declared.cleaned.Cleaned.TheVariants.{Path, Aside}
use Rattle.path_clean.specs.Clean.{clean_of}
use Rattle.path_clean.specs.Counts.{counted_one}
use Rattle.path_table.specs.Table.{place_of}
use Rattle.tor_io.specs.Contents.{Files}
use Rattle.dump_read.specs.declared.error.LimitKind.{LimitKind}
use Rattle.dump_read.specs.declared.file_counts.FileCounts.{FileCounts}
use Rattle.dump_read.specs.declared.taking.Taken.{Taken}
use Rattle.dump_read.specs.Files.{with_file}
use Rattle.dump_read.specs.Laws.{IsTakenOf, Fit, routes_in_files}
use Rattle.dump_read.specs.Reading.{FileEnd, Whole, Broken, TooLong, file_reading}
use Rattle.dump_read.specs.Routes.{Route}
use Rattle.dump_read.specs.Seen.{DumpsEnd, of_end, of_taking, of_file}
use Rattle.dump_read.specs.Taking.{with_one, has_too_many_numbers, take_path, take_cleaned, take_route, take_routes, Takes}
use Rattle.dump_read.proofs.FitLemmas.{fitting}
use Rattle.dump_read.proofs.TakingLemmas as taking
use Rattle.tor_sample.specs.Records.{sample}
use Rattle.tor_words.specs.Given.{dumps_in}
use Rattle.run_base.specs.Reading.{nothing, seen_from}
use Rattle.tor_output.specs.Sampling.{sample_of}
use Rattle.tor_output.specs.Seen.{seen_beside}
use Rattle.tor_output.specs.SeenLaw.{AreReadable, IsWhole, DumpsReadableLaw, ReadableLaw, dumps_beside}
use Rattle.tor_output.proofs.SeenLemmas.{same, dumps_law, sample_file, as_dump}
use Rattle.dump_read.specs.declared.wanted.Wanted.{Wanted}
use Rattle.dump_read.specs.Wanted.{all_wanted, file_routes}

-- ---- the counts of files play no part in what is taken in

-- the same with these counts of files
abbrev pub beside : List FileCounts → Taken → Taken
beside files taken = record taken { files = files }

path_beside : (files : List FileCounts) (old new : Taken) (path : List ℕ) → take_path old path ≡ Ok new → take_path (beside files old) path ≡ Ok (beside files new)
path_beside files old new path e =
    by (is_some (place_of old.table.rows path)) (length old.table.rows == old.table.limit) (has_too_many_numbers old.table path) e
  where
    made : Taken
    made = record old { table = with_one old.table path }

    by : (known met many : Bool) → taking.choose known met many made ≡ Ok new → taking.choose known met many (beside files made) ≡ Ok (beside files new)
    by true met many e = ap (λ (t : Taken). Ok (beside files t)) (taking.same_ok made new e)
    by false true many e = absurd cc
    by false false true e = absurd cc
    by false false false e = ap (λ (t : Taken). Ok (beside files t)) (taking.same_ok made new e)

one_beside : (files : List FileCounts) (old new : Taken) (one : Cleaned) → take_cleaned old one ≡ Ok new → take_cleaned (beside files old) one ≡ Ok (beside files new)
one_beside files old new (Path path) e = path_beside files old new path e
one_beside files old new (Aside found) e = ap (λ (t : Taken). Ok (beside files t)) (taking.same_ok (record old { counts = counted_one found old.counts }) new e)

pub routes_beside : (sets : Sets) (files : List FileCounts) (routes : List Route) (old new : Taken) → Takes sets old routes new
    → Takes sets (beside files old) routes (beside files new)
unfolding take_routes
routes_beside sets files [] old new e = ap (λ (t : Taken). Ok (beside files t)) (taking.same_ok old new e)
routes_beside sets files (route ∷ routes) old new e =
    by (take_route sets old route) refl e (λ further. routes_beside sets files routes further new)
  where
    by : (one : Result Taken LimitKind) → take_route sets old route ≡ one → (one >>= λ further. take_routes sets further routes) ≡ Ok new
        → ((further : Taken) → Takes sets further routes new → Takes sets (beside files further) routes (beside files new))
        → (take_route sets (beside files old) route >>= λ further. take_routes sets further routes) ≡ Ok (beside files new)
    by (Ok further) is e rest = rw (one_beside files old further (clean_of sets route.width route.attrs) is) (rest further e)
    by (Err kind) is e rest = absurd cc

-- ---- routes behind others

-- what was taken in between
record Between (sets : Sets) (old : Taken) (first rest : List Route) (new : Taken) : Type 0 where
  mid : Taken
  takes_first : Takes sets old first mid
  takes_rest : Takes sets mid rest new

split : (sets : Sets) (first rest : List Route) (old new : Taken) → Takes sets old (first ++ rest) new → Between sets old first rest new
unfolding take_routes
split sets [] rest old new e = record { mid = old; takes_first = refl; takes_rest = e }
split sets (route ∷ first) rest old new e =
    by (take_route sets old route) refl e (λ further. split sets first rest further new)
  where
    by : (one : Result Taken LimitKind) → take_route sets old route ≡ one → (one >>= λ further. take_routes sets further (first ++ rest)) ≡ Ok new
        → ((further : Taken) → Takes sets further (first ++ rest) new → Between sets further first rest new) → Between sets old (route ∷ first) rest new
    by (Ok further) is e ih =
        let more = ih further e in
        record { mid = more.mid; takes_first = rw is more.takes_first; takes_rest = more.takes_rest }
    by (Err kind) is e ih = absurd cc

join : (sets : Sets) (first rest : List Route) (old mid new : Taken) → Takes sets old first mid → Takes sets mid rest new → Takes sets old (first ++ rest) new
unfolding take_routes
join sets [] rest old mid new e takes = subst (λ (t : Taken). Takes sets t rest new) (sym (taking.same_ok old mid e)) takes
join sets (route ∷ first) rest old mid new e takes = by (take_route sets old route) e (λ further h. join sets first rest further mid new h takes)
  where
    by : (one : Result Taken LimitKind) → (one >>= λ further. take_routes sets further first) ≡ Ok mid
        → ((further : Taken) → Takes sets further first mid → Takes sets further (first ++ rest) new)
        → (one >>= λ further. take_routes sets further (first ++ rest)) ≡ Ok new
    by (Ok further) e ih = ih further e
    by (Err kind) e ih = absurd cc

-- ---- dumps that are seen are taken in at once

-- a dump is seen where its routes are taken in and it is whole
pub one_seen : (wanted : Wanted) (dump : ℕ) (octets : List ℕ) (old new : Taken) → IsWhole octets → Takes wanted.sets old (file_routes wanted octets) new
    → of_file wanted dump old (Some octets) ≡ Ok (with_file wanted octets new)
one_seen wanted dump octets old new whole takes = rw takes (rw whole refl)

first_there : (files : Files) (name : List ℕ) (names : List (List ℕ)) (o : List ℕ) (octets : List (List ℕ)) → map files (name ∷ names) ≡ map Some (o ∷ octets)
    → files name ≡ Some o
first_there files name names o octets e = cc

others_there : (files : Files) (name : List ℕ) (names : List (List ℕ)) (o : List ℕ) (octets : List (List ℕ)) → map files (name ∷ names) ≡ map Some (o ∷ octets)
    → map files names ≡ map Some octets
others_there files name names o octets e = cc

are_seen : (wanted : Wanted) (dump : ℕ) (names octets : List (List ℕ)) (files : Files) (old new : Taken) → map files names ≡ map Some octets → All IsWhole octets
    → Takes wanted.sets old (routes_in_files wanted octets) new → (taken : Taken) × (seen_from wanted dump old names files ≡ Ok taken)
are_seen wanted dump [] octets files old new there whole takes = (old, refl)
are_seen wanted dump (name ∷ names) [] files old new there whole takes = absurd cc
are_seen wanted dump (name ∷ names) (o ∷ octets) files old new there whole takes =
    let both = split wanted.sets (file_routes wanted o) (routes_in_files wanted octets) old new takes in
    let here = one_seen wanted dump o old both.mid (All-head IsWhole o octets whole) both.takes_first in
    let held = with_file wanted o both.mid in
    let rest = are_seen wanted (dump + 1) names octets files held (beside held.files new) (others_there files name names o octets there) (All-tail IsWhole o octets whole)
    (routes_beside wanted.sets held.files (routes_in_files wanted octets) both.mid new both.takes_rest) in
    (rest.0, rw (first_there files name names o octets there) (rw here rest.1))

-- a dump that was seen is whole, and its routes were taken in
pub record IsTaken (wanted : Wanted) (octets : List ℕ) (old new : Taken) : Type 0 where
  pub all : Taken
  pub takes : Takes wanted.sets old (file_routes wanted octets) all
  pub same : with_file wanted octets all ≡ new

pub one_taken : (wanted : Wanted) (dump : ℕ) (octets : List ℕ) (old new : Taken) → of_file wanted dump old (Some octets) ≡ Ok new → IsTaken wanted octets old new
one_taken wanted dump octets old new e = by (take_routes wanted.sets old (file_routes wanted octets)) refl (file_reading octets).end e
  where
    by : (taking : Result Taken LimitKind) → take_routes wanted.sets old (file_routes wanted octets) ≡ taking → (end : FileEnd)
        → (of_taking dump taking >>= λ all. of_end dump end (with_file wanted octets all)) ≡ Ok new → IsTaken wanted octets old new
    by (Err kind) takes end e = absurd cc
    by (Ok all) takes (Broken at fault) e = absurd cc
    by (Ok all) takes TooLong e = absurd cc
    by (Ok all) takes Whole e = record { all = all; takes = takes; same = same (with_file wanted octets all) new e }

are_taken : (wanted : Wanted) (dump : ℕ) (names octets : List (List ℕ)) (files : Files) (old taken : Taken) → map files names ≡ map Some octets
    → seen_from wanted dump old names files ≡ Ok taken → (new : Taken) × Takes wanted.sets old (routes_in_files wanted octets) new
unfolding take_routes
are_taken wanted dump [] [] files old taken there e = (old, refl)
are_taken wanted dump [] (o ∷ octets) files old taken there e = absurd cc
are_taken wanted dump (name ∷ names) [] files old taken there e = absurd cc
are_taken wanted dump (name ∷ names) (o ∷ octets) files old taken there e =
    by (of_file wanted dump old (files name)) (ap (of_file wanted dump old) (sym (first_there files name names o octets there))) e
    (λ further. are_taken wanted (dump + 1) names octets files further taken (others_there files name names o octets there))
  where
    by : (one : Result Taken DumpsEnd) → of_file wanted dump old (Some o) ≡ one → (one >>= λ further. seen_from wanted (dump + 1) further names files) ≡ Ok taken
        → ((further : Taken) → seen_from wanted (dump + 1) further names files ≡ Ok taken → (new : Taken) × Takes wanted.sets further (routes_in_files wanted octets) new)
        → (new : Taken) × Takes wanted.sets old (routes_in_files wanted (o ∷ octets)) new
    by (Err end) is e ih = absurd cc
    by (Ok further) is e ih =
        let here = one_taken wanted dump o old further is in
        let more = ih further e in
        let behind : Takes wanted.sets here.all (routes_in_files wanted octets) (beside here.all.files more.0) =
        subst (λ (t : Taken). Takes wanted.sets (beside here.all.files t) (routes_in_files wanted octets) (beside here.all.files more.0)) (sym here.same)
        (routes_beside wanted.sets here.all.files (routes_in_files wanted octets) further more.0 more.1) in
        (beside here.all.files more.0, join wanted.sets (file_routes wanted o) (routes_in_files wanted octets) old here.all (beside here.all.files more.0) here.takes behind)

-- ---- a run

none_fit : (limit : ℕ) → Fit limit []
none_fit limit = record { paths_few = omega arith; numbers_few = omega arith }

pub dumps_readable : DumpsReadableLaw
dumps_readable wanted limit names files = (λ seen. forth seen.0 seen.1, λ readable. back readable)
  where
    first : IsTakenOf wanted.sets [] (nothing limit)
    first = taking.nothing wanted.sets (nothing limit) (record { rows = refl; counts = refl })

    forth : (taken : Taken) → seen_from wanted 1 (nothing limit) names files ≡ Ok taken → AreReadable wanted limit (map files names)
    forth taken e =
        let seen = dumps_law wanted limit names files taken e in
        record {
          octets = seen.octets;
          there = seen.there;
          whole = seen.whole;
          fit = (fitting wanted.sets [] (routes_in_files wanted seen.octets) (nothing limit) first (none_fit limit)).0
              (are_taken wanted 1 names seen.octets files (nothing limit) taken seen.there e);
        }

    back : AreReadable wanted limit (map files names) → (taken : Taken) × (seen_from wanted 1 (nothing limit) names files ≡ Ok taken)
    back readable =
        let all = (fitting wanted.sets [] (routes_in_files wanted readable.octets) (nothing limit) first (none_fit limit)).1 readable.fit in
        are_seen wanted 1 names readable.octets files (nothing limit) all.0 readable.there readable.whole all.1

pub readable : ReadableLaw
readable settings files = by (sample_of settings.job)
  where
    by : (o : Option ℕ) → ((taken : Taken) × (seen_beside o settings (dumps_in settings) files ≡ Ok taken))
        ↔ AreReadable (all_wanted settings.sets) settings.max_paths (dumps_beside o (dumps_in settings) files)
    by None = dumps_readable (all_wanted settings.sets) settings.max_paths (dumps_in settings) files
    by (Some seed) =
        subst (λ (given : Result Taken DumpsEnd). ((taken : Taken) × (given ≡ Ok taken)) ↔ AreReadable (all_wanted settings.sets) settings.max_paths (Some (sample seed) ∷ []))
        (as_dump settings seed) (dumps_readable (all_wanted settings.sets) settings.max_paths ([] ∷ []) (sample_file seed))
