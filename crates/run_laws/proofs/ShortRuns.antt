-- What runs with `--order short` give doesn't depend on the order of the routes.
use Rattle.std.proofs.Common.{◌≡◌, ◌≢◌, ℕ, ◌+◌, Bool, true, false, List, [], ◌∷◌, All, Option, Result, Ok, Err, refl, sym, ap, ap₂, subst, ◌∙◌, if◌then◌else◌, ◌==◌, length}
use Rattle.std.specs.Prelude.{is_some}
use Rattle.std.proofs.lemmas.List.Elements.{All-head, All-tail}
use Rattle.path_table.specs.Rows.{Counted, row_paths}
use Rattle.path_attrs.specs.Fields.{◌>>=◌}
use Rattle.tor_io.specs.Contents.{Files}
use Rattle.path_clean.specs.declared.cleaned.Sets.{Sets}
use Rattle.path_clean.specs.declared.cleaned.Cleaned.{Cleaned}
use Rattle.path_clean.specs.declared.cleaned.Cleaned.TheVariants.{Path, Aside}
use Rattle.path_clean.specs.Clean.{clean_of}
use Rattle.path_order.specs.declared.choice.Order.{Order}
use Rattle.path_order.specs.Orders.{ordered}
use Rattle.dump_read.specs.declared.error.LimitKind.{LimitKind}
use Rattle.dump_read.specs.declared.error.LimitKind.TheVariants.{Paths, Numbers, Bytes}
use Rattle.dump_read.specs.declared.taking.Taken.{Taken}
use Rattle.dump_read.specs.Files.{with_file}
use Rattle.dump_read.specs.Laws.{Fit, IsTakenOf, cleaned_paths, routes_in_files}
use Rattle.dump_read.specs.Reading.{FileEnd, Whole, file_reading}
use Rattle.dump_read.specs.Routes.{Route}
use Rattle.dump_read.specs.Seen.{DumpsEnd, Limit, of_end, of_octets, of_taking}
use Rattle.path_table.specs.Table.{place_of}
use Rattle.dump_read.specs.Taking.{has_too_many_numbers, take_cleaned, take_route, take_routes, with_one}
use Rattle.order_laws.proofs.RouteOrders.{fit_law, one_order_law}
use Rattle.run_base.specs.Reading.{nothing, seen_of}
use Rattle.tor_words.specs.declared.settings.Settings.{Settings}
use Rattle.tor_words.specs.Given.{dumps_in}
use Rattle.tor_output.specs.Knowing.{known_of}
use Rattle.tor_output.specs.Output.{known_for, paths_taken}
use Rattle.tor_output.specs.Resuming.{Hold}
use Rattle.tor_output.specs.Seen.{seen}
use Rattle.tor_output.specs.SeenLaw.{IsWhole}
use Rattle.tor_output.proofs.AcceptingLemmas.{same_octets}
use Rattle.tor_output.proofs.Joining.{held}
use Rattle.tor_output.proofs.ReadableLemmas.{dumps_readable}
use Rattle.tor_output.proofs.SeenLemmas.{dumps_law}
use Rattle.run_laws.specs.ShortLaws.{MeetsLimit, ShortLaw, ShortLimitLaw}
use Rattle.run_laws.proofs.ResumeLemmas.{one_result}
use Rattle.dump_read.specs.declared.wanted.Wanted.{Wanted}
use Rattle.dump_read.specs.Wanted.{all_wanted, file_routes}

-- ---- one answer

-- what is taken in is of the routes of these dumps
of_these : (settings : Settings) (files : Files) (dumps : List (List ℕ)) (taken : Taken) → Hold files (dumps_in settings) dumps → seen settings files ≡ Ok taken
    → IsTakenOf settings.sets (routes_in_files (all_wanted settings.sets) dumps) taken
of_these settings files dumps taken hold sees =
    let all = dumps_law (all_wanted settings.sets) settings.max_paths (dumps_in settings) files taken sees in
    subst (λ (ds : List (List ℕ)). IsTakenOf settings.sets (routes_in_files (all_wanted settings.sets) ds) taken) (same_octets all.octets dumps (sym all.there ∙ hold)) all.routes

pub short_law : ShortLaw
short_law settings other files later taken taken' alike sees sees' =
    let routes = routes_in_files (all_wanted settings.sets) alike.dumps in
    let others = routes_in_files (all_wanted settings.sets) alike.others in
    let is = one_order_law.of_routes settings.sets routes taken (of_these settings files alike.dumps taken alike.hold sees) in
    let is' = one_order_law.of_routes settings.sets others taken'
    (subst (λ (s : Sets). IsTakenOf s (routes_in_files (all_wanted s) alike.others) taken') alike.sets (of_these other later alike.others taken' alike.hold_too sees')) in
    let same = one_order_law.same settings.sets routes others taken taken' alike.same is is' in
    let paths : paths_taken other taken' ≡ paths_taken settings taken =
    ap (λ (o : Order). ordered o taken'.table.rows) alike.short_too ∙ sym same.order ∙ ap (λ (o : Order). ordered o taken.table.rows) (sym alike.short) in
    record {
      paths = paths;
      counts = sym same.counts;
      results = λ known file file' faithful faithful'.
          one_result (known_for other known taken') (known_for settings known taken) other.sets settings.sets other.ratio settings.ratio (paths_taken other taken') (paths_taken settings taken) taken'.counts taken.counts file file'
          (ap₂ (λ (t : Option (List ℕ)) (ps : List Counted). known_of t known (row_paths ps)) alike.top paths) alike.sets alike.ratio paths (sym same.counts) faithful faithful';
    }

-- ---- limits

-- routes meet no limit but that of paths and that of numbers
chosen : (known met many : Bool) (made : Taken) (kind : LimitKind) → (if known then Ok made else if met then Err Paths else if many then Err Numbers else Ok made) ≡ Err kind → kind ≢ Bytes
chosen true met many made kind e = absurd cc
chosen false true many made kind e = let same : Paths ≡ kind = cc in subst (λ k. k ≢ Bytes) same (λ b. absurd cc)
chosen false false true made kind e = let same : Numbers ≡ kind = cc in subst (λ k. k ≢ Bytes) same (λ b. absurd cc)
chosen false false false made kind e = absurd cc

one_cleaned : (old : Taken) (one : Cleaned) (kind : LimitKind) → take_cleaned old one ≡ Err kind → kind ≢ Bytes
one_cleaned old (Path path) kind e =
    chosen (is_some (place_of old.table.rows path)) (length old.table.rows == old.table.limit) (has_too_many_numbers old.table path)
    (record old { table = with_one old.table path }) kind e
one_cleaned old (Aside cause) kind e = absurd cc

all_routes : (sets : Sets) (old : Taken) (routes : List Route) (kind : LimitKind) → take_routes sets old routes ≡ Err kind → kind ≢ Bytes
unfolding take_routes
all_routes sets old [] kind e = absurd cc
all_routes sets old (route ∷ routes) kind e = by (take_route sets old route) refl e (λ further. all_routes sets further routes kind)
  where
    by : (one : Result Taken LimitKind) → take_route sets old route ≡ one → (one >>= λ further. take_routes sets further routes) ≡ Err kind
        → ((further : Taken) → take_routes sets further routes ≡ Err kind → kind ≢ Bytes) → kind ≢ Bytes
    by (Ok further) is e rest = rest further e
    by (Err other) is e rest = let same : other ≡ kind = cc in subst (λ k. k ≢ Bytes) same (one_cleaned old (clean_of sets route.width route.attrs) other is)

one_dump : (wanted : Wanted) (dump : ℕ) (old : Taken) (octets : List ℕ) (end : DumpsEnd) → IsWhole octets → of_octets wanted dump old octets ≡ Err end → MeetsLimit end
one_dump wanted dump old octets end whole e = by (take_routes wanted.sets old (file_routes wanted octets)) refl (file_reading octets).end whole e
  where
    by : (took : Result Taken LimitKind) → take_routes wanted.sets old (file_routes wanted octets) ≡ took → (its_end : FileEnd) → its_end ≡ Whole
        → (of_taking dump took >>= λ all. of_end dump its_end (with_file wanted octets all)) ≡ Err end → MeetsLimit end
    by (Ok all) is its_end w e =
        absurd (no_end (subst (λ (f : FileEnd). of_end dump f (with_file wanted octets all) ≡ Err end) w e))
      where
        no_end : ◌≡◌ {A = Result Taken DumpsEnd} (Ok (with_file wanted octets all)) (Err end) → ⊥
        no_end e = cc
    by (Err kind) is its_end w e =
        record { kind = kind; dump = dump; of_paths = all_routes wanted.sets old (file_routes wanted octets) kind is; is = same e }
      where
        same : ◌≡◌ {A = Result Taken DumpsEnd} (Err (Limit kind dump)) (Err end) → end ≡ Limit kind dump
        same e = cc

-- dumps that can be read to their ends have no other end
meets : (wanted : Wanted) (dump : ℕ) (old : Taken) (dumps : List (List ℕ)) (end : DumpsEnd) → All IsWhole dumps → seen_of wanted dump old dumps ≡ Err end → MeetsLimit end
meets wanted dump old [] end whole e = absurd (cc e)
meets wanted dump old (octets ∷ dumps) end whole e =
    by (of_octets wanted dump old octets) refl e (λ further. meets wanted (dump + 1) further dumps end (All-tail IsWhole octets dumps whole))
  where
    by : (one : Result Taken DumpsEnd) → of_octets wanted dump old octets ≡ one → (one >>= λ further. seen_of wanted (dump + 1) further dumps) ≡ Err end
        → ((further : Taken) → seen_of wanted (dump + 1) further dumps ≡ Err end → MeetsLimit end) → MeetsLimit end
    by (Ok further) is e rest = rest further e
    by (Err other) is e rest =
        subst MeetsLimit (same e) (one_dump wanted dump old octets other (All-head IsWhole octets dumps whole) is)
      where
        same : ◌≡◌ {A = Result Taken DumpsEnd} (Err other) (Err end) → other ≡ end
        same e = cc

its_end : (settings : Settings) (files : Files) (dumps : List (List ℕ)) (end : DumpsEnd) → Hold files (dumps_in settings) dumps → All IsWhole dumps → seen settings files ≡ Err end
    → MeetsLimit end
its_end settings files dumps end hold whole e =
    meets (all_wanted settings.sets) 1 (nothing settings.max_paths) dumps end whole
    (sym (held (all_wanted settings.sets) 1 (nothing settings.max_paths) (dumps_in settings) dumps files hold) ∙ e)

fits : (settings : Settings) (files : Files) (dumps : List (List ℕ)) (taken : Taken) → Hold files (dumps_in settings) dumps → seen settings files ≡ Ok taken
    → Fit settings.max_paths (cleaned_paths settings.sets (routes_in_files (all_wanted settings.sets) dumps))
fits settings files dumps taken hold sees =
    let all = (dumps_readable (all_wanted settings.sets) settings.max_paths (dumps_in settings) files).0 (taken, sees) in
    subst (λ (ds : List (List ℕ)). Fit settings.max_paths (cleaned_paths settings.sets (routes_in_files (all_wanted settings.sets) ds))) (same_octets all.octets dumps (sym all.there ∙ hold)) all.fit

pub short_limit_law : ShortLimitLaw
short_limit_law settings other files later end alike whole whole' e = (
  its_end settings files alike.dumps end alike.hold whole e,
  by (seen other later) refl,
)
  where
    -- if the other sees all, so does this one
    sees_all : (taken' : Taken) → seen other later ≡ Ok taken' → (taken : Taken) × (seen settings files ≡ Ok taken)
    sees_all taken' sees' =
        let fit' = fits other later alike.others taken' alike.hold_too sees' in
        let fit = subst (λ n. Fit n (cleaned_paths settings.sets (routes_in_files (all_wanted settings.sets) alike.others))) alike.limit
        (subst (λ (s : Sets). Fit other.max_paths (cleaned_paths s (routes_in_files (all_wanted s) alike.others))) alike.sets fit') in
        (dumps_readable (all_wanted settings.sets) settings.max_paths (dumps_in settings) files).1 (record {
          octets = alike.dumps;
          there = alike.hold;
          whole = whole;
          fit = (fit_law settings.sets settings.max_paths (routes_in_files (all_wanted settings.sets) alike.dumps) (routes_in_files (all_wanted settings.sets) alike.others) alike.same).1 fit;
        })

    not_both : {X : Type 0} (r : Result Taken DumpsEnd) (taken : Taken) → r ≡ Ok taken → r ≡ Err end → X
    not_both r taken a b = let both : ◌≡◌ {A = Result Taken DumpsEnd} (Ok taken) (Err end) = sym a ∙ b in absurd cc

    by : (r : Result Taken DumpsEnd) → seen other later ≡ r → (end' : DumpsEnd) × (seen other later ≡ Err end') × MeetsLimit end'
    by (Ok taken') sees' = let all = sees_all taken' sees' in not_both (seen settings files) all.0 all.1 e
    by (Err end') ends = (end', ends, its_end other later alike.others end' alike.hold_too whole' ends)
