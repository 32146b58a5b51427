-- What dumps give on top of a result that is taken up, what is written of that, and why there is nothing.
use Rattle.std.proofs.Common.{◌≡◌, ◌≤◌, ◌<◌, ◌-◌, ◌+◌, ◌↔◌, ◌⊎◌, inl, inr, ℕ, Bool, true, false, List, [], ◌∷◌, ◌++◌, length, take, map, Option, Some}
use Rattle.std.proofs.Common.{None, Result, Ok, Err, refl, sym, ap, subst, ◌∙◌, arith, append_assoc}
use Rattle.std.specs.Prelude.{IfOk, IfSome, IsOk, bytes_eq}
use Rattle.std.specs.Io.KnownBytes.{IsAtEnd}
use Rattle.std.proofs.lemmas.Bool.{cases_order, lt-ltb, le-ltb}
use Rattle.std.proofs.lemmas.List.{append-nil, length-map, take-append-le, take_all}
use Rattle.path_attrs.specs.Fields.{◌>>=◌}
use Rattle.tor_io.specs.Contents.{Files}
use Rattle.path_clean.specs.declared.cleaned.Sets.{Sets}
use Rattle.path_clean.specs.declared.cleaned.Cleaned.{Cleaned}
use Rattle.path_clean.specs.declared.cleaned.Cleaned.TheVariants.{Path, Aside}
use Rattle.path_clean.specs.Clean.{clean_of}
use Rattle.path_clean.specs.Counts.{CauseCounts, counted_one}
use Rattle.path_table.specs.Rows.{Counted, Table, row_paths}
use Rattle.path_table.specs.Table.{with_path}
use Rattle.dump_read.specs.declared.error.DumpError.{DumpError}
use Rattle.dump_read.specs.declared.error.DumpError.TheVariants as error
use Rattle.dump_read.specs.declared.error.LimitKind.{LimitKind}
use Rattle.dump_read.specs.declared.error.LimitKind.TheVariants.{Paths}
use Rattle.dump_read.specs.declared.file_counts.FileCounts.{FileCounts}
use Rattle.dump_read.specs.declared.taking.Taken.{Taken}
use Rattle.dump_read.specs.Files.{with_file}
use Rattle.dump_read.specs.Reading.{FileEnd, Whole, Broken, TooLong, file_reading}
use Rattle.dump_read.specs.Routes.{Route}
use Rattle.dump_read.specs.Seen.{DumpsEnd, Absent, Malformed, Limit, end_named, of_end, of_octets, of_taking}
use Rattle.dump_read.specs.Taking.{take_cleaned, take_route, take_routes, Takes}
use Rattle.dump_read.proofs.TakingLemmas.{same_ok, path_counted}
use Rattle.result_text.specs.declared.file.PathLine.{PathLine}
use Rattle.result_text.specs.declared.file.ResultFile.{ResultFile}
use Rattle.result_text.specs.Grammar.{IsTextOf}
use Rattle.result_rules.specs.Against.{its_rows, row_of}
use Rattle.result_rules.specs.File.{its_paths}
use Rattle.path_table.specs.Rows.{row_paths}
use Rattle.rel_infer.specs.SelfAcceptance.{AreTableRows}
use Rattle.rel_infer.specs.declared.earlier_table.Rest.{Rest}
use Rattle.rel_infer.specs.Earlier.{BeginsWithPathsOf, IsRestOf}
use Rattle.as_rel.specs.declared.givens.KnownLines.{KnownLines}
use Rattle.rel_infer.specs.GivenResults.{IsResultWith}
use Rattle.rel_infer.specs.Resumed.{Continues}
use Rattle.tor_words.specs.declared.settings.Settings.{Settings}
use Rattle.tor_words.specs.Given.{dumps_in, settings_given, BoundsLaw}
use Rattle.run_base.specs.declared.answer.Refusal.{Refusal}
use Rattle.run_base.specs.declared.answer.Refusal.TheVariants as refusal
use Rattle.run_base.specs.declared.reading.Stopped.{Stopped}
use Rattle.run_base.specs.Answers.{IsReadFault}
use Rattle.run_base.specs.Reading.{IsOfSomeDumps, seen_from, seen_of}
use Rattle.run_base.proofs.Values as values
use Rattle.tor_output.specs.First.{First, Nothing, Givens, Result as ResultAt, Earlier, AreGivens, AsksToResume, HoldsResult, IsTakenUp, first_in}
use Rattle.tor_output.specs.Output.{GainsOutput, IsResultOn, IsResumed, IsOutput, IsOutputOn, IsOutputOnEarlier, IsOutputOnSome, paths_joined}
use Rattle.tor_output.specs.Reach.{StopsDumpsInReach, StopsInReach}
use Rattle.tor_output.specs.Refusals.{StopsAt, IsStopAt, past_limit}
use Rattle.tor_output.specs.Resuming.{GainsResumed}
use Rattle.tor_output.specs.Sampling.{sample_of}
use Rattle.relationships.specs.declared.given.Given.{Given}
use Rattle.tor_output.specs.Begun.{IsBegun, KnowsFurther, knowing}
use Rattle.tor_output.specs.Knowing.{known_on}
use Rattle.tor_output.specs.Seen.{Outcome, Reads, Joins, Holds, Stops, Ends, ComesTo, joined, taken_up}
use Rattle.tor_output.specs.declared.output.Output.{Output}
use Rattle.tor_output.specs.Summary.{summary}
use Rattle.tor_output.specs.Written.{Written, written}
use Rattle.path_order.specs.Orders.{ordered_behind}
use Rattle.tor_output.proofs.SomeOrders.{of_both}
use Rattle.tor_output.proofs.Orderings.{begin_too}
use Rattle.tor_output.proofs.Sampled.{by_sample}
use Rattle.dump_read.specs.declared.wanted.Wanted.{Wanted}
use Rattle.dump_read.specs.Wanted.{all_wanted, file_routes}

-- ---- the first rows stay those that were there

-- the first paths of the rows are these
abbrev pub Begins : List (List ℕ) → List Counted → Type 0
Begins first rows = (more : List (List ℕ)) × (row_paths rows ≡ first ++ more)

one_begins : (rows : List Counted) (path : List ℕ) → Begins (row_paths rows) (with_path rows path)
one_begins [] path = (path ∷ [], refl)
one_begins (row ∷ rows) path = by (bytes_eq row.path path) refl (one_begins rows path)
  where
    by : (b : Bool) → bytes_eq row.path path ≡ b → Begins (row_paths rows) (with_path rows path) → Begins (row_paths (row ∷ rows)) (with_path (row ∷ rows) path)
    by true is ih = ([], rw is (sym (append-nil (row.path ∷ row_paths rows))))
    by false is ih = (ih.0, rw is (ap (λ (t : List (List ℕ)). row.path ∷ t) ih.1))

path_begins : (first : List (List ℕ)) (rows : List Counted) (path : List ℕ) → Begins first rows → Begins first (with_path rows path)
path_begins first rows path so_far =
    let one = one_begins rows path in
    (so_far.0 ++ one.0, one.1 ∙ ap (λ (t : List (List ℕ)). t ++ one.0) so_far.1 ∙ append_assoc first so_far.0 one.0)

module _ (first : List (List ℕ)) where
  cleaned_begins : (old new : Taken) (one : Cleaned) → take_cleaned old one ≡ Ok new → Begins first old.table.rows → Begins first new.table.rows
  cleaned_begins old new (Path path) e so_far =
      subst (λ (t : Taken). Begins first t.table.rows) (path_counted old new path e) (path_begins first old.table.rows path so_far)
  cleaned_begins old new (Aside cause) e so_far =
      subst (λ (t : Taken). Begins first t.table.rows) (same_ok (record old { counts = counted_one cause old.counts }) new e) so_far

  routes_begin : (sets : Sets) (routes : List Route) (old new : Taken) → Takes sets old routes new → Begins first old.table.rows → Begins first new.table.rows
  unfolding take_routes
  routes_begin sets [] old new e so_far = subst (λ (t : Taken). Begins first t.table.rows) (same_ok old new e) so_far
  routes_begin sets (route ∷ routes) old new e so_far = by (take_route sets old route) refl e (λ further. routes_begin sets routes further new)
    where
      by : (one : Result Taken LimitKind) → take_route sets old route ≡ one → (one >>= λ further. take_routes sets further routes) ≡ Ok new
          → ((further : Taken) → Takes sets further routes new → Begins first further.table.rows → Begins first new.table.rows) → Begins first new.table.rows
      by (Ok further) is e rest = rest further e (cleaned_begins old further (clean_of sets route.width route.attrs) is so_far)
      by (Err kind) is e rest = absurd cc

  pub octets_begin : (wanted : Wanted) (dump : ℕ) (old new : Taken) (octets : List ℕ) → of_octets wanted dump old octets ≡ Ok new → Begins first old.table.rows → Begins first new.table.rows
  octets_begin wanted dump old new octets e so_far = by (take_routes wanted.sets old (file_routes wanted octets)) refl (file_reading octets).end e
    where
      same_end : (x y : Taken) → ◌≡◌ {A = Result Taken DumpsEnd} (Ok x) (Ok y) → x ≡ y
      same_end x y e = cc

      by : (took : Result Taken LimitKind) → take_routes wanted.sets old (file_routes wanted octets) ≡ took → (end : FileEnd)
          → (of_taking dump took >>= λ all. of_end dump end (with_file wanted octets all)) ≡ Ok new → Begins first new.table.rows
      by (Err kind) is end e = absurd cc
      by (Ok all) is (Broken at fault) e = absurd cc
      by (Ok all) is TooLong e = absurd cc
      by (Ok all) is Whole e =
          subst (λ (t : Taken). Begins first t.table.rows) (same_end (with_file wanted octets all) new e) (routes_begin wanted.sets (file_routes wanted octets) old all is so_far)

  dumps_begin : (wanted : Wanted) (dump : ℕ) (old new : Taken) (dumps : List (List ℕ)) → seen_of wanted dump old dumps ≡ Ok new → Begins first old.table.rows → Begins first new.table.rows
  dumps_begin wanted dump old new [] e so_far = subst (λ (t : Taken). Begins first t.table.rows) (values.ok_is (seen_of wanted dump old []) old new refl e) so_far
  dumps_begin wanted dump old new (octets ∷ rest) e so_far =
      by (of_octets wanted dump old octets) refl e (λ further. dumps_begin wanted (dump + 1) further new rest)
    where
      by : (one : Result Taken DumpsEnd) → of_octets wanted dump old octets ≡ one → (one >>= λ further. seen_of wanted (dump + 1) further rest) ≡ Ok new
          → ((further : Taken) → seen_of wanted (dump + 1) further rest ≡ Ok new → Begins first further.table.rows → Begins first new.table.rows) → Begins first new.table.rows
      by (Err end) is e more = absurd cc
      by (Ok further) is e more = more further e (octets_begin wanted dump old further octets is so_far)

paths_of_rows : (lines : List PathLine) → row_paths (map row_of lines) ≡ map (λ line. line.path) lines
paths_of_rows [] = refl
paths_of_rows (line ∷ lines) = ap (λ (t : List (List ℕ)). line.path ∷ t) (paths_of_rows lines)

-- what dumps give on top of a result begins with its paths
pub rows_begin : (earlier : ResultFile) (limit : ℕ) (wanted : Wanted) (many : ℕ) (old new : Taken) → old ≡ taken_up earlier limit → IsOfSomeDumps wanted many old new
    → BeginsWithPathsOf (row_paths new.table.rows) earlier
rows_begin earlier limit wanted many old new same some =
    let start : Begins (its_paths earlier) old.table.rows =
    subst (λ (t : Taken). Begins (its_paths earlier) t.table.rows) (sym same) ([], paths_of_rows earlier.paths ∙ sym (append-nil (its_paths earlier))) in
    let all = dumps_begin (its_paths earlier) wanted 1 old new some.0 some.2 start in
    let many_paths : length (its_paths earlier) ≡ length earlier.paths = length-map earlier.paths (λ line. line.path) in
    ap (take (length earlier.paths)) all.1
    ∙ take-append-le (length earlier.paths) (its_paths earlier) all.0 (omega (arith, many_paths))
    ∙ take_all (length earlier.paths) (its_paths earlier) (omega (arith, many_paths))

pub rows_begun : (settings : Settings) (earlier : ResultFile) (rest : Rest) (taken : Taken) → IsBegun settings earlier rest taken → BeginsWithPathsOf (row_paths taken.table.rows) earlier
rows_begun settings earlier rest taken begun =
    subst (λ (t : Taken). BeginsWithPathsOf (row_paths t.table.rows) earlier) (sym begun.begun)
    (ap (take (length earlier.paths)) (paths_of_rows earlier.paths) ∙
    take_all (length earlier.paths) (its_paths earlier) (let many : length (its_paths earlier) ≡ length earlier.paths = length-map earlier.paths (λ line. line.path) in omega (arith, many)))

-- as many fates are left of a result as it has paths
pub fates_left : (old : ResultFile) (rest : Rest) → IsRestOf old rest → length rest.fates ≡ length old.paths
fates_left old rest left = ap length left.fates ∙ length-map old.paths (λ (p : PathLine). p.fate)

-- so the paths behind these are those behind its paths
pub joined_paths : (settings : Settings) (old : ResultFile) (rest : Rest) (taken : Taken) (first : ℕ) (paths : List Counted) → first ≡ length rest.fates
    → paths ≡ ordered_behind settings.order first taken.table.rows → IsRestOf old rest → paths ≡ paths_joined settings old taken
joined_paths settings old rest taken first paths many are left =
    are ∙ ap (λ n. ordered_behind settings.order n taken.table.rows) (many ∙ fates_left old rest left)

-- the result of paths on top of what is left of one, where more is known
pub result_on_is : {E : Type 0} (top : Option (List ℕ)) (ratio : ℕ) (earlier rest : Rest) (paths : List Counted) (counts : CauseCounts) (r : Result ResultFile E)
    → ((old : ResultFile) → IsRestOf old earlier → BeginsWithPathsOf (row_paths paths) old → KnowsFurther top (row_paths paths) old rest)
    → IfOk r (IsResultWith rest.givens rest.sets ratio paths counts)
    → IfOk r (λ file. (old : ResultFile) → IsRestOf old rest → BeginsWithPathsOf (row_paths paths) old → Continues old file)
    → IfOk r (λ file. (old : ResultFile) → IsRestOf old earlier → BeginsWithPathsOf (row_paths paths) old → IsResultOn top ratio old paths counts file)
result_on_is top ratio earlier rest paths counts (Err e) knows is goes = tt
result_on_is top ratio earlier rest paths counts (Ok file) knows is goes = λ old left begins.
    let further = knows old left begins in (
      subst (λ (sets : Sets). IsResultWith (known_on top old (row_paths paths)) sets ratio paths counts file) further.sets
          (subst (λ (known : Option (List Given)). IsResultWith known rest.sets ratio paths counts file) further.givens is),
      goes (knowing (known_on top old (row_paths paths)) old) further begins,
    )

-- the result of dumps on top of what is left of one, by the parts of both
pub resumed_is : {E : Type 0} (settings : Settings) (rest : Rest) (taken : Taken) (first : ℕ) (paths : List Counted) (r : Result ResultFile E)
    → first ≡ length rest.fates → paths ≡ ordered_behind settings.order first taken.table.rows
    → IfOk r (λ file. (old : ResultFile) → IsRestOf old rest → BeginsWithPathsOf (row_paths paths) old → IsResultOn settings.top settings.ratio old paths taken.counts file)
    → IfOk r (λ file. (old : ResultFile) → IsRestOf old rest → BeginsWithPathsOf (row_paths taken.table.rows) old → IsResumed settings old taken file)
resumed_is settings rest taken first paths (Err e) many are is = tt
resumed_is settings rest taken first paths (Ok file) many are is = λ old left begins.
    let same = joined_paths settings old rest taken first paths many are left in
    subst (λ (rows : List Counted). IsResultOn settings.top settings.ratio old rows taken.counts file) same
    (is old left (subst (λ (rows : List Counted). BeginsWithPathsOf (row_paths rows) old) (sym same) (begin_too settings.order old taken.table.rows begins)))

-- ---- what is taken up

pub begun_is : (earlier : ResultFile) (limit : ℕ) (table : Table) (counts : CauseCounts) (files : List FileCounts) → table.limit ≡ limit → table.rows ≡ its_rows earlier
    → counts ≡ earlier.asides → files ≡ [] → record { table = table; counts = counts; files = files } ≡ taken_up earlier limit
begun_is earlier limit table counts files same rows asides none =
    ap (λ (n : ℕ). made n table.rows counts files) same ∙ ap (λ (r : List Counted). made limit r counts files) rows
    ∙ ap (λ (c : CauseCounts). made limit (its_rows earlier) c files) asides ∙ ap (λ (f : List FileCounts). made limit (its_rows earlier) earlier.asides f) none
  where
    made : ℕ → List Counted → CauseCounts → List FileCounts → Taken
    made n r c f = record { table = record { limit = n; rows = r }; counts = c; files = f }

pub few_where_ok : {X E : Type 0} (x : X) (e : E) (n m : ℕ) → (◌≡◌ {A = Result X E} (Ok x) (Err e)) ↔ (n < m) → m ≤ n
few_where_ok {X = X} {E = E} x e n m h = elim (cases_order n m) [
  | inl same ↦ omega (arith, same)
  | inr o ↦ elim o [
    | inl lt ↦ absurd (no (h.1 lt))
    | inr gt ↦ omega (arith, gt)
  ]
]
  where
    no : ◌≡◌ {A = Result X E} (Ok x) (Err e) → ⊥
    no is = cc

-- where it has no more paths than may be the dumps are read, and else that limit is met
joined_few : (earlier : ResultFile) (limit : ℕ) (dumps : List (List ℕ)) (files : Files) → length earlier.paths ≤ limit
    → joined earlier limit dumps files ≡ seen_from (all_wanted earlier.sets) 1 (taken_up earlier limit) dumps files
joined_few earlier limit dumps files few = rw (le-ltb limit (length earlier.paths) few) refl

joined_many : (earlier : ResultFile) (limit : ℕ) (dumps : List (List ℕ)) (files : Files) → limit < length earlier.paths → joined earlier limit dumps files ≡ Err (Limit Paths 0)
joined_many earlier limit dumps files many = rw (lt-ltb limit (length earlier.paths) many) refl

-- what is taken up gives under these dumps what is joined
on_top : (earlier : ResultFile) (wanted : Wanted) (limit : ℕ) (old : Taken) (read dumps : List (List ℕ)) (files : Files) (to : Result Taken DumpsEnd) → wanted ≡ all_wanted earlier.sets
    → length earlier.paths ≤ limit → old ≡ taken_up earlier limit → read ≡ dumps → seen_from wanted 1 old read files ≡ to → joined earlier limit dumps files ≡ to
on_top earlier wanted limit old read dumps files to its few same names is =
    joined_few earlier limit dumps files few ∙ ap (λ (t : Taken). seen_from (all_wanted earlier.sets) 1 t dumps files) (sym same)
    ∙ ap (λ (ds : List (List ℕ)). seen_from (all_wanted earlier.sets) 1 old ds files) (sym names) ∙ ap (λ (x : Wanted). seen_from x 1 old read files) (sym its) ∙ is

-- ---- what is written

-- the text of the result of both, and its summary
pub text_on : {E : Type 0} (settings : Settings) (rest : Rest) (taken : Taken) (file : ResultFile) (r : Result Output E)
    → ((old : ResultFile) → IsRestOf old rest → BeginsWithPathsOf (row_paths taken.table.rows) old → IsResumed settings old taken file) → IfOk r (λ o. IsTextOf file (written o).text)
    → IfOk r (λ o. (written o).note ≡ summary file ++ 10 ∷ [])
    → IfOk r (λ o. (old : ResultFile) → IsRestOf old rest → BeginsWithPathsOf (row_paths taken.table.rows) old → IsOutputOn settings old taken (written o))
text_on settings rest taken file (Ok o) resumed text note = λ old left begins. (file, resumed old left begins, text, note)
text_on settings rest taken file (Err e) resumed text note = tt

module _ (settings : Settings) (earlier : ResultFile) (rest : Rest) (old : Taken) (read : List (List ℕ)) (begun : IsBegun settings earlier rest old) (names : read ≡ (dumps_in settings)) where
  abbrev few : length earlier.paths ≤ settings.max_paths
  few = begun.room

  abbrev same : old ≡ taken_up earlier settings.max_paths
  same = begun.begun

  pub joined_made : (known : Option Files) (new : Taken) (output : Written) → IfSome known (λ files. seen_from (all_wanted rest.sets) 1 old read files ≡ Ok new) → IsOutputOn settings earlier new output
      → IfSome known (λ files. IsOutputOnEarlier settings earlier files output)
  joined_made None new output is m = tt
  joined_made (Some files) new output is m = (new, on_top earlier (all_wanted rest.sets) settings.max_paths old read (dumps_in settings) files (Ok new) (ap all_wanted begun.left.sets) few same names is, m)

  pub joined_some : (new : Taken) (output : Written) → IsOfSomeDumps (all_wanted rest.sets) (length read) old new → AreTableRows new.table.rows → IsOutputOn settings earlier new output
      → IsOutputOnSome settings earlier output
  joined_some new output some rows m = (
    new,
    few,
    subst (λ (t : Taken). IsOfSomeDumps (all_wanted earlier.sets) (length (dumps_in settings)) t new) same
        (subst (λ (ds : List (List ℕ)). IsOfSomeDumps (all_wanted earlier.sets) (length ds) old new) names
        (subst (λ (x : Sets). IsOfSomeDumps (all_wanted x) (length read) old new) begun.left.sets some)),
    rows,
    m,
  )

  -- ---- why there is nothing

  on_end : (known : Option Files) (end : DumpsEnd) → IfSome known (λ files. seen_from (all_wanted rest.sets) 1 old read files ≡ Err end)
      → IfSome known (λ files. joined earlier settings.max_paths (dumps_in settings) files ≡ Err end)
  on_end None end is = tt
  on_end (Some files) end is = on_top earlier (all_wanted rest.sets) settings.max_paths old read (dumps_in settings) files (Err end) (ap all_wanted begun.left.sets) few same names is

  before_end : (known : Option Files) (d : ℕ) → IfSome known (λ files. IsOk (seen_from (all_wanted rest.sets) 1 old (take (d - 1) read) files))
      → IfSome known (λ files. IsOk (joined earlier settings.max_paths (take (d - 1) (dumps_in settings)) files))
  before_end None d is = tt
  before_end (Some files) d is =
      subst (λ (r : Result Taken DumpsEnd). IsOk r)
      (sym (on_top earlier (all_wanted rest.sets) settings.max_paths old (take (d - 1) read) (take (d - 1) (dumps_in settings)) files (seen_from (all_wanted rest.sets) 1 old (take (d - 1) read) files) (ap all_wanted begun.left.sets) few same
      (ap (take (d - 1)) names) refl)) is

  pub joined_refused : (known : Option Files) (steady : Type 0) (stopped : Stopped)
      → IfSome (end_named stopped.dump stopped.error) (λ end. IfSome known (λ files. seen_from (all_wanted rest.sets) 1 old read files ≡ Err end))
      → (1 ≤ stopped.dump) × (stopped.dump ≤ length read) → IfSome known (λ files. IsOk (seen_from (all_wanted rest.sets) 1 old (take (stopped.dump - 1) read) files))
      → (steady → stopped.error ≡ error.ReadFault → IfSome known (λ files. seen_from (all_wanted rest.sets) 1 old read files ≡ Err (Absent stopped.dump)))
      → IsStopAt (joined earlier settings.max_paths) (dumps_in settings) known steady (refusal.Dumps stopped)
  joined_refused known steady stopped ends named before absent = by stopped.error refl ends
    where
      by : (e : DumpError) → stopped.error ≡ e → IfSome (end_named stopped.dump e) (λ end. IfSome known (λ files. seen_from (all_wanted rest.sets) 1 old read files ≡ Err end))
          → StopsAt (joined earlier settings.max_paths) (dumps_in settings) known steady stopped.dump e
      by (error.Malformed place fault) is h = on_end known (Malformed place fault) h
      by (error.Limit kind) is h = on_end known (Limit kind stopped.dump) h
      by error.ReadFault is h = (
        named.0,
        subst (λ (ds : List (List ℕ)). stopped.dump ≤ length ds) names named.1,
        before_end known stopped.dump before,
        λ held. on_end known (Absent stopped.dump) (absent held is),
      )
      by error.NoMemory is h = tt

-- so far what it read
pub joined_reach : (settings : Settings) (dumps : List (List ℕ)) (known : Option Files) (left : Option (List ℕ)) (r : Refusal) → dumps_in settings ≡ dumps
    → StopsDumpsInReach dumps known left r → StopsInReach settings known left r
joined_reach settings dumps known left (refusal.Words w) these h = tt
joined_reach settings dumps known left (refusal.Dumps stopped) these h =
    inr (by_sample (sample_of settings.job) tt (subst (λ (ds : List (List ℕ)). StopsDumpsInReach ds known left (refusal.Dumps stopped)) (sym these) h))
joined_reach settings dumps known left refusal.NoMemory these h = tt

-- it has more paths than may be, or memory ran out
module _ (settings : Settings) (earlier : ResultFile) (r : Refusal) (why : ((r ≡ past_limit) × (settings.max_paths < length earlier.paths)) ⊎ (r ≡ refusal.NoMemory)) where
  pub past_refused : (known : Option Files) (steady : Type 0) → IsStopAt (joined earlier settings.max_paths) (dumps_in settings) known steady r
  past_refused known steady = by why
    where
      many : (o : Option Files) → settings.max_paths < length earlier.paths → IfSome o (λ files. joined earlier settings.max_paths (dumps_in settings) files ≡ Err (Limit Paths 0))
      many None lt = tt
      many (Some files) lt = joined_many earlier settings.max_paths (dumps_in settings) files lt

      by : ((r ≡ past_limit) × (settings.max_paths < length earlier.paths)) ⊎ (r ≡ refusal.NoMemory) → IsStopAt (joined earlier settings.max_paths) (dumps_in settings) known steady r
      by (inl past) = subst (λ (q : Refusal). IsStopAt (joined earlier settings.max_paths) (dumps_in settings) known steady q) (sym past.0) (many known past.1)
      by (inr is) = subst (λ (q : Refusal). IsStopAt (joined earlier settings.max_paths) (dumps_in settings) known steady q) (sym is) tt

  pub past_reach : (known : Option Files) (left : Option (List ℕ)) → IsTakenUp (first_in settings) → IsAtEnd left → StopsInReach settings known left r
  past_reach known left up at_end = by why
    where
      by : ((r ≡ past_limit) × (settings.max_paths < length earlier.paths)) ⊎ (r ≡ refusal.NoMemory) → StopsInReach settings known left r
      by (inl past) =
          subst (λ (q : Refusal). StopsInReach settings known left q) (sym past.0) (inl (up, refl, refl, at_end))
      by (inr is) = subst (λ (q : Refusal). StopsInReach settings known left q) (sym is) tt

  pub past_calm : IsReadFault r → ⊥
  past_calm = by why
    where
      none : error.Limit Paths ≡ error.ReadFault → ⊥
      none e = absurd cc

      by : ((r ≡ past_limit) × (settings.max_paths < length earlier.paths)) ⊎ (r ≡ refusal.NoMemory) → IsReadFault r → ⊥
      by (inl past) failed = none (subst (λ (q : Refusal). IsReadFault q) past.0 failed)
      by (inr is) failed = absurd (subst (λ (q : Refusal). IsReadFault q) is failed)

-- ---- what is gained

-- a result that is taken up is no list of what is known, and is not held alone
not_known : {X : Type 0} (f : First) (files : Files) (known : Option KnownLines) → IsTakenUp f → AreGivens f files known → X
not_known Nothing files known up are = absurd up
not_known (Givens name) files known up are = absurd up
not_known (ResultAt name) files known up are = absurd up
not_known (Earlier name) files known up are = absurd are

not_held : {X : Type 0} (f : First) (files : Files) (file : ResultFile) → IsTakenUp f → HoldsResult f files file → X
not_held Nothing files file up held = absurd up
not_held (Givens name) files file up held = absurd up
not_held (ResultAt name) files file up held = absurd up
not_held (Earlier name) files file up held = absurd held

pub gains_resumed : BoundsLaw → (words : List (List ℕ)) (files : Files) (old new : Option (List ℕ)) (note : List ℕ) → AsksToResume words → GainsOutput words files old new note
    → GainsResumed words files old new
gains_resumed bounds words files old new note asks gains =
    by gains.asked.outcome gains.asked.comes gains.asked.written
    (subst (λ (s : Settings). IsTakenUp (first_in s)) (values.some_is (settings_given words) asks.0 gains.asked.settings asks.1 gains.asked.given) asks.2)
  where
    by : (x : Outcome) → ComesTo gains.asked.settings files x → IsOutput gains.asked.settings x gains.output → IsTakenUp (first_in gains.asked.settings) → GainsResumed words files old new
    by (Reads known taken) comes is up = not_known (first_in gains.asked.settings) files known up comes.0
    by (Joins earlier taken) comes is up = record {
      settings = gains.asked.settings;
      given = gains.asked.given;
      earlier = earlier;
      takes_up = comes.0;
      taken = taken;
      file = is.0;
      resumed = is.1;
      text = gains.output.text;
      is_text = is.2;
      gained = gains.gained;
      of_both = of_both gains.asked.settings files earlier taken is.0 (bounds words gains.asked.settings gains.asked.given).most comes.1 is.1;
    }
    by (Holds file) comes is up = not_held (first_in gains.asked.settings) files file up comes
    by (Stops end) comes is up = absurd is
    by (Ends end) comes is up = absurd is
