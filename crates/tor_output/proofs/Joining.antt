-- What dumps give on top of a result of other dumps is what all these dumps give, one after the other.
use Rattle.std.proofs.Common.{◌≡◌, ◌≤◌, ℕ, ◌+◌, Bool, true, false, List, [], ◌∷◌, ◌++◌, length, Option, Some, None, Result, Ok, Err, if◌then◌else◌, refl, sym, ap, ap₂, map, ◌∙◌, arith}
use Rattle.std.specs.Prelude.{nat_lt}
use Rattle.std.proofs.lemmas.Bool.{ltb-false}
use Rattle.std.proofs.lemmas.List.{length-map}
use Rattle.path_attrs.specs.Fields.{◌>>=◌}
use Rattle.path_clean.specs.declared.cleaned.Sets.{Sets}
use Rattle.path_clean.specs.Clean.{clean_of}
use Rattle.path_clean.specs.Counts.{CauseCounts}
use Rattle.path_table.specs.Rows.{Counted}
use Rattle.tor_arena.specs.Limits.{max_paths}
use Rattle.tor_io.specs.Contents.{Files}
use Rattle.dump_read.specs.declared.error.LimitKind.{LimitKind}
use Rattle.dump_read.specs.declared.error.LimitKind.TheVariants.{Paths}
use Rattle.dump_read.specs.declared.file_counts.FileCounts.{FileCounts}
use Rattle.dump_read.specs.declared.taking.Taken.{Taken}
use Rattle.dump_read.specs.Files.{file_counts}
use Rattle.dump_read.specs.Routes.{Route}
use Rattle.dump_read.specs.Seen.{DumpsEnd, Limit, of_file, of_octets}
use Rattle.dump_read.specs.Taking.{take_route, take_routes, Takes}
use Rattle.dump_read.proofs.LimitLemmas.{same_limit}
use Rattle.dump_read.proofs.TakingLemmas as taking
use Rattle.result_text.specs.declared.file.ResultFile.{ResultFile}
use Rattle.result_rules.specs.Against.{its_rows, row_of}
use Rattle.run_base.specs.Reading.{nothing, seen_from, seen_of}
use Rattle.tor_output.specs.Resuming.{Hold}
use Rattle.tor_output.specs.Seen.{joined, taken_up}
use Rattle.tor_output.proofs.ReadableLemmas.{beside, routes_beside, one_seen, one_taken}
use Rattle.tor_output.proofs.SeenLemmas.{same, adds}
use Rattle.tor_output.proofs.WiderLimit.{widened, all_files}
use Rattle.dump_read.specs.declared.wanted.Wanted.{Wanted}
use Rattle.dump_read.specs.Wanted.{all_wanted, file_routes}

-- ---- the counts of files and the numbers of dumps play no part

file_beside : (wanted : Wanted) (dump later : ℕ) (counts : List FileCounts) (old new : Taken) (file : Option (List ℕ)) → of_file wanted dump old file ≡ Ok new
    → (more : List FileCounts) × (of_file wanted later (beside counts old) file ≡ Ok (beside more new))
file_beside wanted dump later counts old new None e = absurd cc
file_beside wanted dump later counts old new (Some octets) e =
    let is = one_taken wanted dump octets old new e in
    let more : List FileCounts = counts ++ file_counts wanted octets ∷ [] in (
      more,
      one_seen wanted later octets (beside counts old) (beside counts is.all) (adds wanted dump octets old new e).whole
          (routes_beside wanted.sets counts (file_routes wanted octets) old is.all is.takes) ∙ ap (λ (t : Taken). Ok (beside more t)) is.same,
    )

pub files_beside : (wanted : Wanted) (dump later : ℕ) (counts : List FileCounts) (old new : Taken) (names : List (List ℕ)) (files : Files)
    → seen_from wanted dump old names files ≡ Ok new → (more : List FileCounts) × (seen_from wanted later (beside counts old) names files ≡ Ok (beside more new))
files_beside wanted dump later counts old new [] files e = (counts, ap (λ (t : Taken). Ok (beside counts t)) (same old new e))
files_beside wanted dump later counts old new (name ∷ names) files e =
    by (of_file wanted dump old (files name)) refl e (λ behind further. files_beside wanted (dump + 1) (later + 1) behind further new names files)
  where
    by : (one : Result Taken DumpsEnd) → of_file wanted dump old (files name) ≡ one → (one >>= λ further. seen_from wanted (dump + 1) further names files) ≡ Ok new
        → ((behind : List FileCounts) (further : Taken) → seen_from wanted (dump + 1) further names files ≡ Ok new
        → (more : List FileCounts) × (seen_from wanted (later + 1) (beside behind further) names files ≡ Ok (beside more new)))
        → (more : List FileCounts) × ((of_file wanted later (beside counts old) (files name) >>= λ further. seen_from wanted (later + 1) further names files) ≡ Ok (beside more new))
    by (Err end) is e ih = absurd cc
    by (Ok further) is e ih =
        let here = file_beside wanted dump later counts old further (files name) is in
        let rest = ih here.0 further e in
        (rest.0, rw here.1 rest.1)

-- ---- the limit stays

routes_limit : (sets : Sets) (routes : List Route) (old new : Taken) → Takes sets old routes new → new.table.limit ≡ old.table.limit
unfolding take_routes
routes_limit sets [] old new e = ap (λ (t : Taken). t.table.limit) (sym (taking.same_ok old new e))
routes_limit sets (route ∷ routes) old new e = by (take_route sets old route) refl e (λ further. routes_limit sets routes further new)
  where
    by : (one : Result Taken LimitKind) → take_route sets old route ≡ one → (one >>= λ further. take_routes sets further routes) ≡ Ok new
        → ((further : Taken) → Takes sets further routes new → new.table.limit ≡ further.table.limit) → new.table.limit ≡ old.table.limit
    by (Ok further) is e rest = rest further e ∙ same_limit old further (clean_of sets route.width route.attrs) is
    by (Err kind) is e rest = absurd cc

file_limit : (wanted : Wanted) (dump : ℕ) (old new : Taken) (file : Option (List ℕ)) → of_file wanted dump old file ≡ Ok new → new.table.limit ≡ old.table.limit
file_limit wanted dump old new None e = absurd cc
file_limit wanted dump old new (Some octets) e =
    let is = one_taken wanted dump octets old new e in
    ap (λ (t : Taken). t.table.limit) (sym is.same) ∙ routes_limit wanted.sets (file_routes wanted octets) old is.all is.takes

pub files_limit : (wanted : Wanted) (dump : ℕ) (old new : Taken) (names : List (List ℕ)) (files : Files) → seen_from wanted dump old names files ≡ Ok new
    → new.table.limit ≡ old.table.limit
files_limit wanted dump old new [] files e = ap (λ (t : Taken). t.table.limit) (sym (same old new e))
files_limit wanted dump old new (name ∷ names) files e =
    by (of_file wanted dump old (files name)) refl e (λ further. files_limit wanted (dump + 1) further new names files)
  where
    by : (one : Result Taken DumpsEnd) → of_file wanted dump old (files name) ≡ one → (one >>= λ further. seen_from wanted (dump + 1) further names files) ≡ Ok new
        → ((further : Taken) → seen_from wanted (dump + 1) further names files ≡ Ok new → new.table.limit ≡ further.table.limit) → new.table.limit ≡ old.table.limit
    by (Err end) is e rest = absurd cc
    by (Ok further) is e rest = rest further e ∙ file_limit wanted dump old further (files name) is

-- ---- dumps behind others

-- some number of the first of them, from which on they give the same as all from this one on
pub behind : (wanted : Wanted) (dump : ℕ) (old mid : Taken) (names dumps : List (List ℕ)) (files : Files) → seen_from wanted dump old names files ≡ Ok mid
    → (later : ℕ) × (seen_from wanted dump old (names ++ dumps) files ≡ seen_from wanted later mid dumps files)
behind wanted dump old mid [] dumps files e = (dump, ap (λ (t : Taken). seen_from wanted dump t dumps files) (same old mid e))
behind wanted dump old mid (name ∷ names) dumps files e =
    by (of_file wanted dump old (files name)) refl e (λ further. behind wanted (dump + 1) further mid names dumps files)
  where
    by : (one : Result Taken DumpsEnd) → of_file wanted dump old (files name) ≡ one → (one >>= λ further. seen_from wanted (dump + 1) further names files) ≡ Ok mid
        → ((further : Taken) → seen_from wanted (dump + 1) further names files ≡ Ok mid
        → (later : ℕ) × (seen_from wanted (dump + 1) further (names ++ dumps) files ≡ seen_from wanted later mid dumps files))
        → (later : ℕ) × ((one >>= λ further. seen_from wanted (dump + 1) further (names ++ dumps) files) ≡ seen_from wanted later mid dumps files)
    by (Err end) is e rest = absurd cc
    by (Ok further) is e rest = rest further e

-- ---- on top of a result

-- the result has no more paths than may be, and the dumps are read on top of it
pub joins : (earlier : ResultFile) (limit : ℕ) (dumps : List (List ℕ)) (files : Files) (taken : Taken) → joined earlier limit dumps files ≡ Ok taken
    → (length earlier.paths ≤ limit) × (seen_from (all_wanted earlier.sets) 1 (taken_up earlier limit) dumps files ≡ Ok taken)
joins earlier limit dumps files taken e = by (nat_lt limit (length earlier.paths)) refl e
  where
    by : (b : Bool) → nat_lt limit (length earlier.paths) ≡ b
        → (if b then Err (Limit Paths 0) else seen_from (all_wanted earlier.sets) 1 (taken_up earlier limit) dumps files) ≡ Ok taken
        → (length earlier.paths ≤ limit) × (seen_from (all_wanted earlier.sets) 1 (taken_up earlier limit) dumps files ≡ Ok taken)
    by true is e = absurd cc
    by false is e = (ltb-false limit (length earlier.paths) is, e)

-- what was taken in, from its parts
abbrev made : ℕ → List Counted → CauseCounts → List FileCounts → Taken
made limit rows counts files = record { table = record { limit = limit; rows = rows }; counts = counts; files = files }

pub made_of : (before : Taken) (earlier : ResultFile) (limit : ℕ) → before.table.limit ≡ limit → before.table.rows ≡ its_rows earlier → before.counts ≡ earlier.asides
    → before ≡ beside before.files (taken_up earlier limit)
made_of before earlier limit same rows counts =
    ap (λ n. made n before.table.rows before.counts before.files) same
    ∙ ap (λ (r : List Counted). made limit r before.counts before.files) rows
    ∙ ap (λ (c : CauseCounts). made limit (its_rows earlier) c before.files) counts

-- the same under a limit that is no less
pub wider : (earlier : ResultFile) (limit most : ℕ) (dumps : List (List ℕ)) (files : Files) (taken : Taken) → limit ≤ most → joined earlier limit dumps files ≡ Ok taken
    → seen_from (all_wanted earlier.sets) 1 (taken_up earlier most) dumps files ≡ Ok (widened most taken)
wider earlier limit most dumps files taken less joins_to =
    let joining = joins earlier limit dumps files taken joins_to in
    all_files limit most (all_wanted earlier.sets) 1 (taken_up earlier limit) taken dumps files
    (record { same = refl; few = omega (arith, joining.0, length-map earlier.paths row_of); less = less }) joining.1

-- where the first dumps give what the result holds, all give what further ones give on top of it, under a limit that is no greater
pub dumps_of_both : (earlier : ResultFile) (limit : ℕ) (names dumps : List (List ℕ)) (files : Files) (before taken : Taken) → limit ≤ max_paths
    → seen_from (all_wanted earlier.sets) 1 (nothing max_paths) names files ≡ Ok before → before.table.rows ≡ its_rows earlier → before.counts ≡ earlier.asides
    → joined earlier limit dumps files ≡ Ok taken
    → (after : Taken) × (seen_from (all_wanted earlier.sets) 1 (nothing max_paths) (names ++ dumps) files ≡ Ok after) × (after.table.rows ≡ taken.table.rows) × (after.counts ≡ taken.counts)
dumps_of_both earlier limit names dumps files before taken few gives rows counts joins_to =
    let wide = wider earlier limit max_paths dumps files taken few joins_to in
    let on = behind (all_wanted earlier.sets) 1 (nothing max_paths) before names dumps files gives in
    let same_before = made_of before earlier max_paths (files_limit (all_wanted earlier.sets) 1 (nothing max_paths) before names files gives) rows counts in
    let more = files_beside (all_wanted earlier.sets) 1 on.0 before.files (taken_up earlier max_paths) (widened max_paths taken) dumps files wide in
    (beside more.0 (widened max_paths taken), on.1 ∙ ap (λ (t : Taken). seen_from (all_wanted earlier.sets) on.0 t dumps files) same_before ∙ more.1, refl, refl)

-- ---- dumps by their octets

-- what dumps give is what their octets give, under whatever names
pub seen_by : (wanted : Wanted) (dump : ℕ) (taken : Taken) (names others : List (List ℕ)) (files later : Files) → map files names ≡ map later others
    → seen_from wanted dump taken names files ≡ seen_from wanted dump taken others later
seen_by wanted dump taken [] [] files later same = refl
seen_by wanted dump taken [] (other ∷ others) files later same = absurd cc
seen_by wanted dump taken (name ∷ names) [] files later same = absurd cc
seen_by wanted dump taken (name ∷ names) (other ∷ others) files later same =
    ap (λ (f : Option (List ℕ)). of_file wanted dump taken f >>= λ further. seen_from wanted (dump + 1) further names files) (first same)
    ∙ bound (of_file wanted dump taken (later other)) (λ further. seen_by wanted (dump + 1) further names others files later (rest same))
  where
    first : map files (name ∷ names) ≡ map later (other ∷ others) → files name ≡ later other
    first e = cc

    rest : map files (name ∷ names) ≡ map later (other ∷ others) → map files names ≡ map later others
    rest e = cc

    bound : (r : Result Taken DumpsEnd) → ((t : Taken) → seen_from wanted (dump + 1) t names files ≡ seen_from wanted (dump + 1) t others later)
        → (r >>= λ t. seen_from wanted (dump + 1) t names files) ≡ (r >>= λ t. seen_from wanted (dump + 1) t others later)
    bound (Ok t) each = each t
    bound (Err end) each = refl

-- dumps that are named by their octets
pub by_octets : (wanted : Wanted) (dump : ℕ) (taken : Taken) (dumps : List (List ℕ)) → seen_from wanted dump taken dumps Some ≡ seen_of wanted dump taken dumps
by_octets wanted dump taken [] = refl
by_octets wanted dump taken (octets ∷ rest) = bound (of_octets wanted dump taken octets) (λ t. by_octets wanted (dump + 1) t rest)
  where
    bound : (r : Result Taken DumpsEnd) → ((t : Taken) → seen_from wanted (dump + 1) t rest Some ≡ seen_of wanted (dump + 1) t rest)
        → (r >>= λ t. seen_from wanted (dump + 1) t rest Some) ≡ (r >>= λ t. seen_of wanted (dump + 1) t rest)
    bound (Ok t) each = each t
    bound (Err end) each = refl

-- files that have these octets give what these give
pub held : (wanted : Wanted) (dump : ℕ) (taken : Taken) (names dumps : List (List ℕ)) (files : Files) → Hold files names dumps
    → seen_from wanted dump taken names files ≡ seen_of wanted dump taken dumps
held wanted dump taken names dumps files hold = seen_by wanted dump taken names dumps files Some hold ∙ by_octets wanted dump taken dumps

-- dumps that are all taken in have octets
pub octets_of : (wanted : Wanted) (dump : ℕ) (old new : Taken) (names : List (List ℕ)) (files : Files) → seen_from wanted dump old names files ≡ Ok new
    → (dumps : List (List ℕ)) × Hold files names dumps
octets_of wanted dump old new [] files e = ([], refl)
octets_of wanted dump old new (name ∷ names) files e =
    by (files name) refl e (λ further. octets_of wanted (dump + 1) further new names files)
  where
    by : (file : Option (List ℕ)) → files name ≡ file → (of_file wanted dump old file >>= λ further. seen_from wanted (dump + 1) further names files) ≡ Ok new
        → ((further : Taken) → seen_from wanted (dump + 1) further names files ≡ Ok new → (dumps : List (List ℕ)) × Hold files names dumps)
        → (dumps : List (List ℕ)) × Hold files (name ∷ names) dumps
    by None is e rest = absurd cc
    by (Some octets) is e rest = taken_in (of_octets wanted dump old octets) e
      where
        taken_in : (one : Result Taken DumpsEnd) → (one >>= λ further. seen_from wanted (dump + 1) further names files) ≡ Ok new
            → (dumps : List (List ℕ)) × Hold files (name ∷ names) dumps
        taken_in (Err end) e = absurd cc
        taken_in (Ok further) e =
            let more = rest further e in
            (octets ∷ more.0, ap₂ (λ (f : Option (List ℕ)) (fs : List (Option (List ℕ))). f ∷ fs) is more.1)

-- on top of a result they give the same, too
pub joined_by : (earlier : ResultFile) (limit : ℕ) (names dumps : List (List ℕ)) (files : Files) → Hold files names dumps
    → joined earlier limit names files ≡ joined earlier limit dumps Some
joined_by earlier limit names dumps files hold =
    ap (λ (r : Result Taken DumpsEnd). if nat_lt limit (length earlier.paths) then Err (Limit Paths 0) else r)
    (seen_by (all_wanted earlier.sets) 1 (taken_up earlier limit) names dumps files Some hold)
