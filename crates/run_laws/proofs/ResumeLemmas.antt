-- The result of dumps on top of an earlier one is that of one run over all of them, and a checker accepts it.
use Rattle.std.proofs.Common.{◌≡◌, ◌≤◌, ℕ, ◌+◌, true, false, List, [], ◌∷◌, ◌++◌, length, map, IsPermutation, Option, Some, None, Ok, inl, inr, refl, sym, ap, ap₂, subst, ◌∙◌, arith}
use Rattle.std.proofs.lemmas.List.{map-append}
use Rattle.std.proofs.lemmas.Bool.{cases_order}
use Rattle.path_clean.specs.declared.cleaned.Sets.{Sets}
use Rattle.path_clean.specs.Counts.{CauseCounts}
use Rattle.path_table.specs.Rows.{Counted, row_paths}
use Rattle.path_order.specs.declared.choice.Order.{Order}
use Rattle.path_order.specs.declared.choice.Order.TheVariants.{Seen}
use Rattle.path_order.specs.Orders.{ordered, ordered_behind}
use Rattle.tor_arena.specs.Limits.{max_paths}
use Rattle.tor_io.specs.Contents.{Files}
use Rattle.relationships.specs.declared.given.Given.{Given}
use Rattle.dump_read.specs.declared.taking.Taken.{Taken}
use Rattle.result_text.specs.declared.file.ResultFile.{ResultFile}
use Rattle.rel_infer.specs.GivenResults.{IsResultWith}
use Rattle.rel_infer.specs.SelfAcceptance.{SelfAcceptanceLaw}
use Rattle.rel_infer.proofs.OneGivenResult.{given_result_law}
use Rattle.run_base.specs.Reading.{nothing, seen_from, seen_of}
use Rattle.run_base.proofs.Values as values
use Rattle.tor_words.specs.declared.settings.Settings.{Settings}
use Rattle.tor_words.specs.Given.{BoundsLaw, dumps_in}
use Rattle.result_file.specs.Ruled.{IsAccepted}
use Rattle.torcheck_run.specs.Judging.{seen_for}
use Rattle.result_file.proofs.OneRuling.{OneValue}
use Rattle.tor_output.specs.First.{first_in}
use Rattle.tor_output.specs.Knowing.{known_on}
use Rattle.tor_output.specs.Output.{IsResumed, known_for, known_joined, paths_joined, paths_taken}
use Rattle.tor_output.specs.Seen.{joined, taken_up}
use Rattle.tor_output.specs.Resuming.{Hold, IsOfBoth, IsOfDumps, IsOfDumpsInSomeOrder}
use Rattle.tor_output.proofs.Joining.{behind, by_octets, dumps_of_both, files_beside, held, joined_by, made_of, octets_of, seen_by, wider}
use Rattle.tor_output.proofs.ReadableLemmas.{beside}
use Rattle.tor_output.proofs.WiderLimit.{widened, all_files}
use Rattle.run_laws.specs.Agreement.{IsAgreedOn}
use Rattle.run_laws.specs.ResumeLaws.{AreSameButEvidence, IsAsOfOneRun, OfDumpsLaw, ResumeLaw, InPartsLaw, ResumedAcceptanceLaw}
use Rattle.run_laws.proofs.Agreeing.{agreed_alone, agreed_beside, sees}
use Rattle.run_laws.proofs.AgreeingInAnyOrder.{agreed_in_any_order, of_its_dumps}
use Rattle.run_laws.proofs.JoinedResults.{is_accepted, joined_vouched}
use Rattle.tor_output.proofs.JoinedRows.{joined_rows}
use Rattle.tor_output.proofs.Orderings.{joined_rows_too}
use Rattle.tor_output.proofs.SomeOrders.{of_both}
use Rattle.dump_read.specs.declared.wanted.Wanted.{Wanted}
use Rattle.dump_read.specs.Wanted.{all_wanted}

-- ---- what is determined

same_results : (known : Option (List Given)) (sets : Sets) (ratio : ℕ) (rows : List Counted) (counts : CauseCounts) (file other : ResultFile)
    → IsResultWith known sets ratio rows counts file → IsResultWith known sets ratio rows counts other → AreSameButEvidence file other
same_results known sets ratio rows counts file other is is' =
    let one = given_result_law known known sets ratio rows counts file other refl is is' in
    record {
      sets = is.its_sets ∙ sym is'.its_sets;
      ratio = is.its_ratio ∙ sym is'.its_ratio;
      asides = one.0;
      givens = is.its_givens ∙ sym is'.its_givens;
      rows = is.paths ∙ sym is'.paths;
      kept = one.1;
      edges = one.2;
      totals = one.3;
    }

-- of the same paths, counts, sets, ratio and givens
pub one_result : (known' known : Option (List Given)) (sets' sets : Sets) (ratio' ratio : ℕ) (rows' rows : List Counted) (counts' counts : CauseCounts) (file other : ResultFile)
    → known' ≡ known → sets' ≡ sets → ratio' ≡ ratio → rows' ≡ rows → counts' ≡ counts → IsResultWith known sets ratio rows counts file
    → IsResultWith known' sets' ratio' rows' counts' other → AreSameButEvidence file other
one_result known' known sets' sets ratio' ratio rows' rows counts' counts file other knows with_sets with_ratio of_rows of_counts is is' =
    same_results known sets ratio rows counts file other is
    (subst (λ (k : Option (List Given)). IsResultWith k sets ratio rows counts other) knows
    (subst (λ (s : Sets). IsResultWith known' s ratio rows counts other) with_sets
    (subst (λ (r : ℕ). IsResultWith known' sets' r rows counts other) with_ratio
    (subst (λ (rs : List Counted). IsResultWith known' sets' ratio' rs counts other) of_rows
    (subst (λ (cs : CauseCounts). IsResultWith known' sets' ratio' rows' cs other) of_counts is')))))

-- ---- paths that are taken as they were seen

taken_seen : (settings : Settings) (taken : Taken) → settings.order ≡ Seen → paths_taken settings taken ≡ taken.table.rows
taken_seen settings taken order = ap (λ (o : Order). ordered o taken.table.rows) order

no_top : (settings : Settings) (earlier : ResultFile) (taken : Taken) → settings.top ≡ None → known_joined settings earlier taken ≡ earlier.givens
no_top settings earlier taken none = ap (λ (t : Option (List ℕ)). known_on t earlier (row_paths (paths_joined settings earlier taken))) none

joined_seen : (settings : Settings) (earlier : ResultFile) (taken : Taken) → settings.order ≡ Seen → paths_joined settings earlier taken ≡ taken.table.rows
joined_seen settings earlier taken order = ap (λ (o : Order). ordered_behind o (length earlier.paths) taken.table.rows) order

-- ---- one run over all dumps

pub of_dumps_law : BoundsLaw → OfDumpsLaw
of_dumps_law bounds words settings files known taken file given gives faithful =
    let sees_all = sees settings files known taken file (bounds words settings given).most gives faithful in
    let (dumps, hold) = octets_of (all_wanted file.sets) 1 (nothing max_paths) (widened max_paths taken) (dumps_in settings) files sees_all in (
      dumps,
      hold,
      λ order. (
        widened max_paths taken,
        sym (held (all_wanted file.sets) 1 (nothing max_paths) (dumps_in settings) dumps files hold) ∙ sees_all,
        sym (faithful.paths ∙ taken_seen settings taken order),
        sym faithful.its_counts,
      ),
      of_its_dumps settings files known taken file dumps sees_all hold faithful,
    )

-- under two limits that aren't met dumps give the same
under_wider : (wanted : Wanted) (limit most : ℕ) (dumps : List (List ℕ)) (files : Files) (a b : Taken) → limit ≤ most → seen_from wanted 1 (nothing limit) dumps files ≡ Ok a
    → seen_from wanted 1 (nothing most) dumps files ≡ Ok b → (a.table.rows ≡ b.table.rows) × (a.counts ≡ b.counts)
under_wider wanted limit most dumps files a b less gives gives' =
    let wide = all_files limit most wanted 1 (nothing limit) a dumps files (record { same = refl; few = omega arith; less = less }) gives in
    let same : widened most a ≡ b = values.ok_is (seen_from wanted 1 (nothing most) dumps files) (widened most a) b wide gives' in
    (ap (λ (t : Taken). t.table.rows) same, ap (λ (t : Taken). t.counts) same)

under_any : (wanted : Wanted) (limit other : ℕ) (dumps : List (List ℕ)) (files : Files) (a b : Taken) → seen_from wanted 1 (nothing limit) dumps files ≡ Ok a
    → seen_from wanted 1 (nothing other) dumps files ≡ Ok b → (a.table.rows ≡ b.table.rows) × (a.counts ≡ b.counts)
under_any wanted limit other dumps files a b gives gives' = elim (cases_order limit other) [
  | inl same ↦ under_wider wanted limit other dumps files a b (omega (arith, same)) gives gives'
  | inr o ↦ elim o [
    | inl lt ↦ under_wider wanted limit other dumps files a b (omega (arith, lt)) gives gives'
    | inr gt ↦ let back = under_wider wanted other limit dumps files b a (omega (arith, gt)) gives' gives in (sym back.0, sym back.1)
  ]
]

as_of_one_run : (settings : Settings) (files : Files) (earlier : ResultFile) (taken : Taken) (file : ResultFile) → settings.max_paths ≤ max_paths
    → joined earlier settings.max_paths (dumps_in settings) files ≡ Ok taken → IsResumed settings earlier taken file → IsAsOfOneRun settings files earlier taken file
as_of_one_run settings files earlier taken file few joins_to resumed before dumps order is_of hold whole other_files gave other order' sets ratio all sees said knows faithful =
    let (first, gives, first_rows, first_counts) = is_of in
    let (after, sees_both, rows, counts) =
    dumps_of_both earlier settings.max_paths before dumps Some first taken few (by_octets (all_wanted earlier.sets) 1 (nothing max_paths) before ∙ gives) first_rows first_counts
    (sym (joined_by earlier settings.max_paths (dumps_in settings) dumps files hold) ∙ joins_to) in
    let sees_all : seen_from (all_wanted earlier.sets) 1 (nothing whole.max_paths) (before ++ dumps) Some ≡ Ok gave =
    sym (seen_by (all_wanted earlier.sets) 1 (nothing whole.max_paths) (dumps_in whole) (before ++ dumps) other_files Some all)
    ∙ subst (λ (s : Sets). seen_from (all_wanted s) 1 (nothing whole.max_paths) (dumps_in whole) other_files ≡ Ok gave) sets sees in
    let same = under_any (all_wanted earlier.sets) whole.max_paths max_paths (before ++ dumps) Some gave after sees_all sees_both in
    one_result (known_for whole said gave) (known_joined settings earlier taken) whole.sets earlier.sets whole.ratio settings.ratio (paths_taken whole gave) (paths_joined settings earlier taken) gave.counts taken.counts file other
    knows sets ratio (taken_seen whole gave order' ∙ same.0 ∙ rows ∙ sym (joined_seen settings earlier taken order)) (same.1 ∙ counts) resumed.0 faithful

pub resume_law : BoundsLaw → ResumeLaw
resume_law bounds words settings files earlier taken file given comes resumed =
    let few = (bounds words settings given).most in
    (of_both settings files earlier taken file few comes.1 resumed, as_of_one_run settings files earlier taken file few comes.1 resumed)

-- ---- two runs

pub in_parts_law : InPartsLaw
in_parts_law first second whole files later other_files earlier between file other some rest all order_first order_second order_whole first_top second_top whole_top joins_some resumed joins_rest resumed_again ratio dumps joins_all resumed_all =
    let mine = resumed.0 in
    let most = first.max_paths + second.max_paths + whole.max_paths in
    let gives_first = wider earlier first.max_paths most (dumps_in first) files some (omega arith) joins_some in
    let gives_second : seen_from (all_wanted earlier.sets) 1 (taken_up between most) (dumps_in second) later ≡ Ok (widened most rest) =
    subst (λ (s : Sets). seen_from (all_wanted s) 1 (taken_up between most) (dumps_in second) later ≡ Ok (widened most rest)) mine.its_sets
    (wider between second.max_paths most (dumps_in second) later rest (omega arith) joins_rest) in
    let gives_whole = wider earlier whole.max_paths most (dumps_in whole) other_files all (omega arith) joins_all in
    let (one, hold_one) = octets_of (all_wanted earlier.sets) 1 (taken_up earlier most) (widened most some) (dumps_in first) files gives_first in
    let (two, hold_two) = octets_of (all_wanted earlier.sets) 1 (taken_up between most) (widened most rest) (dumps_in second) later gives_second in
    let both : map other_files (dumps_in whole) ≡ map Some (one ++ two) =
    dumps ∙ ap₂ (λ (x y : List (Option (List ℕ))). x ++ y) hold_one hold_two ∙ sym (map-append (λ (o : List ℕ). Some o) one two) in
    let gives_some = sym (seen_by (all_wanted earlier.sets) 1 (taken_up earlier most) (dumps_in first) one files Some hold_one) ∙ gives_first in
    let gives_rest = sym (seen_by (all_wanted earlier.sets) 1 (taken_up between most) (dumps_in second) two later Some hold_two) ∙ gives_second in
    let gives_all = sym (seen_by (all_wanted earlier.sets) 1 (taken_up earlier most) (dumps_in whole) (one ++ two) other_files Some both) ∙ gives_whole in
    let on = behind (all_wanted earlier.sets) 1 (taken_up earlier most) (widened most some) one two Some gives_some in
    let same_some = made_of (widened most some) between most refl (sym (mine.paths ∙ joined_seen first earlier some order_first)) (sym mine.its_counts) in
    let more = files_beside (all_wanted earlier.sets) 1 on.0 some.files (taken_up between most) (widened most rest) two Some gives_rest in
    let gives_both : seen_from (all_wanted earlier.sets) 1 (taken_up earlier most) (one ++ two) Some ≡ Ok (beside more.0 (widened most rest)) =
    on.1 ∙ ap (λ (t : Taken). seen_from (all_wanted earlier.sets) on.0 t two Some) same_some ∙ more.1 in
    let same : widened most all ≡ beside more.0 (widened most rest) =
    values.ok_is (seen_from (all_wanted earlier.sets) 1 (taken_up earlier most) (one ++ two) Some) (widened most all) (beside more.0 (widened most rest)) gives_all gives_both in
    one_result (known_joined whole earlier all) (known_joined second between rest) earlier.sets between.sets whole.ratio second.ratio (paths_joined whole earlier all) (paths_joined second between rest) all.counts rest.counts file other
    (no_top whole earlier all whole_top ∙ sym (mine.its_givens ∙ no_top first earlier some first_top) ∙ sym (no_top second between rest second_top)) (sym mine.its_sets) ratio
    (joined_seen whole earlier all order_whole ∙ ap (λ (t : Taken). t.table.rows) same ∙ sym (joined_seen second between rest order_second)) (ap (λ (t : Taken). t.counts) same) resumed_again.0 resumed_all.0

-- ---- what a checker says

-- the octets of files are determined
some_same : (xs ys : List (List ℕ)) → map (λ (o : List ℕ). Some o) xs ≡ map (λ (o : List ℕ). Some o) ys → xs ≡ ys
some_same [] [] e = refl
some_same [] (y ∷ ys) e = absurd cc
some_same (x ∷ xs) [] e = absurd cc
some_same (x ∷ xs) (y ∷ ys) e = ap₂ (λ (o : List ℕ) (os : List (List ℕ)). o ∷ os) (first e) (some_same xs ys (rest e))
  where
    first : map (λ (o : List ℕ). Some o) (x ∷ xs) ≡ map (λ (o : List ℕ). Some o) (y ∷ ys) → x ≡ y
    first h = cc

    rest : map (λ (o : List ℕ). Some o) (x ∷ xs) ≡ map (λ (o : List ℕ). Some o) (y ∷ ys) → map (λ (o : List ℕ). Some o) xs ≡ map (λ (o : List ℕ). Some o) ys
    rest h = cc

pub acceptance_law : BoundsLaw → SelfAcceptanceLaw → OneValue → ResumedAcceptanceLaw
acceptance_law bounds accept law words settings files earlier taken file text given comes resumed is_text =
    let vouched = joined_vouched bounds accept words settings files earlier taken file given comes resumed in
    let rules = (is_accepted (first_in settings) files earlier comes.0).1.rules in
    let rows = joined_rows_too settings earlier taken (joined_rows earlier settings.max_paths (dumps_in settings) files taken (bounds words settings given).most rules comes.1) in
    let accepted : IsAccepted file text = record { text = is_text; rules = vouched.accepted } in
    record {
      rows = rows;
      vouched = vouched;
      alone = λ later. agreed_alone law false later file text accepted;
      beside = beside accepted;
      in_any_order = in_any_order accepted;
    }
  where
    both : IsOfBoth settings files earlier file
    both = of_both settings files earlier taken file (bounds words settings given).most comes.1 resumed

    same_dumps : (dumps : List (List ℕ)) → Hold files (dumps_in settings) dumps → both.dumps ≡ dumps
    same_dumps dumps hold = some_same both.dumps dumps (sym both.hold ∙ hold)

    in_any_order : IsAccepted file text → (before dumps all : List (List ℕ)) → IsOfDumpsInSomeOrder earlier before → Hold files (dumps_in settings) dumps
        → IsPermutation (before ++ dumps) all → (names : List (List ℕ)) (later : Files) → Hold later names all → IsAgreedOn true names later text
    in_any_order accepted before dumps all is_of hold moved names later all_held =
        agreed_in_any_order law file text accepted (before ++ dumps) all
        (subst (λ (ds : List (List ℕ)). IsOfDumpsInSomeOrder file (before ++ ds)) (same_dumps dumps hold) (both.in_some_order before is_of)) moved names later all_held

    beside : IsAccepted file text → (before dumps : List (List ℕ)) → settings.order ≡ Seen → IsOfDumps earlier before → Hold files (dumps_in settings) dumps
        → (names : List (List ℕ)) (later : Files) → Hold later names (before ++ dumps) → IsAgreedOn false names later text
    beside accepted before dumps order is_of hold names later all =
        let same : both.dumps ≡ dumps = same_dumps dumps hold in
        let (gave, sees, its_rows_are, its_counts_are) = both.as_seen order before is_of in
        let sees_later : seen_for file names later ≡ Ok gave =
        held (all_wanted file.sets) 1 (nothing max_paths) names (before ++ dumps) later all
        ∙ subst (λ (ds : List (List ℕ)). seen_of (all_wanted file.sets) 1 (nothing max_paths) (before ++ ds) ≡ Ok gave) same sees in
        agreed_beside law false later file text accepted names gave sees_later (sym its_counts_are, sym its_rows_are)
