-- A check with `--any-order` says yes to a result beside the dumps that it is of, in whatever order these and its paths stand.
use Rattle.std.proofs.Common.{◌≡◌, ℕ, true, List, [], ◌∷◌, map, All, Option, Some, None, Ok, refl, sym, ap, subst, ◌∙◌, IsPermutation}
use Rattle.std.specs.Prelude.{unwrap_or, min, ◌^◌, ◌-◌, ⊤}
use Rattle.std.proofs.lemmas.List.Elements.{All-cons, All-head, All-nil, All-tail}
use Rattle.std.proofs.lemmas.List.Sorted.{All-permutation, IsPermutation-map, IsPermutation-sym, IsPermutation-trans}
use Rattle.tor_arena.specs.Limits.{max_paths}
use Rattle.tor_io.specs.Contents.{Files}
use Rattle.path_clean.specs.declared.cleaned.Sets.{Sets}
use Rattle.path_clean.specs.Counts.{CauseCounts}
use Rattle.path_table.specs.Table.{counted}
use Rattle.path_order.specs.declared.choice.Order.TheVariants.{Seen}
use Rattle.path_order.proofs.CountedLemmas.{counted_moved}
use Rattle.path_order.proofs.KeptLemmas.{behind_moves, behind_none}
use Rattle.dump_read.specs.declared.taking.Taken.{Taken}
use Rattle.dump_read.specs.Laws.{cleaned_paths, routes_in_files}
use Rattle.dump_read.specs.Routes.{Route}
use Rattle.order_laws.specs.RouteOrder.{GiveSame, IsTakenInAnyOrder}
use Rattle.order_laws.proofs.RouteOrders.{moved_law}
use Rattle.any_order.specs.AnyOrder.{JudgesInAnyOrder}
use Rattle.any_order.proofs.OneVerdicts.{ordered_law}
use Rattle.as_rel.specs.declared.givens.KnownLines.{KnownLines}
use Rattle.result_text.specs.declared.file.ResultFile.{ResultFile}
use Rattle.result_rules.specs.Against.{its_rows}
use Rattle.result_rules.specs.declared.verdict.Verdict.TheVariants.{Yes}
use Rattle.result_file.specs.Ruled.{IsAccepted}
use Rattle.result_file.proofs.OneRuling.{OneValue}
use Rattle.run_base.specs.Reading.{nothing}
use Rattle.tor_words.specs.declared.settings.Settings.{Settings}
use Rattle.tor_words.specs.declared.task.Made.TheVariants as made
use Rattle.tor_words.specs.Given.{BoundsLaw, dumps_in}
use Rattle.torcheck_run.specs.Judging.{seen_for}
use Rattle.tor_output.specs.Accepting.{FaithfulLaw, TableLaw}
use Rattle.tor_output.specs.Output.{Faithful}
use Rattle.tor_output.specs.Resuming.{Hold, IsOfDumpsInSomeOrder}
use Rattle.tor_output.specs.SeenLaw.{IsWhole}
use Rattle.tor_output.proofs.GradingLemmas.{is_made}
use Rattle.tor_output.proofs.Joining.{held, octets_of}
use Rattle.tor_output.proofs.SeenLemmas.{made_of_files}
use Rattle.tor_output.proofs.SomeOrders.{from_nothing, taken_in_some_order}
use Rattle.tor_output.proofs.WiderLimit.{widened}
use Rattle.run_laws.specs.Agreement.{AnyOrderAgreementLaw, IsAgreedOn}
use Rattle.run_laws.proofs.Agreeing.{agreed_beside, sees}
use Rattle.dump_read.specs.Wanted.{all_wanted}

-- ---- dumps in another order

-- what is taken in of routes is taken in of others that give the same
pub in_other_order : (sets : Sets) (routes others : List Route) (taken : Taken) → GiveSame sets routes others → IsTakenInAnyOrder sets routes taken
    → IsTakenInAnyOrder sets others taken
in_other_order sets routes others taken same is = record {
  rows = IsPermutation-trans taken.table.rows (counted (cleaned_paths sets routes)) (counted (cleaned_paths sets others)) is.rows
      (counted_moved (cleaned_paths sets routes) (cleaned_paths sets others) same.paths);
  asides = λ cause. is.asides cause ∙ ap (λ n. min n (2 ^ 64 - 1)) (same.asides cause);
}

-- dumps that are there in another order have these octets in another order
abbrev IsThere : Option (List ℕ) → Type 0
IsThere None = ⊥
IsThere (Some octets) = ⊤

some_there : (dumps : List (List ℕ)) → All IsThere (map Some dumps)
some_there [] = All-nil IsThere
some_there (octets ∷ dumps) = All-cons IsThere (Some octets) (map Some dumps) tt (some_there dumps)

abbrev octets_in : Option (List ℕ) → List ℕ
octets_in o = unwrap_or o []

each_some : (found : List (Option (List ℕ))) → All IsThere found → found ≡ map Some (map octets_in found)
each_some [] there = refl
each_some (None ∷ found) there = absurd (All-head IsThere None found there)
each_some (Some octets ∷ found) there =
    ap (λ (fs : List (Option (List ℕ))). Some octets ∷ fs) (each_some found (All-tail IsThere (Some octets) found there))

back : (dumps : List (List ℕ)) → map octets_in (map Some dumps) ≡ dumps
back [] = refl
back (octets ∷ dumps) = ap (λ (ds : List (List ℕ)). octets ∷ ds) (back dumps)

record AreMoved (dumps : List (List ℕ)) (found : List (Option (List ℕ))) : Type 0 where
  all : List (List ℕ)
  have : found ≡ map Some all
  moved : IsPermutation dumps all

moved_octets : (dumps : List (List ℕ)) (found : List (Option (List ℕ))) → IsPermutation (map Some dumps) found → AreMoved dumps found
moved_octets dumps found moved = record {
  all = map octets_in found;
  have = each_some found (All-permutation IsThere (map Some dumps) found moved (some_there dumps));
  moved = subst (λ (ds : List (List ℕ)). IsPermutation ds (map octets_in found)) (back dumps) (IsPermutation-map octets_in (map Some dumps) found moved);
}

-- ---- a result of some dumps

module _ (law : OneValue) (file : ResultFile) (text : List ℕ) (accepted : IsAccepted file text) where
  pub agreed_in_any_order : (dumps all : List (List ℕ)) → IsOfDumpsInSomeOrder file dumps → IsPermutation dumps all → (names : List (List ℕ)) (later : Files) →
      Hold later names all → IsAgreedOn true names later text
  agreed_in_any_order dumps all is_of moved names later hold =
      let these = taken_in_some_order file dumps is_of in
      let same = moved_law.dumps (all_wanted file.sets) dumps all moved in
      let taken = in_other_order file.sets (routes_in_files (all_wanted file.sets) dumps) (routes_in_files (all_wanted file.sets) all) these.gave same these.taken in
      let found = from_nothing (all_wanted file.sets) all these.gave taken these.table (All-permutation IsWhole dumps all moved these.whole) in
      let to_after = IsPermutation-trans (its_rows file) these.gave.table.rows found.after.table.rows
      (IsPermutation-sym these.gave.table.rows (its_rows file) these.moved) (IsPermutation-sym found.after.table.rows these.gave.table.rows found.moved) in
      let judged = ordered_law file Seen 0 (its_rows file) found.after.table.rows file.asides (refl, refl) to_after in
      agreed_beside law true later file text accepted names found.after (held (all_wanted file.sets) 1 (nothing max_paths) names all later hold ∙ found.sees)
      (subst (λ (counts : CauseCounts). JudgesInAnyOrder file found.after.table.rows counts Yes) (sym (found.counts ∙ these.counts)) judged)

-- a result that a run makes of dumps is of their octets, in some order
pub of_its_dumps : (settings : Settings) (files : Files) (known : Option KnownLines) (taken : Taken) (file : ResultFile) (dumps : List (List ℕ)) → seen_for file (dumps_in settings) files ≡ Ok (widened max_paths taken)
    → Hold files (dumps_in settings) dumps → Faithful settings known taken file → IsOfDumpsInSomeOrder file dumps
of_its_dumps settings files known taken file dumps sees hold faithful = (
  widened max_paths taken,
  sym (held (all_wanted file.sets) 1 (nothing max_paths) (dumps_in settings) dumps files hold) ∙ sees,
  subst (IsPermutation taken.table.rows) (behind_none settings.order taken.table.rows ∙ sym faithful.paths) (behind_moves settings.order 0 taken.table.rows),
  sym faithful.its_counts,
)

pub any_order_agreement : OneValue → BoundsLaw → FaithfulLaw → TableLaw → AnyOrderAgreementLaw
any_order_agreement law bounds faithful_is table_is words settings files known taken output given makes comes asked names later moved =
    let (file, faithful, text, note) = is_made settings.job made.Result settings known taken output makes asked in
    let gives = made_of_files settings.job made.Result settings files taken makes comes.1 in
    let rows = table_is words settings files known taken given comes in
    let accepted = (faithful_is words settings known taken file given rows.1 rows.0 faithful).accepted in
    let sees_all = sees settings files known taken file (bounds words settings given).most gives faithful in
    let (dumps, hold) = octets_of (all_wanted file.sets) 1 (nothing max_paths) (widened max_paths taken) (dumps_in settings) files sees_all in
    let found = moved_octets dumps (map later names) (subst (λ (fs : List (Option (List ℕ))). IsPermutation fs (map later names)) hold moved) in
    agreed_in_any_order law file output.text (record { text = text; rules = accepted }) dumps found.all
    (of_its_dumps settings files known taken file dumps sees_all hold faithful) found.moved names later found.have
