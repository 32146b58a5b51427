-- A check says yes to a result, beside the dumps that it was made of too.
use Rattle.std.proofs.Common.{◌≡◌, ◌≤◌, ◌⊎◌, ℕ, Bool, false, List, [], ◌∷◌, length, Option, Some, Result, Ok, inl, inr, refl, sym, ap, subst, ◌∙◌, arith}
use Rattle.std.specs.Prelude.{IsOk}
use Rattle.path_clean.specs.declared.cleaned.Sets.{Sets}
use Rattle.path_order.specs.declared.choice.Order.{Order}
use Rattle.path_order.specs.Orders.{ordered}
use Rattle.tor_arena.specs.Limits.{max_paths}
use Rattle.tor_io.specs.Contents.{Files}
use Rattle.as_rel.specs.declared.givens.KnownLines.{KnownLines}
use Rattle.dump_read.specs.declared.taking.Taken.{Taken}
use Rattle.result_text.specs.declared.file.ResultFile.{ResultFile}
use Rattle.result_rules.specs.declared.verdict.Verdict.TheVariants.{Yes}
use Rattle.tor_words.specs.declared.task.Made.TheVariants as made
use Rattle.tor_words.specs.Given.{BoundsLaw, dumps_in}
use Rattle.tor_words.specs.declared.settings.Settings.{Settings}
use Rattle.tor_words.specs.declared.check_settings.CheckSettings.{CheckSettings}
use Rattle.tor_words.specs.CheckGiven.{check_settings_given}
use Rattle.torcheck_run.specs.Checking.{JudgesTaken}
use Rattle.torcheck_run.specs.Judging.{CanBeJudged, IsVerdict, JudgesByDumps, seen_for}
use Rattle.result_file.specs.Ruled.{IsAccepted}
use Rattle.result_file.specs.Limits.{max_result}
use Rattle.result_file.proofs.OneRuling.{OneValue, same_file}
use Rattle.torcheck_run.proofs.Comings.{one_verdict}
use Rattle.run_base.specs.Reading.{nothing, seen_from}
use Rattle.tor_output.specs.Accepting.{FaithfulLaw, TableLaw}
use Rattle.tor_output.specs.Seen.{seen}
use Rattle.tor_output.specs.Output.{Faithful}
use Rattle.tor_output.proofs.GradingLemmas.{is_made}
use Rattle.tor_output.proofs.Joining.{seen_by}
use Rattle.tor_output.proofs.SeenLemmas.{made_of_files}
use Rattle.tor_output.proofs.WiderLimit.{widened, all_files}
use Rattle.run_laws.specs.Agreement.{AgreementLaw, IsAgreedOn}
use Rattle.dump_read.specs.Wanted.{all_wanted}

-- dumps that give what a result has bear it out
by_dumps : (any : Bool) (file : ResultFile) (dumps : List (List ℕ)) (files : Files) (taken : Taken) → seen_for file dumps files ≡ Ok taken
    → JudgesTaken any file taken Yes → JudgesByDumps any file dumps files Yes
by_dumps any file [] files taken gives agrees = refl
by_dumps any file (dump ∷ dumps) files taken gives agrees = (taken, gives, agrees)

is_ok : {T E : Type 0} (r : Result T E) (x : T) → r ≡ Ok x → IsOk r
is_ok r x e = subst (λ q. IsOk q) (sym e) refl

module _ (law : OneValue) (any : Bool) (files : Files) (file : ResultFile) (text : List ℕ) (accepted : IsAccepted file text) where
  -- what a check of the text says beside these dumps or beside none
  told : (dumps named : List (List ℕ)) → JudgesByDumps any file dumps files Yes → (named ≡ []) ⊎ (named ≡ dumps) → IsVerdict any text named files Yes
  told dumps named judged (inl e) = subst (λ (ds : List (List ℕ)). IsVerdict any text ds files Yes) (sym e) (inr (file, accepted, refl))
  told dumps named judged (inr e) = subst (λ (ds : List (List ℕ)). IsVerdict any text ds files Yes) (sym e) (inr (file, accepted, judged))

  can_be : (dumps : List (List ℕ)) → IsOk (seen_for file dumps files) → (words : List (List ℕ)) (check : CheckSettings) → check_settings_given words ≡ Some check
      → files check.result ≡ Some text → (check.dumps ≡ []) ⊎ (check.dumps ≡ dumps) → length text ≤ max_result → CanBeJudged words files
  can_be dumps sees words check given there beside short = record {
    settings = check;
    given = given;
    bytes = text;
    result = record { there = there; short = short };
    judged = inr (elim beside [
      | inl e ↦ inl e
      | inr e ↦ inr (λ f of.
          subst (λ (ds : List (List ℕ)). IsOk (seen_for f ds files)) (sym e)
          (subst (λ (g : ResultFile). IsOk (seen_for g dumps files)) (same_file law text file f accepted.text of) sees))
    ]);
  }

  agreed_by : (dumps : List (List ℕ)) → JudgesByDumps any file dumps files Yes → IsOk (seen_for file dumps files) → IsAgreedOn any dumps files text
  agreed_by dumps judged sees = record {
    alone = told dumps [] judged (inl refl);
    beside = told dumps dumps judged (inr refl);
    no_other = λ named verdict of is. one_verdict law any text named files verdict Yes is (told dumps named judged of);
    judged = can_be dumps sees;
    takes_up = λ name later there short. (file, (text, record { there = there; short = short }, accepted));
  }

  -- a text that is accepted is judged yes beside no dump, and beside dumps that give what it has
  pub agreed_alone : IsAgreedOn any [] files text
  agreed_alone = agreed_by [] refl refl

  pub agreed_beside : (dumps : List (List ℕ)) (taken : Taken) → seen_for file dumps files ≡ Ok taken → JudgesTaken any file taken Yes → IsAgreedOn any dumps files text
  agreed_beside dumps taken gives agrees =
      agreed_by dumps (by_dumps any file dumps files taken gives agrees) (is_ok (seen_for file dumps files) taken gives)

-- under the limit of a check dumps give what they gave
pub sees : (settings : Settings) (files : Files) (known : Option KnownLines) (taken : Taken) (file : ResultFile) → settings.max_paths ≤ max_paths →
    seen settings files ≡ Ok taken → Faithful settings known taken file → seen_for file (dumps_in settings) files ≡ Ok (widened max_paths taken)
sees settings files known taken file few gives faithful =
    let wide = all_files settings.max_paths max_paths (all_wanted settings.sets) 1 (nothing settings.max_paths) taken (dumps_in settings) files
    (record { same = refl; few = omega arith; less = few }) gives in
    subst (λ (s : Sets). seen_from (all_wanted s) 1 (nothing max_paths) (dumps_in settings) files ≡ Ok (widened max_paths taken)) (sym faithful.its_sets) wide

pub agreement : OneValue → BoundsLaw → FaithfulLaw → TableLaw → AgreementLaw
agreement law bounds faithful_is table_is words settings files known taken output given order makes comes asked names later same =
    let (file, faithful, text, note) = is_made settings.job made.Result settings known taken output makes asked in
    let within = bounds words settings given in
    let gives = made_of_files settings.job made.Result settings files taken makes comes.1 in
    let rows = table_is words settings files known taken given comes in
    let accepted = (faithful_is words settings known taken file given rows.1 rows.0 faithful).accepted in
    agreed_beside law false later file output.text (record { text = text; rules = accepted }) names (widened max_paths taken)
    (seen_by (all_wanted file.sets) 1 (nothing max_paths) names (dumps_in settings) later files same ∙ sees settings files known taken file within.most gives faithful)
    (faithful.its_counts, faithful.paths ∙ ap (λ (o : Order). ordered o taken.table.rows) order)
