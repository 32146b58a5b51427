-- A result on top of an earlier one meets all rules, whatever is known on top of that.
use Rattle.std.proofs.Common.{◌≡◌, ◌++◌, ℕ, List, [], Option, Some, None, unwrap_or, refl, sym, subst}
use Rattle.tor_io.specs.Contents.{Files}
use Rattle.relationships.specs.declared.given.Given.{Given}
use Rattle.relationships.specs.Givens.{NameTwo, NameOnce}
use Rattle.relationships.specs.Graph.{edges}
use Rattle.dump_read.specs.declared.taking.Taken.{Taken}
use Rattle.result_text.specs.declared.file.ResultFile.{ResultFile}
use Rattle.result_file.specs.Ruled.{IsAccepted}
use Rattle.result_rules.specs.File.{its_givens, its_paths}
use Rattle.result_rules.specs.Rules.{Accepts}
use Rattle.result_rules.specs.declared.rule.Rule.TheVariants.{HeadSound}
use Rattle.result_rules.proofs.GivenLines.{name_two, name_once}
use Rattle.rel_infer.specs.SelfAcceptance.{IsVouchedFor, SelfAcceptanceLaw}
use Rattle.rel_infer.proofs.Acceptance.{same_givens}
use Rattle.top_givens.specs.TopGivens.{given_pairs}
use Rattle.top_givens.proofs.Members.{given_paired, top_sound_law}
use Rattle.tor_words.specs.declared.settings.Settings.{Settings}
use Rattle.tor_words.specs.Given.{BoundsLaw, dumps_in, settings_given}
use Rattle.path_table.specs.Rows.{row_paths}
use Rattle.tor_output.specs.First.{First, Nothing, Givens, Result, Earlier, TakesUp, first_in}
use Rattle.tor_output.specs.Knowing.{known_on}
use Rattle.tor_output.specs.Output.{IsResumed, known_joined, paths_joined}
use Rattle.tor_output.specs.Seen.{ComesTo, Joins}
use Rattle.tor_output.proofs.JoinedRows.{joined_rows}
use Rattle.tor_output.proofs.Orderings.{joined_rows_too}

pub is_accepted : (f : First) (files : Files) (file : ResultFile) → TakesUp f files file → (bytes : List ℕ) × IsAccepted file bytes
is_accepted Nothing files file takes = absurd takes
is_accepted (Givens name) files file takes = absurd takes
is_accepted (Result name) files file takes = absurd takes
is_accepted (Earlier name) files file takes = (takes.0, takes.2)

-- what is known on top of a result that meets the rules names two ASes each time, and no two of them twice
pub known_on_sound : (top : Option (List ℕ)) (earlier : ResultFile) (paths : List (List ℕ)) → Accepts earlier
    → NameTwo (unwrap_or (known_on top earlier paths) []) × NameOnce (unwrap_or (known_on top earlier paths) [])
known_on_sound None earlier paths rules =
    let own = sym (same_givens earlier earlier.givens refl) in
    (subst (λ (gs : List Given). NameTwo gs) own (name_two earlier (rules HeadSound)), subst (λ (gs : List Given). NameOnce gs) own (name_once earlier (rules HeadSound)))
known_on_sound (Some top) earlier paths rules =
    let gs = its_givens earlier in
    let named = edges (its_paths earlier) in
    let law = top_sound_law top (given_pairs gs ++ named) paths gs (given_paired gs named) in
    (law.0 (name_two earlier (rules HeadSound)), law.1 (name_once earlier (rules HeadSound)))

pub joined_vouched : BoundsLaw → SelfAcceptanceLaw → (words : List (List ℕ)) (settings : Settings) (files : Files) (earlier : ResultFile) (taken : Taken) (file : ResultFile)
    → settings_given words ≡ Some settings → ComesTo settings files (Joins earlier taken) → IsResumed settings earlier taken file
    → IsVouchedFor settings.ratio (paths_joined settings earlier taken) taken.counts file
joined_vouched bounds accept words settings files earlier taken file given comes resumed =
    let within = bounds words settings given in
    let rules = (is_accepted (first_in settings) files earlier comes.0).1.rules in
    let rows = joined_rows_too settings earlier taken (joined_rows earlier settings.max_paths (dumps_in settings) files taken within.most rules comes.1) in
    let names = known_on_sound settings.top earlier (row_paths (paths_joined settings earlier taken)) rules in
    accept (known_joined settings earlier taken) earlier.sets settings.ratio (paths_joined settings earlier taken) taken.counts file within.ratio rows names.0 names.1 resumed.0
