-- What runs with `--top` show of networks that buy transit from nobody.
use Rattle.std.proofs.Common.{◌≡◌, ◌||◌, ◌++◌, ℕ, Bool, true, false, List, Option, Some, None, refl, sym, ap, subst, ◌∙◌}
use Rattle.relationships.specs.declared.given.Given.{Given}
use Rattle.relationships.specs.Graph.{edges}
use Rattle.as_rel.specs.declared.givens.KnownLines.{KnownLines}
use Rattle.path_table.specs.Rows.{row_paths}
use Rattle.result_rules.specs.File.{its_givens, its_paths}
use Rattle.result_rules.specs.declared.rule.Rule.TheVariants.{HeadSound}
use Rattle.result_rules.proofs.GivenLines.{name_two, name_once}
use Rattle.rel_infer.specs.GivenResults.{IsResultWith}
use Rattle.rel_infer.proofs.Acceptance.{same_givens}
use Rattle.top_givens.specs.TopGivens.{given_pairs, is_paired, top_givens, top_givens_behind}
use Rattle.top_givens.proofs.Members.{given_paired, resumed_top_law}
use Rattle.top_givens.proofs.Tops.{paired_append}
use Rattle.top_laws.specs.TopResults.{TopResultLaw, TopResumedLaw}
use Rattle.tor_words.specs.Given.{BoundsLaw, dumps_in}
use Rattle.tor_output.specs.Accepting.{TableLaw}
use Rattle.tor_output.specs.First.{first_in}
use Rattle.tor_output.specs.Knowing.{known_of, known_on, said_givens, said_peers}
use Rattle.tor_output.specs.Output.{paths_joined, paths_taken}
use Rattle.tor_output.proofs.JoinedRows.{joined_rows}
use Rattle.tor_output.proofs.Orderings.{joined_rows_too, taken_rows}
use Rattle.run_laws.specs.TopRuns.{TopLaw, TopOnEarlierLaw, OneKnowledgeLaw}
use Rattle.run_laws.proofs.JoinedResults.{is_accepted}

pub top_law : BoundsLaw → TableLaw → TopResultLaw → TopLaw
top_law bounds table law words settings files said taken file top given is comes faithful =
    let rows = table words settings files said taken given comes in
    let gs = said_givens said in
    let paths = row_paths (paths_taken settings taken) in
    law top (given_pairs gs ++ said_peers said) gs settings.sets settings.ratio (paths_taken settings taken) taken.counts file (bounds words settings given).ratio
    (taken_rows settings taken rows.0) rows.1.0 rows.1.1 (given_paired gs (said_peers said))
    (subst (λ (t : Option (List ℕ)). IsResultWith (known_of t said paths) settings.sets settings.ratio (paths_taken settings taken) taken.counts file) is faithful)

pub top_on_earlier_law : BoundsLaw → TopResultLaw → TopResumedLaw → TopOnEarlierLaw
top_on_earlier_law bounds law resumed_law words settings files earlier taken file top given is comes resumed =
    let rules = (is_accepted (first_in settings) files earlier comes.0).1.rules in
    let within = bounds words settings given in
    let rows = joined_rows_too settings earlier taken (joined_rows earlier settings.max_paths (dumps_in settings) files taken within.most rules comes.1) in
    let gs = its_givens earlier in
    let old = edges (its_paths earlier) in
    let paths = paths_joined settings earlier taken in
    let result = subst (λ (t : Option (List ℕ)). IsResultWith (known_on t earlier (row_paths paths)) earlier.sets settings.ratio paths taken.counts file) is resumed.0 in
    record {
      further = law top (given_pairs gs ++ old) gs earlier.sets settings.ratio paths taken.counts file within.ratio rows (name_two earlier (rules HeadSound))
          (name_once earlier (rules HeadSound)) (given_paired gs old) result;
      all = λ named givens names same. resumed_law top earlier earlier.sets settings.ratio paths taken.counts file within.ratio rows rules result named givens names same;
    }

-- ---- one knowledge

or_none : (b c : Bool) → c ≡ false → (b || c) ≡ b
or_none true c none = refl
or_none false c none = none

pub one_knowledge_law : OneKnowledgeLaw
one_knowledge_law None said earlier later peers same = same ∙ nothing said
  where
    nothing : (said : Option KnownLines) → known_of None said (its_paths earlier) ≡ known_of None said (its_paths earlier ++ later)
    nothing None = refl
    nothing (Some s) = refl
one_knowledge_law (Some top) said earlier later peers same =
    let gs = said_givens said in
    let named = given_pairs gs ++ said_peers said in
    let paths = its_paths earlier in
    let known : its_givens earlier ≡ gs ++ top_givens top named paths = sym (same_givens earlier (Some (gs ++ top_givens top named paths)) same) in
    ap (λ (ks : List Given). Some (ks ++ top_givens_behind top ks paths (paths ++ later))) known
    ∙ ap (λ (ks : List Given). Some ks) (resumed_top_law top gs named paths later
    (λ e one. paired_append (given_pairs gs) (said_peers said) e ∙ or_none (is_paired (given_pairs gs) e) (is_paired (said_peers said) e) (peers e one)))
