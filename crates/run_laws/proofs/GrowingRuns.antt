-- What a result has decided stays so, whatever dumps are added; and some result is faithful to what dumps gave.
use Rattle.std.proofs.Common.{◌≡◌, ℕ, ◌+◌, List, [], Option, Some, None, ◌∷◌, ◌++◌, length, map, take, Result, Ok, Err, refl, sym, ap, subst, ◌∙◌, arith, append-nil, unwrap_or}
use Rattle.std.proofs.lemmas.List.{length-map, take-append-le, take-map, take_all}
use Rattle.path_attrs.specs.Fields.{◌>>=◌}
use Rattle.path_clean.specs.declared.cleaned.Sets.{Sets}
use Rattle.path_table.specs.Rows.{row_paths}
use Rattle.tor_arena.specs.Limits.{max_paths}
use Rattle.relationships.specs.declared.fate.Fate.{Fate}
use Rattle.dump_read.specs.declared.taking.Taken.{Taken}
use Rattle.dump_read.specs.Seen.{DumpsEnd, of_octets}
use Rattle.result_text.specs.declared.file.PathLine.{PathLine}
use Rattle.result_text.specs.declared.file.ResultFile.{ResultFile}
use Rattle.result_rules.specs.File.{its_givens, its_paths}
use Rattle.result_rules.specs.Rules.{Accepts}
use Rattle.result_rules.specs.Against.{row_of}
use Rattle.rel_infer.specs.Resumed.{Continues, decided}
use Rattle.rel_infer.specs.SelfAcceptance.{SelfAcceptanceLaw}
use Rattle.rel_infer.proofs.Acceptance.{same_givens}
use Rattle.result_laws.specs.Existing.{SomeResultLaw}
use Rattle.result_laws.specs.Growing.{ForcedStaysLaw, StaysDecided}
use Rattle.run_base.specs.Reading.{nothing, seen_of}
use Rattle.run_base.proofs.Values as values
use Rattle.tor_words.specs.Given.{BoundsLaw}
use Rattle.tor_output.specs.Accepting.{TableLaw}
use Rattle.tor_output.specs.Knowing.{known_on}
use Rattle.tor_output.specs.First.{first_in}
use Rattle.tor_output.proofs.Resumings.{Begins, octets_begin}
use Rattle.run_laws.specs.Growing.{ResumedStaysLaw, AddedStaysLaw, SomeFaithfulLaw}
use Rattle.tor_output.specs.Output.{known_for, known_joined, paths_joined, paths_taken}
use Rattle.tor_output.proofs.Knowings.{known_sound}
use Rattle.tor_output.proofs.Orderings.{taken_rows}
use Rattle.top_givens.specs.TopGivens.{top_givens_behind}
use Rattle.top_laws.specs.MoreGivens.{with_more_givens}
use Rattle.top_laws.proofs.StillMet.{top_more_law}
use Rattle.run_laws.proofs.JoinedResults.{is_accepted, joined_vouched}
use Rattle.dump_read.specs.declared.wanted.Wanted.{Wanted}
use Rattle.dump_read.specs.Wanted.{all_wanted}

-- ---- on top of a result

decided_paths : (lines : List PathLine) → map (λ (d : List ℕ × Fate). d.0) (map decided lines) ≡ map (λ (p : PathLine). p.path) lines
decided_paths [] = refl
decided_paths (line ∷ lines) = ap (λ (ps : List (List ℕ)). line.path ∷ ps) (decided_paths lines)

continues_paths : (earlier file : ResultFile) → Continues earlier file → take (length earlier.paths) (its_paths file) ≡ its_paths earlier
continues_paths earlier file on =
    ap (take (length earlier.paths)) (sym (decided_paths file.paths)) ∙
    take-map (λ (d : List ℕ × Fate). d.0) (length earlier.paths) (map decided file.paths) ∙ ap (map (λ (d : List ℕ × Fate). d.0)) on ∙ decided_paths earlier.paths

pub resumed_stays_law : BoundsLaw → SelfAcceptanceLaw → ForcedStaysLaw → ResumedStaysLaw
resumed_stays_law bounds accept stays words settings files earlier taken file given comes resumed = by settings.top refl
  where
    rules : Accepts earlier
    rules = (is_accepted (first_in settings) files earlier comes.0).1.rules

    accepted : Accepts file
    accepted = (joined_vouched bounds accept words settings files earlier taken file given comes resumed).accepted

    paths : List (List ℕ)
    paths = row_paths (paths_joined settings earlier taken)

    known : (t : Option (List ℕ)) → settings.top ≡ t → unwrap_or (known_on t earlier paths) [] ≡ its_givens file
    known t is = ap (λ (o : Option (List ℕ)). unwrap_or (known_on o earlier paths) []) (sym is) ∙ same_givens file (known_joined settings earlier taken) resumed.0.its_givens

    by : (t : Option (List ℕ)) → settings.top ≡ t → StaysDecided earlier file
    by None is =
        stays earlier file rules accepted (record {
          paths = continues_paths earlier file resumed.1;
          givens = sym (known None is) ∙ same_givens earlier earlier.givens refl;
        })
    by (Some top) is =
        let decided = stays (with_more_givens earlier (top_givens_behind top (its_givens earlier) (its_paths earlier) paths)) file (top_more_law earlier top paths rules) accepted
        (record { paths = continues_paths earlier file resumed.1; givens = sym (known (Some top) is) }) in
        record { kept = decided.kept; forced = decided.forced }

-- ---- of dumps after others

-- some number of the first of them, from which on they give the same as all from this one on
behind : (wanted : Wanted) (dump : ℕ) (old mid : Taken) (dumps more : List (List ℕ)) → seen_of wanted dump old dumps ≡ Ok mid →
    (later : ℕ) × (seen_of wanted dump old (dumps ++ more) ≡ seen_of wanted later mid more)
behind wanted dump old mid [] more e = (dump, ap (λ (t : Taken). seen_of wanted dump t more) (values.ok_is (seen_of wanted dump old []) old mid refl e))
behind wanted dump old mid (octets ∷ dumps) more e = by (of_octets wanted dump old octets) e (λ further. behind wanted (dump + 1) further mid dumps more)
  where
    by : (one : Result Taken DumpsEnd) → (one >>= λ further. seen_of wanted (dump + 1) further dumps) ≡ Ok mid →
        ((further : Taken) → seen_of wanted (dump + 1) further dumps ≡ Ok mid → (later : ℕ) × (seen_of wanted (dump + 1) further (dumps ++ more) ≡ seen_of wanted later mid more)) →
        (later : ℕ) × ((one >>= λ further. seen_of wanted (dump + 1) further (dumps ++ more)) ≡ seen_of wanted later mid more)
    by (Err end) e rest = absurd cc
    by (Ok further) e rest = rest further e

dumps_begin : (first : List (List ℕ)) (wanted : Wanted) (dump : ℕ) (old new : Taken) (dumps : List (List ℕ)) → seen_of wanted dump old dumps ≡ Ok new → Begins first old.table.rows →
    Begins first new.table.rows
dumps_begin first wanted dump old new [] e so_far = subst (λ (t : Taken). Begins first t.table.rows) (values.ok_is (seen_of wanted dump old []) old new refl e) so_far
dumps_begin first wanted dump old new (octets ∷ dumps) e so_far =
    by (of_octets wanted dump old octets) refl e (λ further. dumps_begin first wanted (dump + 1) further new dumps)
  where
    by : (one : Result Taken DumpsEnd) → of_octets wanted dump old octets ≡ one → (one >>= λ further. seen_of wanted (dump + 1) further dumps) ≡ Ok new →
        ((further : Taken) → seen_of wanted (dump + 1) further dumps ≡ Ok new → Begins first further.table.rows → Begins first new.table.rows) → Begins first new.table.rows
    by (Err end) is e rest = absurd cc
    by (Ok further) is e rest = rest further e (octets_begin first wanted dump old further octets is so_far)

pub rows_paths : (lines : List PathLine) → row_paths (map row_of lines) ≡ map (λ (p : PathLine). p.path) lines
rows_paths [] = refl
rows_paths (line ∷ lines) = ap (λ (ps : List (List ℕ)). line.path ∷ ps) (rows_paths lines)

pub added_stays_law : ForcedStaysLaw → AddedStaysLaw
added_stays_law stays dumps more earlier later accepts accepts' before after wanted givens =
    let (gave, gives, rows, counts) = before in
    let (got, gets, rows', counts') = after in
    let on = behind (all_wanted earlier.sets) 1 (nothing max_paths) gave dumps more gives in
    let gets_too : seen_of (all_wanted earlier.sets) 1 (nothing max_paths) (dumps ++ more) ≡ Ok got =
    subst (λ (s : Sets). seen_of (all_wanted s) 1 (nothing max_paths) (dumps ++ more) ≡ Ok got) wanted gets in
    let start : Begins (its_paths earlier) gave.table.rows = ([], ap row_paths rows ∙ rows_paths earlier.paths ∙ sym (append-nil (its_paths earlier))) in
    let begun = dumps_begin (its_paths earlier) (all_wanted earlier.sets) on.0 gave got more (sym on.1 ∙ gets_too) start in
    let paths : its_paths later ≡ its_paths earlier ++ begun.0 = sym (rows_paths later.paths) ∙ ap row_paths (sym rows') ∙ begun.1 in
    let many : length (its_paths earlier) ≡ length earlier.paths = length-map earlier.paths (λ (p : PathLine). p.path) in
    stays earlier later accepts accepts' (record {
      paths = ap (take (length earlier.paths)) paths ∙ take-append-le (length earlier.paths) (its_paths earlier) begun.0 (omega (arith, many)) ∙
          take_all (length earlier.paths) (its_paths earlier) (omega (arith, many));
      givens = givens;
    })

-- ---- some result

pub some_faithful_law : TableLaw → SomeResultLaw → SomeFaithfulLaw
some_faithful_law table some words settings files known taken given comes =
    let (rows, sound) = table words settings files known taken given comes in
    let names = known_sound settings.top known (row_paths (paths_taken settings taken)) sound in
    some (known_for settings known taken) settings.sets settings.ratio (paths_taken settings taken) taken.counts (taken_rows settings taken rows) names.0 names.1
