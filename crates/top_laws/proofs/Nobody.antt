-- What results show of the top: the laws.
use Rattle.std.proofs.Common.{◌≡◌, ℕ, ◌+◌, ◌-◌, inl, inr, Bool, true, false, not, ◌||◌, min, max, List, [], ◌∷◌, ◌++◌, length, map, refl, sym, ap, ap₂, ◌∙◌, subst, arith, Contains, IsTrue, Some, slice_get}
use Rattle.std.specs.List.{list_any}
use Rattle.std.proofs.lemmas.Bool.{both_ways, false_from_ne_true, and_from, not_from_false, and_parts, or_cases}
use Rattle.std.proofs.lemmas.Option.{slice_get_within}
use Rattle.std.proofs.lemmas.List.Elements.{All-contains, Contains-append_left, Contains-append_right, Contains-append_cases}
use Rattle.tor_arena.proofs.Gets.{Contains-map, has-from_Contains}
use Rattle.relationships.specs.declared.given.Given.{Given}
use Rattle.relationships.specs.declared.label.Label.{Label}
use Rattle.relationships.specs.declared.fate.Fate.{Fate}
use Rattle.relationships.specs.declared.fate.Fate.TheVariants.{Kept, Lost}
use Rattle.relationships.specs.declared.walk.Walk.{Walk}
use Rattle.relationships.specs.Checking.{Claim}
use Rattle.relationships.specs.Evidence.{paths_of}
use Rattle.relationships.specs.Relationship.{Labelling, ValleyFree, is_low, is_high, is_over, label_of}
use Rattle.relationships.specs.Graph.{Edge, edge_of, is_same, edges}
use Rattle.relationships.specs.GivenEvidence.{RefutesWith}
use Rattle.relationships.specs.Givens.{names_edge, LabelsSay, returns, end_by}
use Rattle.relationships.specs.Marking.{is_forced}
use Rattle.relationships.specs.Selection.{IsForced}
use Rattle.relationships.proofs.FewReturns.{same-equivalence}
use Rattle.relationships.proofs.GivenLemmas.{any_there, edge_back}
use Rattle.relationships.proofs.GivenPeerings.{given_forced_law}
use Rattle.relationships.proofs.GivenWalks.{any_contains}
use Rattle.relationships.proofs.Slopes.{over_parts, over_one_way}
use Rattle.path_table.specs.Rows as rows
use Rattle.path_table.specs.Rows.{Counted}
use Rattle.result_text.specs.declared.file.EdgeLine.{EdgeLine}
use Rattle.result_text.specs.declared.file.PathLine.{PathLine}
use Rattle.result_text.specs.declared.file.ResultFile.{ResultFile}
use Rattle.result_rules.specs.Against.{row_of}
use Rattle.result_rules.specs.File.{its_givens, its_paths, its_kept, its_claims, its_edges, its_labels, kept_before}
use Rattle.result_rules.specs.declared.rule.Rule.TheVariants.{HeadSound, LostRefuted, EdgesListed, LabelsServe}
use Rattle.result_rules.specs.Rules.{Accepts, HasGivenLabel}
use Rattle.result_rules.proofs.Acceptance.{acceptance_law}
use Rattle.result_rules.proofs.Accepted.{edges_listed, claimed_edges}
use Rattle.result_rules.proofs.GivenLines.{name_two, name_once}
use Rattle.rel_infer.proofs.Acceptance.{same_givens}
use Rattle.rel_infer.proofs.SelfAcceptance.{its_acceptance}
use Rattle.top_givens.specs.TopGivens.{is_top, has_one_top, top_given, is_paired, is_bound, top_givens, given_pairs, top_givens_behind}
use Rattle.top_givens.proofs.Members.{listed_edge, members, listed_paired, given_paired, paired_given, top_sound_law, in_filter}
use Rattle.top_givens.proofs.Tops.{one_of_two, given_of_two, given_edge, paired_append}
use Rattle.top_laws.specs.TopResults.{AreTopKnown, NameNoTop, HasOtherBetween, TopAcceptedLaw, NameGivens, TopResultLaw, TopResumedLaw}
use Rattle.top_laws.proofs.Tops.{unlisted, between}

-- ---- where a checker accepts

module _ (top : List ℕ) (named : List (ℕ × ℕ)) (file : ResultFile) (accepts : Accepts file) (known : AreTopKnown top named (its_givens file) (its_paths file)) where
  abbrev paths : List (List ℕ)
  paths = its_paths file

  abbrev givens : List Given
  givens = its_givens file

  abbrev kept : List (List ℕ)
  kept = paths_of (its_kept file)

  listed : its_edges file ≡ edges paths
  listed = edges_listed file (accepts EdgesListed)

  on_line : (line : EdgeLine) → Contains file.edges line → Contains (edges paths) (line.low, line.high)
  on_line line c = subst (λ (es : List Edge). Contains es (line.low, line.high)) listed (Contains-map (λ (e : EdgeLine). (e.low, e.high)) file.edges line c)

  label_at : (g : Given) → Contains givens g → (line : EdgeLine) → Contains file.edges line → edge_of g.over g.under ≡ (line.low, line.high) → line.label ≡ label_of (end_by g.over g.under)
  label_at g there line c same =
      let h = has-from_Contains file.edges line c in
      let lt = slice_get_within file.edges h.0 line h.1 in
      let back : h.0 ≡ length file.paths + h.0 - length file.paths = omega arith in
      let right : HasGivenLabel file line =
      (accepts LabelsServe (length file.paths + h.0) (omega (arith, lt))).1 (omega arith) line (subst (λ n. slice_get file.edges n ≡ Some line) back h.1) in
      All-contains (λ (g : Given). edge_of g.over g.under ≡ (line.low, line.high) → line.label ≡ label_of (end_by g.over g.under)) givens g right there same

  forced_line : (line : EdgeLine) → Contains file.edges line → is_bound top named (line.low, line.high) ≡ true →
      let g = top_given top (line.low, line.high) in IsTrue (is_forced line.mark) × (line.label ≡ label_of (end_by g.over g.under))
  forced_line line c bound =
      let e : Edge = (line.low, line.high) in
      let g = top_given top e in
      let on = on_line line c in
      let same : edge_of g.over g.under ≡ e = given_edge top e (listed_edge paths e on) in
      let there = known e on bound in
      let names : names_edge paths g ≡ true = any_there (edges paths) (edge_of g.over g.under) (subst (Contains (edges paths)) (sym same) on) in
      let all = (given_forced_law givens paths kept g there names).0 in
      let here : IsForced (returns paths givens ++ kept) line.low line.high = subst (λ (f : Edge). IsForced (returns paths givens ++ kept) f.0 f.1) same all in
      (((acceptance_law file accepts).forced line c).1 here, label_at g there line c same)

  not_over : NameNoTop top named paths → (a m : ℕ) → is_top top m ≡ true → is_top top a ≡ false → is_over (its_labels file) a m ≡ false
  not_over none a m is isnt = false_from_ne_true (is_over (its_labels file) a m) (λ over. absurd (by (list_any (is_same (edge_of a m)) (edges paths)) refl over))
    where
      L : Labelling
      L = its_labels file

      any_back : (e : Edge) (es : List Edge) → list_any (λ f. is_same f e) es ≡ list_any (is_same e) es
      any_back e [] = refl
      any_back e (f ∷ es) = ap₂ (λ s t. s || t) (same-equivalence.symm f e) (any_back e es)

      peer : (low high : ℕ) → list_any (is_same (low, high)) (edges paths) ≡ false → L low high ≡ Label.Peer
      peer low high h =
          unlisted (map (λ (c : Claim). (c.low, c.high)) (its_claims file)) (map (λ (c : Claim). c.label) (its_claims file)) low high
          (ap (list_any (λ f. is_same f (low, high))) (claimed_edges file.edges ∙ listed) ∙ any_back (low, high) (edges paths) ∙ h)

      ends : (n k : ℕ) → n ≡ min a m → k ≡ max a m → ◌≡◌ {A = Edge} (n, k) (edge_of a m)
      ends n k p q = cc

      low_no : (l : Label) → l ≡ Label.Peer → is_low l ≡ true → ⊥
      low_no Label.Low e h = cc
      low_no Label.High e h = cc
      low_no Label.Peer e h = cc

      high_no : (l : Label) → l ≡ Label.Peer → is_high l ≡ true → ⊥
      high_no Label.Low e h = cc
      high_no Label.High e h = cc
      high_no Label.Peer e h = cc

      by : (b : Bool) → list_any (is_same (edge_of a m)) (edges paths) ≡ b → is_over L a m ≡ true → ⊥
      by false out over =
          elim (over_parts L a m over) [
            | inl p ↦ (let lt = p.0 in low_no (L a m) (peer a m (ap (λ (e : Edge). list_any (is_same e) (edges paths)) (ends a m (omega (arith, lt)) (omega (arith, lt))) ∙ out)) p.1)
            | inr p ↦ (let lt = p.0 in high_no (L m a) (peer m a (ap (λ (e : Edge). list_any (is_same e) (edges paths)) (ends m a (omega (arith, lt)) (omega (arith, lt))) ∙ out)) p.1)
          ]
      by true named_edge over =
          let e = edge_of m a in
          let turned : edge_of a m ≡ e = edge_back a m in
          let names : list_any (is_same e) (edges paths) ≡ true = subst (λ (f : Edge). list_any (is_same f) (edges paths) ≡ true) turned named_edge in
          let on : Contains (edges paths) e = any_contains (edges paths) e names in
          let one : has_one_top top e ≡ true = one_of_two top m a ∙ rw (is, isnt) refl in
          let bound : is_bound top named e ≡ true = and_from (has_one_top top e) (not (is_paired named e)) one (not_from_false (is_paired named e) (none e on one)) in
          let g = top_given top e in
          let given = given_of_two top m a is isnt in
          let says : LabelsSay L g = All-contains (λ g. IsTrue (names_edge paths g) → LabelsSay L g) givens g (acceptance_law file accepts).agrees (known e on bound)
          (ap (λ (h : Given). list_any (is_same (edge_of h.over h.under)) (edges paths)) given ∙ names) in
          over_one_way L a m over (ap (λ (h : Given). is_over L h.over h.under) (sym given) ∙ says)

  lost_line : NameNoTop top named paths → (k : ℕ) (line : PathLine) → slice_get file.paths k ≡ Some line → HasOtherBetween top line.path →
      (walk : Walk) × (line.fate ≡ Lost walk) × RefutesWith givens (kept_before file k ++ (k + 1, line.path) ∷ []) walk
  lost_line none k line at b = by line.fate refl
    where
      by : (fate : Fate) → line.fate ≡ fate → (walk : Walk) × (line.fate ≡ Lost walk) × RefutesWith givens (kept_before file k ++ (k + 1, line.path) ∷ []) walk
      by Kept is =
          let lt = slice_get_within file.paths k line at in
          let free : ValleyFree (its_labels file) line.path = (accepts LabelsServe k (omega (arith, lt))).0 line at is in
          absurd (between (its_labels file) top (not_over none) line.path b free)
      by (Lost walk) is = (walk, is, accepts LostRefuted k (slice_get_within file.paths k line at) line at walk is)

pub top_accepted_law : TopAcceptedLaw
top_accepted_law top named file accepts known = record {
  forced = forced_line top named file accepts known;
  no_provider = not_over top named file accepts known;
  lost = lost_line top named file accepts known;
}

-- ---- what is known

pub all_known : (top : List ℕ) (named : List (ℕ × ℕ)) (givens : List Given) (paths : List (List ℕ)) → AreTopKnown top named (givens ++ top_givens top named paths) paths
all_known top named givens paths e on bound =
    Contains-append_right givens (top_givens top named paths) (top_given top e)
    (Contains-map (top_given top) _ e (in_filter (is_bound top named) (edges paths) e on bound))

still_known : (top : List ℕ) (named : List (ℕ × ℕ)) (givens : List Given) (earlier paths : List (List ℕ)) → NameGivens named givens →
    (let known = givens ++ top_givens top named earlier in AreTopKnown top named (known ++ top_givens_behind top known earlier paths) paths)
still_known top named givens earlier paths covers e on bound = by (list_any (is_same e) (edges earlier)) refl
  where
    first : List Given
    first = top_givens top named earlier

    known : List Given
    known = givens ++ first

    parts : (has_one_top top e ≡ true) × (not (is_paired named e) ≡ true)
    parts = and_parts (has_one_top top e) (not (is_paired named e)) bound

    unnot : (b : Bool) → not b ≡ true → b ≡ false
    unnot true h = sym h
    unnot false h = refl

    by : (b : Bool) → list_any (is_same e) (edges earlier) ≡ b → Contains (known ++ top_givens_behind top known earlier paths) (top_given top e)
    by true t =
        Contains-append_left known (top_givens_behind top known earlier paths) (top_given top e)
        (all_known top named givens earlier e (any_contains (edges earlier) e t) bound)
    by false f =
        let unpaired : is_paired (given_pairs known ++ edges earlier) e ≡ false =
        false_from_ne_true (is_paired (given_pairs known ++ edges earlier) e) (λ t. never f t) in
        all_known top (given_pairs known ++ edges earlier) known paths e on (and_from (has_one_top top e) (not (is_paired (given_pairs known ++ edges earlier) e)) parts.0
        (not_from_false (is_paired (given_pairs known ++ edges earlier) e) unpaired))
      where
        never : list_any (is_same e) (edges earlier) ≡ false → is_paired (given_pairs known ++ edges earlier) e ≡ true → ⊥
        never f t =
            elim (or_cases (is_paired (given_pairs known) e) (is_paired (edges earlier) e) (sym (paired_append (given_pairs known) (edges earlier) e) ∙ t)) [
              | inr h ↦ both_ways (is_paired (edges earlier) e) (listed_paired earlier e ∙ f) h
              | inl h ↦
                  let g = paired_given known e h in
                  elim (Contains-append_cases givens first g.0 g.1) [
                    | inl i ↦ both_ways (is_paired named e) (unnot (is_paired named e) parts.1) (subst (λ (x : Edge). is_paired named x ≡ true) g.2 (covers g.0 i))
                    | inr i ↦ (let m = (members top named earlier g.0).0 i in
                        both_ways (list_any (is_same e) (edges earlier)) f (any_there (edges earlier) e (subst (Contains (edges earlier)) g.2 m.edge)))
                  ]
            ]

-- ---- results of tables

paths_same : (lines : List PathLine) → rows.row_paths (map row_of lines) ≡ map (λ (p : PathLine). p.path) lines
paths_same [] = refl
paths_same (line ∷ lines) = ap (λ l. line.path ∷ l) (paths_same lines)

its_known : (known : List Given) (file : ResultFile) → file.givens ≡ Some known → known ≡ its_givens file
its_known known file is = same_givens file (Some known) is

pub top_result_law : TopResultLaw
top_result_law top named givens sets ratio table counts file small are two once covers is =
    let all = givens ++ top_givens top named (rows.row_paths table) in
    let sound = top_sound_law top named (rows.row_paths table) givens covers in
    let accepts = its_acceptance (Some all) sets ratio table counts file is small are (sound.0 two) (sound.1 once) in
    let its : rows.row_paths table ≡ its_paths file = ap rows.row_paths (sym is.paths) ∙ paths_same file.paths in
    let known : AreTopKnown top named all (rows.row_paths table) = all_known top named givens (rows.row_paths table) in
    top_accepted_law top named file accepts
    (subst (λ gs. AreTopKnown top named gs (its_paths file)) (its_known all file is.its_givens) (subst (λ ps. AreTopKnown top named all ps) its known))

pub top_resumed_law : TopResumedLaw
top_resumed_law top earlier sets ratio table counts file small are before is named givens covers made =
    let own = its_givens earlier in
    let behind = top_givens_behind top own (its_paths earlier) (rows.row_paths table) in
    let all = own ++ behind in
    let sound = top_sound_law top (given_pairs own ++ edges (its_paths earlier)) (rows.row_paths table) own (given_paired own (edges (its_paths earlier))) in
    let accepts = its_acceptance (Some all) sets ratio table counts file is small are (sound.0 (name_two earlier (before HeadSound))) (sound.1 (name_once earlier (before HeadSound))) in
    let its : rows.row_paths table ≡ its_paths file = ap rows.row_paths (sym is.paths) ∙ paths_same file.paths in
    let known : AreTopKnown top named all (rows.row_paths table) =
    subst (λ gs. AreTopKnown top named (gs ++ top_givens_behind top gs (its_paths earlier) (rows.row_paths table)) (rows.row_paths table)) (sym made)
    (still_known top named givens (its_paths earlier) (rows.row_paths table) covers) in
    top_accepted_law top named file accepts
    (subst (λ gs. AreTopKnown top named gs (its_paths file)) (its_known all file is.its_givens) (subst (λ ps. AreTopKnown top named all ps) its known))
