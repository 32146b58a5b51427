-- What stands behind the returns of givens, said of the orientations that agree with these; and the line of an edge that a given names.
use Rattle.std.proofs.Common.{◌≡◌, ◌≢◌, ◌↔◌, ℕ, ◌≤◌, ◌∙◌, min, max, inl, inr, true, false, Bool, List, [], ◌∷◌, ◌++◌, map, if◌then◌else◌, refl, sym, ap, ap₂, subst, arith}
use Rattle.std.proofs.Common.{append-nil, append_assoc, lt-ltb, le-ltb, Contains, IsTrue}
use Rattle.std.specs.List.{AllByRecursion}
use Rattle.std.proofs.lemmas.Bool.{false≢true}
use Rattle.std.proofs.lemmas.List.Elements.{All-append, All-contains, All-contains_itself, All-from_recursion, All-weaker, recursion_from_All, Contains-append_cases}
use Rattle.tor_arena.proofs.Gets.{Contains-map}
use Rattle.relationships.specs.declared.given.Given.{Given}
use Rattle.relationships.specs.declared.label.End.{End}
use Rattle.relationships.specs.declared.label.Label.{Label}
use Rattle.relationships.specs.Relationship.{Orientation, Labelling, label_of, labels_of, is_low, is_high, is_over, ValleyFree, Serves}
use Rattle.relationships.specs.Graph.{Edge, edge_of, edges}
use Rattle.relationships.specs.Evidence.{paths_of}
use Rattle.relationships.specs.Selection.{KeepsFrom, IsServable, IsForced}
use Rattle.relationships.specs.Preference.{IsPreferred}
use Rattle.relationships.specs.Checking.{kept_of, claimed_labels}
use Rattle.relationships.specs.Marking.{is_forced}
use Rattle.relationships.specs.GivenEvidence.{MeetsAgreeingRules}
use Rattle.relationships.specs.Givens.{names_edge, LabelsSay, return_of, returns, end_by, NameTwo, NameOnce}
use Rattle.relationships.proofs.Slopes.{over_parts}
use Rattle.relationships.proofs.Neighbours.{edge_law}
use Rattle.relationships.proofs.Checked.{label_of_claim}
use Rattle.relationships.proofs.GivenLemmas.{any_there, return_free, return_holds, all_parts, given_serving_law, all_givens_law}
use Rattle.relationships.proofs.GivenPeerings.{given_forced_law}
use Rattle.relationships.proofs.AgreeingRules.{agreeing_rules_law}
use Rattle.result_text.specs.declared.file.EdgeLine.{EdgeLine}
use Rattle.result_rules.specs.File.{claim_on}
use Rattle.rel_infer.specs.Agreeing.{AgreesOnEdges, AgreesWithAll, KeepsAmong, IsForcedAmong, IsPreferredAmong}
use Rattle.rel_infer.specs.GivenLaws.{AgreeingLaw, AllAgreeingLaw, GivenLineLaw, GivenRulesMetLaw}
use Rattle.rel_infer.proofs.LineLemmas.{pairs_same}

-- ---- to serve what stands in front and some paths is to be admitted and to serve these

abbrev Joins : (Orientation → Type 0) → List (List ℕ) → List (List ℕ) → Type 0
Joins admits begun some = (O : Orientation) → (admits O × Serves O some) ↔ Serves O (begun ++ some)

on_edges : (givens : List Given) (paths some : List (List ℕ)) → Joins (AgreesOnEdges givens paths) (returns paths givens) some
on_edges givens paths some O = (given_serving_law givens paths).1 O some

free_all : (L : Labelling) (givens : List Given) → AllByRecursion (LabelsSay L) givens → AllByRecursion (ValleyFree L) (map return_of givens)
free_all L [] h = tt
free_all L (g ∷ givens) h = (return_free L g h.0, free_all L givens h.1)

say_all : (L : Labelling) (givens : List Given) → AllByRecursion (ValleyFree L) (map return_of givens) → AllByRecursion (LabelsSay L) givens
say_all L [] h = tt
say_all L (g ∷ givens) h = (return_holds L g h.0, say_all L givens h.1)

with_all : (givens : List Given) (some : List (List ℕ)) → Joins (AgreesWithAll givens) (map return_of givens) some
with_all givens some O = (
  λ k.
      All-append (ValleyFree (labels_of O)) (map return_of givens) some
      (All-from_recursion (ValleyFree (labels_of O)) (map return_of givens) (free_all (labels_of O) givens (recursion_from_All (LabelsSay (labels_of O)) givens k.0))) k.1,
  λ serves.
      let k = all_parts (ValleyFree (labels_of O)) (map return_of givens) some serves in
      (All-from_recursion (LabelsSay (labels_of O)) givens (say_all (labels_of O) givens (recursion_from_All (ValleyFree (labels_of O)) (map return_of givens) k.0)), k.1),
)

abbrev ServableAmong : (Orientation → Type 0) → List (List ℕ) → Type 0
ServableAmong admits some = (O : Orientation) × admits O × Serves O some

servable_among : (admits : Orientation → Type 0) (begun some : List (List ℕ)) → Joins admits begun some → IsServable (begun ++ some) ↔ ServableAmong admits some
servable_among admits begun some joins = ((λ s. let k = (joins s.0).1 s.1 in (s.0, k.0, k.1)), (λ s. (s.0, (joins s.0).0 (s.1, s.2))))

forced_among : (admits : Orientation → Type 0) (begun some : List (List ℕ)) → Joins admits begun some → (low high : ℕ) →
    IsForced (begun ++ some) low high ↔ IsForcedAmong admits some low high
forced_among admits begun some joins low high = (
  (λ forced O O' a serves a' serves'. forced O O' ((joins O).0 (a, serves)) ((joins O').0 (a', serves'))),
  (λ forced O O' serves serves'. let k = (joins O).1 serves in let k' = (joins O').1 serves' in forced O O' k.0 k.1 k'.0 k'.1),
)

preferred_among : (admits : Orientation → Type 0) (begun some : List (List ℕ)) → Joins admits begun some → (wants : Edge → End) (order : List Edge) (O : Orientation) →
    IsPreferred (begun ++ some) wants order O ↔ IsPreferredAmong admits some wants order O
preferred_among admits begun some joins wants order O = (
  λ h before e after split.
      let k = h before e after split in (
        (λ is. let s = k.0 is in let j = (joins s.0).1 s.1 in (s.0, j.0, j.1, s.2, s.3)),
        (λ s. k.1 (s.0, (joins s.0).0 (s.1, s.2), s.3, s.4)),
      ),
  λ h before e after split.
      let k = h before e after split in (
        (λ is. let s = k.0 is in (s.0, (joins s.0).0 (s.1, s.2), s.3, s.4)),
        (λ s. let j = (joins s.0).1 s.1 in k.1 (s.0, j.0, j.1, s.2, s.3)),
      ),
)

-- ---- paths that are selected among some

module _ (all : List (List ℕ)) (admits : Orientation → Type 0) (begun : List (List ℕ))
    (same : (some : List (List ℕ)) → ((p : List ℕ) → Contains some p → Contains all p) → IsServable (begun ++ some) ↔ ServableAmong admits some) where
  one_more : (some : List (List ℕ)) (path : List ℕ) → ((p : List ℕ) → Contains some p → Contains all p) → Contains all path →
      (p : List ℕ) → Contains (some ++ path ∷ []) p → Contains all p
  one_more some path sub there p c = elim (Contains-append_cases some (path ∷ []) p c) [
    | inl i ↦ sub p i
    | inr i ↦ All-contains (Contains all) (path ∷ []) p (All-from_recursion (Contains all) (path ∷ []) (there, tt)) i
  ]

  flag_forth : (some : List (List ℕ)) (path : List ℕ) (keep : Bool) → ((p : List ℕ) → Contains (some ++ path ∷ []) p → Contains all p) →
      (IsTrue keep ↔ IsServable ((begun ++ some) ++ path ∷ [])) → (IsTrue keep ↔ ServableAmong admits (some ++ path ∷ []))
  flag_forth some path keep sub h =
      let e = append_assoc begun some (path ∷ []) in
      let k = same (some ++ path ∷ []) sub in
      ((λ t. k.0 (subst IsServable e (h.0 t))), (λ s. h.1 (subst IsServable (sym e) (k.1 s))))

  flag_back : (some : List (List ℕ)) (path : List ℕ) (keep : Bool) → ((p : List ℕ) → Contains (some ++ path ∷ []) p → Contains all p) →
      (IsTrue keep ↔ ServableAmong admits (some ++ path ∷ [])) → (IsTrue keep ↔ IsServable ((begun ++ some) ++ path ∷ []))
  flag_back some path keep sub h =
      let e = append_assoc begun some (path ∷ []) in
      let k = same (some ++ path ∷ []) sub in
      ((λ t. subst IsServable (sym e) (k.1 (h.0 t))), (λ s. h.1 (k.0 (subst IsServable e s))))

  forth : (some rest : List (List ℕ)) (keeps : List Bool) → ((p : List ℕ) → Contains some p → Contains all p) → AllByRecursion (Contains all) rest →
      KeepsFrom (begun ++ some) rest keeps → KeepsAmong admits some rest keeps
  forth some [] [] sub there h = tt
  forth some [] (keep ∷ keeps) sub there h = absurd h
  forth some (path ∷ rest) [] sub there h = absurd h
  forth some (path ∷ rest) (true ∷ keeps) sub there h =
      let more = one_more some path sub there.0 in (
        flag_forth some path true more h.0,
        forth (some ++ path ∷ []) rest keeps more there.1 (subst (λ ps. KeepsFrom ps rest keeps) (append_assoc begun some (path ∷ [])) h.1),
      )
  forth some (path ∷ rest) (false ∷ keeps) sub there h =
      (flag_forth some path false (one_more some path sub there.0) h.0, forth some rest keeps sub there.1 h.1)

  back : (some rest : List (List ℕ)) (keeps : List Bool) → ((p : List ℕ) → Contains some p → Contains all p) → AllByRecursion (Contains all) rest →
      KeepsAmong admits some rest keeps → KeepsFrom (begun ++ some) rest keeps
  back some [] [] sub there h = tt
  back some [] (keep ∷ keeps) sub there h = absurd h
  back some (path ∷ rest) [] sub there h = absurd h
  back some (path ∷ rest) (true ∷ keeps) sub there h =
      let more = one_more some path sub there.0 in (
        flag_back some path true more h.0,
        subst (λ ps. KeepsFrom ps rest keeps) (sym (append_assoc begun some (path ∷ []))) (back (some ++ path ∷ []) rest keeps more there.1 h.1),
      )
  back some (path ∷ rest) (false ∷ keeps) sub there h =
      (flag_back some path false (one_more some path sub there.0) h.0, back some rest keeps sub there.1 h.1)

  none : (p : List ℕ) → Contains {X = List ℕ} [] p → Contains all p
  none p c = let lt = c.1 in absurd (omega (arith, lt))

  each : AllByRecursion (Contains all) all
  each = recursion_from_All (Contains all) all (All-contains_itself all)

  keeps_among : (keeps : List Bool) → KeepsFrom begun all keeps ↔ KeepsAmong admits [] all keeps
  keeps_among keeps = (
    (λ h. forth [] all keeps none each (subst (λ ps. KeepsFrom ps all keeps) (sym (append-nil begun)) h)),
    (λ h. subst (λ ps. KeepsFrom ps all keeps) (append-nil begun) (back [] all keeps none each h)),
  )

pub agreeing_law : AgreeingLaw
agreeing_law givens paths = (
  λ some keeps.
      keeps_among some (AgreesOnEdges givens paths) (returns paths givens)
      (λ ps sub. servable_among (AgreesOnEdges givens paths) (returns paths givens) ps (on_edges givens paths ps)) keeps,
  λ kept low high. forced_among (AgreesOnEdges givens paths) (returns paths givens) kept (on_edges givens paths kept) low high,
  λ kept wants order O. preferred_among (AgreesOnEdges givens paths) (returns paths givens) kept (on_edges givens paths kept) wants order O,
)

pub edges_in : (some paths : List (List ℕ)) → ((p : List ℕ) → Contains some p → Contains paths p) → (e : Edge) → Contains (edges some) e → Contains (edges paths) e
edges_in some paths sub e c =
    let n = ((edge_law some).1 e).0 c in ((edge_law paths).1 e).1 (n.0, n.1, (n.2.0, sub n.2.0 n.2.1, n.2.2), n.3)

pub all_agreeing_law : AllAgreeingLaw
all_agreeing_law givens paths two once = (
  λ keeps.
      keeps_among paths (AgreesWithAll givens) (map return_of givens)
      (λ ps sub. servable_among (AgreesWithAll givens) (map return_of givens) ps (with_all givens ps)) keeps,
  λ keeps.
      keeps_among paths (AgreesWithAll givens) (returns paths givens)
      (λ ps sub.
      let near = (all_givens_law givens paths ps two once (edges_in ps paths sub)).0 in
      let all = servable_among (AgreesWithAll givens) (map return_of givens) ps (with_all givens ps) in
      ((λ s. all.0 (near.0 s)), (λ s. near.1 (all.1 s)))) keeps,
  λ kept among low high there.
      let near = (all_givens_law givens paths kept two once among).1 low high there in
      let all = forced_among (AgreesWithAll givens) (map return_of givens) kept (with_all givens kept) low high in
      ((λ f. all.0 (near.0 f)), (λ f. near.1 (all.1 f))),
)

-- some of the paths are kept behind the returns of the givens on all paths as they are behind those on themselves
pub kept_among_more : (givens : List Given) (paths some : List (List ℕ)) → NameTwo givens → NameOnce givens → ((p : List ℕ) → Contains some p → Contains paths p) → (keeps : List Bool) →
    KeepsFrom (returns some givens) some keeps → KeepsFrom (returns paths givens) some keeps
kept_among_more givens paths some two once sub keeps h =
    (keeps_among some (AgreesWithAll givens) (returns paths givens)
    (λ ps inside.
    let near = (all_givens_law givens paths ps two once (edges_in ps paths (λ p c. sub p (inside p c)))).0 in
    let all = servable_among (AgreesWithAll givens) (map return_of givens) ps (with_all givens ps) in
    ((λ s. all.0 (near.0 s)), (λ s. near.1 (all.1 s)))) keeps).1 (((all_agreeing_law givens some two once).1 keeps).0 h)

-- ---- the line of an edge that a given names

low_label : (l : Label) → is_low l ≡ true → l ≡ Label.Low
low_label Label.Low h = refl
low_label Label.High h = absurd (false≢true h)
low_label Label.Peer h = absurd (false≢true h)

high_label : (l : Label) → is_high l ≡ true → l ≡ Label.High
high_label Label.Low h = absurd (false≢true h)
high_label Label.High h = refl
high_label Label.Peer h = absurd (false≢true h)

over_label : (L : Labelling) (a b : ℕ) → is_over L a b ≡ true → L (min a b) (max a b) ≡ label_of (end_by a b)
over_label L a b o =
    elim (over_parts L a b o) [
      | inl p ↦
          let lt = p.0 in
          let e₁ : min a b ≡ a = omega (arith, lt) in let e₂ : max a b ≡ b = omega (arith, lt) in
          ap₂ L e₁ e₂ ∙ low_label (L a b) p.1 ∙ sym (ap (λ t. label_of (if t then End.Low else End.High)) (lt-ltb a b lt))
      | inr p ↦
          let lt = p.0 in
          let e₁ : min a b ≡ b = omega (arith, lt) in let e₂ : max a b ≡ a = omega (arith, lt) in
          let ge : b ≤ a = omega (arith, lt) in
          ap₂ L e₁ e₂ ∙ high_label (L b a) p.1 ∙ sym (ap (λ t. label_of (if t then End.Low else End.High)) (le-ltb a b ge))
    ]

pub given_line_law : GivenLineLaw
given_line_law givens ratio paths walks lines whys probes i g there =
    All-weaker (Contains lines)
    (λ line. (line.low, line.high) ≡ edge_of g.over g.under → IsTrue (is_forced line.mark) × (line.label ≡ label_of (end_by g.over g.under)))
    (λ line c is. at_line line c is) lines (All-contains_itself lines)
  where
    L : Labelling
    L = claimed_labels (map claim_on lines)

    kept : List (List ℕ)
    kept = paths_of (kept_of paths walks)

    at_line : (line : EdgeLine) → Contains lines line → (line.low, line.high) ≡ edge_of g.over g.under →
        IsTrue (is_forced line.mark) × (line.label ≡ label_of (end_by g.over g.under))
    at_line line c is =
        let low : line.low ≡ min g.over g.under = ap (λ (e : Edge). e.0) is in
        let high : line.high ≡ max g.over g.under = ap (λ (e : Edge). e.1) is in
        let on : Contains (edges paths) (line.low, line.high) =
        subst (λ (es : List Edge). Contains es (line.low, line.high)) i.edges_listed (Contains-map (λ (l : EdgeLine). (l.low, l.high)) lines line c) in
        let named = any_there (edges paths) (edge_of g.over g.under) (subst (Contains (edges paths)) is on) in
        let forced : IsForced (returns paths givens ++ kept) line.low line.high =
        subst (λ n. IsForced (returns paths givens ++ kept) n line.high) (sym low)
        (subst (λ n. IsForced (returns paths givens ++ kept) (min g.over g.under) n) (sym high) (given_forced_law givens paths kept g there named).0) in
        let says = All-contains (λ g. IsTrue (names_edge paths g) → LabelsSay L g) givens g i.agrees there named in
        let claimed : L line.low line.high ≡ line.label =
        label_of_claim paths (map claim_on lines) (pairs_same lines ∙ i.edges_listed) (claim_on line) (Contains-map claim_on lines line c) in (
          (All-contains (λ line. IsTrue (is_forced line.mark) ↔ IsForced (returns paths givens ++ kept) line.low line.high) lines line i.forced c).1 forced,
          sym claimed ∙ ap₂ L low high ∙ over_label L g.over g.under says,
        )

-- ---- the rules with givens

pub given_rules_met_law : GivenRulesMetLaw
given_rules_met_law givens ratio paths walks lines whys probes two once differ i = (
  rules,
  All-weaker (Contains lines) (λ line. IsTrue (is_forced line.mark) → line.label ≢ Label.Peer)
      (λ line c. (agreeing_rules_law givens paths walks (map claim_on lines) whys probes rules).2 (claim_on line) (Contains-map claim_on lines line c)) lines (All-contains_itself lines),
)
  where
    rules : MeetsAgreeingRules givens paths walks (map claim_on lines) whys probes
    rules = record {
      two = two;
      once = once;
      neighbours_differ = differ;
      lost = i.lost;
      each_edge = pairs_same lines ∙ i.edges_listed;
      agrees = i.agrees;
      valley_free = i.valley_free;
      marks = i.evidence;
    }
