-- The steps of a path of a result, and their edges and labels.
use Rattle.std.proofs.Common.{◌≡◌, ◌≢◌, ◌⊎◌, inl, inr, min, max, set, ℕ, zero, suc, ◌+◌, ◌<◌, List, [], ◌∷◌, length, false, true}
use Rattle.std.proofs.Common.{Some, slice_get, refl, sym, ap, ◌∙◌, subst, arith, eq-eqb, Contains}
use Rattle.std.specs.List.{list_any}
use Rattle.std.proofs.lemmas.Bool.{cases_Bool, cases_lt, cases_order}
use Rattle.std.proofs.lemmas.Option.{same_Some, slice_get_within}
use Rattle.std.proofs.lemmas.List.Elements.{All-contains, Contains-append_left}
use Rattle.tor_arena.proofs.Gets.{slice_get-map, Contains-from_has, has-from_Contains, slice_get-unmap, slice_get-set_same, slice_get-set_other}
use Rattle.relationships.specs.declared.walk.Walk.{Walk}
use Rattle.relationships.specs.declared.fate.Fate.{Fate}
use Rattle.relationships.specs.declared.fate.Fate.TheVariants.{Kept, Lost}
use Rattle.relationships.specs.Fates.{is_kept}
use Rattle.relationships.specs.Graph.{Edge, edge_of, is_same}
use Rattle.relationships.specs.Evidence.{HasPair, NeighboursDiffer}
use Rattle.relationships.proofs.Neighbours.{edge_law}
use Rattle.relationships.specs.declared.label.Label.{Label}
use Rattle.tor_numbers.specs.Edges.{with_edge}
use Rattle.result_text.specs.declared.file.EdgeLine.{EdgeLine}
use Rattle.result_text.specs.declared.file.PathLine.{PathLine}
use Rattle.result_text.specs.declared.file.ResultFile.{ResultFile}
use Rattle.result_rules.specs.File.{its_edges, its_labels, its_paths}
use Rattle.result_rules.specs.declared.rule.Rule.TheVariants.{EdgesListed}
use Rattle.result_rules.specs.Rules.{Accepts}
use Rattle.result_rules.proofs.Accepted.{edges_listed}
use Rattle.telling.specs.Labelling.{HasStep, HaveLabelsTo}
use Rattle.telling.specs.Told.{edge_on}
use Rattle.telling.proofs.LabelLemmas.{paths_differ, its_label, rises}

pub pair_of_step : (path : List ℕ) (at a b : ℕ) → HasStep path at a b → HasPair path a b
pair_of_step [] at a b h = absurd (cc h.0)
pair_of_step (x ∷ []) zero a b h = absurd (cc h.1)
pair_of_step (x ∷ y ∷ path) zero a b h = ([], path, first (some_is x a h.0) (some_is y b h.1))
  where
    some_is : (m n : ℕ) → Some m ≡ Some n → m ≡ n
    some_is m n e = cc

    first : x ≡ a → y ≡ b → x ∷ y ∷ path ≡ a ∷ b ∷ path
    first e f = cc
pair_of_step (x ∷ path) (suc at) a b h =
    let e : suc at + 1 ≡ suc (at + 1) = omega arith in
    let r = pair_of_step path at a b (h.0, subst (λ n. slice_get (x ∷ path) n ≡ Some b) e h.1) in
    (x ∷ r.0, r.1, ap (λ (l : List ℕ). x ∷ l) r.2)

module _ (file : ResultFile) (accepts : Accepts file) (path : List ℕ) (there : Contains (its_paths file) path) (at a b : ℕ) (step : HasStep path at a b) where
  -- two neighbours differ, and are an edge of the result
  pub apart : a ≢ b
  apart = (All-contains NeighboursDiffer (its_paths file) path (paths_differ file accepts) there).differ a b (pair_of_step path at a b step)

  pub listed : Contains (its_edges file) (edge_of a b)
  listed =
      subst (λ (es : List Edge). Contains es (edge_of a b)) (sym (edges_listed file (accepts EdgesListed)))
      (((edge_law (its_paths file)).1 (edge_of a b)).1 (a, b, (path, there, pair_of_step path at a b step), refl))

pub path_there : (file : ResultFile) (k : ℕ) (line : PathLine) → slice_get file.paths k ≡ Some line → Contains (its_paths file) line.path
path_there file k line at = Contains-from_has (its_paths file) line.path (k, slice_get-map (λ (p : PathLine). p.path) file.paths k line at)

pub lost_walk : (fate : Fate) → is_kept fate ≡ false → (walk : Walk) × (fate ≡ Lost walk)
lost_walk Kept e = absurd (cc e)
lost_walk (Lost walk) e = (walk, refl)

pub kept_fate : (fate : Fate) → is_kept fate ≡ true → fate ≡ Kept
kept_fate Kept e = refl
kept_fate (Lost walk) e = absurd (cc e)

-- ---- the edges along a path, and their labels

same_or_not : (a b : ℕ) → (a ≡ b) ⊎ (a ≢ b)
same_or_not a b = elim (cases_order a b) [
  | inl e ↦ inl e
  | inr o ↦ elim o [ inl lt ↦ inr (λ e. absurd (omega (arith, lt, e))) | inr lt ↦ inr (λ e. absurd (omega (arith, lt, e))) ]
]

pub same_itself : (e : Edge) → is_same e e ≡ true
same_itself e = rw (eq-eqb e.0 e.0 refl, eq-eqb e.1 e.1 refl) refl

pub edge_still : (old new : List Edge) (e f : Edge) → new ≡ with_edge old e → Contains old f → Contains new f
edge_still old new e f is c =
    elim (cases_Bool (list_any (is_same e) old)) [
      | inl t ↦ subst (λ es. Contains es f) (sym (is ∙ rw t refl)) c
      | inr n ↦ subst (λ es. Contains es f) (sym (is ∙ rw n refl)) (Contains-append_left old (e ∷ []) f c)
    ]

module _ (file : ResultFile) (accepts : Accepts file) (i : ℕ) (line : EdgeLine) (at : slice_get file.edges i ≡ Some line) where
  there_too : Contains file.edges line
  there_too = Contains-from_has file.edges line (i, at)

  pub own_edge : edge_of line.low line.high ≡ (line.low, line.high)
  own_edge =
      let lt = rises file accepts line there_too in
      let e : min line.low line.high ≡ line.low = omega (arith, lt) in
      let f : max line.low line.high ≡ line.high = omega (arith, lt) in
      pair e f
    where
      pair : {a b c d : ℕ} → a ≡ c → b ≡ d → ◌≡◌ {A = Edge} (a, b) (c, d)
      pair e f = cc

  same_label : (low high : ℕ) → ◌≡◌ {A = Edge} (line.low, line.high) (low, high) → its_labels file low high ≡ line.label
  same_label low high e = subst (λ (f : Edge). its_labels file f.0 f.1 ≡ line.label) e (its_label file accepts line there_too)

  -- a line whose edge isn't there changes nothing
  pub labels_pass : (es : List Edge) (labels : List Label) → (Contains es (edge_of line.low line.high) → ⊥) → HaveLabelsTo (its_labels file) file.edges i es labels →
      HaveLabelsTo (its_labels file) file.edges (i + 1) es labels
  labels_pass es labels none have k j other lt there is = elim (cases_lt k i) [
    | inl old ↦ have k j other old there is
    | inr ge ↦
        let e : k ≡ i = omega (arith, lt, ge) in
        let same = same_Some other line (sym there ∙ subst (λ n. slice_get file.edges n ≡ Some line) (sym e) at) in
        absurd (none (subst (Contains es) (sym own_edge) (Contains-from_has es (line.low, line.high) (j, subst (λ (l : EdgeLine). slice_get es j ≡ Some (l.low, l.high)) same is))))
  ]

  -- and else its label stands in the place of its edge
  pub labels_put : (es : List Edge) (old new : List Label) (p : ℕ) → new ≡ set old p line.label → p < length old → slice_get es p ≡ Some (edge_of line.low line.high) →
      ((j : ℕ) → slice_get es j ≡ Some (edge_of line.low line.high) → j ≡ p) → HaveLabelsTo (its_labels file) file.edges i es old →
      HaveLabelsTo (its_labels file) file.edges (i + 1) es new
  labels_put es old new p set_is inside here only have k j other lt there is = elim (same_or_not j p) [
    | inl e ↦
        let both = same_Some (line.low, line.high) (other.low, other.high) (sym (here ∙ ap (λ (f : Edge). Some f) own_edge) ∙ subst (λ n. slice_get es n ≡ Some (other.low, other.high)) e is) in
        let label = same_label other.low other.high both in
        subst (λ (l : List Label). slice_get l j ≡ Some (its_labels file other.low other.high)) (sym set_is)
        (subst (λ n. slice_get (set old p line.label) n ≡ Some (its_labels file other.low other.high)) (sym e)
        (slice_get-set_same old p line.label inside ∙ ap (λ (l : Label). Some l) (sym label)))
    | inr ne ↦
        let stays = slice_get-set_other old p line.label j ne in
        let older : k < i = elim (cases_lt k i) [
          | inl old ↦ old
          | inr ge ↦
              let e : k ≡ i = omega (arith, lt, ge) in
              let same = same_Some other line (sym there ∙ subst (λ n. slice_get file.edges n ≡ Some line) (sym e) at) in
              absurd (ne (only j (subst (λ (l : EdgeLine). slice_get es j ≡ Some (l.low, l.high)) same is ∙ ap (λ (f : Edge). Some f) (sym own_edge))))
        ] in
        subst (λ (l : List Label). slice_get l j ≡ Some (its_labels file other.low other.high)) (sym set_is) (stays ∙ have k j other older there is)
  ]

-- the label in the place of an edge of the result
pub label_found : (file : ResultFile) (accepts : Accepts file) (e : Edge) (es : List Edge) (labels : List Label) (p : ℕ) → Contains (its_edges file) e →
    HaveLabelsTo (its_labels file) file.edges (length file.edges) es labels → slice_get es p ≡ Some e → slice_get labels p ≡ Some (its_labels file e.0 e.1)
label_found file accepts e es labels p there have is =
    let k = has-from_Contains (its_edges file) e there in
    let w = slice_get-unmap {Y = Edge} edge_on file.edges k.0 e k.1 in
    let found = have k.0 p w.0 (slice_get_within file.edges k.0 w.0 w.1) w.1 (is ∙ ap (λ (f : Edge). Some f) (sym w.2)) in
    subst (λ (f : Edge). slice_get labels p ≡ Some (its_labels file f.0 f.1)) w.2 found
