-- First edge lines whose labels contradict a given, and the first line that labels don't serve.
use Rattle.std.proofs.Common.{◌≡◌, inl, inr, ℕ, ◌+◌, ◌-◌, ◌<◌, min, List, [], ◌∷◌, ◌++◌, Option, Some, None, length, get_or, slice_get, sym, ap, ◌∙◌, subst, arith}
use Rattle.std.proofs.lemmas.Bool.{cases_lt}
use Rattle.std.proofs.lemmas.List.Elements.{All-append, All-cons, All-nil, All-head}
use Rattle.std.proofs.lemmas.Option.{same_Some, slice_get_within, get_or_from_slice_get}
use Rattle.relationships.proofs.GivenLemmas.{all_parts}
use Rattle.relationships.specs.declared.given.Given.{Given}
use Rattle.relationships.specs.declared.label.Label.{Label}
use Rattle.relationships.specs.Relationship.{label_of}
use Rattle.relationships.specs.Givens.{end_by}
use Rattle.relationships.specs.Graph.{Edge, edge_of}
use Rattle.result_text.specs.declared.file.EdgeLine.{EdgeLine}
use Rattle.result_text.specs.declared.file.ResultFile.{ResultFile}
use Rattle.result_rules.specs.File.{its_givens}
use Rattle.result_rules.specs.declared.rule.Rule.TheVariants.{LabelsServe}
use Rattle.result_rules.specs.Rules.{Asks}
use Rattle.line_rules.specs.EdgeLines.{edges_of, AreApart}
use Rattle.line_rules.specs.GivenLabels.{HasLabelOf, HasLabelAt, HasLabelsAt, ServedAt, lesser_place}
use Rattle.line_rules.specs.Breaches.{First, FindsBreach}
use Rattle.line_rules.specs.PathSteps.{labels_on}
use Rattle.tor_arena.proofs.Gets.{slice_get-map, slice_get-unmap}

-- ---- first places

-- the first place where one of the two doesn't hold
pub first_of_two : (P Q R : ℕ → Type 0) (end : ℕ) (a b : Option ℕ) → ((k : ℕ) → P k → Q k → R k) → ((k : ℕ) → R k → P k × Q k) → First P end a → First Q end b →
    First R end (lesser_place a b)
first_of_two P Q R end None None join parts h g = λ k lt. join k (h k lt) (g k lt)
first_of_two P Q R end None (Some b) join parts h g =
    (g.0, (λ r. g.1 (parts b r).1), λ j lt. (let within = g.0 in join j (h j (omega (arith, lt, within))) (g.2 j lt)))
first_of_two P Q R end (Some a) None join parts h g =
    (h.0, (λ r. h.1 (parts a r).0), λ j lt. (let within = h.0 in join j (h.2 j lt) (g j (omega (arith, lt, within)))))
first_of_two P Q R end (Some a) (Some b) join parts h g = (
  (let within = h.0 in omega (arith, within)),
  (λ r. elim (cases_lt b a) [
    | inl less ↦ (let e : min a b ≡ b = omega (arith, less) in g.1 (subst Q e (parts (min a b) r).1))
    | inr ge ↦ (let e : min a b ≡ a = omega (arith, ge) in h.1 (subst P e (parts (min a b) r).0))
  ]),
  λ j lt. join j (h.2 j (omega (arith, lt))) (g.2 j (omega (arith, lt))),
)

-- ---- givens

pub labels_none : (lines : List EdgeLine) → First (HasLabelsAt lines []) (length lines) None
labels_none lines k lt line at = All-nil (HasLabelOf line)

-- one given more
pub labels_more : (lines : List EdgeLine) (givens givens' : List Given) (g : Given) (a b : Option ℕ) → givens' ≡ givens ++ g ∷ [] → First (HasLabelsAt lines givens) (length lines) a →
    First (HasLabelAt lines g) (length lines) b → First (HasLabelsAt lines givens') (length lines) (lesser_place a b)
labels_more lines givens givens' g a b e h k =
    subst (λ gs. First (HasLabelsAt lines gs) (length lines) (lesser_place a b)) (sym e)
    (first_of_two (HasLabelsAt lines givens) (HasLabelAt lines g) (HasLabelsAt lines (givens ++ g ∷ [])) (length lines) a b
    (λ i p q line at. All-append (HasLabelOf line) givens (g ∷ []) (p line at) (All-cons (HasLabelOf line) g [] (q line at) (All-nil (HasLabelOf line))))
    (λ i r. (
      (λ line at. (all_parts (HasLabelOf line) givens (g ∷ []) (r line at)).0),
      (λ line at. All-head (HasLabelOf line) g [] (all_parts (HasLabelOf line) givens (g ∷ []) (r line at)).1),
    )) h k)

module _ (lines : List EdgeLine) (apart : AreApart lines) (g : Given) where
  -- the edge of a line with the two of the given
  line_edge : (k : ℕ) (line : EdgeLine) → slice_get lines k ≡ Some line → edge_of g.over g.under ≡ (line.low, line.high) → slice_get (edges_of lines) k ≡ Some (edge_of g.over g.under)
  line_edge k line at e = slice_get-map (λ (l : EdgeLine). (l.low, l.high)) lines k line at ∙ ap (λ (p : Edge). Some p) (sym e)

  -- no line has its two
  pub label_absent : ((k : ℕ) → slice_get (edges_of lines) k ≡ Some (edge_of g.over g.under) → ⊥) → First (HasLabelAt lines g) (length lines) None
  label_absent none k lt line at e = absurd (none k (line_edge k line at e))

  module _ (k : ℕ) (found : slice_get (edges_of lines) k ≡ Some (edge_of g.over g.under)) where
    its_line : (line : EdgeLine) × (slice_get lines k ≡ Some line) × (◌≡◌ {A = Edge} (line.low, line.high) (edge_of g.over g.under))
    its_line = slice_get-unmap (λ (l : EdgeLine). (l.low, l.high)) lines k (edge_of g.over g.under) found

    its_label : get_or (labels_on lines) k Label.Peer ≡ its_line.0.label
    its_label =
        get_or_from_slice_get (labels_on lines) k its_line.0.label Label.Peer (slice_get-map (λ (l : EdgeLine). l.label) lines k its_line.0 its_line.1)

    -- the label of its edge is the given's
    pub label_right : get_or (labels_on lines) k Label.Peer ≡ label_of (end_by g.over g.under) → First (HasLabelAt lines g) (length lines) None
    label_right right j lt line at e =
        let same = apart.once j k (edge_of g.over g.under) (line_edge j line at e) found in
        let is = same_Some its_line.0 line (sym its_line.1 ∙ ap (slice_get lines) (sym same) ∙ at) in
        ap (λ (l : EdgeLine). l.label) (sym is) ∙ sym its_label ∙ right

    -- or it is another
    pub label_wrong : (get_or (labels_on lines) k Label.Peer ≡ label_of (end_by g.over g.under) → ⊥) → First (HasLabelAt lines g) (length lines) (Some k)
    label_wrong wrong = (
      slice_get_within lines k its_line.0 its_line.1,
      (λ h. wrong (its_label ∙ h its_line.0 its_line.1 (sym its_line.2))),
      λ j lt line at e. (let same = apart.once j k (edge_of g.over g.under) (line_edge j line at e) found in absurd (omega (arith, lt, same))),
    )

-- ---- path lines, and then edge lines

module _ (file : ResultFile) where
  abbrev LabelsAt : ℕ → Type 0
  LabelsAt = HasLabelsAt file.edges (its_givens file)

  asks_path : (k : ℕ) → k < length file.paths → ServedAt file k → Asks file LabelsServe k
  asks_path k lt h = (h, λ le line at. absurd (omega (arith, lt, le)))

  asks_label : (k j : ℕ) → k ≡ length file.paths + j → LabelsAt j → Asks file LabelsServe k
  asks_label k j e h = (
    (λ line at. (let lt = slice_get_within file.paths k line at in absurd (omega (arith, e, lt)))),
    λ le. (let same : j ≡ k - length file.paths = omega (arith, e) in subst LabelsAt same h),
  )

  label_asked : (k j : ℕ) → k ≡ length file.paths + j → Asks file LabelsServe k → LabelsAt j
  label_asked k j e a = let same : k - length file.paths ≡ j = omega (arith, e) in subst LabelsAt same (a.1 (omega (arith, e)))

  pub all_serve : First (ServedAt file) (length file.paths) None → First LabelsAt (length file.edges) None → FindsBreach file LabelsServe None
  all_serve paths labels k lt = elim (cases_lt k (length file.paths)) [
    | inl less ↦ asks_path k less (paths k less)
    | inr ge ↦
        let j = k - length file.paths in
        let within : j < length file.edges = omega (arith, lt, ge) in
        asks_label k j (omega (arith, ge)) (labels j within)
  ]

  pub path_fails : (k : ℕ) → First (ServedAt file) (length file.paths) (Some k) → FindsBreach file LabelsServe (Some k)
  path_fails k paths = record {
    within = (let lt = paths.0 in omega (arith, lt));
    breach = λ a. paths.1 a.0;
    before = λ j lt. asks_path j (let within = paths.0 in omega (arith, lt, within)) (paths.2 j lt);
  }

  pub label_fails : (k j : ℕ) → k ≡ length file.paths + j → First (ServedAt file) (length file.paths) None → First LabelsAt (length file.edges) (Some j) →
      FindsBreach file LabelsServe (Some k)
  label_fails k j e paths labels = record {
    within = (let lt = labels.0 in omega (arith, e, lt));
    breach = λ a. labels.1 (label_asked k j e a);
    before = λ i lt. elim (cases_lt i (length file.paths)) [
      | inl less ↦ asks_path i less (paths i less)
      | inr ge ↦
          let m = i - length file.paths in
          let less : m < j = omega (arith, e, lt, ge) in
          asks_label i m (omega (arith, ge)) (labels.2 m less)
    ];
  }
