-- Labels by places, and the kept paths up to a place.
use Rattle.std.proofs.Common.{◌≡◌, ℕ, zero, suc, ◌+◌, ◌<◌, true, false, List, [], ◌∷◌, length, get_or, slice_get, map, min, max, Some, sym, ap, ap₂, ◌∙◌, subst, arith, refl}
use Rattle.std.proofs.lemmas.Bool.{false_from_ne_true}
use Rattle.std.proofs.lemmas.List.{length-map}
use Rattle.std.proofs.lemmas.Option.{slice_get-get_or, slice_get_within, slice_get_read, get_or_from_slice_get}
use Rattle.result_text.specs.EdgeLabels.{labels_in}
use Rattle.relationships.specs.declared.label.Label.{Label}
use Rattle.relationships.specs.Relationship.{Labelling, ValleyFree}
use Rattle.relationships.specs.Graph.{Edge, edge_of, is_same, labelling}
use Rattle.relationships.proofs.Edges.{same_edge}
use Rattle.relationships.specs.Checking.{Claim, claimed_labels}
use Rattle.result_text.specs.declared.file.EdgeLine.{EdgeLine}
use Rattle.relationships.specs.declared.fate.Fate.TheVariants.{Kept}
use Rattle.result_text.specs.declared.file.PathLine.{PathLine}
use Rattle.result_text.specs.declared.file.ResultFile.{ResultFile}
use Rattle.result_rules.specs.File.{claim_on}
use Rattle.line_rules.specs.EdgeLines.{AreApart}
use Rattle.result_rules.specs.Rules.{IsServedIfKept}
use Rattle.line_rules.specs.GivenLabels.{ServedAt}
use Rattle.line_rules.specs.Breaches.{First}
use Rattle.tor_numbers.specs.Edges.{edge_at}
use Rattle.line_rules.proofs.Lines.{IsLine, before-more, at-place}
use Rattle.line_rules.proofs.EdgeTables.{is_same-self}
use Rattle.line_rules.proofs.SupportLemmas.{same-flipped}

-- ---- the label of an edge

labelling-at : (es : List Edge) (labels : List Label) (low high k : ℕ) (d : Label) → k < length es → length labels ≡ length es → is_same (low, high) (edge_at es k) ≡ true →
    ((j : ℕ) → j < k → is_same (low, high) (edge_at es j) ≡ false) → labelling es labels low high ≡ get_or labels k d
labelling-at [] labels low high k d within same here before = absurd (omega (arith, within))
labelling-at (e ∷ es) [] low high k d within same here before = absurd (omega (arith, same))
labelling-at (e ∷ es) (l ∷ labels) low high zero d within same here before = rw (same-flipped e (low, high), here) refl
labelling-at (e ∷ es) (l ∷ labels) low high (suc k) d within same here before =
    rw (same-flipped e (low, high), before 0 (omega arith))
    (labelling-at es labels low high k d (omega (arith, within)) (omega (arith, same)) here (λ j lt. before (suc j) (omega (arith, lt))))

abbrev edges_in : List EdgeLine → List Edge
edges_in lines = map (λ e. (e.low, e.high)) lines

abbrev marks_in : List EdgeLine → List Label
marks_in lines = map (λ e. e.label) lines

-- the label of the edge in a place is the one in that place
pub label_of_edge : (lines : List EdgeLine) → AreApart lines → (k a b : ℕ) → slice_get (edges_in lines) k ≡ Some (edge_of a b) →
    labels_in lines (min a b) (max a b) ≡ get_or (marks_in lines) k Label.Peer
label_of_edge lines apart k a b found =
    let long : length (edges_in lines) ≡ length lines = length-map lines (λ (e : EdgeLine). (e.low, e.high)) in
    let marks : length (marks_in lines) ≡ length lines = length-map lines (λ (e : EdgeLine). e.label) in
    let inside : k < length (edges_in lines) = slice_get_within (edges_in lines) k (edge_of a b) found in
    let here : is_same (edge_of a b) (edge_at (edges_in lines) k) ≡ true =
    ap (is_same (edge_of a b)) (get_or_from_slice_get (edges_in lines) k (edge_of a b) (0, 0) found) ∙ is_same-self (edge_of a b) in
    let before : (j : ℕ) → j < k → is_same (edge_of a b) (edge_at (edges_in lines) j) ≡ false =
    λ j lt. false_from_ne_true (is_same (edge_of a b) (edge_at (edges_in lines) j)) (λ t.
    let there : slice_get (edges_in lines) j ≡ Some (edge_of a b) =
    slice_get-get_or (edges_in lines) j (0, 0) (omega (arith, lt, inside)) ∙ ap (λ (e : Edge). Some e) (sym (same_edge (edge_of a b) (edge_at (edges_in lines) j) t)) in
    let same : j ≡ k = apart.once j k (edge_of a b) there found in
    omega (arith, same, lt)) in
    labelling-at (edges_in lines) (marks_in lines) (min a b) (max a b) k Label.Peer inside (omega (arith, long, marks)) here before

-- ---- the labels of a file

pairs-same : (lines : List EdgeLine) → map (λ (c : Claim). (c.low, c.high)) (map claim_on lines) ≡ edges_in lines
pairs-same [] = refl
pairs-same (line ∷ lines) = ap (λ (es : List Edge). (line.low, line.high) ∷ es) (pairs-same lines)

marks-same : (lines : List EdgeLine) → map (λ (c : Claim). c.label) (map claim_on lines) ≡ marks_in lines
marks-same [] = refl
marks-same (line ∷ lines) = ap (λ (ls : List Label). line.label ∷ ls) (marks-same lines)

labels-same : (lines : List EdgeLine) → claimed_labels (map claim_on lines) ≡ labels_in lines
labels-same lines = ap₂ labelling (pairs-same lines) (marks-same lines)

-- ---- the kept paths, up to a place

pub served-at : (file : ResultFile) (edges : List EdgeLine) (line : PathLine) → edges ≡ file.edges → (line.fate ≡ Kept → ValleyFree (labels_in edges) line.path) → IsServedIfKept file line
served-at file edges line same served kept =
    subst (λ (L : Labelling). ValleyFree L line.path) (ap labels_in same ∙ sym (labels-same file.edges)) (served kept)

pub valley-first : (file : ResultFile) (edges : List EdgeLine) (place : ℕ) (line : PathLine) → edges ≡ file.edges → ((j : ℕ) → j < place → ServedAt file j) → IsLine file place line →
    ((line.fate ≡ Kept → ValleyFree (labels_in edges) line.path) → ⊥) → First (ServedAt file) (length file.paths) (Some place)
valley-first file edges place line same before l bad = (
  l.within,
  (λ serves. bad (λ kept. subst (λ (L : Labelling). ValleyFree L line.path) (labels-same file.edges ∙ ap labels_in (sym same))
      (serves line (slice_get_read file.paths (length file.paths) place line refl l.within l.is) kept))),
  before,
)

pub valley-more : (file : ResultFile) (edges : List EdgeLine) (place : ℕ) (line : PathLine) → edges ≡ file.edges → ((j : ℕ) → j < place → ServedAt file j) → IsLine file place line →
    (line.fate ≡ Kept → ValleyFree (labels_in edges) line.path) → (j : ℕ) → j < place + 1 → ServedAt file j
valley-more file edges place line same before l served =
    before-more (ServedAt file) place before (at-place (IsServedIfKept file) file.paths place line l.within l.is (served-at file edges line same served))
