-- The edge lines of a result: one line more, and what all of them claim.
use Rattle.std.proofs.Common.{◌≡◌, ℕ, ◌+◌, ◌≤◌, List, [], ◌∷◌, ◌++◌, map, take, length, Some, slice_get, refl, sym, ap, ap₂, ◌∙◌, All}
use Rattle.std.proofs.lemmas.List.{map-append, take_all}
use Rattle.std.proofs.lemmas.List.Elements.{All-cons, All-nil, All-head, All-tail}
use Rattle.relationships.specs.declared.label.Label.{Label}
use Rattle.relationships.specs.declared.mark.Mark.{Mark}
use Rattle.relationships.specs.Graph.{Edge, labelling}
use Rattle.relationships.specs.Checking.{Claim, claimed_labels}
use Rattle.relationships.specs.Marking.{claims_of}
use Rattle.result_text.specs.declared.file.EdgeLine.{EdgeLine}
use Rattle.result_rules.specs.File.{claim_on}
use Rattle.tor_arena.proofs.Gets.{take_get}
use Rattle.rel_infer.specs.EdgeLines.{AreLinesOf}

abbrev pub pair_of : EdgeLine → Edge
pair_of line = (line.low, line.high)

-- one item more, under a map
mapped_more : {X Y : Type 0} (f : X → Y) (ys : List Y) (xs : List X) (x : X) (k : ℕ) → map f xs ≡ take k ys → slice_get ys k ≡ Some (f x) →
    map f (xs ++ x ∷ []) ≡ take (k + 1) ys
mapped_more f ys xs x k same at = map-append f xs (x ∷ []) ∙ ap (λ l. l ++ f x ∷ []) same ∙ sym (take_get ys k (f x) at)

pub lines_more : (es : List Edge) (labels : List Label) (marks : List Mark) (supports : List ℕ) (k : ℕ) (lines : List EdgeLine) (line : EdgeLine) →
    AreLinesOf (take k es) (take k labels) (take k marks) (take k supports) lines → slice_get es k ≡ Some (line.low, line.high) →
    slice_get labels k ≡ Some line.label → slice_get marks k ≡ Some line.mark → slice_get supports k ≡ Some line.support →
    AreLinesOf (take (k + 1) es) (take (k + 1) labels) (take (k + 1) marks) (take (k + 1) supports) (lines ++ line ∷ [])
lines_more es labels marks supports k lines line so edge label mark support = record {
  its_edges = mapped_more pair_of es lines line k so.its_edges edge;
  its_labels = mapped_more (λ (l : EdgeLine). l.label) labels lines line k so.its_labels label;
  its_marks = mapped_more (λ (l : EdgeLine). l.mark) marks lines line k so.its_marks mark;
  its_supports = mapped_more (λ (l : EdgeLine). l.support) supports lines line k so.its_supports support;
}

-- ---- claims

claims_same : (lines : List EdgeLine) → claims_of (map pair_of lines) (map (λ (l : EdgeLine). l.label) lines) (map (λ (l : EdgeLine). l.mark) lines) ≡ map claim_on lines
claims_same [] = refl
claims_same (line ∷ lines) = ap (λ l. claim_on line ∷ l) (claims_same lines)

pub pairs_same : (lines : List EdgeLine) → map {B = Edge} (λ (c : Claim). (c.low, c.high)) (map claim_on lines) ≡ map pair_of lines
pairs_same [] = refl
pairs_same (line ∷ lines) = ap (λ l. pair_of line ∷ l) (pairs_same lines)

labels_same : (lines : List EdgeLine) → map (λ (c : Claim). c.label) (map claim_on lines) ≡ map (λ (l : EdgeLine). l.label) lines
labels_same [] = refl
labels_same (line ∷ lines) = ap (λ l. line.label ∷ l) (labels_same lines)

module _ (es : List Edge) (labels : List Label) (marks : List Mark) (supports : List ℕ) (lines : List EdgeLine) (are : AreLinesOf es labels marks supports lines) where
  pub claims_are : claims_of es labels marks ≡ map claim_on lines
  claims_are =
      ap (λ l. claims_of l labels marks) (sym are.its_edges) ∙ ap (λ l. claims_of (map pair_of lines) l marks) (sym are.its_labels) ∙
      ap (claims_of (map pair_of lines) (map (λ (l : EdgeLine). l.label) lines)) (sym are.its_marks) ∙ claims_same lines

  pub labelling_is : labelling es labels ≡ claimed_labels (map claim_on lines)
  labelling_is = ap₂ labelling (sym are.its_edges ∙ sym (pairs_same lines)) (sym are.its_labels ∙ sym (labels_same lines))

-- ---- supports, and marks line by line

each_support : (count : Edge → ℕ) (lines : List EdgeLine) → map (λ (l : EdgeLine). l.support) lines ≡ map count (map pair_of lines) →
    All (λ line. line.support ≡ count (line.low, line.high)) lines
each_support count [] same = All-nil (λ line. line.support ≡ count (line.low, line.high))
each_support count (line ∷ lines) same =
    let here : line.support ≡ count (line.low, line.high) = cc in
    let rest : map (λ (l : EdgeLine). l.support) lines ≡ map count (map pair_of lines) = cc in
    All-cons (λ line. line.support ≡ count (line.low, line.high)) line lines here (each_support count lines rest)

pub supports_are : (count : Edge → ℕ) (es : List Edge) (lines : List EdgeLine) → map pair_of lines ≡ es → map (λ (l : EdgeLine). l.support) lines ≡ map count es →
    All (λ line. line.support ≡ count (line.low, line.high)) lines
supports_are count es lines pairs same = each_support count lines (same ∙ ap (map count) (sym pairs))

pub each_line : (P : Claim → Type 0) (lines : List EdgeLine) → All P (map claim_on lines) → All (λ line. P (claim_on line)) lines
each_line P [] h = All-nil (λ line. P (claim_on line))
each_line P (line ∷ lines) h =
    All-cons (λ line. P (claim_on line)) line lines (All-head P (claim_on line) (map claim_on lines) h)
    (each_line P lines (All-tail P (claim_on line) (map claim_on lines) h))

-- ---- the first and the last turn

pub no_lines : (es : List Edge) (labels : List Label) (marks : List Mark) (supports : List ℕ) → AreLinesOf (take 0 es) (take 0 labels) (take 0 marks) (take 0 supports) []
no_lines es labels marks supports = record { its_edges = refl; its_labels = refl; its_marks = refl; its_supports = refl }

pub lines_all : (es : List Edge) (labels : List Label) (marks : List Mark) (supports : List ℕ) (k : ℕ) (lines : List EdgeLine) →
    length es ≤ k → length labels ≤ k → length marks ≤ k → length supports ≤ k →
    AreLinesOf (take k es) (take k labels) (take k marks) (take k supports) lines → AreLinesOf es labels marks supports lines
lines_all es labels marks supports k lines a b c d so = record {
  its_edges = so.its_edges ∙ take_all k es a;
  its_labels = so.its_labels ∙ take_all k labels b;
  its_marks = so.its_marks ∙ take_all k marks c;
  its_supports = so.its_supports ∙ take_all k supports d;
}
