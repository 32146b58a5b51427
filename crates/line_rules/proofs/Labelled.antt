-- The labels of edge lines, one by one.
use Rattle.std.proofs.Common.{◌≡◌, ℕ, zero, suc, ◌+◌, ◌<◌, List, [], ◌∷◌, ◌++◌, get_or, length, take, refl, ap, ◌∙◌, arith}
use Rattle.relationships.specs.declared.label.Label.{Label}
use Rattle.result_text.specs.declared.file.EdgeLine.{EdgeLine}
use Rattle.line_rules.specs.PathSteps.{labels_on}

next_label : (lines : List EdgeLine) (k : ℕ) (d : EdgeLine) → k < length lines → labels_on (take k lines) ++ (get_or lines k d).label ∷ [] ≡ labels_on (take (suc k) lines)
next_label [] k d lt = absurd (omega (arith, lt))
next_label (line ∷ lines) zero d lt = refl
next_label (line ∷ lines) (suc k) d lt = ap (λ ls. line.label ∷ ls) (next_label lines k d (omega (arith, lt)))

pub labels_next : (lines : List EdgeLine) (k : ℕ) (d : EdgeLine) (labels : List Label) → k < length lines → labels ≡ labels_on (take k lines)
    → labels ++ (get_or lines k d).label ∷ [] ≡ labels_on (take (k + 1) lines)
labels_next lines k d labels lt so_far =
    let next : suc k ≡ k + 1 = omega arith in
    ap (λ ls. ls ++ (get_or lines k d).label ∷ []) so_far ∙ next_label lines k d lt ∙ ap (λ n. labels_on (take n lines)) next
