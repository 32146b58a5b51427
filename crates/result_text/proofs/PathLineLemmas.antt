-- Path lines that are given by their parts.
use Rattle.std.proofs.Common.{◌≡◌, ◌∙◌, ℕ, zero, suc, List, [], ◌∷◌, ◌++◌, length, map, get_or, slice_get, Option, Some, None, option_map, refl, sym, ap, ap₂, arith}
use Rattle.relationships.specs.declared.walk.Walk.{Walk}
use Rattle.relationships.specs.declared.fate.Fate.{Fate}
use Rattle.relationships.specs.declared.fate.Fate.TheVariants as fate
use Rattle.relationships.specs.Fates.{walk_of}
use Rattle.result_text.specs.declared.file.PathLine.{PathLine}
use Rattle.result_text.specs.PathLines.{fate_with, line_with, lines_by}

module _ (path : List ℕ) (n : ℕ) (f : Fate) where
  pub lines_by-push : (paths : List (List ℕ)) (times : List ℕ) (fates : List Fate) → length times ≡ length paths → length fates ≡ length paths
      → lines_by (paths ++ path ∷ []) (times ++ n ∷ []) (fates ++ f ∷ []) ≡ lines_by paths times fates ++ line_with n path f ∷ []
  lines_by-push [] [] [] t s = refl
  lines_by-push [] [] (g ∷ gs) t s = absurd (omega (arith, s))
  lines_by-push [] (m ∷ ms) fates t s = absurd (omega (arith, t))
  lines_by-push (p ∷ ps) [] fates t s = absurd (omega (arith, t))
  lines_by-push (p ∷ ps) (m ∷ ms) [] t s = absurd (omega (arith, s))
  lines_by-push (p ∷ ps) (m ∷ ms) (g ∷ gs) t s = ap (λ ls. line_with m p g ∷ ls) (lines_by-push ps ms gs (omega (arith, t)) (omega (arith, s)))

pub length-lines_by : (paths : List (List ℕ)) (times : List ℕ) (fates : List Fate) → length times ≡ length paths → length fates ≡ length paths
    → length (lines_by paths times fates) ≡ length paths
length-lines_by [] times fates t s = refl
length-lines_by (p ∷ ps) [] fates t s = absurd (omega (arith, t))
length-lines_by (p ∷ ps) (m ∷ ms) [] t s = absurd (omega (arith, s))
length-lines_by (p ∷ ps) (m ∷ ms) (g ∷ gs) t s = ap suc (length-lines_by ps ms gs (omega (arith, t)) (omega (arith, s)))

pub paths-lines_by : (paths : List (List ℕ)) (times : List ℕ) (fates : List Fate) → length times ≡ length paths → length fates ≡ length paths
    → map (λ line. line.path) (lines_by paths times fates) ≡ paths
paths-lines_by [] times fates t s = refl
paths-lines_by (p ∷ ps) [] fates t s = absurd (omega (arith, t))
paths-lines_by (p ∷ ps) (m ∷ ms) [] t s = absurd (omega (arith, s))
paths-lines_by (p ∷ ps) (m ∷ ms) (g ∷ gs) t s = ap (λ ls. p ∷ ls) (paths-lines_by ps ms gs (omega (arith, t)) (omega (arith, s)))

pub times-lines_by : (paths : List (List ℕ)) (times : List ℕ) (fates : List Fate) → length times ≡ length paths → length fates ≡ length paths
    → map (λ line. line.times) (lines_by paths times fates) ≡ times
times-lines_by [] [] fates t s = refl
times-lines_by [] (m ∷ ms) fates t s = absurd (omega (arith, t))
times-lines_by (p ∷ ps) [] fates t s = refl
times-lines_by (p ∷ ps) (m ∷ ms) [] t s = absurd (omega (arith, s))
times-lines_by (p ∷ ps) (m ∷ ms) (g ∷ gs) t s = ap (λ ls. m ∷ ls) (times-lines_by ps ms gs (omega (arith, t)) (omega (arith, s)))

pub fates-lines_by : (paths : List (List ℕ)) (times : List ℕ) (fates : List Fate) → length times ≡ length paths → length fates ≡ length paths
    → map (λ line. line.fate) (lines_by paths times fates) ≡ fates
fates-lines_by [] times [] t s = refl
fates-lines_by [] times (g ∷ gs) t s = absurd (omega (arith, s))
fates-lines_by (p ∷ ps) [] fates t s = absurd (omega (arith, t))
fates-lines_by (p ∷ ps) (m ∷ ms) [] t s = refl
fates-lines_by (p ∷ ps) (m ∷ ms) (g ∷ gs) t s = ap (λ ls. g ∷ ls) (fates-lines_by ps ms gs (omega (arith, t)) (omega (arith, s)))

-- a fate is given back by its walk
fate_with-walk_of : (f : Fate) → fate_with (walk_of f) ≡ f
fate_with-walk_of fate.Kept = refl
fate_with-walk_of (fate.Lost w) = refl

fate_of-walk : (f : Fate) (w : Option Walk) → Some (walk_of f) ≡ Some w → f ≡ fate_with w
fate_of-walk f w is = sym (fate_with-walk_of f) ∙ ap fate_with (let same : walk_of f ≡ w = cc in same)

pub line-at : (paths : List (List ℕ)) (times : List ℕ) (fates : List Fate) (k : ℕ) (p : List ℕ) (w : Option Walk) → length times ≡ length paths
    → slice_get paths k ≡ Some p → option_map walk_of (slice_get fates k) ≡ Some w
    → slice_get (lines_by paths times fates) k ≡ Some (line_with (get_or times k 0) p (fate_with w))
line-at [] times fates k p w t at_p at_w = absurd cc
line-at (q ∷ ps) [] fates k p w t at_p at_w = absurd (omega (arith, t))
line-at (q ∷ ps) (m ∷ ms) [] k p w t at_p at_w = absurd cc
line-at (q ∷ ps) (m ∷ ms) (g ∷ gs) zero p w t at_p at_w =
    let path : q ≡ p = cc in
    let fate : g ≡ fate_with w = fate_of-walk g w at_w in
    ap₂ (λ x y. Some (line_with m x y)) path fate
line-at (q ∷ ps) (m ∷ ms) (g ∷ gs) (suc k) p w t at_p at_w = line-at ps ms gs k p w (omega (arith, t)) at_p at_w

-- a line by the walk that it has
pub line_kept : (line : PathLine) → walk_of line.fate ≡ None → line_with line.times line.path fate.Kept ≡ line
line_kept line none = ap (λ f. line_with line.times line.path f) (sym (fate_of-walk line.fate None (ap (λ w. Some w) none)))

pub line_lost : (line : PathLine) (walk : Walk) → walk_of line.fate ≡ Some walk → line_with line.times line.path (fate.Lost walk) ≡ line
line_lost line walk some = ap (λ f. line_with line.times line.path f) (sym (fate_of-walk line.fate (Some walk) (ap (λ w. Some w) some)))
