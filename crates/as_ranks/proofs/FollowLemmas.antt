-- The lines inside a cycle, each followed by the next one.
use Rattle.std.proofs.Common.{◌≡◌, ℕ, zero, suc, ◌+◌, ◌-◌, ◌<◌, ◌≤◌, Bool, true, false, cond, List, [], ◌∷◌, ◌++◌, length, drop, filter, Some, sym, ap, ◌∙◌, arith, append_assoc, append-nil}
use Rattle.std.specs.Prelude.{slice_get}
use Rattle.std.proofs.lemmas.List.{drop_all, drop_more}
use Rattle.std.proofs.lemmas.Option.{slice_get_within, get_or_from_slice_get}
use Rattle.tor_arena.proofs.Gets.{slice_get-some}
use Rattle.as_rel.specs.declared.line.RelLine.{RelLine}
use Rattle.as_ranks.specs.Cycles.{is_inside, inside_of}
use Rattle.as_ranks.specs.Linking.{IsNextInside, AreLinesLinked}

module _ {X : Type 0} (p : X → Bool) (xs : List X) where
  filter-hit : (k : ℕ) (x : X) → slice_get xs k ≡ Some x → p x ≡ true → filter p (drop k xs) ≡ x ∷ filter p (drop (k + 1) xs)
  filter-hit k x at hit =
      ap (filter p) (drop_more xs k x (slice_get_within xs k x at)) ∙ ap (λ z. filter p (z ∷ drop (k + 1) xs)) (get_or_from_slice_get xs k x x at)
      ∙ ap (λ b. cond b (x ∷ filter p (drop (k + 1) xs)) (filter p (drop (k + 1) xs))) hit

  filter-miss : (k : ℕ) (x : X) → slice_get xs k ≡ Some x → p x ≡ false → filter p (drop k xs) ≡ filter p (drop (k + 1) xs)
  filter-miss k x at miss =
      ap (filter p) (drop_more xs k x (slice_get_within xs k x at)) ∙ ap (λ z. filter p (z ∷ drop (k + 1) xs)) (get_or_from_slice_get xs k x x at)
      ∙ ap (λ b. cond b (x ∷ filter p (drop (k + 1) xs)) (filter p (drop (k + 1) xs))) miss

  -- a stretch of which nothing is taken
  filter-skip : (n low high : ℕ) → low + n ≡ high → high ≤ length xs → ((k : ℕ) (x : X) → low ≤ k → k < high → slice_get xs k ≡ Some x → p x ≡ false) →
      filter p (drop low xs) ≡ filter p (drop high xs)
  filter-skip zero low high e fits none = let same : low ≡ high = omega (arith, e) in ap (λ k. filter p (drop k xs)) same
  filter-skip (suc n) low high e fits none =
      let lt : low < length xs = omega (arith, e, fits) in
      let at = slice_get-some xs low lt in
      filter-miss low at.0 at.1 (none low at.0 (omega arith) (omega (arith, e)) at.1)
      ∙ filter-skip n (low + 1) high (omega (arith, e)) fits (λ k x le less at_k. none k x (omega (arith, le)) less at_k)

-- what was put into the list, and what comes from here on, are the lines inside the cycle
pub record AreFollowed (rel : List RelLine) (ases : List ℕ) (at : ℕ) (row : List RelLine) : Type 0 where
  pub whole : row ++ filter (is_inside ases) (drop at rel) ≡ inside_of rel ases
  pub inside : (l : RelLine) → slice_get rel at ≡ Some l → is_inside ases l ≡ true

module _ (rel : List RelLine) (ases : List ℕ) where
  next-skips : (low next : ℕ) → IsNextInside rel ases low next → filter (is_inside ases) (drop low rel) ≡ filter (is_inside ases) (drop next rel)
  next-skips low next n = let later = n.later in filter-skip (is_inside ases) rel (next - low) low next (omega (arith, later)) n.most n.none_before

  pub followed-first : (start : ℕ) → IsNextInside rel ases 0 start → AreFollowed rel ases start []
  followed-first start n = record { whole = sym (next-skips 0 start n); inside = n.inside }

  module _ (start at r : ℕ) (l : RelLine) (row new : List RelLine) (next : List ℕ) (linked : AreLinesLinked rel ases start next) (here : slice_get rel at ≡ Some l)
      (there : slice_get next at ≡ Some r) (put : new ≡ row ++ l ∷ []) (h : AreFollowed rel ases at row) where
    behind : IsNextInside rel ases (at + 1) r
    behind = linked.nexts at r l here (h.inside l here) there

    pub followed-next : AreFollowed rel ases r new
    followed-next = record {
      whole =
          ap (λ ls. ls ++ filter (is_inside ases) (drop r rel)) put ∙ append_assoc row (l ∷ []) (filter (is_inside ases) (drop r rel))
          ∙ ap (λ ls. row ++ l ∷ ls) (sym (next-skips (at + 1) r behind))
          ∙ ap (λ ls. row ++ ls) (sym (filter-hit (is_inside ases) rel at l here (h.inside l here))) ∙ h.whole;
      inside = behind.inside;
    }

  pub followed-last : (at : ℕ) (row : List RelLine) → length rel ≤ at → AreFollowed rel ases at row → row ≡ inside_of rel ases
  followed-last at row all h =
      sym (append-nil row) ∙ ap (λ ls. row ++ filter (is_inside ases) ls) (sym (drop_all at rel all)) ∙ h.whole
