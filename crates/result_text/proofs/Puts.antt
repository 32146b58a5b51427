-- Putting the lines of a list, or the members behind its first, one by one.
use Rattle.std.proofs.Common.{◌≡◌, ◌∙◌, ℕ, zero, suc, ◌+◌, ◌-◌, ◌<◌, ◌≤◌, List, [], ◌∷◌, ◌++◌, length, take, drop, map, get_or, slice_get, Some, refl, sym, ap, subst, append_assoc, arith}
use Rattle.std.specs.List.{AllByRecursion, join_with_byte}
use Rattle.std.proofs.lemmas.List.{append-nil, take_all}
use Rattle.std.proofs.lemmas.Option.{slice_get-get_or}
use Rattle.tor_io.specs.Outflow.{State, Puts}
use Rattle.tor_io.proofs.Putting.{puts_as, puts_then}
use Rattle.result_text.specs.declared.line.Line.{Line}
use Rattle.result_text.specs.declared.line.Version.{Version}
use Rattle.result_text.specs.Text.{line_text, text_of_lines, others, spaced}

module _ {X : Type 0} (v : Version) (line_with : X → Line) where
  abbrev text_to : ℕ → List X → List ℕ
  text_to k xs = text_of_lines v (map line_with (take k xs))

  text_to-suc : (xs : List X) (k : ℕ) (x : X) → slice_get xs k ≡ Some x → text_to (suc k) xs ≡ text_to k xs ++ line_text v (line_with x)
  text_to-suc [] k x at = absurd cc
  text_to-suc (y ∷ ys) zero x at = let same : y ≡ x = cc in append-nil (line_text v (line_with y)) ∙ ap (λ z. line_text v (line_with z)) same
  text_to-suc (y ∷ ys) (suc k) x at =
      ap (λ t. line_text v (line_with y) ++ t) (text_to-suc ys k x at) ∙ sym (append_assoc (line_text v (line_with y)) (text_to k ys) (line_text v (line_with x)))

  pub one_more : (a b c : State) (xs : List X) (k : ℕ) (x : X) → slice_get xs k ≡ Some x → Puts a b (text_of_lines v (map line_with (take k xs)))
      → Puts b c (line_text v (line_with x)) → Puts a c (text_of_lines v (map line_with (take (k + 1) xs)))
  one_more a b c xs k x at so_far more =
      let next : k + 1 ≡ suc k = omega arith in
      puts_as (puts_then so_far more) (sym (text_to-suc xs k x at) ∙ ap (λ n. text_to n xs) (sym next))

  pub item_more : (a b c : State) (xs : List X) (k : ℕ) (d : X) → k < length xs → Puts a b (text_of_lines v (map line_with (take k xs)))
      → Puts b c (line_text v (line_with (get_or xs k d))) → Puts a c (text_of_lines v (map line_with (take (k + 1) xs)))
  item_more a b c xs k d low so_far more = one_more a b c xs k (get_or xs k d) (slice_get-get_or xs k d low) so_far more

module _ {X : Type 0} (member : X → List ℕ) where
  others_to-suc : (xs : List X) (k : ℕ) (x : X) → slice_get xs k ≡ Some x → others member (take (suc k) xs) ≡ others member (take k xs) ++ 32 ∷ member x
  others_to-suc [] k x at = absurd cc
  others_to-suc (y ∷ ys) zero x at = let same : y ≡ x = cc in append-nil (32 ∷ member y) ∙ ap (λ z. 32 ∷ member z) same
  others_to-suc (y ∷ ys) (suc k) x at =
      ap (λ t. 32 ∷ member y ++ t) (others_to-suc ys k x at) ∙ sym (append_assoc (32 ∷ member y) (others member (take k ys)) (32 ∷ member x))

  pub one_other : (a b c : State) (xs : List X) (k : ℕ) (d : X) → k < length xs → Puts a b (others member (take k xs)) → Puts b c (32 ∷ member (get_or xs k d))
      → Puts a c (others member (take (k + 1) xs))
  one_other a b c xs k d low so_far more =
      let next : k + 1 ≡ suc k = omega arith in
      puts_as (puts_then so_far more) (sym (others_to-suc xs k (get_or xs k d) (slice_get-get_or xs k d low)) ∙ ap (λ n. others member (take n xs)) (sym next))

  pub joined : (xs : List X) → join_with_byte 32 (map member xs) ≡ spaced member xs
  joined [] = refl
  joined (x ∷ []) = sym (append-nil (member x))
  joined (x ∷ y ∷ xs) = ap (λ t. member x ++ 32 ∷ t) (joined (y ∷ xs))

  -- a list that isn't empty is its first member and the others
  pub all_members : (xs : List X) (d : X) → 1 ≤ length xs → member (get_or xs 0 d) ++ others member (take (length xs - 1) (drop 1 xs)) ≡ spaced member xs
  all_members [] d low = absurd (omega (arith, low))
  all_members (x ∷ xs) d low = ap (λ ys. member x ++ others member ys) (take_all (length (x ∷ xs) - 1) xs (omega arith))

module _ {X : Type 0} (Fits : X → Type 0) where
  fit_to : (xs : List X) (k : ℕ) (x : X) → slice_get xs k ≡ Some x → AllByRecursion Fits (take k xs) → Fits x → AllByRecursion Fits (take (suc k) xs)
  fit_to [] k x at all fits = absurd cc
  fit_to (y ∷ ys) zero x at all fits = let same : x ≡ y = cc in (subst Fits same fits, tt)
  fit_to (y ∷ ys) (suc k) x at all fits = (all.0, fit_to ys k x at all.1 fits)

  pub one_fits : (xs : List X) (k : ℕ) (x : X) → slice_get xs k ≡ Some x → AllByRecursion Fits (take k xs) → Fits x → AllByRecursion Fits (take (k + 1) xs)
  one_fits xs k x at all fits =
      let next : suc k ≡ k + 1 = omega arith in
      subst (λ n. AllByRecursion Fits (take n xs)) next (fit_to xs k x at all fits)
