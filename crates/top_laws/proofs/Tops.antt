-- Paths under labels by which no AS of the top has another AS as its provider.
use Rattle.std.proofs.Common.{◌≡◌, ℕ, inl, inr, true, false, List, [], ◌∷◌, ◌++◌, refl, subst}
use Rattle.std.specs.List.{list_any}
use Rattle.std.proofs.lemmas.Bool.{cases_Bool, both_ways, true≢false}
use Rattle.relationships.specs.declared.label.Label.{Label}
use Rattle.relationships.specs.Graph.{Edge, is_same, labelling}
use Rattle.relationships.specs.Relationship.{Labelling, is_over, slopes, slopes_from, ValleyFree}
use Rattle.relationships.proofs.Slopes.{Falls, Free, Free-from_valley_free, over-up, over-down}
use Rattle.top_givens.specs.TopGivens.{is_top}
use Rattle.top_laws.specs.TopResults.{HasOtherBetween}

-- a labelling has no provider where no edge is listed
pub unlisted : (es : List Edge) (labels : List Label) (low high : ℕ) → list_any (λ e. is_same e (low, high)) es ≡ false → labelling es labels low high ≡ Label.Peer
unlisted [] labels low high h = refl
unlisted (e ∷ es) [] low high h = refl
unlisted (e ∷ es) (label ∷ labels) low high h =
    elim (cases_Bool (is_same e (low, high))) [ inl t ↦ absurd (true≢false (rw t at h)) | inr f ↦ rw f (unlisted es labels low high (rw f at h)) ]

module _ (L : Labelling) (top : List ℕ) (none : (a m : ℕ) → is_top top m ≡ true → is_top top a ≡ false → is_over L a m ≡ false) where
  -- down from an AS that isn't of the top it comes to none that is
  out : (x : ℕ) (more : List ℕ) (last : ℕ) (after : List ℕ) → is_top top x ≡ false → is_top top last ≡ true → Falls (slopes_from L x (more ++ last ∷ after)) → ⊥
  out x [] last after isnt is falls = both_ways (is_over L x last) (none x last is isnt) (over-down L x last falls.0)
  out x (y ∷ more) last after isnt is falls =
      elim (cases_Bool (is_top top y)) [
        | inl t ↦ both_ways (is_over L x y) (none x y t isnt) (over-down L x y falls.0)
        | inr f ↦ out y more last after f is falls.1
      ]

  fall : (m : ℕ) (middle : List ℕ) (other : ℕ) (more : List ℕ) (last : ℕ) (after : List ℕ) → is_top top other ≡ false → is_top top last ≡ true →
      Falls (slopes_from L m (middle ++ (other ∷ (more ++ (last ∷ after))))) → ⊥
  fall m [] other more last after isnt is falls = out other more last after isnt is falls.1
  fall m (y ∷ middle) other more last after isnt is falls = fall y middle other more last after isnt is falls.1

  go : (m : ℕ) (middle : List ℕ) (other : ℕ) (more : List ℕ) (last : ℕ) (after : List ℕ) → is_top top m ≡ true → is_top top other ≡ false → is_top top last ≡ true →
      Free (slopes_from L m (middle ++ (other ∷ (more ++ (last ∷ after))))) → ⊥
  go m [] other more last after first isnt is (inl up) = both_ways (is_over L other m) (none other m first isnt) (over-up L m other up.0)
  go m [] other more last after first isnt is (inr falls) = out other more last after isnt is falls
  go m (y ∷ middle) other more last after first isnt is (inl up) =
      elim (cases_Bool (is_top top y)) [
        | inl t ↦ go y middle other more last after t isnt is up.1
        | inr f ↦ both_ways (is_over L y m) (none y m first f) (over-up L m y up.0)
      ]
  go m (y ∷ middle) other more last after first isnt is (inr falls) = fall y middle other more last after isnt is falls

  -- steps behind others
  Free-if_falls : (x : ℕ) (path : List ℕ) → Falls (slopes_from L x path) → Free (slopes_from L x path)
  Free-if_falls x [] h = tt
  Free-if_falls x (y ∷ path) h = inr h.1

  behind : (x : ℕ) (before : List ℕ) (m : ℕ) (rest : List ℕ) → Free (slopes_from L x (before ++ m ∷ rest)) → Free (slopes_from L m rest)
  behind x [] m rest (inl up) = up.1
  behind x [] m rest (inr falls) = Free-if_falls m rest falls
  behind x (y ∷ before) m rest (inl up) = behind y before m rest up.1
  behind x (y ∷ before) m rest (inr falls) = behind y before m rest (Free-if_falls y (before ++ m ∷ rest) falls)

  pub between : (path : List ℕ) → HasOtherBetween top path → ValleyFree L path → ⊥
  between path b free =
      let rest = b.middle ++ (b.other ∷ (b.more ++ (b.last ∷ b.after))) in
      go b.first b.middle b.other b.more b.last b.after b.first_is b.other_isnt b.last_is
      (by b.before (Free-from_valley_free L (b.before ++ (b.first ∷ rest)) (subst (ValleyFree L) b.whole free)))
    where
      by : (before : List ℕ) → Free (slopes L (before ++ (b.first ∷ (b.middle ++ (b.other ∷ (b.more ++ (b.last ∷ b.after))))))) → Free (slopes_from L b.first (b.middle ++ (b.other ∷ (b.more ++ (b.last ∷ b.after)))))
      by [] h = h
      by (x ∷ before) h = behind x before b.first (b.middle ++ (b.other ∷ (b.more ++ (b.last ∷ b.after)))) h
