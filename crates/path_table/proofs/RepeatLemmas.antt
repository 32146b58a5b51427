-- Buckets with one row more.
use Rattle.std.proofs.Common.{◌≡◌, ◌≢◌, ◌∙◌, ◌+◌, ◌-◌, ◌<◌, ℕ, zero, suc, Bool, true, false, nat_eq, List, [], ◌∷◌, ◌++◌, length, set, slice_index, refl, ap, sym, subst, arith, inl, inr}
use Rattle.std.specs.Prelude.{◌≤◌, ◌⊎◌, replicate}
use Rattle.std.proofs.lemmas.List.{get_or-set_same, get_or-set_other}
use Rattle.std.proofs.lemmas.Bool.{cases_lt, eqb-true, eqb-false}
use Rattle.path_table.specs.Chains.{row_at}
use Rattle.path_table.specs.Repeats.{AreSameHashed, bucket_of_hash, bucket, EndsIn, AreLinked, AreNewest}

module _ (many : ℕ) (hashes : List ℕ) where
  -- the bucket of the row in a place ends behind it
  pub ends-here : (place : ℕ) → EndsIn many hashes (bucket many hashes place) (place + 1) (place + 1)
  ends-here place = record {
    within = omega arith;
    none = λ k lo hi. absurd (omega (arith, lo, hi));
    has = inr (let one : place + 1 - 1 ≡ place = omega arith in ap (bucket many hashes) one);
  }

  -- and every other bucket where it did
  pub ends-other : (place key at : ℕ) → bucket many hashes place ≢ key → EndsIn many hashes key at place → EndsIn many hashes key at (place + 1)
  ends-other place key at other e =
      let within = e.within in
      record {
        within = omega (arith, within);
        none = λ k lo hi same. elim (cases_lt k place) [
          | inl below ↦ e.none k lo below same
          | inr above ↦ let is : place ≡ k = omega (arith, above, hi) in other (ap (bucket many hashes) is ∙ same)
        ];
        has = e.has;
      }

  older-old : (older : List ℕ) (s k : ℕ) → k < length older → slice_index (older ++ s ∷ []) k ≡ slice_index older k
  older-old [] s k lt = absurd (omega arith)
  older-old (x ∷ xs) s zero lt = refl
  older-old (x ∷ xs) s (suc k) lt = older-old xs s k (omega arith)

  older-new : (older : List ℕ) (s : ℕ) → slice_index (older ++ s ∷ []) (length older) ≡ s
  older-new [] s = refl
  older-new (x ∷ xs) s = older-new xs s

  -- where the earlier rows of one bucket more end
  pub linked-more : (older : List ℕ) (place start : ℕ) → length older ≡ place → AreLinked many hashes older place
      → EndsIn many hashes (bucket many hashes place) start place → AreLinked many hashes (older ++ start ∷ []) (place + 1)
  linked-more older place start long linked ends r lt =
      elim (cases_lt r place) [
        | inl below ↦ subst (λ at. EndsIn many hashes (bucket many hashes r) at r) (sym (older-old older start r (omega (arith, below, long)))) (linked r below)
        | inr above ↦
            let is : place ≡ r = omega (arith, above, lt) in
            subst (λ k. EndsIn many hashes (bucket many hashes k) (slice_index (older ++ start ∷ []) k) k) is
            (subst (λ at. EndsIn many hashes (bucket many hashes place) at place) (sym (ap (slice_index (older ++ start ∷ [])) (sym long) ∙ older-new older start)) ends)
      ]

  -- where the rows of each bucket end, with one row more
  pub newest-more : (newest : List ℕ) (place key : ℕ) → length newest ≡ many → key < many → key ≡ bucket many hashes place
      → AreNewest many hashes newest place → AreNewest many hashes (set newest key (place + 1)) (place + 1)
  newest-more newest place key long below is ends q lt = go (nat_eq key q) refl
    where
      go : (b : Bool) → nat_eq key q ≡ b → EndsIn many hashes q (slice_index (set newest key (place + 1)) q) (place + 1)
      go true e =
          let same : key ≡ q = eqb-true key q e in
          subst (λ k. EndsIn many hashes k (slice_index (set newest key (place + 1)) k) (place + 1)) same
          (subst (λ at. EndsIn many hashes key at (place + 1)) (sym (get_or-set_same newest key (place + 1) 0 (omega (arith, below, long))))
          (subst (λ k. EndsIn many hashes k (place + 1) (place + 1)) (sym is) (ends-here place)))
      go false e =
          let differ : key ≢ q = eqb-false key q e in
          subst (λ at. EndsIn many hashes q at (place + 1)) (sym (get_or-set_other newest key q (place + 1) 0 (λ h. differ (sym h))))
          (ends-other place q (slice_index newest q) (λ h. differ (is ∙ h)) (ends q lt))

-- at first each bucket is empty
pub newest-none : (many n : ℕ) (hashes : List ℕ) → AreNewest many hashes (replicate n 0) 0
newest-none many n hashes key lt = subst (λ at. EndsIn many hashes key at 0) (sym (zeros n key)) (record { within = omega arith; none = λ k lo hi. absurd (omega (arith, hi)); has = inl refl })
  where
    zeros : (n k : ℕ) → slice_index (replicate n 0) k ≡ 0
    zeros zero k = refl
    zeros (suc n) zero = refl
    zeros (suc n) (suc k) = zeros n k

-- where the search for a row among those of its bucket has come to: none from there on is the same
abbrev pub HasComeTo : (many : ℕ) (rows : List (List ℕ)) (hashes : List ℕ) (place at : ℕ) → Type 0
HasComeTo many rows hashes place at =
    (at ≤ place) × ((k : ℕ) → at ≤ k → k < place → row_at rows k ≢ row_at rows place) × ((at ≡ 0) ⊎ (bucket many hashes (at - 1) ≡ bucket many hashes place))

module _ (many : ℕ) (rows : List (List ℕ)) (hashes : List ℕ) (place : ℕ) (inside : place < length rows) (same : AreSameHashed rows hashes) where
  -- rows that are the same are in one bucket
  same-bucket : (k : ℕ) → k < place → row_at rows k ≡ row_at rows place → bucket many hashes k ≡ bucket many hashes place
  same-bucket k lt is = ap (λ h. bucket_of_hash h many) (same k place (omega (arith, lt, inside)) inside is)

  pub search-begins : (start : ℕ) → EndsIn many hashes (bucket many hashes place) start place → HasComeTo many rows hashes place start
  search-begins start e = (e.within, (λ k lo hi is. e.none k lo hi (same-bucket k hi is)), e.has)

  pub search-goes : (older : List ℕ) (at : ℕ) → 0 < at → AreLinked many hashes older place → row_at rows (at - 1) ≢ row_at rows place →
      HasComeTo many rows hashes place at → HasComeTo many rows hashes place (slice_index older (at - 1))
  search-goes older at some linked other come =
      let within : at ≤ place = come.0 in
      let less : at - 1 < place = omega (arith, some, within) in
      let e = linked (at - 1) less in
      let up : slice_index older (at - 1) ≤ at - 1 = e.within in (
        omega (arith, up, less),
        (λ k lo hi is. elim (cases_lt k (at - 1)) [
          | inl below ↦ e.none k lo below (same-bucket k hi is ∙ sym shared)
          | inr above ↦ go k above hi is (nat_eq (at - 1) k) refl
        ]),
        has e.has,
      )
    where
      shared : bucket many hashes (at - 1) ≡ bucket many hashes place
      shared = elim come.2 [ inl none ↦ absurd (omega (arith, some, none)) | inr is ↦ is ]

      behind : (k : ℕ) → at - 1 ≤ k → at - 1 ≢ k → at ≤ k
      behind k above differ = elim (cases_lt k at) [
        | inl below ↦ let is : at - 1 ≡ k = omega (arith, below, above, some) in absurd (differ is)
        | inr up ↦ up
      ]

      go : (k : ℕ) → at - 1 ≤ k → k < place → row_at rows k ≡ row_at rows place → (b : Bool) → nat_eq (at - 1) k ≡ b → ⊥
      go k above hi is true e = other (ap (row_at rows) (eqb-true (at - 1) k e) ∙ is)
      go k above hi is false e = let differ = eqb-false (at - 1) k e in come.1 k (behind k above differ) hi is

      has : (slice_index older (at - 1) ≡ 0) ⊎ (bucket many hashes (slice_index older (at - 1) - 1) ≡ bucket many hashes (at - 1)) →
          (slice_index older (at - 1) ≡ 0) ⊎ (bucket many hashes (slice_index older (at - 1) - 1) ≡ bucket many hashes place)
      has (inl none) = inl none
      has (inr is) = inr (is ∙ shared)
