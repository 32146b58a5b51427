-- The why lines that prove an order together are determined, since no order is shown by two lines.
use Rattle.std.proofs.Common.{◌≡◌, ℕ, zero, suc, ◌+◌, ◌<◌, ◌≤◌, ◌⊎◌, inl, inr, List, [], ◌∷◌, ◌++◌, length, get_or, take, Some}
use Rattle.std.proofs.Common.{slice_get, refl, sym, ap, ap₂, ◌∙◌, subst, arith, All, Contains}
use Rattle.std.specs.Prelude.{slice_index_or}
use Rattle.std.specs.List.Sorted.{IsStrictlyIncreasing}
use Rattle.std.proofs.lemmas.Bool.{cases_order}
use Rattle.std.proofs.lemmas.Grind.{flat_map-append}
use Rattle.std.proofs.lemmas.List.{append-nil, get_or_append_left, length-append, take_more}
use Rattle.std.proofs.lemmas.List.Elements.{Contains-append_left, Contains-append_right}
use Rattle.std.proofs.lemmas.Option.{get_or_from_slice_get}
use Rattle.tor_arena.proofs.Gets.{slice_get-some}
use Rattle.relationships.specs.declared.walk.Walk.{Walk}
use Rattle.relationships.specs.Flat.{walk_with}
use Rattle.relationships.specs.Telling.{Leads, LeadOn, Prove}
use Rattle.result_text.specs.declared.file.ResultFile.{ResultFile}
use Rattle.result_rules.specs.File.{its_givens, its_kept, last_two, shown_orders}
use Rattle.result_rules.specs.declared.rule.Rule.TheVariants.{OrdersShown}
use Rattle.result_rules.specs.Rules.{IsMet}
use Rattle.result_rules.proofs.WalkLaws.{last_two-from_ends}
use Rattle.telling.specs.Proving.{whys_at, ProveTogether}
use Rattle.telling.proofs.Chains.{same_begin, same_pair}

-- a list without its last
record HasLast (xs : List ℕ) : Type 0 where
  before : List ℕ
  last : ℕ
  is : xs ≡ before ++ last ∷ []

last_of : (x : ℕ) (xs : List ℕ) → HasLast (x ∷ xs)
last_of x [] = record { before = []; last = x; is = refl }
last_of x (y ∷ xs) =
    let r = last_of y xs in
    record { before = x ∷ r.before; last = r.last; is = ap (λ (l : List ℕ). x ∷ l) r.is }

module _ (file : ResultFile) (met : IsMet file OrdersShown) where
  abbrev why : ℕ → Walk
  why k = slice_index_or file.whys k (walk_with [] [])

  abbrev LeadsBy : ℕ → (c d e f : ℕ) → Type 0
  LeadsBy k c d e f = Leads (its_givens file) (its_kept file) (why k) c d e f

  abbrev Proves : List ℕ → (a b : ℕ) → Type 0
  Proves whys a b = Prove (its_givens file) (its_kept file) (whys_at file whys) a b

  -- ---- a line shows one order, and no other line that or its opposite

  shows : (k c d a b : ℕ) → LeadsBy k c d a b → last_two (why k).ases ≡ (a, b) ∷ []
  shows k c d a b l = last_two-from_ends (why k).ases a b l.ends

  why_at : (k : ℕ) → k < length file.whys → slice_get file.whys k ≡ Some (why k)
  why_at k lt =
      let w = slice_get-some file.whys k lt in
      w.1 ∙ ap (λ (v : Walk). Some v) (sym (get_or_from_slice_get file.whys k w.0 (walk_with [] []) w.1))

  shown_before : (k j a b : ℕ) → j < k → k < length file.whys → last_two (why j).ases ≡ (a, b) ∷ [] → Contains (shown_orders (take k file.whys)) (a, b)
  shown_before zero j a b less lt e = absurd (omega (arith, less))
  shown_before (suc k) j a b less lt e =
      let n : suc k ≡ k + 1 = omega arith in
      let own : last_two (get_or file.whys k (walk_with [] [])).ases ++ [] ≡ last_two (why k).ases = append-nil (last_two (why k).ases) in
      let more : shown_orders (take (suc k) file.whys) ≡ shown_orders (take k file.whys) ++ last_two (why k).ases =
      ap (λ i. shown_orders (take i file.whys)) n ∙ ap shown_orders (take_more file.whys k (walk_with [] []) (omega (arith, lt)))
      ∙ flat_map-append (λ (w : Walk). last_two w.ases) (take k file.whys) (get_or file.whys k (walk_with [] []) ∷ []) ∙ ap (λ l. shown_orders (take k file.whys) ++ l) own in
      subst (λ os. Contains os (a, b)) (sym more) (elim (cases_order j k) [
        | inl same ↦ Contains-append_right (shown_orders (take k file.whys)) (last_two (why k).ases) (a, b)
            (subst (λ os. Contains os (a, b)) (sym (subst (λ i. last_two (why i).ases ≡ (a, b) ∷ []) same e)) (0, omega arith, refl))
        | inr o ↦ elim o [
          | inl below ↦ Contains-append_left (shown_orders (take k file.whys)) (last_two (why k).ases) (a, b) (shown_before k j a b below (omega (arith, lt)) e)
          | inr above ↦ absurd (omega (arith, less, above))
        ]
      ])

  no_later : (j k a b : ℕ) → j < k → k < length file.whys → last_two (why j).ases ≡ (a, b) ∷ [] → last_two (why k).ases ≡ (a, b) ∷ [] → ⊥
  no_later j k a b less lt e f =
      let (x, y, s) = met k lt (why k) (why_at k lt) in
      let same = same_pair x y a b (sym (last_two-from_ends (why k).ases x y s.ends) ∙ f) in
      s.new (inl (shown_before k j x y less lt (e ∙ ap₂ (λ (p q : ℕ). (p, q) ∷ []) (sym same.0) (sym same.1))))

  one_line : (j k a b : ℕ) → j < length file.whys → k < length file.whys → last_two (why j).ases ≡ (a, b) ∷ [] → last_two (why k).ases ≡ (a, b) ∷ [] → j ≡ k
  one_line j k a b lt lt' e f = elim (cases_order j k) [
    | inl same ↦ same
    | inr o ↦ elim o [ inl less ↦ absurd (no_later j k a b less lt' e f) | inr more ↦ absurd (no_later k j a b more lt f e) ]
  ]

  not_opposite : (j k a b : ℕ) → j < k → k < length file.whys → last_two (why j).ases ≡ (b, a) ∷ [] → last_two (why k).ases ≡ (a, b) ∷ [] → ⊥
  not_opposite j k a b less lt e f =
      let (x, y, s) = met k lt (why k) (why_at k lt) in
      let same = same_pair x y a b (sym (last_two-from_ends (why k).ases x y s.ends) ∙ f) in
      s.new (inr (shown_before k j y x less lt (e ∙ ap₂ (λ (p q : ℕ). (p, q) ∷ []) (sym same.1) (sym same.0))))

  -- ---- the last line of a proof, and those before it

  on_last : (ks : List ℕ) (k c d a b : ℕ) → LeadOn (its_givens file) (its_kept file) (whys_at file (ks ++ k ∷ [])) c d a b →
      (e f : ℕ) × LeadOn (its_givens file) (its_kept file) (whys_at file ks) c d e f × LeadsBy k e f a b
  on_last [] k c d a b (e, f, l, ends) = (c, d, (refl, refl), subst (λ n. LeadsBy k c d n b) ends.0 (subst (λ n. LeadsBy k c d e n) ends.1 l))
  on_last (j ∷ ks) k c d a b (e, f, l, rest) =
      let r = on_last ks k e f a b rest in
      (r.0, r.1, (e, f, l, r.2), r.3)

  -- the last line begins with the opposite of the order, or those before it prove the order with which it begins
  record EndsBy (ks : List ℕ) (k a b : ℕ) : Type 0 where
    over : ℕ
    under : ℕ
    last : LeadsBy k over under a b
    before : ((ks ≡ []) × (over ≡ b) × (under ≡ a)) ⊎ Proves ks over under

  ends_by : (ks : List ℕ) (k a b : ℕ) → Proves (ks ++ k ∷ []) a b → EndsBy ks k a b
  ends_by [] k a b (c, d, l, ends) = record { over = d; under = c; last = subst (λ n. LeadsBy k d c n b) ends.0 (subst (λ n. LeadsBy k d c c n) ends.1 l); before = inl (refl, ends.1, ends.0) }
  ends_by (j ∷ ks) k a b (c, d, l, rest) =
      let r = on_last ks k c d a b rest in
      record { over = r.0; under = r.1; last = r.3; before = inr (c, d, l, r.2) }

  record Ends (whys : List ℕ) (a b : ℕ) : Type 0 where
    ks : List ℕ
    k : ℕ
    is : whys ≡ ks ++ k ∷ []
    by : EndsBy ks k a b

  ends_of : (whys : List ℕ) (a b : ℕ) → Proves whys a b → Ends whys a b
  ends_of [] a b proves = absurd proves
  ends_of (j ∷ whys) a b proves =
      let r = last_of j whys in
      record { ks = r.before; k = r.last; is = r.is; by = ends_by r.before r.last a b (subst (λ ks. Proves ks a b) r.is proves) }

  -- ---- places in order

  record AreInOrder (whys : List ℕ) : Type 0 where
    there : All (λ k. k < length file.whys) whys
    in_order : IsStrictlyIncreasing whys

  module _ (ks : List ℕ) (k : ℕ) (are : AreInOrder (ks ++ k ∷ [])) where
    many : length (ks ++ k ∷ []) ≡ length ks + 1
    many = length-append ks (k ∷ [])

    last_there : k < length file.whys
    last_there = subst (λ n. n < length file.whys) (get_or_last ks k) (are.there (length ks) 0 (omega (arith, many)))
      where
        get_or_last : (xs : List ℕ) (x : ℕ) → get_or (xs ++ x ∷ []) (length xs) 0 ≡ x
        get_or_last [] x = refl
        get_or_last (y ∷ xs) x = get_or_last xs x

    before_there : AreInOrder ks
    before_there = record {
      there = λ i d lt. subst (λ n. n < length file.whys) (get_or_append_left ks (k ∷ []) d i lt) (are.there i d (omega (arith, lt, many)));
      in_order = λ i lt.
          let less = are.in_order i (omega (arith, lt, many)) in
          subst (λ n. n < get_or ks (i + 1) 0) (get_or_append_left ks (k ∷ []) 0 i (omega (arith, lt)))
          (subst (λ n. get_or (ks ++ k ∷ []) i 0 < n) (get_or_append_left ks (k ∷ []) 0 (i + 1) lt) less);
    }

  last_two_rise : (js : List ℕ) (j k : ℕ) → IsStrictlyIncreasing ((js ++ j ∷ []) ++ k ∷ []) → j < k
  last_two_rise js j k rise = subst (λ n. n < k) (first js) (subst (λ n. get_or ((js ++ j ∷ []) ++ k ∷ []) (length js) 0 < n) (second js)
      (rise (length js) (omega (arith, length-append (js ++ j ∷ []) (k ∷ []), length-append js (j ∷ [])))))
    where
      first : (xs : List ℕ) → get_or ((xs ++ j ∷ []) ++ k ∷ []) (length xs) 0 ≡ j
      first [] = refl
      first (x ∷ xs) = first xs

      second : (xs : List ℕ) → get_or ((xs ++ j ∷ []) ++ k ∷ []) (length xs + 1) 0 ≡ k
      second [] = refl
      second (x ∷ xs) = let n : length (x ∷ xs) + 1 ≡ suc (length xs + 1) = omega arith in rw n (second xs)

  -- ---- the proof

  -- a proof of one line alone isn't that of more
  not_more : (ks : List ℕ) (k a b : ℕ) → AreInOrder (ks ++ k ∷ []) → last_two (why k).ases ≡ (a, b) ∷ [] → Proves ks b a → ⊥
  not_more ks k a b are e proves =
      let r = ends_of ks b a proves in
      let rise = last_two_rise r.ks r.k k (subst (λ l. IsStrictlyIncreasing (l ++ k ∷ [])) r.is are.in_order) in
      not_opposite r.k k a b rise (last_there ks k are) (shows r.k r.by.over r.by.under b a r.by.last) e

  same_proof : (n : ℕ) (whys others : List ℕ) (a b : ℕ) → length whys ≤ n → AreInOrder whys → AreInOrder others → Proves whys a b → Proves others a b → others ≡ whys
  same_proof zero [] others a b le are are' p q = absurd p
  same_proof zero (k ∷ whys) others a b le are are' p q = absurd (omega (arith, le))
  same_proof (suc n) whys others a b le are are' p q =
      other.is ∙ by (λ p' q'. same_proof n one.ks other.ks one.by.over one.by.under fewer (before_there one.ks one.k ordered) (before_there other.ks other.k ordered') p' q')
      one.by.before other.by.before ∙ sym one.is
    where
      one : Ends whys a b
      one = ends_of whys a b p

      other : Ends others a b
      other = ends_of others a b q

      ordered : AreInOrder (one.ks ++ one.k ∷ [])
      ordered = subst AreInOrder one.is are

      ordered' : AreInOrder (other.ks ++ other.k ∷ [])
      ordered' = subst AreInOrder other.is are'

      shown : last_two (why one.k).ases ≡ (a, b) ∷ []
      shown = shows one.k one.by.over one.by.under a b one.by.last

      shown' : last_two (why other.k).ases ≡ (a, b) ∷ []
      shown' = shows other.k other.by.over other.by.under a b other.by.last

      same : other.k ≡ one.k
      same = one_line other.k one.k a b (last_there other.ks other.k ordered') (last_there one.ks one.k ordered) shown' shown

      begins : (other.by.over ≡ one.by.over) × (other.by.under ≡ one.by.under)
      begins =
          same_begin (why one.k).ases other.by.over other.by.under one.by.over one.by.under
          (subst (λ i. LeadsBy i other.by.over other.by.under a b) same other.by.last).begins one.by.last.begins

      fewer : length one.ks ≤ n
      fewer = omega (arith, le, ap length one.is, length-append one.ks (one.k ∷ []))

      by : (Proves one.ks one.by.over one.by.under → Proves other.ks one.by.over one.by.under → other.ks ≡ one.ks) → ((one.ks ≡ []) × (one.by.over ≡ b) × (one.by.under ≡ a)) ⊎ Proves one.ks one.by.over one.by.under →
          ((other.ks ≡ []) × (other.by.over ≡ b) × (other.by.under ≡ a)) ⊎ Proves other.ks other.by.over other.by.under → other.ks ++ other.k ∷ [] ≡ one.ks ++ one.k ∷ []
      by same_before (inl (none, e, f)) (inl (none', e', f')) = ap₂ (λ (ks : List ℕ) (k : ℕ). ks ++ k ∷ []) (none' ∙ sym none) same
      by same_before (inl (none, e, f)) (inr more) =
          absurd (not_more other.ks other.k a b ordered' shown' (subst (λ i. Proves other.ks i a) (begins.0 ∙ e) (subst (λ i. Proves other.ks other.by.over i) (begins.1 ∙ f) more)))
      by same_before (inr more) (inl (none', e', f')) =
          absurd (not_more one.ks one.k a b ordered shown (subst (λ i. Proves one.ks i a) (sym begins.0 ∙ e') (subst (λ i. Proves one.ks one.by.over i) (sym begins.1 ∙ f') more)))
      by same_before (inr p') (inr q') =
          let rest = same_before p'
          (subst (λ i. Proves other.ks i one.by.under) begins.0 (subst (λ i. Proves other.ks other.by.over i) begins.1 q')) in
          ap₂ (λ (ks : List ℕ) (k : ℕ). ks ++ k ∷ []) rest same

pub one_proof : (file : ResultFile) → IsMet file OrdersShown → (whys others : List ℕ) (a b : ℕ) → ProveTogether file whys a b → ProveTogether file others a b → others ≡ whys
one_proof file met whys others a b p q =
    same_proof file met (length whys) whys others a b (omega arith)
    (record { there = p.there; in_order = p.in_order }) (record { there = q.there; in_order = q.in_order }) p.proved q.proved
