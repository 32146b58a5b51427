-- The why lines that an order stands on, found from the last line to the first.
use Rattle.std.proofs.Common.{◌≡◌, ℕ, zero, suc, ◌+◌, ◌-◌, ◌<◌, ◌≤◌, inl, inr, List, [], ◌∷◌, ◌++◌, length, get_or, take, Some}
use Rattle.std.proofs.Common.{slice_get, refl, sym, ap, ◌∙◌, subst, arith, append-nil, All, Contains}
use Rattle.std.specs.Prelude.{reverse, slice_index_or}
use Rattle.std.specs.List.Sorted.{IsStrictlyIncreasing}
use Rattle.std.proofs.lemmas.Grind.{flat_map-append}
use Rattle.std.proofs.lemmas.List.{reverse-append, take_more}
use Rattle.std.proofs.lemmas.List.Elements.{All-cons, All-nil, All-weaker, Contains-append_cases}
use Rattle.std.proofs.lemmas.Option.{slice_get_within, get_or_from_slice_get}
use Rattle.relationships.specs.declared.walk.Walk.{Walk}
use Rattle.relationships.specs.Flat.{walk_with}
use Rattle.relationships.specs.Evidence.{BeginsWith}
use Rattle.relationships.specs.GivenEvidence.{ShowsWith}
use Rattle.result_text.specs.declared.file.ResultFile.{ResultFile}
use Rattle.result_rules.specs.File.{its_givens, its_kept, last_two, shown_orders}
use Rattle.result_rules.specs.declared.rule.Rule.TheVariants.{OrdersShown}
use Rattle.result_rules.specs.Rules.{IsMet}
use Rattle.result_rules.proofs.WalkLaws.{last_two-from_ends}
use Rattle.relationships.specs.Telling.{Leads, LeadOn, Prove}
use Rattle.telling.specs.Proving.{whys_at, ProveTogether}

-- ---- lists

rises : (k : ℕ) (xs : List ℕ) → All (λ j. k < j) xs → IsStrictlyIncreasing xs → IsStrictlyIncreasing (k ∷ xs)
rises k [] all h i lt = absurd (omega (arith, lt))
rises k (x ∷ xs) all h zero lt = all 0 x (omega arith)
rises k (x ∷ xs) all h (suc i) lt = let e : suc i + 1 ≡ suc (i + 1) = omega arith in rw e (h i (omega (arith, lt)))

pub same_pair : (a b c d : ℕ) → ◌≡◌ {A = List (ℕ × ℕ)} ((a, b) ∷ []) ((c, d) ∷ []) → (a ≡ c) × (b ≡ d)
same_pair a b c d e =
    let f : ◌≡◌ {A = ℕ × ℕ} (a, b) (c, d) = ap (λ (l : List (ℕ × ℕ)). get_or l 0 (0, 0)) e in
    (ap (λ (p : ℕ × ℕ). p.0) f, ap (λ (p : ℕ × ℕ). p.1) f)

only : (p q : ℕ × ℕ) → Contains (q ∷ []) p → q ≡ p
only p q (zero, lt, e) = e
only p q (suc k, lt, e) = absurd (omega (arith, lt))

pub same_begin : (ases : List ℕ) (a b c d : ℕ) → BeginsWith ases a b → BeginsWith ases c d → (a ≡ c) × (b ≡ d)
same_begin ases a b c d h k =
    let e : a ∷ b ∷ h.0 ≡ c ∷ d ∷ k.0 = sym h.1 ∙ k.1 in
    (ap (λ (l : List ℕ). get_or l 0 0) e, ap (λ (l : List ℕ). get_or l 1 0) e)

-- the first two and the last two of a list, as code reads them
pub last_two-few : (ases : List ℕ) → length ases < 2 → last_two ases ≡ []
last_two-few [] lt = refl
last_two-few (a ∷ []) lt = refl
last_two-few (a ∷ b ∷ ases) lt = absurd (omega (arith, lt))

last_two-at : (ases : List ℕ) (k : ℕ) → length ases ≡ k + 2 → last_two ases ≡ (get_or ases k 0, get_or ases (k + 1) 0) ∷ []
last_two-at [] k e = absurd (omega (arith, e))
last_two-at (a ∷ []) k e = absurd (omega (arith, e))
last_two-at (a ∷ b ∷ []) k e = let n : k ≡ 0 = omega (arith, e) in rw n refl
last_two-at (a ∷ b ∷ c ∷ ases) zero e = absurd (omega (arith, e))
last_two-at (a ∷ b ∷ c ∷ ases) (suc k) e =
    let n : suc k + 1 ≡ suc (k + 1) = omega arith in
    rw n (last_two-at (b ∷ c ∷ ases) k (omega (arith, e)))

pub last_two-read : (ases : List ℕ) → 2 ≤ length ases → last_two ases ≡ (get_or ases (length ases - 2) 0, get_or ases (length ases - 1) 0) ∷ []
last_two-read ases two =
    let e : length ases - 2 + 1 ≡ length ases - 1 = omega (arith, two) in
    last_two-at ases (length ases - 2) (omega (arith, two)) ∙ ap (λ i. (get_or ases (length ases - 2) 0, get_or ases i 0) ∷ []) e

pub begins_read : (ases : List ℕ) → 2 ≤ length ases → BeginsWith ases (get_or ases 0 0) (get_or ases 1 0)
begins_read [] two = absurd (omega (arith, two))
begins_read (a ∷ []) two = absurd (omega (arith, two))
begins_read (a ∷ b ∷ ases) two = (ases, refl)

-- what a walk shows is the order of its last two
shows_last : (file : ResultFile) (shown : List (ℕ × ℕ)) (w : Walk) (over under a b : ℕ) → last_two w.ases ≡ (over, under) ∷ [] →
    ShowsWith (its_givens file) (its_kept file) shown w a b → ShowsWith (its_givens file) (its_kept file) shown w over under
shows_last file shown w over under a b e s =
    let same = ap (λ l. get_or l 0 (0, 0)) (sym (last_two-from_ends w.ases a b s.ends) ∙ e) in
    subst (λ (p : ℕ × ℕ). ShowsWith (its_givens file) (its_kept file) shown w p.0 p.1) same s

-- ---- from some place on the walks of these places, the last first, lead on from "o over u"

pub record LeadFrom (file : ResultFile) (k : ℕ) (whys : List ℕ) (o u over under : ℕ) : Type 0 where
  pub shown : Contains (shown_orders (take k file.whys)) (o, u)
  pub few : k ≤ length file.whys
  pub there : All (λ j. j < length file.whys) (reverse whys)
  pub behind : All (λ j. k ≤ j) (reverse whys)
  pub in_order : IsStrictlyIncreasing (reverse whys)
  pub leads : LeadOn (its_givens file) (its_kept file) (whys_at file (reverse whys)) o u over under

pub none_yet : (file : ResultFile) (k over under : ℕ) → k ≡ length file.whys → take k file.whys ≡ file.whys → Contains (shown_orders file.whys) (over, under) →
    LeadFrom file k [] over under over under
none_yet file k over under many all shown = record {
  shown = subst (λ ws. Contains (shown_orders ws) (over, under)) (sym all) shown;
  few = omega (arith, many);
  there = All-nil (λ j. j < length file.whys);
  behind = All-nil (λ j. k ≤ j);
  in_order = λ i lt. absurd (omega (arith, lt));
  leads = (refl, refl);
}

module _ (file : ResultFile) (k : ℕ) (walk : Walk) (at : slice_get file.whys k ≡ Some walk) where
  inside : k < length file.whys
  inside = slice_get_within file.whys k walk at

  -- the orders up to the next line are those before it, and its own
  orders_next : shown_orders (take (k + 1) file.whys) ≡ shown_orders (take k file.whys) ++ last_two walk.ases
  orders_next =
      ap shown_orders (take_more file.whys k walk inside) ∙
      flat_map-append (λ (w : Walk). last_two w.ases) (take k file.whys) (get_or file.whys k walk ∷ []) ∙
      ap (λ (w : Walk). shown_orders (take k file.whys) ++ (last_two w.ases ++ [])) (get_or_from_slice_get file.whys k walk walk at) ∙
      ap (λ l. shown_orders (take k file.whys) ++ l) (append-nil (last_two walk.ases))

  here : slice_index_or file.whys k (walk_with [] []) ≡ walk
  here = get_or_from_slice_get file.whys k walk (walk_with [] []) at

  earlier_too : (whys : List ℕ) (o u over under : ℕ) → LeadFrom file (k + 1) whys o u over under → All (λ j. k ≤ j) (reverse whys)
  earlier_too whys o u over under l = All-weaker (λ j. k + 1 ≤ j) (λ j. k ≤ j) (λ j le. omega (arith, le)) (reverse whys) l.behind

  -- a line that shows another order is passed
  pub passed : (whys : List ℕ) (o u over under : ℕ) → (last_two walk.ases ≡ (o, u) ∷ [] → ⊥) → LeadFrom file (k + 1) whys o u over under →
      IsMet file OrdersShown → LeadFrom file k whys o u over under
  passed whys o u over under not l met = record {
    shown = elim (Contains-append_cases (shown_orders (take k file.whys)) (last_two walk.ases) (o, u) (subst (λ os. Contains os (o, u)) orders_next l.shown)) [
      | inl before ↦ before
      | inr own ↦ absurd (not (its_own own))
    ];
    few = omega (arith, l.few);
    there = l.there;
    behind = earlier_too whys o u over under l;
    in_order = l.in_order;
    leads = l.leads;
  }
    where
      its_own : Contains (last_two walk.ases) (o, u) → last_two walk.ases ≡ (o, u) ∷ []
      its_own own =
          let (a, b, s) = met k inside walk at in
          let last = last_two-from_ends walk.ases a b s.ends in
          last ∙ ap (λ (p : ℕ × ℕ). p ∷ []) (only (o, u) (a, b) (subst (λ os. Contains os (o, u)) last own))

  module _ (whys : List ℕ) (o u over under : ℕ) (last : last_two walk.ases ≡ (o, u) ∷ []) (l : LeadFrom file (k + 1) whys o u over under) where
    added : reverse (whys ++ k ∷ []) ≡ k ∷ reverse whys
    added = reverse-append whys (k ∷ [])

    shows : IsMet file OrdersShown → ShowsWith (its_givens file) (its_kept file) (shown_orders (take k file.whys)) walk o u
    shows met = let (a, b, s) = met k inside walk at in shows_last file (shown_orders (take k file.whys)) walk o u a b last s

    leads_here : (c d : ℕ) → IsMet file OrdersShown → BeginsWith walk.ases c d → Leads (its_givens file) (its_kept file) (slice_index_or file.whys k (walk_with [] [])) c d o u
    leads_here c d met begins =
        let s = shows met in
        subst (λ w. Leads (its_givens file) (its_kept file) w c d o u) (sym here)
        (record { walk = s.walk; begins = begins; ends = s.ends })

    all_there : All (λ j. j < length file.whys) (reverse (whys ++ k ∷ []))
    all_there = subst (All (λ j. j < length file.whys)) (sym added) (All-cons (λ j. j < length file.whys) k (reverse whys) inside l.there)

    all_behind : All (λ j. k ≤ j) (reverse (whys ++ k ∷ []))
    all_behind =
        subst (All (λ j. k ≤ j)) (sym added)
        (All-cons (λ j. k ≤ j) k (reverse whys) (omega arith) (earlier_too whys o u over under l))

    rising : IsStrictlyIncreasing (reverse (whys ++ k ∷ []))
    rising =
        subst IsStrictlyIncreasing (sym added)
        (rises k (reverse whys) (All-weaker (λ j. k + 1 ≤ j) (λ j. k < j) (λ j le. omega (arith, le)) (reverse whys) l.behind) l.in_order)

    -- a line that begins with another order leads on from that
    pub led : (c d : ℕ) → BeginsWith walk.ases c d → ((c ≡ u) × (d ≡ o) → ⊥) → IsMet file OrdersShown → LeadFrom file k (whys ++ k ∷ []) c d over under
    led c d begins other met = record {
      shown = elim (shows met).begins [
        | inl own ↦ absurd (other (same_begin walk.ases c d u o begins own))
        | inr (a, b, from, before) ↦
            let same = same_begin walk.ases a b c d from begins in
            subst (λ v. Contains (shown_orders (take k file.whys)) (v, d)) same.0 (subst (λ v. Contains (shown_orders (take k file.whys)) (a, v)) same.1 before)
      ];
      few = omega (arith, l.few);
      there = all_there;
      behind = all_behind;
      in_order = rising;
      leads = subst (λ ks. LeadOn (its_givens file) (its_kept file) (whys_at file ks) c d over under) (sym added) (o, u, leads_here c d met begins, l.leads);
    }

    -- one that begins with the opposite of its own order needs none before it
    pub proved : BeginsWith walk.ases u o → IsMet file OrdersShown → ProveTogether file (reverse (whys ++ k ∷ [])) over under
    proved begins met = record {
      there = all_there;
      in_order = rising;
      proved = subst (λ ks. Prove (its_givens file) (its_kept file) (whys_at file ks) over under) (sym added) (o, u, leads_here u o met begins, l.leads);
    }
