-- Some evidence bears out right marks.
use Rattle.std.proofs.Common.{◌≡◌, ◌↔◌, ◌⊎◌, inl, inr, ℕ, zero, suc, ◌<◌, true, false, List, [], ◌∷◌, ◌++◌, map, refl, sym, ap, ◌∙◌, subst, arith, append_assoc, All, Any, Contains}
use Rattle.std.proofs.Common.{IsTrue, IsFalse}
use Rattle.std.specs.List.{AllByRecursion}
use Rattle.std.proofs.lemmas.Bool.{cases_Bool, false≢true}
use Rattle.std.proofs.lemmas.List.Elements.{All-cons, All-nil, All-from_recursion, Contains-append_cases}
use Rattle.tor_arena.proofs.Gets.{Contains-one}
use Rattle.relationships.specs.declared.label.End.{End}
use Rattle.relationships.specs.declared.label.Label.{Label}
use Rattle.relationships.specs.declared.walk.Walk.{Walk}
use Rattle.relationships.specs.Relationship.{Orientation, labels_of, is_over, Serves}
use Rattle.relationships.specs.Graph.{Edge, is_same}
use Rattle.relationships.specs.Evidence.{NeighboursDiffer, Numbered, paths_of, ShowFrom, Closure, start}
use Rattle.relationships.specs.Selection.{IsServable, IsForced}
use Rattle.relationships.specs.Checking.{Claim, OtherOrder, IsBorneOut, ProbesFrom, MarksHold}
use Rattle.relationships.proofs.Checked.{Once, over_low, over_high}
use Rattle.relationships.proofs.Closures.{consistency_law}
use Rattle.relationships.proofs.Forcing.{implied_law, open_law}
use Rattle.tor_clauses.specs.Leading.{Leads}
use Rattle.tor_clauses.proofs.Leadings.{leads_start}
use Rattle.tor_solve.proofs.Arcs.{decided_law}
use Rattle.tor_solve.proofs.Refutation.{go_on}
use Rattle.result_laws.proofs.SettlingLemmas.{first_one, behind_first, same_itself}

-- ---- some and none

any_left : {X : Type 0} (P : X → Type 0) (xs ys : List X) → Any P xs → Any P (xs ++ ys)
any_left P [] ys (k, x, lt, is, p) = absurd (omega (arith, lt))
any_left P (y ∷ xs) ys (zero, x, lt, is, p) = (zero, x, omega arith, is, p)
any_left P (y ∷ xs) ys (suc k, x, lt, is, p) = let r = any_left P xs ys (k, x, omega (arith, lt), is, p) in (suc r.0, r.1, omega (arith, r.2), r.3, r.4)

any_first : {X : Type 0} (P : X → Type 0) (before : List X) (x : X) (after : List X) → P x → Any P (before ++ (x ∷ after))
any_first P [] x after p = (zero, x, omega arith, refl, p)
any_first P (y ∷ before) x after p = let r = any_first P before x after p in (suc r.0, r.1, omega (arith, r.2), r.3, r.4)

weaker : {X : Type 0} (P Q : X → Type 0) → ((x : X) → P x → Q x) → (xs : List X) → AllByRecursion P xs → AllByRecursion Q xs
weaker P Q f [] h = tt
weaker P Q f (x ∷ xs) h = (f x h.0, weaker P Q f xs h.1)

abbrev pub pair : Claim → Edge
pair c = (c.low, c.high)

module _ (B : Numbered) (differ : All NeighboursDiffer (paths_of B)) (servable : IsServable (paths_of B)) where
  -- the claim names the lower number first, and says forced exactly if the edge is
  abbrev pub IsRight : Claim → Type 0
  IsRight c = (c.low < c.high) × (IsTrue c.forced ↔ IsForced (paths_of B) c.low c.high)

  -- ---- orders that are shown

  abbrev IsOrderOf : Claim → ℕ → ℕ → Type 0
  IsOrderOf c a b = ((a ≡ c.low) × (b ≡ c.high)) ⊎ ((a ≡ c.high) × (b ≡ c.low))

  shown_order : (c : Claim) → IsRight c → IsTrue c.forced → (a b : ℕ) × IsOrderOf c a b × Closure (paths_of B) b a a b
  shown_order c right t = elim (decided_law (paths_of B) c.low c.high c.high c.low) [
    | inl k ↦ (c.high, c.low, inr (refl, refl), k)
    | inr not ↦ elim (decided_law (paths_of B) c.high c.low c.low c.high) [
      | inl k ↦ (c.low, c.high, inl (refl, refl), k)
      | inr none ↦ absurd (open_law (paths_of B) c.low c.high differ servable right.0 not none (right.1.0 t))
    ]
  ]

  walk_to : (a b : ℕ) → Closure (paths_of B) b a a b → (w : Walk) × Leads B w b a a b
  walk_to a b k = let o = go_on B (record { ases = b ∷ a ∷ []; links = [] }) b a b a (leads_start B b a) k in (o.further, o.leads)

  abbrev IsNew : List (ℕ × ℕ) → Claim → Type 0
  IsNew shown c = (Contains shown (c.low, c.high) → ⊥) × (Contains shown (c.high, c.low) → ⊥)

  new_order : (shown : List (ℕ × ℕ)) (c : Claim) (a b : ℕ) → IsOrderOf c a b → IsNew shown c → Contains shown (a, b) ⊎ Contains shown (b, a) → ⊥
  new_order shown c a b (inl o) new (inl i) = new.0 (subst (λ x. Contains shown (x, c.high)) o.0 (subst (λ y. Contains shown (a, y)) o.1 i))
  new_order shown c a b (inl o) new (inr i) = new.1 (subst (λ y. Contains shown (y, c.low)) o.1 (subst (λ x. Contains shown (b, x)) o.0 i))
  new_order shown c a b (inr o) new (inl i) = new.1 (subst (λ x. Contains shown (x, c.low)) o.0 (subst (λ y. Contains shown (a, y)) o.1 i))
  new_order shown c a b (inr o) new (inr i) = new.0 (subst (λ y. Contains shown (y, c.high)) o.1 (subst (λ x. Contains shown (b, x)) o.0 i))

  -- an order of one edge is none of another
  other_edge : (c d : Claim) → c.low < c.high → d.low < d.high → is_same (pair c) (pair d) ≡ false → (a b : ℕ) → IsOrderOf c a b → (x y : ℕ) → IsOrderOf d x y → ◌≡◌ {A = ℕ × ℕ} (a, b) (x, y) → ⊥
  other_edge c d lt lt' apart a b o x y o' same = cases o o' (ap (λ (p : ℕ × ℕ). p.0) same) (ap (λ (p : ℕ × ℕ). p.1) same)
    where
      alike : c.low ≡ d.low → c.high ≡ d.high → ⊥
      alike e f = false≢true (sym apart ∙ subst (λ n. is_same (c.low, c.high) (n, d.high) ≡ true) e (subst (λ n. is_same (c.low, c.high) (c.low, n) ≡ true) f (same_itself (c.low, c.high))))

      cases : IsOrderOf c a b → IsOrderOf d x y → a ≡ x → b ≡ y → ⊥
      cases (inl p) (inl q) e f = alike (sym p.0 ∙ e ∙ q.0) (sym p.1 ∙ f ∙ q.1)
      cases (inl p) (inr q) e f = omega (arith, lt, lt', sym p.0 ∙ e ∙ q.0, sym p.1 ∙ f ∙ q.1)
      cases (inr p) (inl q) e f = omega (arith, lt, lt', sym p.0 ∙ e ∙ q.0, sym p.1 ∙ f ∙ q.1)
      cases (inr p) (inr q) e f = alike (sym p.1 ∙ f ∙ q.1) (sym p.0 ∙ e ∙ q.0)

  still_new : (shown : List (ℕ × ℕ)) (c : Claim) (a b : ℕ) → c.low < c.high → IsOrderOf c a b → (cs : List Claim) → AllByRecursion IsRight cs →
      AllByRecursion (λ f. is_same (pair c) f ≡ false) (map pair cs) → AllByRecursion (IsNew shown) cs → AllByRecursion (IsNew (shown ++ (a, b) ∷ [])) cs
  still_new shown c a b lt o [] right apart new = tt
  still_new shown c a b lt o (d ∷ cs) right apart new = (
    (not d.low d.high (inl (refl, refl)) new.0.0, not d.high d.low (inr (refl, refl)) new.0.1),
    still_new shown c a b lt o cs right.1 apart.1 new.1,
  )
    where
      not : (x y : ℕ) → IsOrderOf d x y → (Contains shown (x, y) → ⊥) → Contains (shown ++ (a, b) ∷ []) (x, y) → ⊥
      not x y o' none i = elim (Contains-append_cases shown ((a, b) ∷ []) (x, y) i) [
        | inl j ↦ none j
        | inr j ↦ other_edge c d lt right.0.0 apart.0 a b o x y o' (Contains-one (a, b) (x, y) j)
      ]

  abbrev IsShownIn : List (ℕ × ℕ) → Claim → Type 0
  IsShownIn orders c = IsTrue c.forced → Contains orders (c.low, c.high) ⊎ Contains orders (c.high, c.low)

  -- walks that show an order of each edge that is said to be forced
  abbrev Showing : List (ℕ × ℕ) → List Claim → Type 0
  Showing shown cs = (whys : List Walk) × (orders : List (ℕ × ℕ)) × ShowFrom B shown whys orders × AllByRecursion (IsShownIn orders) cs

  one_shown : (c : Claim) (a b : ℕ) → IsOrderOf c a b → (orders : List (ℕ × ℕ)) → Contains orders (a, b) → Contains orders (c.low, c.high) ⊎ Contains orders (c.high, c.low)
  one_shown c a b (inl o) orders i = inl (subst (λ x. Contains orders (x, c.high)) o.0 (subst (λ y. Contains orders (a, y)) o.1 i))
  one_shown c a b (inr o) orders i = inr (subst (λ x. Contains orders (x, c.low)) o.0 (subst (λ y. Contains orders (a, y)) o.1 i))

  showing : (shown : List (ℕ × ℕ)) (cs : List Claim) → AllByRecursion IsRight cs → Once (map pair cs) → AllByRecursion (IsNew shown) cs → Showing shown cs
  showing shown [] right once new = ([], [], tt, tt)
  showing shown (c ∷ cs) right once new = elim (cases_Bool c.forced) [
    | inr f ↦ skip f (showing shown cs right.1 once.1 new.1)
    | inl t ↦
        let o = shown_order c right.0 t in
        one_more o.0 o.1 o.2 (walk_to o.0 o.1 o.3)
        (showing (shown ++ (o.0, o.1) ∷ []) cs right.1 once.1 (still_new shown c o.0 o.1 right.0.0 o.2 cs right.1 once.0 new.1))
  ]
    where
      skip : c.forced ≡ false → Showing shown cs → Showing shown (c ∷ cs)
      skip f r = (r.0, r.1, r.2, ((λ t. absurd (false≢true (sym f ∙ t))), r.3))

      one_more : (a b : ℕ) → IsOrderOf c a b → ((w : Walk) × Leads B w b a a b) → Showing (shown ++ (a, b) ∷ []) cs → Showing shown (c ∷ cs)
      one_more a b o (w, leads) r = (
        w ∷ r.0,
        (a, b) ∷ r.1,
        (record { walk = leads.walk; ends = leads.ends; begins = inl leads.begins; new = new_order shown c a b o new.0 }, r.2),
        (
          (λ t. one_shown c a b o ((a, b) ∷ r.1) (first_one (a, b) r.1 (a, b) refl)),
          weaker (IsShownIn r.1) (IsShownIn ((a, b) ∷ r.1)) (λ d h t. elim (h t) [
            | inl i ↦ inl (behind_first (a, b) r.1 (d.low, d.high) i)
            | inr i ↦ inr (behind_first (a, b) r.1 (d.high, d.low) i)
          ]) cs r.3,
        ),
      )

  -- ---- orders that are probed

  abbrev Reaches : ℕ → ℕ → ℕ × ℕ → Type 0
  Reaches y z p = Closure (paths_of B) p.0 p.1 y z

  reached_or_none : (ps : List (ℕ × ℕ)) (y z : ℕ) → Any (Reaches y z) ps ⊎ All (λ p. Reaches y z p → ⊥) ps
  reached_or_none [] y z = inr (All-nil (λ p. Reaches y z p → ⊥))
  reached_or_none (p ∷ ps) y z = elim (decided_law (paths_of B) p.0 p.1 y z) [
    | inl k ↦ inl (any_first (Reaches y z) [] p ps k)
    | inr n ↦ elim (reached_or_none ps y z) [
      | inl r ↦ inl (suc r.0, r.1, omega (arith, r.2), r.3, r.4)
      | inr ns ↦ inr (All-cons (λ p. Reaches y z p → ⊥) p ps n ns)
    ]
  ]

  against : (c : Claim) → (c.label ≡ Label.Peer) ⊎ ((over under : ℕ) × OtherOrder c over under)
  against c = by c.label refl
    where
      by : (l : Label) → c.label ≡ l → (c.label ≡ Label.Peer) ⊎ ((over under : ℕ) × OtherOrder c over under)
      by Label.Low is = inr (c.high, c.low, inl (is, refl, refl))
      by Label.High is = inr (c.low, c.high, inr (is, refl, refl))
      by Label.Peer is = inl is

  -- if the order led to its opposite, the edge would be forced
  forced_by : (c : Claim) → c.low < c.high → (over under : ℕ) → OtherOrder c over under → Closure (paths_of B) over under under over → IsForced (paths_of B) c.low c.high
  forced_by c lt over under (inl o) k O O' serves serves' = low O serves ∙ sym (low O' serves')
    where
      low : (O : Orientation) → Serves O (paths_of B) → O c.low c.high ≡ End.Low
      low O serves =
          over_low O c.low c.high lt
          (subst (λ x. is_over (labels_of O) c.low x ≡ true) o.1 (subst (λ y. is_over (labels_of O) y over ≡ true) o.2
          (implied_law O (paths_of B) under over (λ e. omega (arith, lt, e, o.1, o.2)) k serves)))
  forced_by c lt over under (inr o) k O O' serves serves' = high O serves ∙ sym (high O' serves')
    where
      high : (O : Orientation) → Serves O (paths_of B) → O c.low c.high ≡ End.High
      high O serves =
          over_high O c.low c.high lt
          (subst (λ x. is_over (labels_of O) c.high x ≡ true) o.1 (subst (λ y. is_over (labels_of O) y over ≡ true) o.2
          (implied_law O (paths_of B) under over (λ e. omega (arith, lt, e, o.1, o.2)) k serves)))

  module _ (claims : List Claim) where
    -- an open edge is a peering, or the closure of a probe has the order against its label
    abbrev IsProbedBy : List (ℕ × ℕ) → Claim → Type 0
    IsProbedBy probes c = IsFalse c.forced → (c.label ≡ Label.Peer) ⊎ ((over under : ℕ) × OtherOrder c over under × Any (Reaches over under) probes)

    abbrev Probing : List (ℕ × ℕ) → List Claim → Type 0
    Probing earlier cs = (probes : List (ℕ × ℕ)) × ProbesFrom (paths_of B) claims earlier probes × AllByRecursion (IsProbedBy (earlier ++ probes)) cs

    probing : (earlier : List (ℕ × ℕ)) (cs : List Claim) → AllByRecursion IsRight cs → AllByRecursion (Contains claims) cs → Probing earlier cs
    probing earlier [] right there = ([], tt, tt)
    probing earlier (c ∷ cs) right there = elim (cases_Bool c.forced) [
      | inl t ↦ skip (λ ps f. absurd (false≢true (sym f ∙ t))) (probing earlier cs right.1 there.1)
      | inr f ↦ elim (against c) [
        | inl peer ↦ skip (λ ps _. inl peer) (probing earlier cs right.1 there.1)
        | inr (over, under, other) ↦ elim (reached_or_none earlier over under) [
          | inl any ↦
              let r = probing earlier cs right.1 there.1 in
              (r.0, r.1, ((λ _. inr (over, under, other, any_left (Reaches over under) earlier r.0 any)), r.2))
          | inr none ↦ one_more f over under other none (probing (earlier ++ (over, under) ∷ []) cs right.1 there.1)
        ]
      ]
    ]
      where
        skip : ((probes : List (ℕ × ℕ)) → IsProbedBy probes c) → Probing earlier cs → Probing earlier (c ∷ cs)
        skip h r = (r.0, r.1, (h (earlier ++ r.0), r.2))

        one_more : c.forced ≡ false → (over under : ℕ) → OtherOrder c over under → All (λ p. Reaches over under p → ⊥) earlier → Probing (earlier ++ (over, under) ∷ []) cs → Probing earlier (c ∷ cs)
        one_more f over under other none r = (
          (over, under) ∷ r.0,
          (
            record {
              consistent = consistency_law (paths_of B) over under (λ k. false≢true (sym f ∙ right.0.1.1 (forced_by c right.0.0 over under other k)));
              claim = c;
              claimed = there.0;
              is_open = f;
              over = over;
              under = under;
              other = other;
              reached = start;
              new = none;
            },
            r.1,
          ),
          (
            (λ _. inr (over, under, other, any_first (Reaches over under) earlier (over, under) r.0 start)),
            subst (λ ps. AllByRecursion (IsProbedBy ps) cs) (append_assoc earlier ((over, under) ∷ []) r.0) r.2,
          ),
        )

  -- ---- both together

  borne_out : (orders probes : List (ℕ × ℕ)) (cs : List Claim) → AllByRecursion (IsShownIn orders) cs → AllByRecursion (IsProbedBy cs probes) cs →
      AllByRecursion (IsBorneOut (paths_of B) orders probes) cs
  borne_out orders probes cs = go cs
    where
      go : (some : List Claim) → AllByRecursion (IsShownIn orders) some → AllByRecursion (IsProbedBy cs probes) some → AllByRecursion (IsBorneOut (paths_of B) orders probes) some
      go [] h k = tt
      go (c ∷ some) h k = (one (cases_Bool c.forced), go some h.1 k.1)
        where
          one : (c.forced ≡ true) ⊎ (c.forced ≡ false) → IsBorneOut (paths_of B) orders probes c
          one (inl t) = inl (t, h.0 t)
          one (inr f) = elim (k.0 f) [ inl peer ↦ inr (inl (f, peer)) | inr other ↦ inr (inr (f, other)) ]

  nothing_shown : (cs : List Claim) → AllByRecursion (IsNew []) cs
  nothing_shown [] = tt
  nothing_shown (c ∷ cs) = (((λ i. omega (arith, i.1)), (λ i. omega (arith, i.1))), nothing_shown cs)

  pub some_evidence : (claims : List Claim) → AllByRecursion IsRight claims → Once (map pair claims) → AllByRecursion (Contains claims) claims →
      (whys : List Walk) × (probes : List (ℕ × ℕ)) × MarksHold B claims whys probes
  some_evidence claims right once there =
      let s = showing [] claims right once (nothing_shown claims) in
      let p = probing claims [] claims right there in (
        s.0,
        p.0,
        record {
          orders = s.1;
          shown = s.2;
          marks = All-from_recursion (IsBorneOut (paths_of B) s.1 p.0) claims (borne_out s.1 p.0 claims s.3 p.2);
          probes_serve = p.1;
        },
      )
