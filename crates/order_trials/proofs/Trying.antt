-- A search over orders that the labels do not have.
use Rattle.std.proofs.Common.{◌≡◌, ℕ, ◌+◌, ◌<◌, ◌≤◌, ◌⊎◌, inl, inr, not, List, [], Some, length, sym, ap, ◌∙◌, subst, arith, IsTrue, Contains}
use Rattle.std.specs.Prelude.{slice_get}
use Rattle.std.proofs.lemmas.Bool.{cases_Bool, cases_lt, false≢true}
use Rattle.std.proofs.lemmas.Option.{same_Some, slice_get_within}
use Rattle.tor_arena.proofs.Gets.{has-from_Contains, Contains-from_has, slice_get-some}
use Rattle.tor_digraph.specs.Walks.{IsArc, HasArc, Reaches}
use Rattle.tor_digraph.specs.Walks as walks
use Rattle.tor_digraph.specs.InRows.{IsRow}
use Rattle.tor_digraph.proofs.Closings.{reaches_trans}
use Rattle.tor_clauses.specs.Literals.{opposite_node}
use Rattle.tor_clauses.specs.Flipping.{HasPartners, IsKeptAlong, ReachesOff}
use Rattle.tor_clauses.specs.Flipping as flipping
use Rattle.tor_clauses.proofs.LiteralLemmas.{opposite_node_twice}
use Rattle.tor_clauses.proofs.Flips.{reach_back, reach_from, off_law}
use Rattle.tor_digraph.specs.Trails.{StandsAt, IsTrail}
use Rattle.tor_digraph.specs.declared.trail.Trail.{Trail}
use Rattle.tor_digraph.specs.Spreading.{Stays, IsClosed}
use Rattle.order_trials.specs.Held.{held}
use Rattle.order_trials.specs.Posing.{Posed}
use Rattle.tor_clauses.specs.Rounds.{IsClash}
use Rattle.order_trials.specs.Trials.{IsPassed, ArePassed, AreAllPassed}
use Rattle.order_trials.proofs.Helds.{held_one}
use Rattle.tor_digraph.proofs.Spreadings.{stays_contained}
use Rattle.order_trials.proofs.Showings.{near-walk}

-- ---- a clash

module _ (arcs : List (ℕ × ℕ)) where
  -- where an arc clashes, the start leads to its opposite
  pub clash_leads : HasPartners arcs → (trial : Trail) (start clash : ℕ) → IsTrail arcs start trial → IsClash arcs trial.nodes.items clash → Reaches arcs start (opposite_node start)
  clash_leads partners trial start clash t c =
      let u = has-from_Contains trial.nodes.items c.0 c.3 in
      let v = has-from_Contains trial.nodes.items (opposite_node c.1) c.4 in
      let out = walks.along (t.reached u.0 c.0 u.1) (clash, c.2) in
      reaches_trans out (reach_from arcs partners (t.reached v.0 (opposite_node c.1) v.1))

-- ---- what is passed

module _ (arcs : List (ℕ × ℕ)) (by_labels past : List ℕ) where
  pub passed_more : (old new : List ℕ) (k : ℕ) → k < length old → Stays old new → (y : ℕ) → IsPassed by_labels past old k y → IsPassed by_labels past new k y
  passed_more old new k lt stays y h = (
    elim h.0 [ inl c ↦ inl (stays_contained old new stays y c) | inr c ↦ inr c ],
    λ j le s.
        let o = slice_get-some old j (omega (arith, le, lt)) in
        h.1 j le (o.1 ∙ sym (stays j o.0 o.1) ∙ s),
  )

  -- a head whose opposite was not among them before the last one was added
  pub passed_in : (old new : List ℕ) (k tail y : ℕ) → StandsAt old k tail → Stays old new → (Contains old (opposite_node y) → ⊥) →
      Contains new y ⊎ (Contains by_labels y ⊎ Contains past y) → IsPassed by_labels past new k y
  passed_in old new k tail y here stays apart met = (
    met,
    λ j le s.
        let lt = slice_get_within old k tail here in
        let o = slice_get-some old j (omega (arith, le, lt)) in
        apart (Contains-from_has old (opposite_node y) (j, o.1 ∙ sym (stays j o.0 o.1) ∙ s)),
  )

  pub all_passed_more : (old new : List ℕ) (next : ℕ) → next ≤ length old → Stays old new → ArePassed arcs by_labels past old next → ArePassed arcs by_labels past new next
  all_passed_more old new next le stays passed k x lt at y arc =
      let o = slice_get-some old k (omega (arith, le, lt)) in
      passed_more old new k (omega (arith, le, lt)) stays y (passed k x lt (o.1 ∙ sym (stays k o.0 o.1) ∙ at) y arc)

  -- the heads of the first entries of a row, so many, are passed
  abbrev pub AreHeadsPassed : List (ℕ × ℕ) → ℕ → List ℕ → ℕ → Type 0
  AreHeadsPassed row upto nodes place = (j : ℕ) (e : ℕ × ℕ) → j < upto → slice_get row j ≡ Some e → IsPassed by_labels past nodes place e.1

  pub scan_next : (row : List (ℕ × ℕ)) (upto : ℕ) (old new : List ℕ) (place : ℕ) (e : ℕ × ℕ) → place < length old → Stays old new → AreHeadsPassed row upto old place →
      slice_get row upto ≡ Some e → IsPassed by_labels past new place e.1 → AreHeadsPassed row (upto + 1) new place
  scan_next row upto old new place e below stays so at passed j d lt at-d = elim (cases_lt j upto) [
    | inl less ↦ passed_more old new place below stays d.1 (so j d less at-d)
    | inr le ↦
        let is : j ≡ upto = omega (arith, lt, le) in
        let same : ◌≡◌ {A = ℕ × ℕ} e d = same_Some e d (sym at ∙ ap (slice_get row) (sym is) ∙ at-d) in
        subst (λ (p : ℕ × ℕ). IsPassed by_labels past new place p.1) same passed
  ]

  pub scan_done : (row : List (ℕ × ℕ)) (upto : ℕ) (nodes : List ℕ) (place node : ℕ) → StandsAt nodes place node → IsRow (λ a. a) arcs node row → length row ≤ upto →
      AreHeadsPassed row upto nodes place → ArePassed arcs by_labels past nodes place → ArePassed arcs by_labels past nodes (place + 1)
  scan_done row upto nodes place node here is le so before k x lt at y arc = elim (cases_lt k place) [
    | inl less ↦ before k x less at y arc
    | inr more ↦
        let same : place ≡ k = omega (arith, lt, more) in
        let tail : node ≡ x = same_Some node x (sym here ∙ ap (slice_get nodes) same ∙ at) in
        let w = is.each arc.0 y (subst (λ n. IsArc arcs arc.0 n y) (sym tail) arc.1) in
        let within = slice_get_within row w.0 (w.1, y) w.2 in
        subst (λ i. IsPassed by_labels past nodes i y) same (so w.0 (w.1, y) (omega (arith, within, le)) w.2)
  ]

-- ---- a search that has come to no clash

module _ (posed : Posed) (partners : HasPartners posed.formula.net.arcs) (kept : IsKeptAlong posed.formula.net.arcs (held posed.labels))
    (only : (n : ℕ) → Contains posed.held n → IsTrue (held posed.labels n)) where
  kept_to : {a b : ℕ} → IsTrue (held posed.labels a) → Reaches posed.formula.net.arcs a b → IsTrue (held posed.labels b)
  kept_to h walks.here = h
  kept_to h (walks.along {b = b} {c = c} r arc) = kept b c arc (kept_to h r)

  reaches_by : {a b : ℕ} → ReachesOff posed.formula.net.arcs (held posed.labels) a b → Reaches posed.formula.net.arcs a b
  reaches_by flipping.here = walks.here
  reaches_by (flipping.along r arc f) = walks.along (reaches_by r) arc

  -- an order from which it has come to no clash does not lead to its opposite, where nothing that was passed leads there
  pub no_way : (shown past : List ℕ) (start : ℕ) (trial : Trail) → IsClosed posed.formula.net.arcs [] shown → (Contains shown (opposite_node start) → ⊥) →
      IsClosed posed.formula.net.arcs shown past → (Contains past (opposite_node start) → ⊥) → IsTrail posed.formula.net.arcs start trial →
      AreAllPassed posed.formula.net.arcs posed.held past trial.nodes.items → Reaches posed.formula.net.arcs start (opposite_node start) → ⊥
  no_way shown past start trial closed unshown near none t passed r = elim (cases_Bool (held posed.labels start)) [
    | inl h ↦ false≢true (sym (held_one posed.labels start ∙ ap not h) ∙ kept_to h r)
    | inr f ↦ (off_law posed.formula.net.arcs (held posed.labels) start partners (held_one posed.labels) kept f).1.1 (λ l m out arc home. no_clash l m out arc home) r
  ]
    where
      -- what lies on a way to the opposite was tried
      tried : {n : ℕ} → ReachesOff posed.formula.net.arcs (held posed.labels) start n → Reaches posed.formula.net.arcs n (opposite_node start) → Contains trial.nodes.items n
      tried flipping.here on = Contains-from_has trial.nodes.items start (0, t.first)
      tried (flipping.along {b = b} {c = c} off arc g) on =
          let has = has-from_Contains trial.nodes.items b (tried off (reaches_trans (walks.along walks.here arc) on)) in
          let lt = slice_get_within trial.nodes.items has.0 b has.1 in
          elim (passed has.0 b lt has.1 c arc).0 [
            | inl k ↦ k
            | inr other ↦ elim other [
              | inl k ↦ absurd (false≢true (sym g ∙ only c k))
              | inr k ↦ absurd (elim (near-walk posed shown past closed near k on) [ inl p ↦ none p | inr s ↦ unshown s ])
            ]
          ]

      no_clash : (l m : ℕ) → ReachesOff posed.formula.net.arcs (held posed.labels) start l → HasArc posed.formula.net.arcs l m →
          ReachesOff posed.formula.net.arcs (held posed.labels) start (opposite_node m) → ⊥
      no_clash l m out arc home =
          let to_l = reaches_by out in
          let to_m = reaches_by home in
          let from_m = reach_from posed.formula.net.arcs partners to_m in
          let on_l = reaches_trans (walks.along walks.here arc) from_m in
          let on_m = reach_back posed.formula.net.arcs partners (walks.along to_l arc) in
          let i = has-from_Contains trial.nodes.items l (tried out on_l) in
          let j = has-from_Contains trial.nodes.items (opposite_node m) (tried home on_m) in
          let i_lt = slice_get_within trial.nodes.items i.0 l i.1 in
          let j_lt = slice_get_within trial.nodes.items j.0 (opposite_node m) j.1 in
          elim (cases_lt i.0 j.0) [
            | inl less ↦ (passed j.0 (opposite_node m) j_lt j.1 (opposite_node l) (partners l m arc)).1 i.0 (omega (arith, less))
                (subst (StandsAt trial.nodes.items i.0) (sym (opposite_node_twice l)) i.1)
            | inr le ↦ (passed i.0 l i_lt i.1 m arc).1 j.0 le j.1
          ]
