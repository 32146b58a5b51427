-- Open lines that are tested in batches: what one line, one batch and all of them come to.
use Rattle.std.proofs.Common.{◌≡◌, ◌⊎◌, inl, inr, ℕ, ◌+◌, ◌*◌, ◌<◌, ◌≤◌, Bool, true, List, [], ◌∷◌, ◌++◌, Option, Some, None, slice_get, length, length-append, refl, sym, ap, ◌∙◌}
use Rattle.std.proofs.Common.{subst, arith, All, Contains}
use Rattle.std.proofs.lemmas.Bool.{cases_lt}
use Rattle.std.proofs.lemmas.Option.{same_Some, slice_get_within}
use Rattle.std.proofs.lemmas.List.Elements.{All-push, Contains-push, Contains-append_left}
use Rattle.tor_arena.proofs.Gets.{has-from_Contains, slice_get-some}
use Rattle.relationships.specs.Graph.{edges}
use Rattle.relationships.specs.declared.mark.Probe.{Probe}
use Rattle.result_text.specs.declared.file.ResultFile.{ResultFile}
use Rattle.result_rules.specs.File.{its_edges, its_paths}
use Rattle.line_rules.specs.Batches.{CanFlipTogether, HasRounds, IsBegun, IsBatch, AreRows}
use Rattle.line_rules.specs.Serving.{CanFlip, GainsAt, ServesAt}
use Rattle.line_rules.specs.Breaches.{First}
use Rattle.line_rules.specs.Testing.{FlipsAt, IsBehind, end_before, IsFailing, IsTested, Tests, Tries, IsWaiting, IsBatchTested, AreTried, IsUnderWay, AreAllTested}
use Rattle.line_rules.specs.declared.marks.consistency.Testing.{Testing}
use Rattle.line_rules.specs.Flipping.{flipped_orders, served_lines, IsBuiltFor}
use Rattle.line_rules.specs.Neighbours.{IsTurned}
use Rattle.relationships.specs.Evidence.{IsTriple}
use Rattle.line_rules.proofs.Buildings.{inside_implied, inside_conflicting}
use Rattle.line_rules.proofs.Consistencies.{batch-none, mutual_conflicts}
use Rattle.line_rules.proofs.RuledOut.{rounds_of}
use Rattle.line_rules.proofs.Firsts.{probe_at, serves_here, idle_fails}

-- ---- one line

-- a line that comes before the failing one fails itself
pub keeps_behind : (failing : Option ℕ) (place : ℕ) → (IsBehind failing place → ⊥) → (k : ℕ) → IsBehind failing k → IsBehind (Some place) k
keeps_behind None place before k h = absurd h
keeps_behind (Some first) place before k h = elim (cases_lt place first) [ inl less ↦ omega (arith, less, h) | inr ge ↦ absurd (before ge) ]

pub flips_at : (file : ResultFile) (k : ℕ) (line : Probe) → slice_get file.probes k ≡ Some line → CanFlip file (line.over, line.under) → FlipsAt file k
flips_at file k line at can p at' = subst (CanFlip file) (same_Some (line.over, line.under) p (sym (probe_at file k line at) ∙ at')) can

-- a line that doesn't serve, and stands before those that failed
pub test_fails : (file : ResultFile) (implied conflicting implying : List (List ℕ)) (place : ℕ) (old new : Testing) → (IsBehind old.failing place → ⊥) → place < length file.probes →
    (ServesAt file place → ⊥) → IsBatch implied conflicting implying new.batch → new.batch.round ≤ old.batch.round + 1 → new.failing ≡ Some place →
    Tests file implied conflicting implying place old new true
test_fails file implied conflicting implying place old new before within fails batch round is = record {
  batch = batch;
  failing = λ h. subst (IsFailing file) (sym is) (within, fails);
  keeps = λ k h. subst (λ f. IsBehind f k) (sym is) (keeps_behind old.failing place before k h);
  tested = λ t. inr (subst (λ f. IsBehind f place) (sym is) (omega arith));
  round = inl (refl, round);
  first = λ h. refl;
}

-- ---- the lines at first

pub places_more : (old new : List ℕ) (place : ℕ) → length old ≡ place → All (λ k. k < place) old → ((k : ℕ) → k < place → Contains old k) → new ≡ old ++ place ∷ [] →
    (length new ≡ place + 1) × All (λ k. k < place + 1) new × ((k : ℕ) → k < place + 1 → Contains new k)
places_more old new place many inside all e = rw e (
  omega (arith, many, length-append old (place ∷ [])),
  All-push (λ k. k < place + 1) old place (λ i d lt. (let less = inside i d lt in omega (arith, less))) (omega arith),
  λ k lt. elim (cases_lt k place) [
    | inl less ↦ Contains-append_left old (place ∷ []) k (all k less)
    | inr ge ↦ subst (Contains (old ++ place ∷ [])) (omega (arith, lt, ge)) (Contains-push old place)
  ],
)

-- ---- one batch

module _ (file : ResultFile) (implied conflicting implying : List (List ℕ)) where
  -- the first lines, so many, are tested but those that wait
  pub record IsBatchSoFar (places : List ℕ) (first : Testing) (at : ℕ) (now : Testing) (waiting : List ℕ) : Type 0 where
    pub batch : IsBatch implied conflicting implying now.batch
    pub failing : IsFailing file now.failing
    pub keeps : (k : ℕ) → IsBehind first.failing k → IsBehind now.failing k
    pub tested : (k place : ℕ) → k < at → slice_get places k ≡ Some place → IsTested file now.failing place ⊎ Contains waiting place
    pub inside : All (λ k. k < length file.probes) waiting
    pub fewer : ((at ≡ 0) × (length waiting ≡ 0) × All (λ m. m < now.batch.round) now.batch.ruled.items) ⊎ (length waiting < at)
    pub rounds : now.batch.round + length waiting ≤ first.batch.round + 1 + at

  pub batch_begins : (rows : AreRows implied conflicting implying) (places : List ℕ) (first now : Testing) (waiting : List ℕ) → IsBegun (length implied) now.batch → IsFailing file first.failing →
      now.failing ≡ first.failing → now.batch.round ≡ first.batch.round + 1 → IsBatch implied conflicting implying now.batch → waiting ≡ [] → IsBatchSoFar places first 0 now waiting
  batch_begins rows places first now waiting b failing same round batch none = subst (IsBatchSoFar places first 0 now) (sym none) (record {
    batch = batch;
    failing = subst (IsFailing file) (sym same) failing;
    keeps = λ k h. subst (λ f. IsBehind f k) (sym same) h;
    tested = λ k place lt. absurd (omega (arith, lt));
    inside = λ i d lt. absurd (omega (arith, lt));
    fewer = inl (refl, refl, b.none_ruled);
    rounds = omega (arith, round);
  })

  tested_more : (place : ℕ) (old new : Testing) (done : Bool) → Tests file implied conflicting implying place old new done → (k : ℕ) → IsTested file old.failing k → IsTested file new.failing k
  tested_more place old new done t k h = elim h [ inl f ↦ inl f | inr b ↦ inr (t.keeps k b) ]

  pub batch_next : (places : List ℕ) (first : Testing) (at : ℕ) (old new : Testing) (waiting later : List ℕ) (place : ℕ) (done : Bool) → IsBatchSoFar places first at old waiting →
      slice_get places at ≡ Some place → place < length file.probes → Tests file implied conflicting implying place old new done → IsWaiting done place waiting later →
      IsBatchSoFar places first (at + 1) new later
  batch_next places first at old new waiting later place done so here within t (inl w) = subst (IsBatchSoFar places first (at + 1) new) (sym w.1) (record {
    batch = t.batch;
    failing = t.failing so.failing;
    keeps = λ k h. t.keeps k (so.keeps k h);
    tested = λ k p lt at-k. elim (cases_lt k at) [
      | inl less ↦ elim (so.tested k p less at-k) [ inl h ↦ inl (tested_more place old new done t p h) | inr h ↦ inr h ]
      | inr ge ↦ inl (subst (IsTested file new.failing) (same_Some place p (sym here ∙ ap (slice_get places) (omega (arith, lt, ge)) ∙ at-k)) (t.tested w.0))
    ];
    inside = so.inside;
    fewer = inr (elim so.fewer [ inl z ↦ (let none = z.1 in omega (arith, none)) | inr less ↦ omega (arith, less) ]);
    rounds = (let r = so.rounds in elim t.round [ inl m ↦ (let le = m.1 in omega (arith, r, le)) | inr m ↦ absurd (m.0 w.0) ]);
  })
  batch_next places first at old new waiting later place done so here within t (inr w) = subst (IsBatchSoFar places first (at + 1) new) (sym w.1) (record {
    batch = t.batch;
    failing = t.failing so.failing;
    keeps = λ k h. t.keeps k (so.keeps k h);
    tested = λ k p lt at-k. elim (cases_lt k at) [
      | inl less ↦ elim (so.tested k p less at-k) [ inl h ↦ inl (tested_more place old new done t p h) | inr h ↦ inr (Contains-append_left waiting (place ∷ []) p h) ]
      | inr ge ↦ inr (subst (Contains (waiting ++ place ∷ [])) (same_Some place p (sym here ∙ ap (slice_get places) (omega (arith, lt, ge)) ∙ at-k)) (Contains-push waiting place))
    ];
    inside = All-push (λ k. k < length file.probes) waiting place so.inside within;
    fewer = inr (elim so.fewer [ inl z ↦ absurd (w.0 (t.first z.2)) | inr less ↦ (let n = length-append waiting (place ∷ []) in omega (arith, less, n)) ]);
    rounds = (let r = so.rounds in let n = length-append waiting (place ∷ []) in elim t.round [ inl m ↦ absurd (w.0 m.0) | inr m ↦ (let e = m.1 in omega (arith, r, e, n)) ]);
  })

  pub batch_done : (places : List ℕ) (first : Testing) (at : ℕ) (now : Testing) (waiting : List ℕ) → at ≡ length places → IsBatchSoFar places first at now waiting →
      IsBatchTested file implied conflicting implying places first now waiting
  batch_done places first at now waiting end so = record {
    batch = so.batch;
    failing = so.failing;
    keeps = so.keeps;
    tested = λ k h. (let has = has-from_Contains places k h in let lt = slice_get_within places has.0 k has.1 in so.tested has.0 k (omega (arith, lt, end)) has.1);
    inside = so.inside;
    fewer = elim so.fewer [ inl z ↦ (let none = z.0 in inl (omega (arith, none, end))) | inr less ↦ inr (omega (arith, less, end)) ];
    rounds = (let r = so.rounds in omega (arith, r, end));
  }

-- ---- one batch that is tried

module _ (file : ResultFile) (implied conflicting : List (List ℕ)) where
  -- the first lines, so many, are tested but those that wait
  pub record IsTriedSoFar (places : List ℕ) (first : Testing) (at : ℕ) (now : Testing) (waiting : List ℕ) : Type 0 where
    pub rounds : HasRounds (length implied) now.batch
    pub together : CanFlipTogether implied conflicting now.batch.rounds.items now.batch.round
    pub failing : now.failing ≡ first.failing
    pub round : now.batch.round ≡ first.batch.round + 1
    pub tested : (k place : ℕ) → k < at → slice_get places k ≡ Some place → IsTested file now.failing place ⊎ Contains waiting place
    pub inside : All (λ k. k < length file.probes) waiting
    pub few : length waiting ≤ at

  pub tries_begin : (places : List ℕ) (first now : Testing) (waiting : List ℕ) → IsBegun (length implied) now.batch → now.failing ≡ first.failing → now.batch.round ≡ first.batch.round + 1 →
      waiting ≡ [] → IsTriedSoFar places first 0 now waiting
  tries_begin places first now waiting b same round none = subst (IsTriedSoFar places first 0 now) (sym none) (record {
    rounds = record {
      many = b.many;
      ruled_many = b.ruled_many;
      latest = λ i d lt. (let less = b.none i d lt in omega (arith, less));
      ruled_latest = λ i d lt. (let less = b.none_ruled i d lt in omega (arith, less));
    };
    together = batch-none implied conflicting now.batch.rounds.items now.batch.round b.none;
    failing = same;
    round = round;
    tested = λ k place lt. absurd (omega (arith, lt));
    inside = λ i d lt. absurd (omega (arith, lt));
    few = omega arith;
  })

  tried_more : (place : ℕ) (old new : Testing) (done : Bool) → Tries file implied conflicting place old new done → (k : ℕ) → IsTested file old.failing k → IsTested file new.failing k
  tried_more place old new done t k h = subst (λ f. IsTested file f k) (sym t.failing) h

  pub tries_next : (places : List ℕ) (first : Testing) (at : ℕ) (old new : Testing) (waiting later : List ℕ) (place : ℕ) (done : Bool) → IsTriedSoFar places first at old waiting →
      slice_get places at ≡ Some place → place < length file.probes → Tries file implied conflicting place old new done → IsWaiting done place waiting later →
      IsTriedSoFar places first (at + 1) new later
  tries_next places first at old new waiting later place done so here within t (inl w) = subst (IsTriedSoFar places first (at + 1) new) (sym w.1) (record {
    rounds = t.rounds;
    together = t.together;
    failing = t.failing ∙ so.failing;
    round = t.round ∙ so.round;
    tested = λ k p lt at-k. elim (cases_lt k at) [
      | inl less ↦ elim (so.tested k p less at-k) [ inl h ↦ inl (tried_more place old new done t p h) | inr h ↦ inr h ]
      | inr ge ↦ inl (subst (IsTested file new.failing) (same_Some place p (sym here ∙ ap (slice_get places) (omega (arith, lt, ge)) ∙ at-k)) (t.tested w.0))
    ];
    inside = so.inside;
    few = (let few = so.few in omega (arith, few));
  })
  tries_next places first at old new waiting later place done so here within t (inr w) = subst (IsTriedSoFar places first (at + 1) new) (sym w.1) (record {
    rounds = t.rounds;
    together = t.together;
    failing = t.failing ∙ so.failing;
    round = t.round ∙ so.round;
    tested = λ k p lt at-k. elim (cases_lt k at) [
      | inl less ↦ elim (so.tested k p less at-k) [ inl h ↦ inl (tried_more place old new done t p h) | inr h ↦ inr (Contains-append_left waiting (place ∷ []) p h) ]
      | inr ge ↦ inr (subst (Contains (waiting ++ place ∷ [])) (same_Some place p (sym here ∙ ap (slice_get places) (omega (arith, lt, ge)) ∙ at-k)) (Contains-push waiting place))
    ];
    inside = All-push (λ k. k < length file.probes) waiting place so.inside within;
    few = (let few = so.few in let n = length-append waiting (place ∷ []) in omega (arith, few, n));
  })

  pub tries_done : (places : List ℕ) (first : Testing) (at : ℕ) (now : Testing) (waiting : List ℕ) → at ≡ length places → IsTriedSoFar places first at now waiting →
      AreTried file implied places first now waiting
  tries_done places first at now waiting end so = record {
    rounds = so.rounds;
    failing = so.failing;
    round = so.round;
    tested = λ k h. (let has = has-from_Contains places k h in let lt = slice_get_within places has.0 k has.1 in so.tested has.0 k (omega (arith, lt, end)) has.1);
    inside = so.inside;
    few = (let few = so.few in omega (arith, few, end));
  }

-- ---- all batches

pub rows_of : (file : ResultFile) (implied conflicting implying : List (List ℕ)) → IsBuiltFor file.edges (served_lines file) implied conflicting → IsTurned implied implying →
    AreRows implied conflicting implying
rows_of file implied conflicting implying built turned = record {
  same = built.conflicting_many ∙ sym built.implied_many;
  turned_many = turned.many;
  inside = inside_implied (flipped_orders file.edges) (IsTriple (served_lines file)) implied conflicting built;
  conflicts = inside_conflicting (flipped_orders file.edges) (IsTriple (served_lines file)) implied conflicting built;
  turned_inside = turned.inside;
  both_ways = mutual_conflicts (flipped_orders file.edges) (served_lines file) implied conflicting built;
  turned = turned.back;
}

module _ (file : ResultFile) (implied : List (List ℕ)) where
  pub way_begins : (end : ℕ) (now : Testing) (waiting : List ℕ) → end ≤ length file.probes → IsBegun (length implied) now.batch → now.batch.round ≡ 1 → IsFailing file now.failing →
      length waiting ≡ end → All (λ k. k < end) waiting → ((k : ℕ) → k < end → Contains waiting k) → IsUnderWay file implied end 1 now.failing now waiting
  way_begins end now waiting within b round failing many inside all = record {
    bears = record {
      many = b.many;
      ruled_many = b.ruled_many;
      latest = λ i d lt. (let less = b.none i d lt in omega (arith, less));
      ruled_latest = λ i d lt. (let less = b.none_ruled i d lt in omega (arith, less));
    };
    failing = failing;
    keeps = λ k h. h;
    tested = λ k lt. inr (all k lt);
    inside = λ i d lt. (let less = inside i d lt in omega (arith, less, within));
    rounds = omega (arith, round, many);
  }

  -- the lines were tried: where fewer wait there is a round for each that doesn't
  pub way_tried : (end more more' : ℕ) (first : Option ℕ) (old new : Testing) (waiting left : List ℕ) →
      IsUnderWay file implied end more first old waiting → AreTried file implied waiting old new left →
      1 + 2 * length left + more ≤ more' + 2 * length waiting → IsUnderWay file implied end more' first new left
  way_tried end more more' first old new waiting left so t le = record {
    bears = t.rounds;
    failing = subst (IsFailing file) (sym t.failing) so.failing;
    keeps = λ k h. subst (λ f. IsBehind f k) (sym t.failing) (so.keeps k h);
    tested = λ k lt. elim (so.tested k lt) [ inl h ↦ inl (subst (λ f. IsTested file f k) (sym t.failing) h) | inr h ↦ t.tested k h ];
    inside = t.inside;
    rounds = (let r = so.rounds in let e = t.round in omega (arith, r, e, le));
  }

  pub way_next : (conflicting implying : List (List ℕ)) (rows : AreRows implied conflicting implying) (end : ℕ) (first : Option ℕ) (old new : Testing) (waiting later : List ℕ) →
      IsUnderWay file implied end 2 first old waiting → (length waiting ≡ 0 → ⊥) → IsBatchTested file implied conflicting implying waiting old new later → IsUnderWay file implied end 2 first new later
  way_next conflicting implying rows end first old new waiting later so some b = record {
    bears = rounds_of implied conflicting implying rows new.batch b.batch;
    failing = b.failing;
    keeps = λ k h. b.keeps k (so.keeps k h);
    tested = λ k lt. elim (so.tested k lt) [
      | inl h ↦ elim h [ inl f ↦ inl (inl f) | inr behind ↦ inl (inr (b.keeps k behind)) ]
      | inr h ↦ b.tested k h
    ];
    inside = b.inside;
    rounds = (let r = b.rounds in let r' = so.rounds in elim b.fewer [ inl z ↦ absurd (some z) | inr less ↦ omega (arith, r, r', less) ]);
  }

  pub way_more : (end : ℕ) (first : Option ℕ) (now : Testing) (waiting : List ℕ) → IsUnderWay file implied end 1 first now waiting → IsUnderWay file implied end 2 first now waiting
  way_more end first now waiting so = record {
    bears = so.bears;
    failing = so.failing;
    keeps = so.keeps;
    tested = so.tested;
    inside = so.inside;
    rounds = (let r = so.rounds in omega (arith, r));
  }

  pub way_done : (end : ℕ) (first : Option ℕ) (now : Testing) (waiting : List ℕ) → IsUnderWay file implied end 2 first now waiting → length waiting ≡ 0 → AreAllTested file end first now.failing
  way_done end first now waiting so none = record {
    failing = so.failing;
    keeps = so.keeps;
    tested = λ k lt. elim (so.tested k lt) [ inl h ↦ h | inr c ↦ absurd (let within = c.1 in omega (arith, within, none)) ];
  }

-- ---- the first line that doesn't serve

module _ (file : ResultFile) (whole : its_edges file ≡ edges (its_paths file)) where
  pub idle_failing : (idle : Option ℕ) → First (GainsAt file) (length file.probes) idle → IsFailing file idle
  idle_failing None h = tt
  idle_failing (Some k) h = idle_fails file whole (length file.probes) k (Some k) h refl

  -- a line that gains and can flip serves
  serves_at : (k : ℕ) → k < length file.probes → GainsAt file k → FlipsAt file k → ServesAt file k
  serves_at k lt gains flips =
      let line = slice_get-some file.probes k lt in
      serves_here file whole k line.0 line.1 gains (flips (line.0.over, line.0.under) (probe_at file k line.0 line.1)).1

  first_of : (failing : Option ℕ) → IsFailing file failing → ((k : ℕ) → k < length file.probes → (IsBehind failing k → ⊥) → ServesAt file k) → First (ServesAt file) (length file.probes) failing
  first_of None h serve = λ k lt. serve k lt (λ b. b)
  first_of (Some k) h serve = (h.0, h.1, λ j lt. serve j (let within = h.0 in omega (arith, lt, within)) (λ b. omega (arith, lt, b)))

  gains_before : (idle : Option ℕ) → First (GainsAt file) (length file.probes) idle → (k : ℕ) → k < length file.probes → (IsBehind idle k → ⊥) → GainsAt file k
  gains_before None h k lt before = h k lt
  gains_before (Some i) h k lt before = elim (cases_lt k i) [ inl less ↦ h.2 k less | inr ge ↦ absurd (before ge) ]

  -- the line is before the end, or behind the first that gains nothing
  pub record IsEnd (idle : Option ℕ) (end : ℕ) : Type 0 where
    pub within : end ≤ length file.probes
    pub cases : (k : ℕ) → k < length file.probes → (k < end) ⊎ IsBehind idle k

  pub is_end : (idle : Option ℕ) → First (GainsAt file) (length file.probes) idle → IsEnd idle (end_before idle (length file.probes))
  is_end None h = record { within = omega arith; cases = λ k lt. inl lt }
  is_end (Some i) h = record {
    within = (let lt = h.0 in omega (arith, lt));
    cases = λ k lt. elim (cases_lt k i) [ inl less ↦ inl less | inr ge ↦ inr ge ];
  }

  pub all_tested : (idle : Option ℕ) (end : ℕ) (failing : Option ℕ) → First (GainsAt file) (length file.probes) idle → IsEnd idle end → AreAllTested file end idle failing →
      First (ServesAt file) (length file.probes) failing
  all_tested idle end failing first e t = first_of failing t.failing (λ k lt before. elim (e.cases k lt) [
    | inl less ↦ elim (t.tested k less) [
      | inl flips ↦ serves_at k lt (gains_before idle first k lt (λ b. before (t.keeps k b))) flips
      | inr b ↦ absurd (before b)
    ]
    | inr b ↦ absurd (before (t.keeps k b))
  ])
