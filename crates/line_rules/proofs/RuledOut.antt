-- What a batch rules out, and what that says of an edge that it doesn't.
use Rattle.std.proofs.Common.{◌≡◌, ◌⊎◌, inl, inr, ℕ, ◌+◌, ◌≤◌, set, get_or, length-set, List, [], ◌∷◌, ◌++◌, take, Option, Some, None, slice_get, length, refl, sym, ap, ◌∙◌}
use Rattle.std.proofs.Common.{arith, subst, All, Contains, nat_eq, eq-eqb}
use Rattle.std.proofs.lemmas.Bool.{false≢true, cases_Bool, eqb-true}
use Rattle.std.proofs.lemmas.Option.{same_Some, slice_get-get_or}
use Rattle.std.proofs.lemmas.List.Elements.{Contains-push, Contains-append_left, Contains-push_cases}
use Rattle.tor_arena.proofs.Gets.{All-get, Contains-none, slice_get-set_cases, slice_get-set_other}
use Rattle.line_rules.specs.Batches.{HasForgotten, IsAgreeing, AgreesAlone, CanFlipTogether, RulesOut, HasRuledOut, AreRows, HasRounds, IsBegun, IsBatch}
use Rattle.line_rules.specs.Neighbours.{HasNext, ReachesRow, here, onward}
use Rattle.line_rules.specs.Searching.{RoundCameTo, IsRoundClosed, HasSearchedFrom}
use Rattle.line_rules.specs.declared.marks.batch.Batch.{Batch}
use Rattle.line_rules.proofs.Rounds.{closed-reach}
use Rattle.line_rules.proofs.Consistencies.{latest-reach, unvisited_below, batch-none}

module _ (implying : List (List ℕ)) (round : ℕ) where
  pub ruled-none : (P : ℕ → Type 0) (ruled : List ℕ) → IsRoundClosed implying ruled round → All (λ m. m ≤ round) ruled → ((k : ℕ) → P k → ⊥) → HasRuledOut implying round P ruled ruled
  ruled-none P ruled closed latest none = record {
    came = λ k h. absurd (none k h);
    kept = λ k h. h;
    closed = closed;
    latest = latest;
    many = refl;
  }

  pub ruled-one : (start : ℕ) (old new found : List ℕ) → IsRoundClosed implying old round → All (λ m. m ≤ round) old → HasSearchedFrom implying start round old new found →
      HasRuledOut implying round (λ k. start ≡ k) old new
  ruled-one start old new found closed latest s = record {
    came = λ k e. subst (RoundCameTo new round) e ((s.exact start).1 (inr here));
    kept = λ k h. (s.exact k).1 (inl h);
    closed = closed-reach implying start round old new found closed s;
    latest = latest-reach implying start round old new found latest s;
    many = s.many;
  }

  pub ruled-more : (P Q R : ℕ → Type 0) (old mid new : List ℕ) → HasRuledOut implying round P old mid → HasRuledOut implying round Q mid new → ((k : ℕ) → R k → P k ⊎ Q k) →
      HasRuledOut implying round R old new
  ruled-more P Q R old mid new a b cases = record {
    came = λ k h. elim (cases k h) [ inl p ↦ b.kept k (a.came k p) | inr q ↦ b.came k q ];
    kept = λ k h. b.kept k (a.kept k h);
    closed = b.closed;
    latest = b.latest;
    many = b.many ∙ a.many;
  }

  -- what conflicts with one edge more
  pub ruled_next : (conflicting : List (List ℕ)) (found : List ℕ) (n edge : ℕ) (row old mid new : List ℕ) → take (n + 1) found ≡ take n found ++ edge ∷ [] → slice_get conflicting edge ≡ Some row →
      HasRuledOut implying round (λ k. (i : ℕ) × Contains (take n found) i × HasNext conflicting i k) old mid → HasRuledOut implying round (Contains row) mid new →
      HasRuledOut implying round (λ k. (i : ℕ) × Contains (take (n + 1) found) i × HasNext conflicting i k) old new
  ruled_next conflicting found n edge row old mid new more its_row a b =
      ruled-more (λ k. (i : ℕ) × Contains (take n found) i × HasNext conflicting i k) (Contains row) (λ k. (i : ℕ) × Contains (take (n + 1) found) i × HasNext conflicting i k) old mid new a b cases
    where
      in_row : (i k : ℕ) → edge ≡ i → HasNext conflicting i k → Contains row k
      in_row i k same h =
          let is : row ≡ h.0 = same_Some row h.0 (sym its_row ∙ ap (slice_get conflicting) same ∙ h.1) in
          subst (λ (l : List ℕ). Contains l k) (sym is) h.2

      cases : (k : ℕ) → (i : ℕ) × Contains (take (n + 1) found) i × HasNext conflicting i k → ((i : ℕ) × Contains (take n found) i × HasNext conflicting i k) ⊎ Contains row k
      cases k h = elim (Contains-push_cases (take n found) edge h.0 (subst (λ (l : List ℕ). Contains l h.0) more h.1)) [
        | inl c ↦ inl (h.0, c, h.2)
        | inr e ↦ inr (in_row h.0 k e h.2)
      ]

-- what leads to an edge that is ruled out is ruled out
ruled_back : (implied implying : List (List ℕ)) (ruled : List ℕ) (round : ℕ) → ((i j : ℕ) → HasNext implied i j → HasNext implying j i) → IsRoundClosed implying ruled round →
    (start : ℕ) {k : ℕ} → ReachesRow implied start k → RoundCameTo ruled round k → RoundCameTo ruled round start
ruled_back implied implying ruled round turned closed start here h = h
ruled_back implied implying ruled round turned closed start (onward {i = i} {j = j} l n) h =
    ruled_back implied implying ruled round turned closed start l (closed j i h (turned i j n))

-- the round had come to an edge, or the search found it
was_or_found_in : (implied : List (List ℕ)) (start round : ℕ) (old new found : List ℕ) → HasSearchedFrom implied start round old new found →
    (k : ℕ) → RoundCameTo new round k → RoundCameTo old round k ⊎ Contains found k
was_or_found_in implied start round old new found reach k h =
    elim (decided (slice_get old k)) [ inl o ↦ inl o | inr n ↦ inr ((reach.noted k).1 (h, n)) ]
  where
    decided : (o : Option ℕ) → (o ≡ Some round) ⊎ (o ≡ Some round → ⊥)
    decided None = inr (λ e. absurd (cc e))
    decided (Some m) = elim (cases_Bool (nat_eq m round)) [
      | inl t ↦ inl (ap (λ v. Some v) (eqb-true m round t))
      | inr f ↦ inr (λ e. false≢true (sym f ∙ eq-eqb m round (same_Some m round e)))
    ]

-- what flips with an edge that joined a batch agrees by itself
pub agrees_within : (implied conflicting : List (List ℕ)) (start round : ℕ) (old new found : List ℕ) → HasSearchedFrom implied start round old new found → IsAgreeing conflicting new round →
    AgreesAlone implied conflicting start
agrees_within implied conflicting start round old new found reach agreeing i j li lj n = agreeing i j ((reach.exact i).1 (inr li)) ((reach.exact j).1 (inr lj)) n

module _ (implied conflicting implying : List (List ℕ)) (rows : AreRows implied conflicting implying) where
  -- what flips with an edge that is not ruled out agrees with the batch if it agrees with itself
  pub agrees_together : (start round : ℕ) (old new found ruled : List ℕ) → CanFlipTogether implied conflicting old round → RulesOut conflicting implying old ruled round →
      (RoundCameTo ruled round start → ⊥) → HasSearchedFrom implied start round old new found → AgreesAlone implied conflicting start → IsAgreeing conflicting new round
  agrees_together start round old new found ruled batch out free reach alone i j vi vj n =
      elim ((reach.exact i).0 vi) [
        | inl oi ↦ elim ((reach.exact j).0 vj) [
          | inl oj ↦ batch.agreeing i j oi oj n
          | inr lj ↦ free (back lj (out.clashing i j oi n))
        ]
        | inr li ↦ elim ((reach.exact j).0 vj) [
          | inl oj ↦ free (back li (out.clashing j i oj (rows.both_ways i j n)))
          | inr lj ↦ alone i j li lj n
        ]
      ]
    where
      back : {k : ℕ} → ReachesRow implied start k → RoundCameTo ruled round k → RoundCameTo ruled round start
      back l h = ruled_back implied implying ruled round rows.turned out.closed start l h

  -- what conflicts with what was found is ruled out
  pub out_more : (start round : ℕ) (old new found ruled ruled' : List ℕ) → RulesOut conflicting implying old ruled round → HasSearchedFrom implied start round old new found →
      HasRuledOut implying round (λ k. (i : ℕ) × Contains found i × HasNext conflicting i k) ruled ruled' → RulesOut conflicting implying new ruled' round
  out_more start round old new found ruled ruled' out reach more = record {
    clashing = λ i j vi n. elim (was_or_found_in implied start round old new found reach i vi) [
      | inl oi ↦ more.kept j (out.clashing i j oi n)
      | inr c ↦ more.came j (i, c, n)
    ];
    closed = more.closed;
    latest = more.latest;
  }

  -- a batch that begins
  pub begun : (batch : Batch) → IsBegun (length implied) batch → IsBatch implied conflicting implying batch
  begun batch b = record {
    many = b.many;
    ruled_many = b.ruled_many;
    together = batch-none implied conflicting batch.rounds.items batch.round b.none;
    out = record {
      clashing = λ i j vi n. absurd (unvisited_below batch.rounds.items batch.round b.none i vi);
      closed = λ i j h n. absurd (unvisited_below batch.ruled.items batch.round b.none_ruled i h);
      latest = λ i d lt. (let less = b.none_ruled i d lt in omega arith);
    };
  }

  pub rounds_of : (batch : Batch) → IsBatch implied conflicting implying batch → HasRounds (length implied) batch
  rounds_of batch b = record { many = b.many; ruled_many = b.ruled_many; latest = b.together.latest; ruled_latest = b.out.latest }

-- ---- what is taken back

pub forgotten-none : (rounds : List ℕ) → HasForgotten [] rounds rounds
forgotten-none rounds = record {
  many = refl;
  cases = λ k v at. inr (at, λ c. Contains-none k c);
  kept = λ k v at c. at;
}

pub forgotten-more : (edge n : ℕ) (found old mid new : List ℕ) → take (n + 1) found ≡ take n found ++ edge ∷ [] → HasForgotten (take n found) old mid → new ≡ set mid edge 0 →
    HasForgotten (take (n + 1) found) old new
forgotten-more edge n found old mid new more f e = rw (more, e) (record {
  many = length-set mid edge 0 ∙ f.many;
  cases = λ k v at. elim (slice_get-set_cases mid edge 0 k v at) [
    | inl is ↦ inl is.1
    | inr other ↦ elim (f.cases k v other.1) [
      | inl z ↦ inl z
      | inr o ↦ inr (o.0, λ c. elim (Contains-push_cases (take n found) edge k c) [ inl h ↦ o.1 h | inr same ↦ other.0 (sym same) ])
    ]
  ];
  kept = λ k v at c.
      slice_get-set_other mid edge 0 k (λ same. c (subst (Contains (take n found ++ edge ∷ [])) (sym same) (Contains-push (take n found) edge)))
      ∙ f.kept k v at (λ h. c (Contains-append_left (take n found) (edge ∷ []) k h));
})

module _ (implied conflicting : List (List ℕ)) (start round : ℕ) (old mid new found : List ℕ) (some : 1 ≤ round) (reach : HasSearchedFrom implied start round old mid found)
    (forgot : HasForgotten found mid new) where
  was_before : (k : ℕ) → RoundCameTo new round k → RoundCameTo old round k
  was_before k h = elim (forgot.cases k round h) [
    | inl z ↦ absurd (omega (arith, z, some))
    | inr o ↦ elim (was_or_found_in implied start round old mid found reach k o.0) [ inl was ↦ was | inr c ↦ absurd (o.1 c) ]
  ]

  is_still : (k : ℕ) → RoundCameTo old round k → RoundCameTo new round k
  is_still k h = forgot.kept k round ((reach.exact k).1 (inl h)) (λ c. ((reach.noted k).0 c).1 h)

  -- where what was found is taken back, the batch is as it was
  pub taken_back : CanFlipTogether implied conflicting old round → CanFlipTogether implied conflicting new round
  taken_back batch = record {
    closed = λ i j h n. is_still j (batch.closed i j (was_before i h) n);
    agreeing = λ i j vi vj n. batch.agreeing i j (was_before i vi) (was_before j vj) n;
    latest = λ i d lt. elim (forgot.cases i (get_or new i d) (slice_get-get_or new i d lt)) [
      | inl z ↦ omega (arith, z)
      | inr o ↦ All-get (λ m. m ≤ round) mid i (get_or new i d) (latest-reach implied start round old mid found batch.latest reach) o.0
    ];
  }
