-- What is excluded along steps, and along all kept paths.
use Rattle.std.proofs.Common.{◌≡◌, ◌↔◌, ◌⊎◌, ℕ, ◌+◌, ◌-◌, ◌<◌, ◌≤◌, inl, inr, Bool, false, List, [], ◌∷◌, ◌++◌, length, get_or, take, sym, ap, ◌∙◌, subst, arith, All, Contains, IsTrue, slice_get}
use Rattle.std.proofs.Common.{Some}
use Rattle.std.proofs.lemmas.Bool.{cases_lt}
use Rattle.std.proofs.lemmas.Option.{slice_get_within, same_Some}
use Rattle.std.proofs.lemmas.List.{take_more}
use Rattle.std.proofs.lemmas.List.Elements.{Contains-get_or, Contains-push_cases}
use Rattle.relationships.specs.declared.label.End.{End}
use Rattle.relationships.specs.Graph.{edges}
use Rattle.as_graph.specs.declared.step.Step.{Step}
use Rattle.as_graph.specs.Paths.{path_at}
use Rattle.as_graph.specs.Steps.{AreSteps}
use Rattle.peering.specs.Exclusions.{goes_up, IsOneExcluded, ExcludedBy, ExcludedOn, IsExcluded, AllExcluded}

-- two of the steps before a place exclude an edge
abbrev pub ExcludedTo : List End → List Step → ℕ → ℕ → Type 0
ExcludedTo ends steps at edge =
    (i : ℕ) × (s t : Step) × (i + 1 < at) × (slice_get steps i ≡ Some s) × (slice_get steps (i + 1) ≡ Some t) × ExcludedBy ends s t edge

-- these are marked, beside those of before
pub record IsExcludedTo (ends : List End) (steps : List Step) (first now : List Bool) (at : ℕ) (up : Bool) : Type 0 where
  pub long : length now ≡ length ends
  pub begun : 1 ≤ at
  pub each : (k : ℕ) → IsTrue (get_or now k false) ↔ (IsTrue (get_or first k false) ⊎ ExcludedTo ends steps at k)
  pub last : (s : Step) → slice_get steps (at - 1) ≡ Some s → up ≡ goes_up ends s

pub excluded_first : (ends : List End) (steps : List Step) (first : List Bool) (up : Bool) → length first ≡ length ends →
    ((s : Step) → slice_get steps 0 ≡ Some s → up ≡ goes_up ends s) → IsExcludedTo ends steps first first 1 up
excluded_first ends steps first up long last = record {
  long = long;
  begun = omega arith;
  each = λ k. (λ t. inl t, λ h. elim h [ inl t ↦ t | inr (i, s, t, lt, s_at, t_at, x) ↦ absurd (omega (arith, lt)) ]);
  last = last;
}

pub excluded_next : (ends : List End) (steps : List Step) (first now new : List Bool) (at : ℕ) (s t : Step) (up next_up : Bool) →
    slice_get steps (at - 1) ≡ Some s → slice_get steps at ≡ Some t → next_up ≡ goes_up ends t → length new ≡ length now →
    ((k : ℕ) → IsTrue (get_or new k false) ↔ (IsTrue (get_or now k false) ⊎ IsOneExcluded up next_up s.edge t.edge k)) →
    IsExcludedTo ends steps first now at up → IsExcludedTo ends steps first new (at + 1) next_up
excluded_next ends steps first now new at s t up next_up s_at t_at next long pair h = record {
  long = long ∙ h.long;
  begun = omega arith;
  each = λ k. (λ m. on k ((pair k).0 m), λ m. (pair k).1 (back k m));
  last = λ u u_at. next ∙ ap (goes_up ends) (same_Some _ _ (sym t_at ∙ subst (λ n. slice_get steps n ≡ Some u) here u_at));
}
  where
    here : at + 1 - 1 ≡ at
    here = omega arith

    begun : 1 ≤ at
    begun = h.begun

    both : (k : ℕ) → IsOneExcluded up next_up s.edge t.edge k → ExcludedBy ends s t k
    both k x = subst (λ b. IsOneExcluded b (goes_up ends t) s.edge t.edge k) (h.last s s_at) (subst (λ b. IsOneExcluded up b s.edge t.edge k) next x)

    both_back : (k : ℕ) → ExcludedBy ends s t k → IsOneExcluded up next_up s.edge t.edge k
    both_back k x = subst (λ b. IsOneExcluded up b s.edge t.edge k) (sym next) (subst (λ b. IsOneExcluded b (goes_up ends t) s.edge t.edge k) (sym (h.last s s_at)) x)

    on : (k : ℕ) → IsTrue (get_or now k false) ⊎ IsOneExcluded up next_up s.edge t.edge k → IsTrue (get_or first k false) ⊎ ExcludedTo ends steps (at + 1) k
    on k (inl m) = elim ((h.each k).0 m) [ inl old ↦ inl old | inr (i, u, v, lt, u_at, v_at, x) ↦ inr (i, u, v, omega (arith, lt), u_at, v_at, x) ]
    on k (inr x) =
        inr (at - 1, s, t, omega (arith, begun), s_at, subst (λ n. slice_get steps n ≡ Some t) (let e : at ≡ at - 1 + 1 = omega (arith, begun) in e) t_at, both k x)

    back : (k : ℕ) → IsTrue (get_or first k false) ⊎ ExcludedTo ends steps (at + 1) k → IsTrue (get_or now k false) ⊎ IsOneExcluded up next_up s.edge t.edge k
    back k (inl old) = inl ((h.each k).1 (inl old))
    back k (inr (i, u, v, lt, u_at, v_at, x)) =
        elim (cases_lt (i + 1) at) [
          | inl less ↦ inl ((h.each k).1 (inr (i, u, v, less, u_at, v_at, x)))
          | inr ge ↦
              let i_at : i ≡ at - 1 = omega (arith, lt, ge) in
              let next_at : i + 1 ≡ at = omega (arith, lt, ge) in
              let is_s : u ≡ s = same_Some _ _ (sym u_at ∙ ap (slice_get steps) i_at ∙ s_at) in
              let is_t : v ≡ t = same_Some _ _ (sym v_at ∙ ap (slice_get steps) next_at ∙ t_at) in
              inr (both_back k (subst (λ (w : Step). ExcludedBy ends w t k) is_s (subst (λ (w : Step). ExcludedBy ends u w k) is_t x)))
        ]

-- once all steps were looked at
pub excluded_all : (ends : List End) (steps : List Step) (first now : List Bool) (at : ℕ) (up : Bool) → length steps ≤ at → IsExcludedTo ends steps first now at up →
    (k : ℕ) → IsTrue (get_or now k false) ↔ (IsTrue (get_or first k false) ⊎ ExcludedOn ends steps k)
excluded_all ends steps first now at up le h k = (
  λ m. elim ((h.each k).0 m) [ inl old ↦ inl old | inr (i, s, t, lt, s_at, t_at, x) ↦ inr (i, s, t, s_at, t_at, x) ],
  λ m. (h.each k).1 (elim m [ inl old ↦ inl old | inr (i, s, t, s_at, t_at, x) ↦ inr (i, s, t, (let lt = slice_get_within steps (i + 1) t t_at in omega (arith, lt, le)), s_at, t_at, x) ]),
)

-- ---- all kept paths

-- what the first n kept paths exclude is marked, and nothing else
pub record AreExcludedTo (paths : List (List ℕ)) (kept : List ℕ) (ends : List End) (n : ℕ) (excluded : List Bool) : Type 0 where
  pub long : length excluded ≡ length ends
  pub sound : (k : ℕ) → IsTrue (get_or excluded k false) → IsExcluded paths kept ends k
  pub all : AllExcluded paths (take n kept) ends excluded

pub excluded_more : (paths : List (List ℕ)) (kept : List ℕ) (ends : List End) (n id : ℕ) (steps : List Step) (now new : List Bool) → n < length kept → get_or kept n id ≡ id →
    AreSteps (edges paths) (path_at paths id) steps → All (λ (s : Step). s.edge < length (edges paths)) steps → length new ≡ length ends →
    ((k : ℕ) → IsTrue (get_or new k false) ↔ (IsTrue (get_or now k false) ⊎ ExcludedOn ends steps k)) → AreExcludedTo paths kept ends n now → AreExcludedTo paths kept ends (n + 1) new
excluded_more paths kept ends n id steps now new lt at are inside long each h = record {
  long = long;
  sound = λ k t. elim ((each k).0 t) [
    | inl old ↦ h.sound k old
    | inr on ↦ (id, steps, subst (Contains kept) at (Contains-get_or kept n id lt), are, inside, on)
  ];
  all = λ place c. elim (Contains-push_cases (take n kept) id place (subst (λ l. Contains l place) next c)) [
    | inl old ↦ let r = h.all place old in (r.0, r.1, r.2, λ k on. (each k).1 (inl (r.3 k on)))
    | inr e ↦ (steps, subst (λ q. AreSteps (edges paths) (path_at paths q) steps) e are, inside, λ k on. (each k).1 (inr on))
  ];
}
  where
    next : take (n + 1) kept ≡ take n kept ++ id ∷ []
    next = take_more kept n id lt ∙ ap (λ q. take n kept ++ q ∷ []) at
