-- Which edges are opened, and which are partners.
use Rattle.std.proofs.Common.{◌≡◌, ◌≢◌, ◌↔◌, ◌⊎◌, ℕ, zero, suc, ◌+◌, ◌-◌, ◌<◌, ◌≤◌, inl, inr, Bool, true, false, List, [], ◌∷◌, ◌++◌, length, get_or, set, take, replicate, min, max, refl, sym, ap}
use Rattle.std.proofs.Common.{◌∙◌, subst, arith, All, Contains, IsTrue, IsFalse, nat_eq, slice_get, Some, eqb-true, eq-eqb}
use Rattle.std.specs.List.{list_any, count_by, flat_map}
use Rattle.std.proofs.lemmas.Bool.{cases_Bool, cases_eq, cases_lt, false≢true}
use Rattle.std.proofs.lemmas.Option.{slice_get-get_or, slice_get_within, same_Some}
use Rattle.std.proofs.lemmas.List.{length-set, length-replicate, get_or-set_same, get_or-set_other, take_more}
use Rattle.std.proofs.lemmas.List.Elements.{All-contains, Contains-get_or, Contains-append_left, Contains-append_right, Contains-push, Contains-push_cases}
use Rattle.tor_arena.proofs.Counting.{one, count-cons}
use Rattle.relationships.specs.Graph.{Edge, is_same, edges_on, edges}
use Rattle.as_graph.specs.declared.step.Step.{Step}
use Rattle.as_graph.specs.Paths.{path_at}
use Rattle.as_graph.specs.Steps.{AreSteps}
use Rattle.as_graph.proofs.Labelled.{NoneTwice, NoneTwice-distinct}
use Rattle.as_graph.proofs.CountLemmas.{counts_same}
use Rattle.peering.specs.Peerings.{edge_in, holds, HasStep, AreBeside, AreBesideOn, with_partner, IsPairAdded, AllHeldOpen, AllBesideListed}
use Rattle.peering.proofs.OneRow.{one_row}

any_counted : {X : Type 0} (p : X → Bool) (xs : List X) → list_any p xs ≡ true → 0 < count_by p xs
any_counted p [] h = absurd (false≢true h)
any_counted p (x ∷ xs) h =
    elim (cases_Bool (p x)) [
      | inl t ↦ let c : count_by p (x ∷ xs) ≡ 1 + count_by p xs = count-cons p x xs ∙ ap (λ b. one b + count_by p xs) t in omega (arith, c)
      | inr n ↦ let r = any_counted p xs (rw n at h) in let c = count-cons p x xs in omega (arith, r, c)
    ]

counted_any : {X : Type 0} (p : X → Bool) (xs : List X) → 0 < count_by p xs → list_any p xs ≡ true
counted_any p [] h = absurd (omega (arith, h))
counted_any p (x ∷ xs) h =
    elim (cases_Bool (p x)) [
      | inl t ↦ rw t refl
      | inr n ↦
          let c : count_by p (x ∷ xs) ≡ 0 + count_by p xs = count-cons p x xs ∙ ap (λ b. one b + count_by p xs) n in
          rw n (counted_any p xs (omega (arith, c, h)))
    ]

-- what is counted is there
pub some_counted : {X : Type 0} (p : X → Bool) (xs : List X) → 0 < count_by p xs → (x : X) × Contains xs x × (p x ≡ true)
some_counted p [] h = absurd (omega (arith, h))
some_counted p (x ∷ xs) h =
    elim (cases_Bool (p x)) [
      | inl t ↦ (x, (0, omega arith, refl), t)
      | inr n ↦
          let c : count_by p (x ∷ xs) ≡ 0 + count_by p xs = count-cons p x xs ∙ ap (λ b. one b + count_by p xs) n in
          let r = some_counted p xs (omega (arith, c, h)) in (r.0, Contains-append_right (x ∷ []) xs r.0 r.1, r.2)
    ]

pub counted_some : {X : Type 0} (p : X → Bool) (xs : List X) (x : X) → Contains xs x → p x ≡ true → 0 < count_by p xs
counted_some p [] x (k, lt, e) t = absurd (omega (arith, lt))
counted_some p (y ∷ xs) x (zero, lt, e) t =
    let c : count_by p (y ∷ xs) ≡ 1 + count_by p xs = count-cons p y xs ∙ ap (λ b. one b + count_by p xs) (ap p e ∙ t) in omega (arith, c)
counted_some p (y ∷ xs) x (suc k, lt, e) t =
    let r = counted_some p xs x (k, omega (arith, lt), e) t in let c = count-cons p y xs in omega (arith, r, c)

-- a path that holds an edge has a step with it, and a path that has one holds it
pub step_with : (es : List Edge) (k : ℕ) (e : Edge) (path : List ℕ) (steps : List Step) → NoneTwice es → slice_get es k ≡ Some e → AreSteps es path steps →
    list_any (is_same e) (edges_on path) ≡ true → (s : Step) × Contains steps s × (s.edge ≡ k)
step_with es k e path steps once is are t =
    let many = any_counted (is_same e) (edges_on path) t in
    let same = counts_same es k e path steps once is are in
    let r = some_counted (λ (s : Step). nat_eq s.edge k) steps (omega (arith, many, same)) in
    (r.0, r.1, eqb-true r.0.edge k r.2)

pub with_step : (es : List Edge) (k : ℕ) (e : Edge) (path : List ℕ) (steps : List Step) → NoneTwice es → slice_get es k ≡ Some e → AreSteps es path steps →
    (s : Step) → Contains steps s → s.edge ≡ k → list_any (is_same e) (edges_on path) ≡ true
with_step es k e path steps once is are s c at =
    let many = counted_some (λ (t : Step). nat_eq t.edge k) steps s c (eq-eqb s.edge k at) in
    let same = counts_same es k e path steps once is are in
    counted_any (is_same e) (edges_on path) (omega (arith, many, same))

-- ---- edges are opened along steps

-- the edges of the first n steps that are not excluded were opened, beside those of before
pub record IsOpenedTo (excluded : List Bool) (steps : List Step) (first now : List Bool) (n : ℕ) (is_some : Bool) : Type 0 where
  pub long : length now ≡ length excluded
  pub each : (k : ℕ) → IsTrue (get_or now k false) ↔ (IsTrue (get_or first k false) ⊎ (IsFalse (get_or excluded k false) × HasStep (take n steps) k))
  pub none : IsFalse is_some → (k : ℕ) → HasStep (take n steps) k → IsTrue (get_or excluded k false)

pub opened_none : (excluded : List Bool) (steps : List Step) (first : List Bool) → length first ≡ length excluded → IsOpenedTo excluded steps first first 0 false
opened_none excluded steps first long = record {
  long = long;
  each = λ k. (λ t. inl t, λ h. elim h [ inl t ↦ t | inr e ↦ absurd (nothing e.1.0 e.1.1) ]);
  none = λ f k e. absurd (nothing e.0 e.1);
}
  where
    nothing : (s : Step) → Contains [] s → ⊥
    nothing s c = let lt = c.1 in absurd (omega (arith, lt))

-- the edge of one step more is opened unless it is excluded
pub opened_next : (excluded : List Bool) (steps : List Step) (first now new : List Bool) (n : ℕ) (step : Step) (was is_some : Bool) → n < length steps → get_or steps n step ≡ step →
    length new ≡ length now → ((k : ℕ) → IsTrue (get_or new k false) ↔ (IsTrue (get_or now k false) ⊎ (IsFalse (get_or excluded k false) × (step.edge ≡ k)))) →
    (IsFalse is_some → IsFalse was × IsTrue (get_or excluded step.edge false)) →
    IsOpenedTo excluded steps first now n was → IsOpenedTo excluded steps first new (n + 1) is_some
opened_next excluded steps first now new n step was is_some lt at long single still h = record {
  long = long ∙ h.long;
  each = λ k. (λ t. on k ((single k).0 t), λ t. (single k).1 (back k t));
  none = λ f k e. elim (Contains-push_cases (take n steps) step e.0 (subst (λ l. Contains l e.0) next e.1)) [
    | inl old ↦ h.none (still f).0 k (e.0, old, e.2)
    | inr is ↦ subst (λ m. IsTrue (get_or excluded m false)) (ap (λ (s : Step). s.edge) is ∙ e.2) (still f).1
  ];
}
  where
    next : take (n + 1) steps ≡ take n steps ++ step ∷ []
    next = take_more steps n step lt ∙ ap (λ (s : Step). take n steps ++ s ∷ []) at

    on : (k : ℕ) → IsTrue (get_or now k false) ⊎ (IsFalse (get_or excluded k false) × (step.edge ≡ k)) →
        IsTrue (get_or first k false) ⊎ (IsFalse (get_or excluded k false) × HasStep (take (n + 1) steps) k)
    on k (inl t) = elim ((h.each k).0 t) [
      | inl old ↦ inl old
      | inr e ↦ inr (e.0, (e.1.0, subst (λ l. Contains l e.1.0) (sym next) (Contains-append_left (take n steps) (step ∷ []) e.1.0 e.1.1), e.1.2))
    ]
    on k (inr e) = inr (e.0, (step, subst (λ l. Contains l step) (sym next) (Contains-push (take n steps) step), e.1))

    back : (k : ℕ) → IsTrue (get_or first k false) ⊎ (IsFalse (get_or excluded k false) × HasStep (take (n + 1) steps) k) →
        IsTrue (get_or now k false) ⊎ (IsFalse (get_or excluded k false) × (step.edge ≡ k))
    back k (inl old) = inl ((h.each k).1 (inl old))
    back k (inr e) =
        elim (Contains-push_cases (take n steps) step e.1.0 (subst (λ l. Contains l e.1.0) next e.1.1)) [
          | inl old ↦ inl ((h.each k).1 (inr (e.0, (e.1.0, old, e.1.2))))
          | inr is ↦ inr (e.0, ap (λ (s : Step). s.edge) is ∙ e.1.2)
        ]

pub not_opened : (excluded now : List Bool) (edge k : ℕ) → IsTrue (get_or excluded edge false) →
    IsTrue (get_or now k false) ↔ (IsTrue (get_or now k false) ⊎ (IsFalse (get_or excluded k false) × (edge ≡ k)))
not_opened excluded now edge k t = (
  λ m. inl m,
  λ m. elim m [ inl old ↦ old | inr e ↦ absurd (false≢true (sym e.0 ∙ ap (λ n. get_or excluded n false) (sym e.1) ∙ t)) ],
)

pub is_opened : (excluded now : List Bool) (edge k : ℕ) → edge < length now → IsFalse (get_or excluded edge false) →
    IsTrue (get_or (set now edge true) k false) ↔ (IsTrue (get_or now k false) ⊎ (IsFalse (get_or excluded k false) × (edge ≡ k)))
is_opened excluded now edge k lt f =
    elim (cases_eq k edge) [
      | inl e ↦ (
        λ m. inr (ap (λ n. get_or excluded n false) e ∙ f, sym e),
        λ m. ap (λ n. get_or (set now edge true) n false) e ∙ get_or-set_same now edge true false lt,
      )
      | inr ne ↦
          let same = get_or-set_other now edge k true false ne in (
            λ m. inl (sym same ∙ m),
            λ m. elim m [ inl old ↦ same ∙ old | inr h ↦ absurd (ne (sym h.1)) ],
          )
    ]

-- ---- pairs are added along steps

-- two of the steps before a place have these edges
abbrev pub BesideTo : List Step → ℕ → ℕ → ℕ → Type 0
BesideTo steps at a b =
    (i : ℕ) × (s t : Step) × (i + 1 < at) × (slice_get steps i ≡ Some s) × (slice_get steps (i + 1) ≡ Some t) × (s.edge ≡ a) × (t.edge ≡ b)

-- each two of these edges are on the lists of before, unless one is excluded, and only such were added
pub record IsPairedTo (excluded : List Bool) (steps : List Step) (first now : List (List ℕ)) (at : ℕ) : Type 0 where
  pub long : length now ≡ length first
  pub begun : 1 ≤ at
  pub stay : (k p : ℕ) → Contains (get_or first k []) p → Contains (get_or now k []) p
  pub inside : (k p : ℕ) → Contains (get_or now k []) p → Contains (get_or first k []) p ⊎ (AreBeside steps k p ⊎ AreBeside steps p k)
  pub all : (a b : ℕ) → BesideTo steps at a b → IsFalse (get_or excluded a false) → IsFalse (get_or excluded b false) → Contains (get_or now (max a b) []) (min a b)

pub paired_none : (excluded : List Bool) (steps : List Step) (first : List (List ℕ)) → IsPairedTo excluded steps first first 1
paired_none excluded steps first = record {
  long = refl;
  begun = omega arith;
  stay = λ k p c. c;
  inside = λ k p c. inl c;
  all = λ a b (i, s, t, lt, s_at, t_at, is_a, is_b) f g. absurd (omega (arith, lt));
}

-- what an added pair does to the lists
record IsGrown (excluded : List Bool) (a b : ℕ) (now new : List (List ℕ)) : Type 0 where
  pub long : length new ≡ length now
  pub grow : (k p : ℕ) → Contains (get_or now k []) p → Contains (get_or new k []) p
  pub back : (k p : ℕ) → Contains (get_or new k []) p → Contains (get_or now k []) p ⊎ (((k ≡ a) × (p ≡ b)) ⊎ ((p ≡ a) × (k ≡ b)))
  pub added : IsFalse (get_or excluded a false) → IsFalse (get_or excluded b false) → Contains (get_or new (max a b) []) (min a b)

grown_none : (excluded : List Bool) (a b : ℕ) (now new : List (List ℕ)) → new ≡ now → (IsFalse (get_or excluded a false) → IsFalse (get_or excluded b false) → ⊥) → IsGrown excluded a b now new
grown_none excluded a b now new is never =
    subst (IsGrown excluded a b now) (sym is) (record {
      long = refl;
      grow = λ k p c. c;
      back = λ k p c. inl c;
      added = λ f g. absurd (never f g);
    })

grown_by : (excluded : List Bool) (a b : ℕ) (now new : List (List ℕ)) → a < length now → b < length now → new ≡ with_partner now (max a b) (min a b) → IsGrown excluded a b now new
grown_by excluded a b now new a_lt b_lt is = record {
  long = ap length is ∙ length-set now high (low ∷ get_or now high []);
  grow = λ k p c. elim (cases_eq k high) [
    | inl e ↦ subst (λ n. Contains (get_or new n []) p) (sym e) (subst (λ l. Contains l p) (sym here)
        (Contains-append_right (low ∷ []) (get_or now high []) p (subst (λ n. Contains (get_or now n []) p) e c)))
    | inr ne ↦ subst (λ l. Contains l p) (sym (there k ne)) c
  ];
  back = λ k p c. elim (cases_eq k high) [
    | inl e ↦ elim (first_or_rest (get_or now high []) p (subst (λ l. Contains l p) here (subst (λ n. Contains (get_or new n []) p) e c))) [
      | inl is_low ↦ inr (which k p e is_low)
      | inr old ↦ inl (subst (λ n. Contains (get_or now n []) p) (sym e) old)
    ]
    | inr ne ↦ inl (subst (λ l. Contains l p) (there k ne) c)
  ];
  added = λ f g. subst (λ l. Contains l low) (sym here) (0, omega arith, refl);
}
  where
    high : ℕ
    high = max a b

    low : ℕ
    low = min a b

    here : get_or new (max a b) [] ≡ min a b ∷ get_or now (max a b) []
    here = ap (λ l. get_or l (max a b) []) is ∙ get_or-set_same now (max a b) (min a b ∷ get_or now (max a b) []) [] (omega (arith, a_lt, b_lt))

    there : (k : ℕ) → k ≢ max a b → get_or new k [] ≡ get_or now k []
    there k ne = ap (λ l. get_or l k []) is ∙ get_or-set_other now (max a b) k (min a b ∷ get_or now (max a b) []) [] ne

    first_or_rest : (l : List ℕ) (p : ℕ) → Contains (min a b ∷ l) p → (p ≡ min a b) ⊎ Contains l p
    first_or_rest l p (zero, lt, e) = inl (sym e)
    first_or_rest l p (suc k, lt, e) = inr (k, omega (arith, lt), e)

    which : (k p : ℕ) → k ≡ max a b → p ≡ min a b → ((k ≡ a) × (p ≡ b)) ⊎ ((p ≡ a) × (k ≡ b))
    which k p is_high is_low =
        elim (cases_lt a b) [
          | inl less ↦ inr (omega (arith, is_low, less), omega (arith, is_high, less))
          | inr ge ↦ inl (omega (arith, is_high, ge), omega (arith, is_low, ge))
        ]

grown : (excluded : List Bool) (a b : ℕ) (now new : List (List ℕ)) → a < length now → b < length now →
    IsPairAdded (get_or excluded a false) (get_or excluded b false) a b now new → IsGrown excluded a b now new
grown excluded a b now new a_lt b_lt (inl (t, is)) = grown_none excluded a b now new is (λ f g. false≢true (sym f ∙ t))
grown excluded a b now new a_lt b_lt (inr (inl (t, is))) = grown_none excluded a b now new is (λ f g. false≢true (sym g ∙ t))
grown excluded a b now new a_lt b_lt (inr (inr (f, g, is))) = grown_by excluded a b now new a_lt b_lt is

pub paired_next : (excluded : List Bool) (steps : List Step) (first now new : List (List ℕ)) (at : ℕ) (s t : Step) → slice_get steps (at - 1) ≡ Some s → slice_get steps at ≡ Some t →
    s.edge < length now → t.edge < length now → IsPairAdded (get_or excluded s.edge false) (get_or excluded t.edge false) s.edge t.edge now new →
    IsPairedTo excluded steps first now at → IsPairedTo excluded steps first new (at + 1)
paired_next excluded steps first now new at s t s_at t_at s_lt t_lt pair h = record {
  long = added_now.long ∙ h.long;
  begun = omega arith;
  stay = λ k p c. added_now.grow k p (h.stay k p c);
  inside = λ k p c. elim (added_now.back k p c) [
    | inl old ↦ h.inside k p old
    | inr e ↦ inr (elim e [ inl x ↦ inl (found k p (sym x.0) (sym x.1)) | inr x ↦ inr (found p k (sym x.0) (sym x.1)) ])
  ];
  all = all;
}
  where
    added_now : IsGrown excluded s.edge t.edge now new
    added_now = grown excluded s.edge t.edge now new s_lt t_lt pair

    begun : 1 ≤ at
    begun = h.begun

    found : (a b : ℕ) → s.edge ≡ a → t.edge ≡ b → AreBeside steps a b
    found a b is_a is_b = (at - 1, s, t, s_at, subst (λ n. slice_get steps n ≡ Some t) (let e : at ≡ at - 1 + 1 = omega (arith, begun) in e) t_at, is_a, is_b)

    all : (a b : ℕ) → BesideTo steps (at + 1) a b → IsFalse (get_or excluded a false) → IsFalse (get_or excluded b false) → Contains (get_or new (max a b) []) (min a b)
    all a b (i, u, v, lt, u_at, v_at, is_a, is_b) f g =
        elim (cases_lt (i + 1) at) [
          | inl less ↦ added_now.grow (max a b) (min a b) (h.all a b (i, u, v, less, u_at, v_at, is_a, is_b) f g)
          | inr ge ↦
              let i_at : i ≡ at - 1 = omega (arith, lt, ge) in
              let next_at : i + 1 ≡ at = omega (arith, lt, ge) in
              let is_s : s ≡ u = same_Some _ _ (sym s_at ∙ ap (slice_get steps) (sym i_at) ∙ u_at) in
              let is_t : t ≡ v = same_Some _ _ (sym t_at ∙ ap (slice_get steps) (sym next_at) ∙ v_at) in
              let a_is : s.edge ≡ a = ap (λ (w : Step). w.edge) is_s ∙ is_a in
              let b_is : t.edge ≡ b = ap (λ (w : Step). w.edge) is_t ∙ is_b in
              subst (λ m. Contains (get_or new (max a m) []) (min a m)) b_is (subst (λ m. Contains (get_or new (max m t.edge) []) (min m t.edge)) a_is
              (added_now.added (ap (λ m. get_or excluded m false) a_is ∙ f) (ap (λ m. get_or excluded m false) b_is ∙ g)))
        ]

-- once all steps were looked at
pub paired_all : (excluded : List Bool) (steps : List Step) (first now : List (List ℕ)) (at : ℕ) → length steps ≤ at → IsPairedTo excluded steps first now at →
    (a b : ℕ) → AreBeside steps a b → IsFalse (get_or excluded a false) → IsFalse (get_or excluded b false) → Contains (get_or now (max a b) []) (min a b)
paired_all excluded steps first now at le h a b (i, s, t, s_at, t_at, is_a, is_b) =
    h.all a b (i, s, t, (let lt = slice_get_within steps (i + 1) t t_at in omega (arith, lt, le)), s_at, t_at, is_a, is_b)

-- where all edges are excluded there is nothing to add
pub nothing_paired : (excluded : List Bool) (steps : List Step) → ((k : ℕ) → HasStep steps k → IsTrue (get_or excluded k false)) → (a b : ℕ) → AreBeside steps a b →
    IsFalse (get_or excluded a false) → ⊥
nothing_paired excluded steps none a b (i, s, t, s_at, t_at, is_a, is_b) f =
    let lt = slice_get_within steps i s s_at in
    let is : get_or steps i s ≡ s = same_Some _ _ (sym (slice_get-get_or steps i s lt) ∙ s_at) in
    false≢true (sym f ∙ none a (s, (i, lt, is), is_a))

-- ---- all kept paths

-- of the first n kept paths the edges are opened, and the pairs on the lists; and no others
pub record AreOpenedTo (paths : List (List ℕ)) (kept : List ℕ) (excluded : List Bool) (n : ℕ) (opened : List Bool) (lists : List (List ℕ)) : Type 0 where
  pub long : length opened ≡ length excluded
  pub many : length lists ≡ length (edges paths)
  pub sound : (k : ℕ) → IsTrue (get_or opened k false) → IsFalse (get_or excluded k false) × ((q : ℕ) × Contains kept q × IsTrue (holds paths q k))
  pub all : AllHeldOpen paths (take n kept) excluded opened
  pub beside : (k p : ℕ) → Contains (get_or lists k []) p → AreBesideOn paths kept k p
  pub all_beside : AllBesideListed paths (take n kept) excluded lists

none_there : (n k : ℕ) (l : List ℕ) → get_or (replicate n l) k l ≡ l
none_there zero k l = refl
none_there (suc n) zero l = refl
none_there (suc n) (suc k) l = none_there n k l

none_marked : (n k : ℕ) → IsTrue (get_or (replicate n false) k false) → ⊥
none_marked zero k t = false≢true t
none_marked (suc n) zero t = false≢true t
none_marked (suc n) (suc k) t = none_marked n k t

nothing : (q : ℕ) → Contains [] q → ⊥
nothing q c = let lt = c.1 in absurd (omega (arith, lt))

pub opened_at_first : (paths : List (List ℕ)) (kept : List ℕ) (excluded opened : List Bool) (lists : List (List ℕ)) → opened ≡ replicate (length excluded) false →
    lists ≡ replicate (length (edges paths)) [] → AreOpenedTo paths kept excluded 0 opened lists
opened_at_first paths kept excluded opened lists none empty = record {
  long = ap length none ∙ length-replicate (length excluded) false;
  many = ap length empty ∙ length-replicate (length (edges paths)) [];
  sound = λ k t. absurd (none_marked (length excluded) k (subst (λ l. IsTrue (get_or l k false)) none t));
  all = λ k q lt f c t. absurd (nothing q c);
  beside = λ k p c. absurd (nothing p (subst (λ l. Contains l p) (ap (λ l. get_or l k []) empty ∙ none_there (length (edges paths)) k []) c));
  all_beside = λ q a b steps c are on f g. absurd (nothing q c);
}

module _ (paths : List (List ℕ)) (kept : List ℕ) (excluded : List Bool) (n id : ℕ) (steps : List Step) (lt : n < length kept) (at : get_or kept n id ≡ id)
    (are : AreSteps (edges paths) (path_at paths id) steps) (within : All (λ (s : Step). s.edge < length (edges paths)) steps) (each_edge : length excluded ≡ length (edges paths)) where
  once : NoneTwice (edges paths)
  once = NoneTwice-distinct (flat_map edges_on paths)

  among : Contains kept id
  among = subst (Contains kept) at (Contains-get_or kept n id lt)

  next : take (n + 1) kept ≡ take n kept ++ id ∷ []
  next = take_more kept n id lt ∙ ap (λ q. take n kept ++ q ∷ []) at

  -- a step has an edge that is there
  below : (k : ℕ) → HasStep steps k → k < length (edges paths)
  below k (s, c, e) = subst (λ m. m < length (edges paths)) e (All-contains (λ (t : Step). t.edge < length (edges paths)) steps s within c)

  held_here : (k : ℕ) → HasStep steps k → IsTrue (holds paths id k)
  held_here k (s, c, e) =
      with_step (edges paths) k (edge_in paths k) (path_at paths id) steps once (slice_get-get_or (edges paths) k (0, 0) (below k (s, c, e))) are s c e

  pub opened_more : (now new : List Bool) (lists more : List (List ℕ)) → length new ≡ length excluded →
      ((k : ℕ) → IsTrue (get_or new k false) ↔ (IsTrue (get_or now k false) ⊎ (IsFalse (get_or excluded k false) × HasStep steps k))) →
      length more ≡ length lists → ((k p : ℕ) → Contains (get_or lists k []) p → Contains (get_or more k []) p) →
      ((k p : ℕ) → Contains (get_or more k []) p → Contains (get_or lists k []) p ⊎ (AreBeside steps k p ⊎ AreBeside steps p k)) →
      ((a b : ℕ) → AreBeside steps a b → IsFalse (get_or excluded a false) → IsFalse (get_or excluded b false) → Contains (get_or more (max a b) []) (min a b)) →
      AreOpenedTo paths kept excluded n now lists → AreOpenedTo paths kept excluded (n + 1) new more
  opened_more now new lists more long each many stay inside pairs h = record {
    long = long;
    many = many ∙ h.many;
    sound = λ k t. elim ((each k).0 t) [ inl old ↦ h.sound k old | inr e ↦ (e.0, (id, among, held_here k e.1)) ];
    all = λ k q k_lt f c t. (each k).1 (elim (Contains-push_cases (take n kept) id q (subst (λ l. Contains l q) next c)) [
      | inl old ↦ inl (h.all k q k_lt f old t)
      | inr e ↦ inr (
        f,
        step_with (edges paths) k (edge_in paths k) (path_at paths id) steps once (slice_get-get_or (edges paths) k (0, 0) k_lt) are
            (subst (λ p. IsTrue (holds paths p k)) (sym e) t),
      )
    ]);
    beside = λ k p c. elim (inside k p c) [ inl old ↦ h.beside k p old | inr e ↦ (id, steps, among, are, within, e) ];
    all_beside = λ q a b others c others_are on f g.
        elim (Contains-push_cases (take n kept) id q (subst (λ l. Contains l q) next c)) [
          | inl old ↦ stay (max a b) (min a b) (h.all_beside q a b others old others_are on f g)
          | inr e ↦ pairs a b (subst (λ (l : List Step). AreBeside l a b)
              (one_row (edges paths) (path_at paths id) others steps once (subst (λ p. AreSteps (edges paths) (path_at paths p) others) (sym e) others_are) are) on) f g
        ];
  }
