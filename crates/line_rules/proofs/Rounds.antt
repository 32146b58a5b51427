-- A search along rows, in rounds: what one step adds, and what a whole search comes to.
use Rattle.std.proofs.Common.{false, ◌≡◌, ◌≢◌, ◌⊎◌, inl, inr, ℕ, ◌+◌, ◌<◌, ◌≤◌, List, [], ◌∷◌, ◌++◌, Some, length, set, get_or, slice_get, refl, sym, ap, ◌∙◌, subst, arith, Contains, append_assoc}
use Rattle.std.proofs.Common.{append-nil, length-append, length-set, eq-eqb, if◌then◌else◌, nat_eq}
use Rattle.std.proofs.lemmas.Bool.{cases_lt, cases_Bool, eqb-true}
use Rattle.std.proofs.lemmas.Option.{get_or_from_slice_get, same_Some, slice_get_within}
use Rattle.std.proofs.lemmas.List.Elements.{Contains-push, Contains-append_left, Contains-append_right, Contains-append_cases}
use Rattle.std.proofs.lemmas.List.Sums.{sum_by-set}
use Rattle.line_rules.specs.Neighbours.{HasNext, ReachesRow, here, onward}
use Rattle.line_rules.specs.Searching.{RoundCameTo, unvisited, RoundComesTo, Search, IsRoundClosed, HasSearchedFrom}
use Rattle.tor_arena.proofs.Gets.{has-from_Contains, Contains-from_has, Contains-none, Contains-one, slice_get-some, slice_get-push_old, slice_get-set_cases, slice_get-set_other, slice_get-set_same}

-- ---- marks

pub rounds-none : (round : ℕ) (rounds found : List ℕ) → RoundComesTo round [] rounds rounds found found
rounds-none round rounds found = record {
  added = [];
  more = sym (append-nil found);
  visited = λ k c. absurd (Contains-none k c);
  from = λ k c. absurd (Contains-none k c);
  others = λ k v at. inl at;
  kept = λ k h. h;
  many = refl;
  fewer = omega arith;
}

pub rounds-old : (round k : ℕ) (rounds found : List ℕ) → RoundCameTo rounds round k → RoundComesTo round (k ∷ []) rounds rounds found found
rounds-old round k rounds found h = record {
  added = [];
  more = sym (append-nil found);
  visited = λ j c. subst (RoundCameTo rounds round) (Contains-one k j c) h;
  from = λ j c. absurd (Contains-none j c);
  others = λ j v at. inl at;
  kept = λ j m. m;
  many = refl;
  fewer = omega arith;
}

unvisited_less : (round k m : ℕ) (rounds : List ℕ) → slice_get rounds k ≡ Some m → m ≢ round → unvisited round (set rounds k round) + 1 ≡ unvisited round rounds
unvisited_less round k m rounds at ne =
    let f : ℕ → ℕ = λ n. if nat_eq n round then 0 else 1 in
    let lt = slice_get_within rounds k m at in
    let s = sum_by-set f rounds k round 0 lt in
    let differs : nat_eq m round ≡ false = elim (cases_Bool (nat_eq m round)) [ inl t ↦ absurd (ne (eqb-true m round t)) | inr n ↦ n ] in
    let one : f (get_or rounds k 0) ≡ 1 = ap f (get_or_from_slice_get rounds k m 0 at) ∙ ap (λ b. if b then 0 else 1) differs in
    let none : f round ≡ 0 = ap (λ b. if b then 0 else 1) (eq-eqb round round refl) in
    omega (arith, s, one, none)

pub rounds-new : (round k m : ℕ) (rounds new found found' : List ℕ) → slice_get rounds k ≡ Some m → m ≢ round → new ≡ set rounds k round → found' ≡ found ++ k ∷ [] →
    RoundComesTo round (k ∷ []) rounds new found found'
rounds-new round k m rounds new found found' at ne e e' = rw (e, e') (record {
  added = k ∷ [];
  more = refl;
  visited = λ j c. subst (RoundCameTo (set rounds k round) round) (Contains-one k j c) here_now;
  from = λ j c. let same = Contains-one k j c in (
    c,
    λ h. ne (same_Some m round (sym at ∙ subst (RoundCameTo rounds round) (sym same) h)),
    subst (RoundCameTo (set rounds k round) round) same here_now,
  );
  others = λ j v h. elim (slice_get-set_cases rounds k round j v h) [
    | inl p ↦ inr (p.1, subst (Contains (k ∷ [])) (sym p.0) (Contains-push [] k))
    | inr p ↦ inl p.1
  ];
  kept = λ j h. slice_get-set_other rounds k round j (λ q. ne (same_Some m round (sym at ∙ subst (RoundCameTo rounds round) q h))) ∙ h;
  many = length-set rounds k round;
  fewer = omega (arith, unvisited_less round k m rounds at ne, length-append found (k ∷ []));
})
  where
    here_now : RoundCameTo (set rounds k round) round k
    here_now = slice_get-set_same rounds k round (slice_get_within rounds k m at)

pub rounds-more : (round : ℕ) (seen more old mid new f f' f'' : List ℕ) → RoundComesTo round seen old mid f f' → RoundComesTo round more mid new f' f''
    → RoundComesTo round (seen ++ more) old new f f''
rounds-more round seen more old mid new f f' f'' a b = record {
  added = a.added ++ b.added;
  more = b.more ∙ ap (λ l. l ++ b.added) a.more ∙ append_assoc f a.added b.added;
  visited = λ k c. elim (Contains-append_cases seen more k c) [ inl h ↦ b.kept k (a.visited k h) | inr h ↦ b.visited k h ];
  from = λ k c. elim (Contains-append_cases a.added b.added k c) [
    | inl h ↦ let w = a.from k h in (Contains-append_left seen more k w.0, w.1, b.kept k w.2)
    | inr h ↦ let w = b.from k h in (Contains-append_right seen more k w.0, λ m. w.1 (a.kept k m), w.2)
  ];
  others = λ k v at. elim (b.others k v at) [
    | inl h ↦ elim (a.others k v h) [
      | inl g ↦ inl g
      | inr g ↦ inr (g.0, Contains-append_left a.added b.added k g.1)
    ]
    | inr h ↦ inr (h.0, Contains-append_right a.added b.added k h.1)
  ];
  kept = λ k h. b.kept k (a.kept k h);
  many = b.many ∙ a.many;
  fewer = omega (arith, a.fewer, b.fewer);
}

-- ---- the search

pub search-start : (rows : List (List ℕ)) (start round : ℕ) (old new found found' : List ℕ) → found ≡ [] → RoundComesTo round (start ∷ []) old new found found'
    → Search rows start round old new found' 0
search-start rows start round old new found found' e m =
    let is : found' ≡ m.added = m.more ∙ ap (λ l. l ++ m.added) e in record {
      begun = m.visited start (Contains-push [] start);
      reached = λ k c.
          let w = m.from k (subst (λ l. Contains l k) is c) in
          (subst (ReachesRow rows start) (Contains-one start k w.0) here, w.1, w.2);
      followed = λ i k lt. absurd (omega arith);
      others = λ k v at. elim (m.others k v at) [ inl h ↦ inl h | inr h ↦ inr (h.0, subst (λ l. Contains l k) (sym is) h.1) ];
      kept = m.kept;
      many = m.many;
      within = omega arith;
    }

pub search-more : (rows : List (List ℕ)) (start round next k : ℕ) (old mid new found found' row : List ℕ) → Search rows start round old mid found next →
    slice_get found next ≡ Some k → slice_get rows k ≡ Some row → RoundComesTo round row mid new found found' → Search rows start round old new found' (next + 1)
search-more rows start round next k old mid new found found' row s at its_row m = record {
  begun = m.kept start s.begun;
  reached = λ j c. elim (Contains-append_cases found m.added j (subst (λ l. Contains l j) m.more c)) [
    | inl h ↦ let w = s.reached j h in (w.0, w.1, m.kept j w.2)
    | inr h ↦
        let w = m.from j h in
        let from = s.reached k (Contains-from_has found k (next, at)) in
        (onward from.0 (row, its_row, w.0), λ o. w.1 (s.kept j o), w.2)
  ];
  followed = λ i j lt at_i l h. elim (cases_lt i next) [
    | inl lt' ↦ m.kept l (s.followed i j lt' (old_get i j lt' at_i) l h)
    | inr ge ↦
        let e : i ≡ next = omega arith in
        let same : k ≡ j = same_Some k j (sym (old_at next k at) ∙ subst (λ n. slice_get found' n ≡ Some j) e at_i) in
        let row_same : row ≡ h.0 = same_Some row h.0 (sym its_row ∙ ap (slice_get rows) same ∙ h.1) in
        m.visited l (subst (λ r. Contains r l) (sym row_same) h.2)
  ];
  others = λ j v h. elim (m.others j v h) [
    | inl g ↦ elim (s.others j v g) [
      | inl o ↦ inl o
      | inr o ↦ inr (o.0, subst (λ l. Contains l j) (sym m.more) (Contains-append_left found m.added j o.1))
    ]
    | inr g ↦ inr (g.0, subst (λ l. Contains l j) (sym m.more) (Contains-append_right found m.added j g.1))
  ];
  kept = λ j h. m.kept j (s.kept j h);
  many = m.many ∙ s.many;
  within = omega (arith, slice_get_within found next k at, ap length m.more, length-append found m.added);
}
  where
    old_at : (n j : ℕ) → slice_get found n ≡ Some j → slice_get found' n ≡ Some j
    old_at n j e = ap (λ l. slice_get l n) m.more ∙ slice_get-push_old found m.added n j e

    old_get : (n j : ℕ) → n < next → slice_get found' n ≡ Some j → slice_get found n ≡ Some j
    old_get n j lt e =
        let w = slice_get-some found n (omega (arith, slice_get_within found next k at)) in
        w.1 ∙ sym (old_at n w.0 w.1) ∙ e

pub search-end : (rows : List (List ℕ)) (start round next : ℕ) (old new found : List ℕ) → IsRoundClosed rows old round → Search rows start round old new found next → length found ≤ next →
    HasSearchedFrom rows start round old new found
search-end rows start round next old new found closed s done = record {
  exact = λ k. (λ h. came k h, λ h. elim h [ inl o ↦ s.kept k o | inr l ↦ comes l ]);
  noted = λ k. (λ c. let w = s.reached k c in (w.2, w.1), λ h. elim (s.others k round h.0) [ inl o ↦ absurd (h.1 o) | inr o ↦ o.1 ]);
  others = λ k v h. elim (s.others k v h) [ inl o ↦ inl o | inr o ↦ inr o.0 ];
  many = s.many;
}
  where
    came : (k : ℕ) → RoundCameTo new round k → RoundCameTo old round k ⊎ ReachesRow rows start k
    came k h = elim (s.others k round h) [ inl o ↦ inl o | inr o ↦ inr (s.reached k o.1).0 ]

    new_closed : (i j : ℕ) → RoundCameTo new round i → HasNext rows i j → RoundCameTo new round j
    new_closed i j h n = elim (s.others i round h) [
      | inl o ↦ s.kept j (closed i j o n)
      | inr o ↦ let w = has-from_Contains found i o.1 in s.followed w.0 i (omega (arith, slice_get_within found w.0 i w.1)) w.1 j n
    ]

    comes : {k : ℕ} → ReachesRow rows start k → RoundCameTo new round k
    comes here = s.begun
    comes (onward {i = i} {j = j} l n) = new_closed i j (comes l) n

-- what a search leaves is closed again
pub closed-reach : (rows : List (List ℕ)) (start round : ℕ) (old new found : List ℕ) → IsRoundClosed rows old round → HasSearchedFrom rows start round old new found → IsRoundClosed rows new round
closed-reach rows start round old new found closed s i j h n =
    elim ((s.exact i).0 h) [
      | inl o ↦ (s.exact j).1 (inl (closed i j o n))
      | inr l ↦ (s.exact j).1 (inr (onward l n))
    ]
