-- The orders against the labels, in the order in which a search leaves them.
use Rattle.std.proofs.Common.{◌≡◌, ℕ, ◌+◌, ◌<◌, ◌≤◌, ◌⊎◌, inl, inr, List, [], ◌∷◌, ◌++◌, Some, None, length, sym, ◌∙◌, ap, subst, arith, All, Contains}
use Rattle.std.specs.Prelude.{slice_get, Result, Ok, Err, OnOk}
use Rattle.std.proofs.lemmas.Bool.{cases_lt}
use Rattle.std.proofs.lemmas.Option.{same_Some, slice_get_within}
use Rattle.std.proofs.lemmas.List.Elements.{All-push, All-nil}
use Rattle.relationships.specs.declared.label.Label.{Label}
use Rattle.tor_arena.proofs.Gets.{slice_get-push_old, slice_get-push_cases, slice_get-push_last, none-in}
use Rattle.order_trials.specs.declared.depth_search.Entered.{Entered}
use Rattle.order_trials.specs.declared.depth_search.DepthSearch.{DepthSearch}
use Rattle.order_trials.specs.Posing.{Posed}
use Rattle.order_trials.specs.Candidates.{against, IsAgainst, IsChoice, OnStack, IsInDepth, AreAgainstSeen, IsChoosing, with_entered, Visits}
use Rattle.tor_digraph.proofs.Members.{Contains-more, Contains-last, Contains-one_more}

-- ---- what is not left yet

stack_more : (stack : List Entered) (o : Entered) (n : ℕ) → OnStack stack n → OnStack (stack ++ o ∷ []) n
stack_more stack o n h = (h.0, h.1, slice_get-push_old stack (o ∷ []) h.0 h.1 h.2, h.3)

stack_last : (stack : List Entered) (o : Entered) (n : ℕ) → o.node ≡ n → OnStack (stack ++ o ∷ []) n
stack_last stack o n e = (length stack, o, slice_get-push_last stack o, e)

stack_cases : (stack : List Entered) (o : Entered) (n : ℕ) → OnStack (stack ++ o ∷ []) n → OnStack stack n ⊎ (o.node ≡ n)
stack_cases stack o n h = elim (slice_get-push_cases stack o h.0 h.1 h.2) [ inl was ↦ inl (h.0, h.1, was, h.3) | inr is ↦ inr (ap (λ (p : Entered). p.node) (sym is.1) ∙ h.3) ]

-- ---- the search

module _ (posed : Posed) where
  pub order_begins : (order : DepthSearch) → order.seen.count ≡ posed.formula.net.nodes → order.seen.items ≡ [] → order.stack ≡ [] → order.chosen ≡ [] → IsInDepth posed order
  order_begins order many seen stack chosen = record {
    many = many;
    inside = subst (All (λ n. n < posed.formula.net.nodes)) (sym chosen) (All-nil (λ n. n < posed.formula.net.nodes));
    only = subst (All (IsAgainst posed.labels)) (sym chosen) (All-nil (IsAgainst posed.labels));
    opens = λ k o at. absurd (let lt = slice_get_within order.stack k o at in let none = ap length stack in omega (arith, lt, none));
    each = λ n a h. absurd (none-in seen h);
  }

  -- the search comes to a node
  pub order_visits : (node : ℕ) (old new : DepthSearch) → IsInDepth posed old → node < posed.formula.net.nodes → Visits node old new → IsInDepth posed new
  order_visits node old new so lt v = record {
    many = v.many ∙ so.many;
    inside = subst (All (λ n. n < posed.formula.net.nodes)) (sym v.chosen) so.inside;
    only = subst (All (IsAgainst posed.labels)) (sym v.chosen) so.only;
    opens = λ k o at. elim (slice_get-push_cases old.stack v.opened.0 k o (subst (λ (l : List Entered). slice_get l k ≡ Some o) v.opened.2 at)) [
      | inl was ↦ so.opens k o was
      | inr is ↦ subst (λ (n : ℕ). n < posed.formula.net.nodes) (sym (ap (λ (p : Entered). p.node) is.1 ∙ v.opened.1)) lt
    ];
    each = λ n a h. elim (Contains-one_more old.seen.items node n (subst (λ (l : List ℕ). Contains l n) v.seen h)) [
      | inl was ↦ elim (so.each n a was) [
        | inl c ↦ inl (subst (λ (l : List ℕ). Contains l n) (sym v.chosen) c)
        | inr on ↦ inr (subst (λ (l : List Entered). OnStack l n) (sym v.opened.2) (stack_more old.stack v.opened.0 n on))
      ]
      | inr is ↦ inr (subst (λ (l : List Entered). OnStack l n) (sym v.opened.2) (stack_last old.stack v.opened.0 n (v.opened.1 ∙ sym is)))
    ];
  }

  -- a node is put back, with fewer arcs left
  pub order_again : (old : DepthSearch) (o p : Entered) → o.node ≡ p.node → IsInDepth posed (with_entered old o) → IsInDepth posed (with_entered old p)
  order_again old o p e so = record {
    many = so.many;
    inside = so.inside;
    only = so.only;
    opens = λ k q at. elim (slice_get-push_cases old.stack p k q at) [
      | inl was ↦ so.opens k q (slice_get-push_old old.stack (o ∷ []) k q was)
      | inr is ↦ subst (λ (n : ℕ). n < posed.formula.net.nodes) (e ∙ ap (λ (r : Entered). r.node) (sym is.1)) (so.opens (length old.stack) o (slice_get-push_last old.stack o))
    ];
    each = λ n a h. elim (so.each n a h) [
      | inl c ↦ inl c
      | inr on ↦ elim (stack_cases old.stack o n on) [ inl was ↦ inr (stack_more old.stack p n was) | inr is ↦ inr (stack_last old.stack p n (sym e ∙ is)) ]
    ];
  }

  -- a node is left
  pub order_leaves : (old new : DepthSearch) (o : Entered) → IsInDepth posed (with_entered old o) → o.node < posed.formula.net.nodes → new.seen ≡ old.seen → new.stack ≡ old.stack →
      IsChoice posed.labels o.node old.chosen new.chosen → IsInDepth posed new
  order_leaves old new o so lt seen stack choice = record {
    many = ap (λ s. s.count) seen ∙ so.many;
    inside = inside choice;
    only = only choice;
    opens = λ k q at. so.opens k q (slice_get-push_old old.stack (o ∷ []) k q (subst (λ (l : List Entered). slice_get l k ≡ Some q) stack at));
    each = λ n a h. elim (so.each n a (subst (λ s. Contains s.items n) seen h)) [
      | inl c ↦ inl (more choice n c)
      | inr on ↦ elim (stack_cases old.stack o n on) [ inl was ↦ inr (subst (λ (l : List Entered). OnStack l n) (sym stack) was) | inr is ↦ inl (last choice n a is) ]
    ];
  }
    where
      inside : IsChoice posed.labels o.node old.chosen new.chosen → All (λ n. n < posed.formula.net.nodes) new.chosen
      inside (inl c) = subst (All (λ n. n < posed.formula.net.nodes)) (sym c.1) (All-push (λ n. n < posed.formula.net.nodes) old.chosen o.node so.inside lt)
      inside (inr c) = subst (All (λ n. n < posed.formula.net.nodes)) (sym c.1) so.inside

      only : IsChoice posed.labels o.node old.chosen new.chosen → All (IsAgainst posed.labels) new.chosen
      only (inl c) = subst (All (IsAgainst posed.labels)) (sym c.1) (All-push (IsAgainst posed.labels) old.chosen o.node so.only c.0)
      only (inr c) = subst (All (IsAgainst posed.labels)) (sym c.1) so.only

      more : IsChoice posed.labels o.node old.chosen new.chosen → (n : ℕ) → Contains old.chosen n → Contains new.chosen n
      more (inl c) n h = subst (λ (l : List ℕ). Contains l n) (sym c.1) (Contains-more old.chosen (o.node ∷ []) n h)
      more (inr c) n h = subst (λ (l : List ℕ). Contains l n) (sym c.1) h

      last : IsChoice posed.labels o.node old.chosen new.chosen → (n : ℕ) → IsAgainst posed.labels n → o.node ≡ n → Contains new.chosen n
      last (inl c) n a is = subst (λ (l : List ℕ). Contains l n) (sym c.1) (subst (Contains (old.chosen ++ o.node ∷ [])) is (Contains-last old.chosen o.node))
      last (inr c) n a is = absurd (c.0 (subst (IsAgainst posed.labels) (sym is) a))

  -- the search takes the last node that is not left yet
  pub top_there : (order : DepthSearch) (stack : List Entered) (o : Entered) → IsInDepth posed order → order.stack ≡ stack ++ o ∷ [] → o.node < posed.formula.net.nodes
  top_there order stack o so e = so.opens (length stack) o (subst (λ (l : List Entered). slice_get l (length stack) ≡ Some o) (sym e) (slice_get-push_last stack o))

  pub top_order : (order : DepthSearch) (stack : List Entered) (o : Entered) → IsInDepth posed order → order.stack ≡ stack ++ o ∷ [] →
      IsInDepth posed (with_entered (record { seen = order.seen; stack = stack; chosen = order.chosen }) o)
  top_order order stack o so e = subst (λ (l : List Entered). IsInDepth posed (record { seen = order.seen; stack = l; chosen = order.chosen })) e so

  pub order_done : (order : DepthSearch) → IsInDepth posed order → order.stack ≡ [] → (n : ℕ) → IsAgainst posed.labels n → Contains order.seen.items n → Contains order.chosen n
  order_done order so idle n a h = elim (so.each n a h) [
    | inl c ↦ c
    | inr on ↦ absurd (let lt = slice_get_within order.stack on.0 on.1 on.2 in let none = ap length idle in omega (arith, lt, none))
  ]

pub seen_next : (labels : List Label) (place edge : ℕ) (label : Label) (old new : List ℕ) → AreAgainstSeen labels place old → edge ≡ place → slice_get labels place ≡ Some label →
    ((n : ℕ) → Contains old n → Contains new n) → ((n : ℕ) → against edge label ≡ Some n → Contains new n) → AreAgainstSeen labels (place + 1) new
seen_next labels place edge label old new so is at kept added = λ k n l below at-k e. elim (cases_lt k place) [
  | inl less ↦ kept n (so k n l less at-k e)
  | inr le ↦
      let here : k ≡ place = omega (arith, below, le) in
      let same : l ≡ label = same_Some l label (sym at-k ∙ ap (slice_get labels) here ∙ at) in
      added n (subst (λ m. against m label ≡ Some n) (here ∙ sym is) (subst (λ v. against k v ≡ Some n) same e))
]

pub seen_all : (labels : List Label) (place : ℕ) (seen : List ℕ) → AreAgainstSeen labels place seen → length labels ≤ place → (n : ℕ) → IsAgainst labels n → Contains seen n
seen_all labels place seen so le n (edge, label, at, is) = let lt = slice_get_within labels edge label at in so edge n label (omega (arith, lt, le)) at is

pub choosing_some : (posed : Posed) (place edge start : ℕ) (label : Label) (old new : DepthSearch) → IsChoosing posed place old → edge ≡ place → slice_get posed.labels place ≡ Some label →
    against edge label ≡ Some start → IsInDepth posed new → new.stack ≡ [] → Contains new.seen.items start → ((n : ℕ) → Contains old.seen.items n → Contains new.seen.items n) →
    IsChoosing posed (place + 1) new
choosing_some posed place edge start label old new so is at against_is order idle come kept = record {
  so_far = order;
  idle = idle;
  seen = seen_next posed.labels place edge label old.seen.items new.seen.items so.seen is at kept (λ n e. subst (Contains new.seen.items) (same_Some start n (sym against_is ∙ e)) come);
}

pub choosing_none : (posed : Posed) (place edge : ℕ) (label : Label) (old : DepthSearch) → IsChoosing posed place old → edge ≡ place → slice_get posed.labels place ≡ Some label →
    against edge label ≡ None → IsChoosing posed (place + 1) old
choosing_none posed place edge label old so is at against_is = record {
  so_far = so.so_far;
  idle = so.idle;
  seen = seen_next posed.labels place edge label old.seen.items old.seen.items so.seen is at (λ n h. h) (λ n e. absurd (none_some (sym against_is ∙ e)));
}
  where
    none_some : {n : ℕ} → None ≡ Some n → ⊥
    none_some e = cc

pub on_ok_four : {T E A B C D Z : Type 0} (r : Result T E) → (A → B → C → D → Z) → OnOk r A → OnOk r B → OnOk r C → OnOk r D → OnOk r Z
on_ok_four (Ok x) f a b c d = f a b c d
on_ok_four (Err e) f a b c d = a
