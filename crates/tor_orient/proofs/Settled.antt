-- One edge more is settled.
use Rattle.std.proofs.Common.{◌≡◌, ℕ, ◌+◌, ◌<◌, ◌⊎◌, inl, inr, Bool, List, [], Some, length, refl, sym, ap, ◌∙◌, subst, arith, Contains}
use Rattle.std.specs.Prelude.{slice_get}
use Rattle.std.proofs.lemmas.Bool.{cases_lt}
use Rattle.std.proofs.lemmas.Option.{same_Some}
use Rattle.relationships.specs.declared.label.End.{End}
use Rattle.gao_prefs.specs.declared.preferring.Pref.{Pref}
use Rattle.tor_digraph.specs.Walks.{HasArc, Reaches, here, along, IsInside}
use Rattle.tor_digraph.specs.NodeSets.{Nodes, IsAdded}
use Rattle.tor_digraph.specs.Reached.{IsGrown}
use Rattle.tor_digraph.specs.Spreading.{IsClosed}
use Rattle.tor_digraph.proofs.Closings.{reaches_itself}
use Rattle.tor_digraph.proofs.Spreadings.{spreading_begins}
use Rattle.tor_arena.proofs.Gets.{has-from_Contains, Contains-from_has, slice_get-some, none-in}
use Rattle.tor_clauses.specs.Literals.{lit_of, opposite_node, Holds}
use Rattle.tor_clauses.specs.Formulas.{Formula, IsModel}
use Rattle.tor_clauses.specs.Flipping.{HasPartners}
use Rattle.tor_clauses.proofs.LiteralLemmas.{opposite_node_twice, opposite_node-other}
use Rattle.tor_clauses.proofs.Sides.{holds_one, holds_either}
use Rattle.tor_clauses.proofs.Flips.{reach_back, reach_from, reach_own}
use Rattle.tor_orient.specs.Steps.{node_wanted, NoneLeadsOut, HasOpposites, IsFailing, IsSettledBy, IsWhole, AgreesUpTo, IsRuledOut, AreSettled}

-- ---- what is reached

grown_keeps : (arcs : List (ℕ × ℕ)) (start : ℕ) (old new : List ℕ) → IsGrown arcs start old new → (n : ℕ) → Contains old n → Contains new n
grown_keeps arcs start old new grown n h = let has = has-from_Contains old n h in Contains-from_has new n (has.0, grown.kept has.0 n has.1)

-- what was added is reached from the start
grown_cases : (arcs : List (ℕ × ℕ)) (start : ℕ) (old new : List ℕ) → IsGrown arcs start old new → (n : ℕ) → Contains new n → Contains old n ⊎ Reaches arcs start n
grown_cases arcs start old new w n h =
    let has = has-from_Contains new n h in
    elim (cases_lt has.0 (length old)) [
      | inl lt ↦
          let was = slice_get-some old has.0 lt in
          let same : was.0 ≡ n = same_Some was.0 n (sym (w.kept has.0 was.0 was.1) ∙ has.1) in
          inl (subst (Contains old) same (Contains-from_has old was.0 (has.0, was.1)))
      | inr le ↦ inr (w.more has.0 n le has.1)
    ]

-- no arc leads out of what is settled
pub settled_along : (arcs : List (ℕ × ℕ)) (settled : List ℕ) → NoneLeadsOut arcs settled → {a b : ℕ} → Contains settled a → Reaches arcs a b → Contains settled b
settled_along arcs settled closed h here = h
settled_along arcs settled closed h (along {b = b} {c = c} w arc) = closed b c (settled_along arcs settled closed h w) arc

-- a walk from what was tried stays there, or comes to what is settled
tried_along : (arcs : List (ℕ × ℕ)) (settled tried : List ℕ) → NoneLeadsOut arcs settled → IsClosed arcs settled tried → {a b : ℕ} → Contains tried a →
    Reaches arcs a b → Contains tried b ⊎ Contains settled b
tried_along arcs settled tried closed near h here = inl h
tried_along arcs settled tried closed near h (along {b = b} {c = c} w arc) = elim (tried_along arcs settled tried closed near h w) [
  | inl k ↦ near b c k arc
  | inr k ↦ inr (closed b c k arc)
]

-- a search that has not come to the opposite of its start, where that is not settled
pub no_way : (arcs : List (ℕ × ℕ)) (settled tried : List ℕ) (node : ℕ) → NoneLeadsOut arcs settled → IsClosed arcs settled tried → Contains tried node →
    (Contains tried (opposite_node node) → ⊥) → (Contains settled (opposite_node node) → ⊥) → Reaches arcs node (opposite_node node) → ⊥
no_way arcs settled tried node closed near start unfound unsettled r =
    elim (tried_along arcs settled tried closed near start r) [ inl h ↦ unfound h | inr h ↦ unsettled h ]

module _ (f : Formula) where
  -- a walk leads to nodes that are there
  pub inside_along : IsInside (λ n. n) f.net → {a b : ℕ} → a < f.net.nodes → Reaches f.net.arcs a b → b < f.net.nodes
  inside_along inside lt here = lt
  inside_along inside lt (along {b = b} {c = c} w arc) = inside.heads arc.0 b c arc.1

  pub model_along : (ends : List End) → IsModel f ends → {a b : ℕ} → Reaches f.net.arcs a b → Holds ends (lit_of a) → Holds ends (lit_of b)
  model_along ends model here h = h
  model_along ends model (along {b = b} {c = c} w arc) h = model arc.0 b c arc.1 (model_along ends model w h)

-- ---- a node that no arc leaves

module _ (arcs : List (ℕ × ℕ)) (node : ℕ) (is_new : Bool) (old new : List ℕ) (none : (x : ℕ) → HasArc arcs node x → ⊥) (closed : NoneLeadsOut arcs old)
    (added : IsAdded node is_new old new) where
  alone_grown : IsGrown arcs node old new
  alone_grown = (spreading_begins arcs [] node is_new old new (length old) added (λ x y h arc. inl (closed x y h arc)) refl).grown

  pub alone_closed : NoneLeadsOut arcs new
  alone_closed x y h arc = elim (grown_cases arcs node old new alone_grown x h) [
    | inl was ↦ grown_keeps arcs node old new alone_grown y (closed x y was arc)
    | inr r ↦ absurd (none y (subst (λ z. HasArc arcs z y) (sym (reaches_itself none r)) arc))
  ]

  pub alone_settled : (Contains old node → ⊥) → (Contains old (opposite_node node) → ⊥) → IsSettledBy arcs node old new
  alone_settled unwanted unsettled = inr (unwanted, unsettled, inl (λ r. opposite_node-other node (reaches_itself none r), alone_grown))

-- no literal leads to its opposite and back
abbrev pub OneWay : Formula → Type 0
OneWay f = (n : ℕ) → n < f.net.nodes → Reaches f.net.arcs n (opposite_node n) → Reaches f.net.arcs (opposite_node n) n → ⊥

-- ---- one edge more

module _ (f : Formula) (prefs : List Pref) (count : ℕ) (old new : Nodes) (p : Pref) (so : AreSettled f prefs count old)
    (at : slice_get prefs count ≡ Some p) (many : new.count ≡ f.net.nodes) (inside : (n : ℕ) → Contains new.items n → n < f.net.nodes)
    (closed : NoneLeadsOut f.net.arcs new.items) (keep : (n : ℕ) → Contains old.items n → Contains new.items n) where
  abbrev node : ℕ
  node = node_wanted p

  agrees_less : (k : ℕ) (ends : List End) → AgreesUpTo prefs k new.items ends → AgreesUpTo prefs k old.items ends
  agrees_less k ends agrees j q lt found =
      let a = agrees j q lt found in (λ h. a.0 (keep (node_wanted q) h), λ h. a.1 (keep (opposite_node (node_wanted q)) h))

  agrees_before : (ends : List End) → AgreesUpTo prefs (count + 1) new.items ends → AgreesUpTo prefs count new.items ends
  agrees_before ends agrees j q lt found = agrees j q (omega (arith, lt)) found

  same_pref : (k : ℕ) (q : Pref) → k < count + 1 → (count ≡ k) ⊎ (k < count)
  same_pref k q lt = elim (cases_lt k count) [ inl less ↦ inr less | inr le ↦ inl (omega (arith, lt, le)) ]

  the_pref : (k : ℕ) (q : Pref) → count ≡ k → slice_get prefs k ≡ Some q → p ≡ q
  the_pref k q last there = same_Some p q (sym at ∙ ap (slice_get prefs) last ∙ there)

  module _ (start : ℕ) (more : (n : ℕ) → Contains new.items n → Contains old.items n ⊎ Reaches f.net.arcs start n)
      (consistent : (n : ℕ) → Contains new.items n → Contains new.items (opposite_node n) → ⊥)
      (starts : (ends : List End) → IsWhole f ends → AgreesUpTo prefs (count + 1) new.items ends → Holds ends (lit_of start))
      (last_one : Contains new.items node ⊎ Contains new.items (opposite_node node))
      (choice : Contains new.items node ⊎ IsRuledOut f prefs count new.items p) where
    one_more : AreSettled f prefs (count + 1) new
    one_more = record {
      many = many;
      inside = inside;
      closed = closed;
      consistent = consistent;
      each = λ k q lt there. elim (same_pref k q lt) [
        | inl last ↦ subst (λ q. Contains new.items (node_wanted q) ⊎ Contains new.items (opposite_node (node_wanted q))) (the_pref k q last there) last_one
        | inr less ↦ elim (so.each k q less there) [ inl h ↦ inl (keep (node_wanted q) h) | inr h ↦ inr (keep (opposite_node (node_wanted q)) h) ]
      ];
      follows = λ ends whole agrees n h. elim (more n h) [
        | inl was ↦ so.follows ends whole (agrees_less count ends (agrees_before ends agrees)) n was
        | inr r ↦ model_along f ends whole.0 r (starts ends whole agrees)
      ];
      best = λ k q lt there. elim (same_pref k q lt) [
        | inl last ↦
            subst (λ j. Contains new.items (node_wanted q) ⊎ IsRuledOut f prefs j new.items q) last
            (subst (λ q. Contains new.items (node_wanted q) ⊎ IsRuledOut f prefs count new.items q) (the_pref k q last there) choice)
        | inr less ↦ elim (so.best k q less there) [
          | inl h ↦ inl (keep (node_wanted q) h)
          | inr out ↦ inr (λ ends whole agrees. out ends whole (agrees_less k ends agrees))
        ]
      ];
    }

  -- what an unsettled node reaches can be settled too, if it does not reach its opposite
  grown_consistent : HasPartners f.net.arcs → NoneLeadsOut f.net.arcs old.items → (start : ℕ) → IsGrown f.net.arcs start old.items new.items → (Contains old.items (opposite_node start) → ⊥) →
      (Reaches f.net.arcs start (opposite_node start) → ⊥) → (n : ℕ) → Contains new.items n → Contains new.items (opposite_node n) → ⊥
  grown_consistent partners was_closed start grown unsettled apart n h k =
      elim (grown_cases f.net.arcs start old.items new.items grown n h) [
        | inl old_n ↦ elim (grown_cases f.net.arcs start old.items new.items grown (opposite_node n) k) [
          | inl old_o ↦ so.consistent n old_n old_o
          | inr r ↦ unsettled (settled_along f.net.arcs old.items was_closed old_n (reach_from f.net.arcs partners r))
        ]
        | inr r ↦ elim (grown_cases f.net.arcs start old.items new.items grown (opposite_node n) k) [
          | inl old_o ↦ unsettled (settled_along f.net.arcs old.items was_closed old_o (reach_back f.net.arcs partners r))
          | inr s ↦ apart (reach_own f.net.arcs partners r s)
        ]
      ]

module _ (f : Formula) (prefs : List Pref) (count : ℕ) (old new : Nodes) (p : Pref) (so : AreSettled f prefs count old)
    (at : slice_get prefs count ≡ Some p) (many : new.count ≡ f.net.nodes) (inside : (n : ℕ) → Contains new.items n → n < f.net.nodes)
    (closed : NoneLeadsOut f.net.arcs new.items) where
  abbrev wanted_one : ℕ
  wanted_one = node_wanted p

  abbrev other : ℕ
  other = opposite_node wanted_one

  -- what is settled of the edge holds where it is agreed on
  agreed : (start : ℕ) → (wanted_one ≡ start) ⊎ (other ≡ start) → Contains new.items start → (ends : List End) → AgreesUpTo prefs (count + 1) new.items ends → Holds ends (lit_of start)
  agreed start is has ends agrees =
      let a = agrees count p (omega arith) at in
      elim is [
        | inl e ↦ subst (λ n. Holds ends (lit_of n)) e (a.0 (subst (Contains new.items) (sym e) has))
        | inr e ↦ subst (λ n. Holds ends (lit_of n)) e (a.1 (subst (Contains new.items) (sym e) has))
      ]

  -- it was settled before
  unchanged : new.items ≡ old.items → Contains old.items wanted_one ⊎ Contains old.items other → AreSettled f prefs (count + 1) new
  unchanged same settled = elim settled [
    | inl h ↦ next wanted_one (inl refl) (keep wanted_one h) (inl (keep wanted_one h)) (inl (keep wanted_one h))
    | inr h ↦ next other (inr refl) (keep other h) (inr (keep other h)) (inr (λ ends whole agrees holds.
        holds_one ends wanted_one holds
        (so.follows ends whole (λ j q lt there. let a = agrees j q lt there in
        (λ h. a.0 (keep (node_wanted q) h), λ h. a.1 (keep (opposite_node (node_wanted q)) h))) other h)))
  ]
    where
      keep : (n : ℕ) → Contains old.items n → Contains new.items n
      keep n h = subst (λ l. Contains l n) (sym same) h

      back : (n : ℕ) → Contains new.items n → Contains old.items n
      back n h = subst (λ l. Contains l n) same h

      next : (start : ℕ) → (wanted_one ≡ start) ⊎ (other ≡ start) → Contains new.items start → Contains new.items wanted_one ⊎ Contains new.items other →
          Contains new.items wanted_one ⊎ IsRuledOut f prefs count new.items p → AreSettled f prefs (count + 1) new
      next start is has one choice =
          one_more f prefs count old new p so at many inside closed keep start (λ n h. inl (back n h)) (λ n h k. so.consistent n (back n h) (back (opposite_node n) k))
          (λ ends whole agrees. agreed start is has ends agrees) one choice

  module _ (partners : HasPartners f.net.arcs) where
    by_wanted : (Contains old.items other → ⊥) → (Reaches f.net.arcs wanted_one other → ⊥) → IsGrown f.net.arcs wanted_one old.items new.items → AreSettled f prefs (count + 1) new
    by_wanted unsettled apart grown =
        let keep = grown_keeps f.net.arcs wanted_one old.items new.items grown in
        one_more f prefs count old new p so at many inside closed keep wanted_one (grown_cases f.net.arcs wanted_one old.items new.items grown)
        (grown_consistent f prefs count old new p so at many inside closed keep partners so.closed wanted_one grown unsettled apart)
        (λ ends whole agrees. agreed wanted_one (inl refl) grown.has_start ends agrees) (inl grown.has_start) (inl grown.has_start)

    -- the wanted one leads to a literal that leads to its opposite, so this opposite holds under all orientations that serve
    module _ (one_way : OneWay f) (last : ℕ) (failing : IsFailing f.net.arcs wanted_one last) (grown : IsGrown f.net.arcs (opposite_node last) old.items new.items) where
      abbrev start : ℕ
      start = opposite_node last

      below : start < f.net.nodes
      below = inside start grown.has_start

      -- nothing leads back from the opposite
      apart : Reaches f.net.arcs start (opposite_node start) → ⊥
      apart back = one_way start below back (subst (λ n. Reaches f.net.arcs n start) (sym (opposite_node_twice last)) failing.1)

      -- the last one is not settled
      unsettled : Contains old.items (opposite_node start) → ⊥
      unsettled h =
          let was = subst (Contains old.items) (opposite_node_twice last) h in
          so.consistent last was (settled_along f.net.arcs old.items so.closed was failing.1)

      -- from its opposite the opposite of the wanted one follows
      settles : Contains new.items other
      settles = settled_along f.net.arcs new.items closed grown.has_start (reach_back f.net.arcs partners failing.0)

      holds_start : (ends : List End) → IsWhole f ends → Holds ends (lit_of start)
      holds_start ends whole =
          let many = whole.1 in
          elim (holds_either ends start (omega (arith, below, many))) [
            | inl h ↦ h
            | inr h ↦ model_along f ends whole.0 failing.1 (subst (λ n. Holds ends (lit_of n)) (opposite_node_twice last) h)
          ]

      by_opposite : AreSettled f prefs (count + 1) new
      by_opposite =
          let keep = grown_keeps f.net.arcs start old.items new.items grown in
          one_more f prefs count old new p so at many inside closed keep start (grown_cases f.net.arcs start old.items new.items grown)
          (grown_consistent f prefs count old new p so at many inside closed keep partners so.closed start grown unsettled apart)
          (λ ends whole agrees. holds_start ends whole) (inr settles)
          (inr (λ ends whole agrees holds. holds_one ends last (model_along f ends whole.0 failing.0 holds) (holds_start ends whole)))

-- what is settled is there, with what was added
inside_grown : (f : Formula) → IsInside (λ n. n) f.net → (start : ℕ) (old new : List ℕ) → ((n : ℕ) → Contains old n → n < f.net.nodes) → start < f.net.nodes →
    IsGrown f.net.arcs start old new → (n : ℕ) → Contains new n → n < f.net.nodes
inside_grown f net start old new so lt grown n h = elim (grown_cases f.net.arcs start old new grown n h) [ inl was ↦ so n was | inr r ↦ inside_along f net lt r ]

module _ (f : Formula) (prefs : List Pref) (count : ℕ) (old new : Nodes) (p : Pref) (partners : HasPartners f.net.arcs) (one_way : OneWay f)
    (net : IsInside (λ n. n) f.net) (both : HasOpposites f.net.nodes) (there : node_wanted p < f.net.nodes) (so : AreSettled f prefs count old)
    (at : slice_get prefs count ≡ Some p) (many : new.count ≡ f.net.nodes) (closed : NoneLeadsOut f.net.arcs new.items) where
  pub settled_next : IsSettledBy f.net.arcs (node_wanted p) old.items new.items → AreSettled f prefs (count + 1) new
  settled_next (inl same) =
      let inside : (n : ℕ) → Contains new.items n → n < f.net.nodes = λ n h. so.inside n (subst (λ l. Contains l n) same.1 h) in
      unchanged f prefs count old new p so at many inside closed same.1 same.0
  settled_next (inr (unwanted, unsettled, inl new_one)) =
      let inside = inside_grown f net (node_wanted p) old.items new.items so.inside there new_one.1 in
      by_wanted f prefs count old new p so at many inside closed partners unsettled new_one.0 new_one.1
  settled_next (inr (unwanted, unsettled, inr new_one)) =
      let below = both new_one.0 (inside_along f net there new_one.1.0) in
      let inside = inside_grown f net (opposite_node new_one.0) old.items new.items so.inside below new_one.2 in
      by_opposite f prefs count old new p so at many inside closed partners one_way new_one.0 new_one.1 new_one.2

-- none is settled yet
pub settled_none : (f : Formula) (prefs : List Pref) (r : Nodes) → r.count ≡ f.net.nodes → r.items ≡ [] → AreSettled f prefs 0 r
settled_none f prefs r many none = record {
  many = many;
  inside = λ n h. absurd (none-in none h);
  closed = λ x y h. absurd (none-in none h);
  consistent = λ n h. absurd (none-in none h);
  each = λ k q lt. absurd (omega (arith, lt));
  follows = λ ends model agrees n h. absurd (none-in none h);
  best = λ k q lt. absurd (omega (arith, lt));
}
