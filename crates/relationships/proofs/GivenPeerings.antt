-- Which edges become peerings where relationships are given, and that an edge that a given names is forced.
use Rattle.std.proofs.Common.{if◌then◌else◌, ◌≡◌, ◌≢◌, ℕ, ◌+◌, inl, inr, Bool, true, false, cond, ◌||◌, min, max, List, [], ◌∷◌, ◌++◌, get_or, count_by, refl, sym, ap, ◌∙◌, subst, arith, All}
use Rattle.std.proofs.Common.{Contains, IsTrue, eq-eqb}
use Rattle.std.specs.List.{list_any, AllByRecursion}
use Rattle.std.proofs.lemmas.Bool.{cases_Bool, false_from_ne_true, false≢true, or_cases}
use Rattle.std.proofs.lemmas.List.Sums.{sum_by-cons, sum_by-append}
use Rattle.std.proofs.lemmas.List.Elements.{All-append, All-contains, recursion_from_All, Contains-get_or, Contains-append_right, Contains-append_cases}
use Rattle.relationships.specs.declared.given.Given.{Given}
use Rattle.relationships.specs.declared.label.Label.{Label}
use Rattle.relationships.specs.Relationship.{Orientation, Labelling, labels_of, is_low, is_high, ValleyFree}
use Rattle.relationships.specs.Graph.{Edge, edge_of, is_same, edges, edges_on, support}
use Rattle.relationships.specs.Preference.{MayPeer, IsRelabelled, with_peer, so_far}
use Rattle.relationships.specs.Givens.{names_edge, LabelsSay, AgreesWith, return_of, returns}
use Rattle.relationships.specs.GivenPreference.{NoneNames, IsRelabelledWith}
use Rattle.relationships.specs.Laws.GivenPreference.{GivenPeeringLaw, GivenRelabellingLaw, GivenPeersLaw, GivenForcedLaw}
use Rattle.relationships.proofs.Slopes.{over_parts}
use Rattle.relationships.proofs.Edges.{same_edge, AgreesAt, over_kept}
use Rattle.relationships.proofs.Preferring.{split_at}
use Rattle.relationships.proofs.GivenLemmas.{with_return, without_return, agrees_free, free_agrees, all_parts, any_there, edge_back, given_serving_law, over_end, same_edges}
use Rattle.relationships.proofs.GivenWalks.{any_contains}
use Rattle.relationships.proofs.Neighbours.{edge-neighbours, neighbours-edge}

-- ---- how many of the returns hold an edge

count-cons : {X : Type 0} (p : X → Bool) (x : X) (xs : List X) → count_by p (x ∷ xs) ≡ cond (p x) 1 0 + count_by p xs
count-cons p x xs = sum_by-cons (λ y. cond (p y) 1 0) x xs

support-append : (paths more : List (List ℕ)) (e : Edge) → support (paths ++ more) e ≡ support paths e + support more e
support-append paths more e = sum_by-append (λ path. cond (list_any (is_same e) (edges_on path)) 1 0) paths more

not_on : (g : Given) (e : Edge) → edge_of g.over g.under ≢ e → list_any (is_same e) (edges_on (return_of g)) ≡ false
not_on g e other =
    false_from_ne_true (list_any (is_same e) (edges_on (return_of g)))
    (λ t. elim (or_cases (is_same e (edge_of g.under g.over)) (list_any (is_same e) (edge_of g.over g.under ∷ [])) (as_or t)) [
      | inl s ↦ other (sym (same_edge e (edge_of g.under g.over) s ∙ edge_back g.under g.over))
      | inr s ↦ elim (or_cases (is_same e (edge_of g.over g.under)) false (as_or_last s)) [
        | inl u ↦ other (sym (same_edge e (edge_of g.over g.under) u))
        | inr f ↦ false≢true f
      ]
    ])
  where
    as_or : list_any (is_same e) (edges_on (return_of g)) ≡ true → (is_same e (edge_of g.under g.over) || list_any (is_same e) (edge_of g.over g.under ∷ [])) ≡ true
    as_or t = t

    as_or_last : list_any (is_same e) (edge_of g.over g.under ∷ []) ≡ true → (is_same e (edge_of g.over g.under) || false) ≡ true
    as_or_last t = t

nothing_more : (n : ℕ) → 0 + n ≡ n
nothing_more n = omega arith

none_hold : (paths : List (List ℕ)) (givens : List Given) (e : Edge) → AllByRecursion (λ g. edge_of g.over g.under ≢ e) givens → support (returns paths givens) e ≡ 0
none_hold paths [] e h = refl
none_hold paths (g ∷ givens) e h =
    let rest = none_hold paths givens e h.1 in
    elim (cases_Bool (names_edge paths g)) [
      | inl t ↦
          ap (λ ps. support ps e) (with_return paths g givens t) ∙
          count-cons (λ path. list_any (is_same e) (edges_on path)) (return_of g) (returns paths givens) ∙
          ap (λ b. cond b 1 0 + support (returns paths givens) e) (not_on g e h.0) ∙ nothing_more (support (returns paths givens) e) ∙ rest
      | inr f ↦ ap (λ ps. support ps e) (without_return paths g givens f) ∙ rest
    ]

-- ---- an edge that a given names is no peering

joined : {a b c d : ℕ} → a ≡ c → b ≡ d → ◌≡◌ {A = Edge} (a, b) (c, d)
joined e f = cc

peer_at : (L : Labelling) (a b : ℕ) (e : Edge) → ◌≡◌ {A = Edge} (a, b) e → with_peer L e a b ≡ Label.Peer
peer_at L a b e same = subst (λ (f : Edge). with_peer L f a b ≡ Label.Peer) same (rw (eq-eqb a a refl, eq-eqb b b refl) refl)

no_peering_holds : (L : Labelling) (e : Edge) (g : Given) → LabelsSay (with_peer L e) g → edge_of g.over g.under ≢ e
no_peering_holds L e g h same =
    elim (over_parts (with_peer L e) g.over g.under h) [
      | inl p ↦
          let lt = p.0 in
          let e₁ : g.over ≡ min g.over g.under = omega (arith, lt) in
          let e₂ : g.under ≡ max g.over g.under = omega (arith, lt) in
          false≢true (sym (ap is_low (peer_at L g.over g.under e (joined e₁ e₂ ∙ same))) ∙ p.1)
      | inr p ↦
          let lt = p.0 in
          let e₁ : g.under ≡ min g.over g.under = omega (arith, lt) in
          let e₂ : g.over ≡ max g.over g.under = omega (arith, lt) in
          false≢true (sym (ap is_high (peer_at L g.under g.over e (joined e₁ e₂ ∙ same))) ∙ p.1)
    ]

holds_besides : (L : Labelling) (e : Edge) (g : Given) → edge_of g.over g.under ≢ e → LabelsSay L g → LabelsSay (with_peer L e) g
holds_besides L e g other h =
    let f = edge_of g.over g.under in
    let same : with_peer L e f.0 f.1 ≡ L f.0 f.1 = ap (λ b. if b then Label.Peer else L f.0 f.1) (false_from_ne_true (is_same f e) (λ t. other (same_edge f e t))) in
    over_kept L (with_peer L e) g.over g.under ((λ k. same ∙ k), (λ k. same ∙ k)) h

module _ (givens : List Given) (paths : List (List ℕ)) where
  none_names : (L : Labelling) (e : Edge) → Contains (edges paths) e → AgreesWith givens paths (with_peer L e) → NoneNames givens e
  none_names L e c agrees = λ k d within same.
      let g = get_or givens k d in
      no_peering_holds L e g (agrees k d within (any_there (edges paths) (edge_of g.over g.under) (subst (Contains (edges paths)) (sym same) c))) same

  agrees_besides : (L : Labelling) (e : Edge) → NoneNames givens e → AgreesWith givens paths L → AgreesWith givens paths (with_peer L e)
  agrees_besides L e none agrees = λ k d within named. holds_besides L e (get_or givens k d) (none k d within) (agrees k d within named)

  module _ (kept : List (List ℕ)) (degree : ℕ → ℕ) (ratio : ℕ) where
    abbrev Behind : Labelling → Edge → Type 0
    Behind L e = MayPeer degree ratio (returns paths givens ++ kept) L e

    alone : (L : Labelling) (e : Edge) → Contains (edges paths) e → Behind L e → NoneNames givens e × MayPeer degree ratio kept L e
    alone L e c may =
        let parts = all_parts (ValleyFree (with_peer L e)) (returns paths givens) kept may.stays in
        let none = none_names L e c (free_agrees paths (with_peer L e) givens parts.0) in
        let split = support-append (returns paths givens) kept e in
        let nothing = none_hold paths givens e (recursion_from_All (λ g. edge_of g.over g.under ≢ e) givens none) in
        let held = may.held in
        (none, record { held = omega (arith, held, split, nothing); alike = may.alike; stays = parts.1 })

    behind : (L : Labelling) (e : Edge) → AgreesWith givens paths L → NoneNames givens e → MayPeer degree ratio kept L e → Behind L e
    behind L e agrees none may =
        let split = support-append (returns paths givens) kept e in
        let held = may.held in
        record {
          held = omega (arith, held, split);
          alike = may.alike;
          stays = All-append (ValleyFree (with_peer L e)) (returns paths givens) kept (agrees_free paths (with_peer L e) givens (agrees_besides L e none agrees)) may.stays;
        }

pub given_peering_law : GivenPeeringLaw
given_peering_law givens paths kept degree ratio L e agrees c =
    (alone givens paths kept degree ratio L e c, (λ h. behind givens paths kept degree ratio L e agrees h.0 h.1))

-- ---- edge by edge

either : (s : Bool) (x y : Label) → x ≡ y → (if s then x else y) ≡ y
either true x y h = h
either false x y h = refl

at_split : (before after : List Edge) (e : Edge) (es : List Edge) → es ≡ before ++ (e ∷ after) → Contains es e
at_split before after e es split = subst (λ (l : List Edge). Contains l e) (sym split) (Contains-append_right before (e ∷ after) e (0, omega arith, refl))

module _ (givens : List Given) (paths kept : List (List ℕ)) (degree : ℕ → ℕ) (ratio : ℕ) (O : Orientation) (last : Labelling) (agrees : AgreesWith givens paths (labels_of O)) where
  abbrev Now : List Edge → Labelling
  Now before = so_far before last (labels_of O)

  abbrev es : List Edge
  es = edges paths

  -- the last labels are the first at the edges that givens name
  abbrev KeepsGiven : Type 0
  KeepsGiven = All (λ g. IsTrue (names_edge paths g) → last (min g.over g.under) (max g.over g.under) ≡ labels_of O (min g.over g.under) (max g.over g.under)) givens

  still_agrees : KeepsGiven → (before : List Edge) → AgreesWith givens paths (Now before)
  still_agrees keeps before = λ k d within named.
      let g = get_or givens k d in
      let f = edge_of g.over g.under in
      let same : Now before f.0 f.1 ≡ labels_of O f.0 f.1 = either (list_any (is_same (f.0, f.1)) before) (last f.0 f.1) (labels_of O f.0 f.1) (keeps k d within named) in
      over_kept (labels_of O) (Now before) g.over g.under ((λ h. same ∙ h), (λ h. same ∙ h)) (agrees k d within named)

  -- they are where an edge becomes a peering only if no given names it, and else keeps its first label
  keeps_given : ((before : List Edge) (e : Edge) (after : List Edge) → es ≡ before ++ (e ∷ after) →
      (last e.0 e.1 ≡ Label.Peer → NoneNames givens e) × (last e.0 e.1 ≢ Label.Peer → last e.0 e.1 ≡ labels_of O e.0 e.1)) → KeepsGiven
  keeps_given each = λ k d within named.
      let g = get_or givens k d in
      let f = edge_of g.over g.under in
      let c = any_contains es f named in
      let at = split_at es f c.0 c.1 c.2 in
      let both = each at.0 f at.1 at.2 in
      both.1 (λ peer. both.0 peer k d within refl)

  to_with : IsRelabelled degree ratio (returns paths givens ++ kept) es (labels_of O) last → IsRelabelledWith givens degree ratio kept es (labels_of O) last
  to_with r before e after split =
      let each = r before e after split in
      let keeps = keeps_given
      (λ b f a s. (
        (λ peer. (alone givens paths kept degree ratio (Now b) f (at_split b a f es s) ((r b f a s).0.0 peer)).0),
        (r b f a s).1,
      )) in (
        (
          (λ peer. alone givens paths kept degree ratio (Now before) e (at_split before after e es split) (each.0.0 peer)),
          (λ h. each.0.1 (behind givens paths kept degree ratio (Now before) e (still_agrees keeps before) h.0 h.1)),
        ),
        each.1,
      )

  from_with : IsRelabelledWith givens degree ratio kept es (labels_of O) last → IsRelabelled degree ratio (returns paths givens ++ kept) es (labels_of O) last
  from_with r before e after split =
      let each = r before e after split in
      let keeps = keeps_given (λ b f a s. ((λ peer. ((r b f a s).0.0 peer).0), (r b f a s).1)) in (
        (
          (λ peer. let h = each.0.0 peer in behind givens paths kept degree ratio (Now before) e (still_agrees keeps before) h.0 h.1),
          (λ may. each.0.1 (alone givens paths kept degree ratio (Now before) e (at_split before after e es split) may)),
        ),
        each.1,
      )

pub given_relabelling_law : GivenRelabellingLaw
given_relabelling_law givens paths kept degree ratio O last agrees =
    (to_with givens paths kept degree ratio O last agrees, from_with givens paths kept degree ratio O last agrees)

-- ---- what the peerings leave

-- each edge of the returns and of the kept paths is one of the paths
pub edge_among : (givens : List Given) (paths kept : List (List ℕ)) → ((e : Edge) → Contains (edges kept) e → Contains (edges paths) e) →
    (e : Edge) → Contains (edges (returns paths givens ++ kept)) e → Contains (edges paths) e
edge_among givens paths kept among e c =
    let (a, b, (path, there, p), is) = edge-neighbours (returns paths givens ++ kept) e c in
    elim (Contains-append_cases (returns paths givens) kept path there) [
      | inl i ↦ subst (λ (l : List Edge). Contains l e) (same_edges paths givens)
          (subst (Contains (edges (paths ++ returns paths givens))) (sym is)
          (neighbours-edge (paths ++ returns paths givens) a b (path, Contains-append_right paths (returns paths givens) path i, p)))
      | inr i ↦ among e (subst (Contains (edges kept)) (sym is) (neighbours-edge kept a b (path, i, p)))
    ]

pub given_peers_law : GivenPeersLaw
given_peers_law givens paths kept L among = (
  λ either_way O agrees.
      let all = returns paths givens ++ kept in
      ((given_serving_law givens paths).1 O kept).1
      (either_way O (λ k d within.
      let e = get_or (edges all) k d in
      All-contains (AgreesAt L (labels_of O)) (edges paths) e agrees (edge_among givens paths kept among e (Contains-get_or (edges all) k d within)))),
  λ degree ratio agrees none k d within no_name not_peer held alike stays.
      let e = get_or (edges paths) k d in
      let may = behind givens paths kept degree ratio L e agrees no_name (record { held = held; alike = alike; stays = stays }) in
      none k d within not_peer may.held may.alike may.stays,
)

-- ---- an edge that a given names is forced

given_end : (givens : List Given) (paths kept : List (List ℕ)) (g : Given) → Contains givens g → names_edge paths g ≡ true → (L : Labelling) →
    All (ValleyFree L) (returns paths givens ++ kept) → LabelsSay L g
given_end givens paths kept g there named L free =
    All-contains (λ g. IsTrue (names_edge paths g) → LabelsSay L g) givens g
    (free_agrees paths L givens (all_parts (ValleyFree L) (returns paths givens) kept free).0) there named

pub given_forced_law : GivenForcedLaw
given_forced_law givens paths kept g there named = (
  λ O O' serves serves'.
      over_end O g.over g.under (given_end givens paths kept g there named (labels_of O) serves) ∙
      sym (over_end O' g.over g.under (given_end givens paths kept g there named (labels_of O') serves')),
  given_end givens paths kept g there named,
)
