-- Which steps beside each other leave a valley, and that only these do.
use Rattle.std.proofs.Common.{◌≡◌, ◌≢◌, ℕ, zero, suc, ◌+◌, ◌<◌, ◌⊎◌, inl, inr, true, false, List, [], ◌∷◌, length, get_or, set, refl, sym, ap, ◌∙◌, subst, arith, All, slice_get, Some}
use Rattle.std.proofs.lemmas.Bool.{cases_eq, false≢true}
use Rattle.std.proofs.lemmas.Option.{slice_get-get_or, slice_get_within, same_Some}
use Rattle.relationships.specs.declared.label.End.{End}
use Rattle.relationships.specs.declared.label.Label.{Label}
use Rattle.relationships.specs.Relationship.{label_of, Slope, Up, Down, Flat}
use Rattle.relationships.proofs.Slopes.{Falls, Free}
use Rattle.as_graph.specs.declared.step.Step.{Step}
use Rattle.relationships.specs.Steps.{step_slope, is_up}
use Rattle.as_graph.specs.Steps.{slopes_by}
use Rattle.std.proofs.lemmas.List.{get_or-set_same, get_or-set_other}
use Rattle.peering.specs.Exclusions.{ExcludedBy, ExcludedOn}
use Rattle.peering.specs.Peerings.{AreBeside}

-- the two slopes make a valley wherever they stand
abbrev Clash : Slope → Slope → Type 0
Clash x y = ((x ≡ Flat) × (y ≢ Down)) ⊎ ((x ≢ Up) × (y ≡ Flat))

flat_down : Flat ≢ Down
flat_down = λ e. cc

flat_up : Flat ≢ Up
flat_up = λ e. cc

up_down : Up ≢ Down
up_down = λ e. cc

-- of two steps one behind the other the first goes up, or the second down
abbrev pub Follows : Slope → Slope → Type 0
Follows x y = (x ≡ Up) ⊎ (y ≡ Down)

follows_clash : (x y : Slope) → Follows x y → Clash x y → ⊥
follows_clash x y (inl up) (inl c) = flat_up (sym c.0 ∙ up)
follows_clash x y (inl up) (inr c) = c.0 up
follows_clash x y (inr down) (inl c) = c.1 down
follows_clash x y (inr down) (inr c) = flat_down (sym c.1 ∙ down)

falls_at : (ss : List Slope) (i : ℕ) (x : Slope) → slice_get ss i ≡ Some x → Falls ss → x ≡ Down
falls_at [] i x at f = absurd (cc at)
falls_at (s ∷ ss) zero x at f = sym (same_Some _ _ at) ∙ f.0
falls_at (s ∷ ss) (suc i) x at f = falls_at ss i x at f.1

-- where there is no valley each step follows so
pub follows_at : (ss : List Slope) (i : ℕ) (x y : Slope) → slice_get ss i ≡ Some x → slice_get ss (suc i) ≡ Some y → Free ss → Follows x y
follows_at [] i x y at next free = absurd (cc at)
follows_at (s ∷ []) zero x y at next free = absurd (cc next)
follows_at (s ∷ t ∷ ss) zero x y at next (inl p) = inl (sym (same_Some _ _ at) ∙ p.0)
follows_at (s ∷ t ∷ ss) zero x y at next (inr f) = inr (sym (same_Some _ _ next) ∙ f.0)
follows_at (s ∷ ss) (suc i) x y at next (inl p) = follows_at ss i x y at next p.1
follows_at (s ∷ ss) (suc i) x y at next (inr f) = inr (falls_at ss (suc i) y next f)

-- and where each step does there is none
falls_from : (s : Slope) (ss : List Slope) → s ≡ Down → ((i : ℕ) (x y : Slope) → slice_get (s ∷ ss) i ≡ Some x → slice_get (s ∷ ss) (suc i) ≡ Some y → Follows x y) → Falls (s ∷ ss)
falls_from s [] down h = (down, tt)
falls_from s (t ∷ ss) down h =
    elim (h zero s t refl refl) [
      | inl up ↦ absurd (up_down (sym up ∙ down))
      | inr next ↦ (down, falls_from t ss next (λ i x y at on. h (suc i) x y at on))
    ]

pub free_from : (ss : List Slope) → ((i : ℕ) (x y : Slope) → slice_get ss i ≡ Some x → slice_get ss (suc i) ≡ Some y → Follows x y) → Free ss
free_from [] h = tt
free_from (s ∷ []) h = inr tt
free_from (s ∷ t ∷ ss) h =
    elim (h zero s t refl refl) [
      | inl up ↦ inl (up, free_from (t ∷ ss) (λ i x y at on. h (suc i) x y at on))
      | inr down ↦ inr (falls_from t ss down (λ i x y at on. h (suc i) x y at on))
    ]

-- ---- steps

pub slope_of_step : (labels : List Label) (steps : List Step) (i : ℕ) (s : Step) → slice_get steps i ≡ Some s →
    slice_get (slopes_by labels steps) i ≡ Some (step_slope (get_or labels s.edge Label.Peer) s.left)
slope_of_step labels [] i s at = absurd (cc at)
slope_of_step labels (t ∷ steps) zero s at =
    ap (λ (u : Step). Some (step_slope (get_or labels u.edge Label.Peer) u.left)) (same_Some _ _ at)
slope_of_step labels (t ∷ steps) (suc i) s at = slope_of_step labels steps i s at

flat_peer : (l : Label) (left : End) → l ≡ Label.Peer → step_slope l left ≡ Flat
flat_peer l left e = ap (λ m. step_slope m left) e

not_down : (s : Slope) → is_up s ≡ true → s ≢ Down
not_down Up t = λ e. cc
not_down Down t = λ e. false≢true t
not_down Flat t = λ e. false≢true t

not_up : (s : Slope) → is_up s ≡ false → s ≢ Up
not_up Up t = λ e. false≢true (sym t)
not_up Down t = λ e. cc
not_up Flat t = λ e. cc

still_not_down : (l : Label) (over left : End) → (l ≡ Label.Peer) ⊎ (l ≡ label_of over) → is_up (step_slope (label_of over) left) ≡ true → step_slope l left ≢ Down
still_not_down l over left (inl p) t = λ e. flat_down (sym (flat_peer l left p) ∙ e)
still_not_down l over left (inr f) t = λ e. not_down (step_slope (label_of over) left) t (sym (ap (λ m. step_slope m left) f) ∙ e)

still_not_up : (l : Label) (over left : End) → (l ≡ Label.Peer) ⊎ (l ≡ label_of over) → is_up (step_slope (label_of over) left) ≡ false → step_slope l left ≢ Up
still_not_up l over left (inl p) t = λ e. flat_up (sym (flat_peer l left p) ∙ e)
still_not_up l over left (inr f) t = λ e. not_up (step_slope (label_of over) left) t (sym (ap (λ m. step_slope m left) f) ∙ e)

All-slice_get : (P : Step → Type 0) (steps : List Step) (k : ℕ) (u : Step) → All P steps → slice_get steps k ≡ Some u → P u
All-slice_get P steps k u all is =
    subst P (same_Some _ _ (sym (slice_get-get_or steps k u lt) ∙ is)) (all k u lt)
  where
    lt : k < length steps
    lt = slice_get_within steps k u is

-- with a excluded edge as a peering there is a valley
pub no_flip : (old : List Label) (ends : List End) (n many : ℕ) (steps : List Step) → n < length old →
    ((j : ℕ) → j < many → (get_or old j Label.Peer ≡ Label.Peer) ⊎ (get_or old j Label.Peer ≡ label_of (get_or ends j End.Low))) →
    All (λ (s : Step). s.edge < many) steps → ExcludedOn ends steps n → Free (slopes_by (set old n Label.Peer) steps) → ⊥
no_flip old ends n many steps lt cases within (i, s, t, at, next, by) free =
    follows_clash (slope_now s) (slope_now t) (follows_at (slopes_by labels steps) i (slope_now s) (slope_now t) (slope_of_step labels steps i s at)
    (subst (λ k. slice_get (slopes_by labels steps) k ≡ Some (slope_now t)) (add_one i) (slope_of_step labels steps (i + 1) t next)) free) (clash by)
  where
    labels : List Label
    labels = set old n Label.Peer

    slope_now : Step → Slope
    slope_now u = step_slope (get_or labels u.edge Label.Peer) u.left

    add_one : (k : ℕ) → k + 1 ≡ suc k
    add_one k = omega arith

    inside : (k : ℕ) (u : Step) → slice_get steps k ≡ Some u → u.edge < many
    inside k u is = All-slice_get (λ (s : Step). s.edge < many) steps k u within is

    now_cases : (u : Step) → u.edge < many → (get_or labels u.edge Label.Peer ≡ Label.Peer) ⊎ (get_or labels u.edge Label.Peer ≡ label_of (get_or ends u.edge End.Low))
    now_cases u u_lt =
        elim (cases_eq u.edge n) [
          | inl e ↦ inl (ap (λ k. get_or labels k Label.Peer) e ∙ get_or-set_same old n Label.Peer Label.Peer lt)
          | inr ne ↦ subst (λ l. (l ≡ Label.Peer) ⊎ (l ≡ label_of (get_or ends u.edge End.Low))) (sym (get_or-set_other old n u.edge Label.Peer Label.Peer ne)) (cases u.edge u_lt)
        ]

    flipped : (u : Step) → u.edge ≡ n → slope_now u ≡ Flat
    flipped u e = flat_peer (get_or labels u.edge Label.Peer) u.left (ap (λ k. get_or labels k Label.Peer) e ∙ get_or-set_same old n Label.Peer Label.Peer lt)

    clash : ExcludedBy ends s t n → Clash (slope_now s) (slope_now t)
    clash (inl b) = inl (flipped s b.2, still_not_down (get_or labels t.edge Label.Peer) (get_or ends t.edge End.Low) t.left (now_cases t (inside (i + 1) t next)) b.1)
    clash (inr b) = inr (still_not_up (get_or labels s.edge Label.Peer) (get_or ends s.edge End.Low) s.left (now_cases s (inside i s at)) b.0, flipped t b.2)

-- ---- an edge that no two steps exclude

-- how a step goes under labels
abbrev pub slope_under : List Label → Step → Slope
slope_under labels s = step_slope (get_or labels s.edge Label.Peer) s.left

step_of_slope : (labels : List Label) (steps : List Step) (i : ℕ) (x : Slope) → slice_get (slopes_by labels steps) i ≡ Some x →
    (s : Step) × (slice_get steps i ≡ Some s) × (x ≡ slope_under labels s)
step_of_slope labels [] i x at = absurd (cc at)
step_of_slope labels (s ∷ steps) zero x at = (s, refl, sym (same_Some _ _ at))
step_of_slope labels (s ∷ steps) (suc i) x at = step_of_slope labels steps i x at

up_or_down : (end left : End) → (step_slope (label_of end) left ≡ Up) ⊎ (step_slope (label_of end) left ≡ Down)
up_or_down End.Low End.Low = inr refl
up_or_down End.Low End.High = inl refl
up_or_down End.High End.Low = inl refl
up_or_down End.High End.High = inr refl

-- the edges beside that of the place are others, and no peerings, and it is none itself; then, as a peering, it leaves no valley
pub flip_free : (old : List Label) (ends : List End) (n : ℕ) (steps : List Step) → n < length old → get_or old n Label.Peer ≡ label_of (get_or ends n End.Low) →
    ((k : ℕ) → AreBeside steps n k ⊎ AreBeside steps k n → (k ≢ n) × (get_or old k Label.Peer ≡ label_of (get_or ends k End.Low))) →
    (ExcludedOn ends steps n → ⊥) → Free (slopes_by old steps) → Free (slopes_by (set old n Label.Peer) steps)
flip_free old ends n steps lt first beside not_excluded free =
    free_from (slopes_by labels steps) (λ i x y x_at y_at.
    let s = step_of_slope labels steps i x x_at in
    let t = step_of_slope labels steps (suc i) y y_at in
    let follows = follows_at (slopes_by old steps) i (slope_under old s.0) (slope_under old t.0) (slope_of_step old steps i s.0 s.1) (slope_of_step old steps (suc i) t.0 t.1) free in
    subst (λ z. Follows z y) (sym s.2) (subst (λ z. Follows (slope_under labels s.0) z) (sym t.2) (pair i s.0 t.0 s.1 t.1 follows)))
  where
    labels : List Label
    labels = set old n Label.Peer

    add_one : (k : ℕ) → suc k ≡ k + 1
    add_one k = omega arith

    -- an edge that is not that of the place goes as before
    same : (s : Step) → s.edge ≢ n → slope_under labels s ≡ slope_under old s
    same s ne = ap (λ l. step_slope l s.left) (get_or-set_other old n s.edge Label.Peer Label.Peer ne)

    goes : (s : Step) → get_or old s.edge Label.Peer ≡ label_of (get_or ends s.edge End.Low) → slope_under old s ≡ step_slope (label_of (get_or ends s.edge End.Low)) s.left
    goes s is = ap (λ l. step_slope l s.left) is

    first_at : (s : Step) → s.edge ≡ n → get_or old s.edge Label.Peer ≡ label_of (get_or ends s.edge End.Low)
    first_at s is = subst (λ k. get_or old k Label.Peer ≡ label_of (get_or ends k End.Low)) (sym is) first

    both : (i : ℕ) (s t : Step) → slice_get steps i ≡ Some s → slice_get steps (suc i) ≡ Some t → AreBeside steps s.edge t.edge
    both i s t s_at t_at = (i, s, t, s_at, subst (λ k. slice_get steps k ≡ Some t) (add_one i) t_at, refl, refl)

    excluded : (i : ℕ) (s t : Step) → slice_get steps i ≡ Some s → slice_get steps (suc i) ≡ Some t → ExcludedBy ends s t n → ⊥
    excluded i s t s_at t_at x = not_excluded (i, s, t, s_at, subst (λ k. slice_get steps k ≡ Some t) (add_one i) t_at, x)

    pair : (i : ℕ) (s t : Step) → slice_get steps i ≡ Some s → slice_get steps (suc i) ≡ Some t → Follows (slope_under old s) (slope_under old t) →
        Follows (slope_under labels s) (slope_under labels t)
    pair i s t s_at t_at follows =
        elim (cases_eq s.edge n) [
          | inl s_is ↦
              let other = beside t.edge (inl (subst (λ k. AreBeside steps k t.edge) s_is (both i s t s_at t_at))) in
              elim (up_or_down (get_or ends t.edge End.Low) t.left) [
                | inr down ↦ inr (same t other.0 ∙ goes t other.1 ∙ down)
                | inl up ↦ elim follows [
                  | inr down ↦ absurd (up_down (sym up ∙ sym (goes t other.1) ∙ down))
                  | inl s_up ↦ absurd (excluded i s t s_at t_at (inl (ap is_up (sym (goes s (first_at s s_is)) ∙ s_up), ap is_up up, s_is)))
                ]
              ]
          | inr s_not ↦ elim (cases_eq t.edge n) [
            | inl t_is ↦
                let other = beside s.edge (inr (subst (λ k. AreBeside steps s.edge k) t_is (both i s t s_at t_at))) in
                elim (up_or_down (get_or ends s.edge End.Low) s.left) [
                  | inl up ↦ inl (same s other.0 ∙ goes s other.1 ∙ up)
                  | inr down ↦ elim follows [
                    | inl up ↦ absurd (up_down (sym up ∙ goes s other.1 ∙ down))
                    | inr t_down ↦ absurd (excluded i s t s_at t_at (inr (ap is_up down, ap is_up (sym (goes t (first_at t t_is)) ∙ t_down), t_is)))
                  ]
                ]
            | inr t_not ↦ elim follows [ inl up ↦ inl (same s s_not ∙ up) | inr down ↦ inr (same t t_not ∙ down) ]
          ]
        ]

-- two peerings one behind the other leave a valley
pub two_flat : (labels : List Label) (steps : List Step) (a b : ℕ) → AreBeside steps a b → get_or labels a Label.Peer ≡ Label.Peer → get_or labels b Label.Peer ≡ Label.Peer →
    Free (slopes_by labels steps) → ⊥
two_flat labels steps a b (i, s, t, s_at, t_at, is_a, is_b) a_peer b_peer free =
    elim (follows_at (slopes_by labels steps) i (slope_under labels s) (slope_under labels t) (slope_of_step labels steps i s s_at)
    (subst (λ k. slice_get (slopes_by labels steps) k ≡ Some (slope_under labels t)) (add_one i) (slope_of_step labels steps (i + 1) t t_at)) free) [
      | inl up ↦ flat_up (sym (flat_peer (get_or labels s.edge Label.Peer) s.left (ap (λ k. get_or labels k Label.Peer) is_a ∙ a_peer)) ∙ up)
      | inr down ↦ flat_down (sym (flat_peer (get_or labels t.edge Label.Peer) t.left (ap (λ k. get_or labels k Label.Peer) is_b ∙ b_peer)) ∙ down)
    ]
  where
    add_one : (k : ℕ) → k + 1 ≡ suc k
    add_one k = omega arith
