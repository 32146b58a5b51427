-- Sets of nodes, and a search that adds to one.
use Rattle.std.proofs.Common.{◌≡◌, ℕ, ◌+◌, ◌<◌, ◌≤◌, ◌⊎◌, inl, inr, Bool, List, [], ◌∷◌, ◌++◌, Some, length, sym, ap, ◌∙◌, subst, arith, Contains}
use Rattle.std.specs.Prelude.{slice_get}
use Rattle.std.proofs.lemmas.Bool.{cases_lt}
use Rattle.std.proofs.lemmas.Option.{same_Some, slice_get_within}
use Rattle.tor_digraph.specs.Walks.{HasArc, Reaches, here, along}
use Rattle.tor_digraph.specs.InRows.{IsRow}
use Rattle.tor_digraph.specs.Reached.{IsGrown}
use Rattle.tor_arena.proofs.Gets.{has-from_Contains, Contains-from_has, slice_get-some, slice_get-push_old, slice_get-push_cases}
use Rattle.tor_digraph.specs.NodeSets.{IsAdded}
use Rattle.tor_digraph.specs.Spreading.{IsEntered, Stays, HasLooked, IsClosed}
use Rattle.tor_digraph.proofs.Members.{Contains-more, Contains-last}
use Rattle.tor_digraph.proofs.NodeSets.{added_there}

-- ---- lists of nodes that grow

pub stays_contained : (old new : List ℕ) → Stays old new → (n : ℕ) → Contains old n → Contains new n
stays_contained old new s n h = let has = has-from_Contains old n h in Contains-from_has new n (has.0, s has.0 n has.1)

pub added_stays : (node : ℕ) (is_new : Bool) (old new : List ℕ) → IsAdded node is_new old new → Stays old new
added_stays node is_new old new (inl a) k x at = subst (λ (l : List ℕ). slice_get l k ≡ Some x) (sym a.2) (slice_get-push_old old (node ∷ []) k x at)
added_stays node is_new old new (inr a) k x at = subst (λ (l : List ℕ). slice_get l k ≡ Some x) (sym a.2) at

pub added_met : (past : List ℕ) (node : ℕ) (is_new : Bool) (old new : List ℕ) → IsAdded node is_new old new → IsEntered past node old new
added_met past node is_new old new (inl a) = inr a.2
added_met past node is_new old new (inr a) = inl (inl a.1, a.2)

-- ---- the arcs of one node

-- the first entries of the row of a node were looked along, so many
pub record IsLooking (arcs : List (ℕ × ℕ)) (past : List ℕ) (tail : ℕ) (row : List (ℕ × ℕ)) (upto : ℕ) (old new : List ℕ) : Type 0 where
  pub kept : Stays old new
  pub more : (k x : ℕ) → length old ≤ k → slice_get new k ≡ Some x → HasArc arcs tail x
  pub heads : (j : ℕ) (e : ℕ × ℕ) → j < upto → slice_get row j ≡ Some e → Contains new e.1 ⊎ Contains past e.1

pub looking_begins : (arcs : List (ℕ × ℕ)) (past : List ℕ) (tail : ℕ) (row : List (ℕ × ℕ)) (old : List ℕ) → IsLooking arcs past tail row 0 old old
looking_begins arcs past tail row old = record {
  kept = λ k x at. at;
  more = λ k x le at. absurd (let lt = slice_get_within old k x at in omega (arith, le, lt));
  heads = λ j e lt. absurd (omega (arith, lt));
}

pub looking_next : (arcs : List (ℕ × ℕ)) (past : List ℕ) (tail : ℕ) (row : List (ℕ × ℕ)) (upto : ℕ) (old nodes new : List ℕ) (e : ℕ × ℕ) →
    IsLooking arcs past tail row upto old nodes → slice_get row upto ≡ Some e → HasArc arcs tail e.1 → IsEntered past e.1 nodes new → IsLooking arcs past tail row (upto + 1) old new
looking_next arcs past tail row upto old nodes new e so at arc (inl m) = subst (IsLooking arcs past tail row (upto + 1) old) (sym m.1) (record {
  kept = so.kept;
  more = so.more;
  heads = λ j d lt at-d. elim (cases_lt j upto) [
    | inl less ↦ so.heads j d less at-d
    | inr le ↦
        let is : j ≡ upto = omega (arith, lt, le) in
        let same : ◌≡◌ {A = ℕ × ℕ} e d = same_Some e d (sym at ∙ ap (slice_get row) (sym is) ∙ at-d) in
        subst (λ (p : ℕ × ℕ). Contains nodes p.1 ⊎ Contains past p.1) same m.0
  ];
})
looking_next arcs past tail row upto old nodes new e so at arc (inr m) = subst (IsLooking arcs past tail row (upto + 1) old) (sym m) (record {
  kept = λ k x at-k. slice_get-push_old nodes (e.1 ∷ []) k x (so.kept k x at-k);
  more = λ k x le at-k. elim (slice_get-push_cases nodes e.1 k x at-k) [ inl was ↦ so.more k x le was | inr is ↦ subst (HasArc arcs tail) (sym is.1) arc ];
  heads = λ j d lt at-d. elim (cases_lt j upto) [
    | inl less ↦ elim (so.heads j d less at-d) [ inl h ↦ inl (Contains-more nodes (e.1 ∷ []) d.1 h) | inr h ↦ inr h ]
    | inr le ↦
        let is : j ≡ upto = omega (arith, lt, le) in
        let same : ◌≡◌ {A = ℕ × ℕ} e d = same_Some e d (sym at ∙ ap (slice_get row) (sym is) ∙ at-d) in
        inl (subst (λ (p : ℕ × ℕ). Contains (nodes ++ e.1 ∷ []) p.1) same (Contains-last nodes e.1))
  ];
})

pub looking_done : (arcs : List (ℕ × ℕ)) (past : List ℕ) (tail : ℕ) (row : List (ℕ × ℕ)) (upto : ℕ) (old new : List ℕ) → IsLooking arcs past tail row upto old new →
    IsRow (λ a. a) arcs tail row → upto ≡ length row → HasLooked arcs past tail old new
looking_done arcs past tail row upto old new so is end = record {
  kept = so.kept;
  more = so.more;
  heads = λ x h. (
      let w = is.each h.0 x h.1 in
      let lt = slice_get_within row w.0 (w.1, x) w.2 in
      so.heads w.0 (w.1, x) (omega (arith, lt, end)) w.2
      );
}

-- ---- all that a node leads to

-- the arcs of the nodes before this place were looked along
pub record IsSpreading (arcs : List (ℕ × ℕ)) (past : List ℕ) (start : ℕ) (old nodes : List ℕ) (at : ℕ) : Type 0 where
  pub grown : IsGrown arcs start old nodes
  pub heads : (k x y : ℕ) → k < at → slice_get nodes k ≡ Some x → HasArc arcs x y → Contains nodes y ⊎ Contains past y
  pub least : length old ≤ at

pub spreading_begins : (arcs : List (ℕ × ℕ)) (past : List ℕ) (start : ℕ) (is_new : Bool) (old nodes : List ℕ) (at : ℕ) → IsAdded start is_new old nodes → IsClosed arcs past old → at ≡ length old →
    IsSpreading arcs past start old nodes at
spreading_begins arcs past start is_new old nodes at added closed is = record {
  grown = record {
    kept = added_stays start is_new old nodes added;
    more = λ k x le at-k. more added k x le at-k;
    has_start = added_there start is_new old nodes added;
  };
  heads = λ k x y lt at-k arc. (
      let was = old-at added k x (omega (arith, lt, is)) at-k in
      elim (closed x y (Contains-from_has old x (k, was)) arc) [ inl h ↦ inl (stays_contained old nodes (added_stays start is_new old nodes added) y h) | inr h ↦ inr h ]
      );
  least = omega (arith, is);
}
  where
    more : IsAdded start is_new old nodes → (k x : ℕ) → length old ≤ k → slice_get nodes k ≡ Some x → Reaches arcs start x
    more (inl a) k x le at-k = elim (slice_get-push_cases old start k x (subst (λ (l : List ℕ). slice_get l k ≡ Some x) a.2 at-k)) [
      | inl was ↦ absurd (let lt = slice_get_within old k x was in omega (arith, le, lt))
      | inr is ↦ subst (Reaches arcs start) (sym is.1) here
    ]
    more (inr a) k x le at-k = absurd (let lt = slice_get_within old k x (subst (λ (l : List ℕ). slice_get l k ≡ Some x) a.2 at-k) in omega (arith, le, lt))

    old-at : IsAdded start is_new old nodes → (k x : ℕ) → k < length old → slice_get nodes k ≡ Some x → slice_get old k ≡ Some x
    old-at (inl a) k x lt at-k = elim (slice_get-push_cases old start k x (subst (λ (l : List ℕ). slice_get l k ≡ Some x) a.2 at-k)) [
      | inl was ↦ was
      | inr is ↦ absurd (let e = is.0 in omega (arith, lt, e))
    ]
    old-at (inr a) k x lt at-k = subst (λ (l : List ℕ). slice_get l k ≡ Some x) a.2 at-k

pub spreading_next : (arcs : List (ℕ × ℕ)) (past : List ℕ) (start : ℕ) (old nodes new : List ℕ) (at tail : ℕ) → IsSpreading arcs past start old nodes at → slice_get nodes at ≡ Some tail →
    HasLooked arcs past tail nodes new → IsSpreading arcs past start old new (at + 1)
spreading_next arcs past start old nodes new at tail so is looked = record {
  grown = record {
    kept = λ k x at-k. looked.kept k x (so.grown.kept k x at-k);
    more = λ k x le at-k. elim (cases_lt k (length nodes)) [
      | inl lt ↦ so.grown.more k x le (old-at k x lt at-k)
      | inr more ↦ along (so.grown.more at tail so.least is) (looked.more k x more at-k)
    ];
    has_start = stays_contained nodes new looked.kept start so.grown.has_start;
  };
  heads = λ k x y lt at-k arc. elim (cases_lt k at) [
    | inl less ↦
        let below = slice_get_within nodes at tail is in
        elim (so.heads k x y less (old-at k x (omega (arith, less, below)) at-k) arc) [ inl h ↦ inl (stays_contained nodes new looked.kept y h) | inr h ↦ inr h ]
    | inr le ↦
        let here_k : at ≡ k = omega (arith, lt, le) in
        let same : tail ≡ x = same_Some tail x (sym (looked.kept at tail is) ∙ ap (slice_get new) here_k ∙ at-k) in
        looked.heads y (subst (λ n. HasArc arcs n y) (sym same) arc)
  ];
  least = (let least = so.least in omega (arith, least));
}
  where
    old-at : (k x : ℕ) → k < length nodes → slice_get new k ≡ Some x → slice_get nodes k ≡ Some x
    old-at k x lt at-k =
        let was = slice_get-some nodes k lt in
        was.1 ∙ ap (λ (v : ℕ). Some v) (same_Some was.0 x (sym (looked.kept k was.0 was.1) ∙ at-k))

pub spreading_done : (arcs : List (ℕ × ℕ)) (past : List ℕ) (start : ℕ) (old nodes : List ℕ) (at : ℕ) → IsSpreading arcs past start old nodes at → length nodes ≤ at → IsClosed arcs past nodes
spreading_done arcs past start old nodes at so le x y h arc =
    let has = has-from_Contains nodes x h in
    let lt = slice_get_within nodes has.0 x has.1 in
    so.heads has.0 x y (omega (arith, lt, le)) has.1 arc
