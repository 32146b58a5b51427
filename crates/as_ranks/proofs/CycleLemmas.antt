-- Cycles of ASes are those of their nodes.
use Rattle.std.proofs.Common.{◌≡◌, ◌≢◌, ℕ, ◌+◌, ◌<◌, inl, inr, List, [], ◌∷◌, ◌++◌, length, map, take, get_or, Some, refl, sym, ap, ◌∙◌, subst, arith}
use Rattle.std.specs.Prelude.{slice_get, slice_index, Contains}
use Rattle.std.proofs.lemmas.Bool.{cases_eq}
use Rattle.std.proofs.lemmas.List.{length-map, map-append}
use Rattle.std.proofs.lemmas.Option.{same_Some, get_or_from_slice_get}
use Rattle.tor_arena.proofs.Gets.{slice_get-map, slice_get-unmap, slice_get-some, Contains-from_has, take_get}
use Rattle.tor_digraph.specs.Walks.{Net}
use Rattle.tor_digraph.specs.Closing.{Has, IsOnce}
use Rattle.reach_counts.specs.Cycles.{IsRisingList}
use Rattle.reach_counts.specs.Cycles.{IsCycle as IsNodeCycle, AreCycles as AreNodeCycles}
use Rattle.as_rel.specs.declared.line.RelLine.{RelLine}
use Rattle.as_rel.specs.Cone.{InCone, self, under}
use Rattle.as_ranks.specs.Named.{IsNetOf}
use Rattle.as_ranks.specs.Cycles.{IsProviderCycle, AreProviderCycles}
use Rattle.as_ranks.proofs.NetLemmas.{cone-reaches, member-reached}
use Rattle.as_ranks.proofs.Rising.{rising-at, rising-once}

module _ (rel : List RelLine) (ases : List ℕ) (net : Net ℕ) (h : IsNetOf rel ases net) where
  up : IsRisingList ases
  up = rising-at ases h.names.rising

  once : IsOnce ases
  once = rising-once ases up

  -- the AS of a node that is there
  as-of : (x : ℕ) → x < net.nodes → (a : ℕ) × (slice_get ases x ≡ Some a)
  as-of x lt = let aligned = h.arcs.aligned in slice_get-some ases x (omega (arith, lt, aligned))

  index-is : (x a : ℕ) → slice_get ases x ≡ Some a → slice_index ases x ≡ a
  index-is x a at = get_or_from_slice_get ases x a 0 at

  module _ (nodes : List ℕ) (c : IsNodeCycle net nodes) where
    -- a member of the row of ASes, by its node
    pub node-at : (k a : ℕ) → slice_get (map (slice_index ases) nodes) k ≡ Some a → (x : ℕ) × (slice_get nodes k ≡ Some x) × (slice_get ases x ≡ Some a)
    node-at k a at =
        let w = slice_get-unmap (slice_index ases) nodes k a at in
        let b = as-of w.0 (c.there w.0 (k, w.1)) in
        (w.0, w.1, b.1 ∙ ap (λ z. Some z) (sym (index-is w.0 b.0 b.1) ∙ w.2))

    has-as : (x a : ℕ) → Has nodes x → slice_get ases x ≡ Some a → Has (map (slice_index ases) nodes) a
    has-as x a has at = (has.0, slice_get-map (slice_index ases) nodes has.0 x has.1 ∙ ap (λ z. Some z) (index-is x a at))

    pub named-cycle : IsProviderCycle rel (map (slice_index ases) nodes)
    named-cycle = record {
      many = (let e : length (map (slice_index ases) nodes) ≡ length nodes = length-map nodes (slice_index ases) in let many = c.many in omega (arith, e, many));
      rising = λ i j a b lt at_i at_j. (
          let u = node-at i a at_i in
          let v = node-at j b at_j in
          up u.0 v.0 a b (c.rising i j u.0 v.0 lt u.1 v.1) u.2 v.2);
      whole = λ a b has.
          let u = node-at has.0 a has.1 in (
            λ has_b.
                let v = node-at has_b.0 b has_b.1 in
                let r = (c.whole u.0 v.0 (has.0, u.1)).0 (has_b.0, v.1) in
                ((cone-reaches rel ases net h.arcs once u.0 v.0 a b u.2 v.2).1 r.0, (cone-reaches rel ases net h.arcs once v.0 u.0 b a v.2 u.2).1 r.1),
            λ m.
                let v = member-reached rel ases net h.arcs once a u.0 u.2 m.0 in
                let back = (cone-reaches rel ases net h.arcs once v.0 u.0 b a v.1 u.2).0 m.1 in
                has-as v.0 b ((c.whole u.0 v.0 (has.0, u.1)).1 (v.2, back)) v.1,
          );
    }

  -- an AS with another one in its cone is named
  pub provider-node : (a b : ℕ) → a ≢ b → InCone rel a b → (x : ℕ) × (slice_get ases x ≡ Some a)
  provider-node a b ne m = by b m ne
    where
      by : (b : ℕ) → InCone rel a b → a ≢ b → (x : ℕ) × (slice_get ases x ≡ Some a)
      by b self ne = absurd (ne refl)
      by b (under {b = c} {c = d} m p) ne =
          elim (cases_eq a c) [
            | inl e ↦ (let w = h.arcs.providers c d p in (w.0, w.2 ∙ ap (λ z. Some z) (sym e)))
            | inr apart ↦ by c m apart
          ]

  pub named-cycles : (rows : List (List ℕ)) → AreNodeCycles net rows → AreProviderCycles rel (map (map (slice_index ases)) rows)
  named-cycles rows c = record {
    each = λ i row at. (
        let w = slice_get-unmap (map (slice_index ases)) rows i row at in
        subst (IsProviderCycle rel) w.2 (named-cycle w.0 (c.each i w.0 w.1)));
    all = λ a b ne m.
        let x = provider-node a b ne m.0 in
        let y = member-reached rel ases net h.arcs once a x.0 x.1 m.0 in
        let back = (cone-reaches rel ases net h.arcs once y.0 x.0 b a y.1 x.1).0 m.1 in
        let w = c.all x.0 y.0 (λ e. ne (same_Some a b (sym x.1 ∙ ap (slice_get ases) e ∙ y.1))) y.2 back in
        (w.0, map (slice_index ases) w.1, slice_get-map (map (slice_index ases)) rows w.0 w.1 w.2, has-as w.1 (c.each w.0 w.1 w.2) x.0 a w.3 x.1);
    order = λ i j xs ys a b lt at_i at_j first_a first_b.
        let u = slice_get-unmap (map (slice_index ases)) rows i xs at_i in
        let v = slice_get-unmap (map (slice_index ases)) rows j ys at_j in
        let x = node-at u.0 (c.each i u.0 u.1) 0 a (ap (λ l. slice_get l 0) u.2 ∙ first_a) in
        let y = node-at v.0 (c.each j v.0 v.1) 0 b (ap (λ l. slice_get l 0) v.2 ∙ first_b) in
        up x.0 y.0 a b (c.order i j u.0 v.0 x.0 y.0 lt u.1 v.1 x.1 y.1) x.2 y.2;
  }

  -- the least AS of a cycle is named
  cycle-first : (row : List ℕ) → IsProviderCycle rel row → (a : ℕ) × (slice_get row 0 ≡ Some a) × Contains ases a
  cycle-first row c =
      let many = c.many in
      let a = slice_get-some row 0 (omega (arith, many)) in
      let b = slice_get-some row 1 (omega (arith, many)) in
      let less = c.rising 0 1 a.0 b.0 (omega arith) a.1 b.1 in
      let m = (c.whole a.0 b.0 (0, a.1)).0 (1, b.1) in
      let x = provider-node a.0 b.0 (λ e. omega (arith, less, e)) m.0 in
      (a.0, a.1, Contains-from_has ases a.0 x)

  pub first-contained : (row : List ℕ) → IsProviderCycle rel row → Contains ases (get_or row 0 0)
  first-contained row c = let w = cycle-first row c in subst (Contains ases) (sym (get_or_from_slice_get row 0 w.0 0 w.1)) w.2

-- one row more
pub maps-more : {X Y : Type 0} (f : X → Y) (xs : List X) (done new : List Y) (k : ℕ) (x : X) (y : Y) → slice_get xs k ≡ Some x → y ≡ f x → done ≡ map f (take k xs) →
    new ≡ done ++ y ∷ [] → new ≡ map f (take (k + 1) xs)
maps-more f xs done new k x y at is before added =
    added ∙ ap (λ ys. ys ++ y ∷ []) before ∙ ap (λ z. map f (take k xs) ++ z ∷ []) is ∙ sym (map-append f (take k xs) (x ∷ [])) ∙ ap (map f) (sym (take_get xs k x at))
