-- The size of a cone is how many nodes the node of the AS reaches.
use Rattle.std.proofs.Common.{◌≡◌, ℕ, ◌<◌, true, List, length, map, Some, sym, ap, ◌∙◌, subst, arith}
use Rattle.std.specs.Prelude.{slice_get, slice_index, replicate}
use Rattle.std.proofs.lemmas.List.{length-map, length-replicate}
use Rattle.std.proofs.lemmas.Option.{slice_get_within, get_or_from_slice_get}
use Rattle.tor_arena.proofs.Gets.{has-from_Contains, Contains-from_has, slice_get-map, slice_get-unmap, slice_get-some, slice_get-replicate}
use Rattle.tor_digraph.specs.Walks.{Net}
use Rattle.tor_digraph.specs.Closing.{IsOnce}
use Rattle.reach_counts.specs.ReachCounts.{IsReachedCount}
use Rattle.as_rel.specs.declared.line.RelLine.{RelLine}
use Rattle.as_rel.specs.Cone.{InCone}
use Rattle.as_rel.specs.Providers.{IsProviderNet}
use Rattle.as_ranks.specs.Ranks.{IsConeSize}
use Rattle.as_ranks.proofs.NetLemmas.{reached-member, member-reached}

marked-true : (n x : ℕ) → x < n → slice_get (replicate n true) x ≡ Some true
marked-true n x lt =
    let many = length-replicate {A = _} n true in
    let w = slice_get-some (replicate n true) x (omega (arith, lt, many)) in
    w.1 ∙ ap (λ b. Some b) (slice_get-replicate n true x w.0 w.1)

module _ (rel : List RelLine) (ases : List ℕ) (net : Net ℕ) (h : IsProviderNet rel ases net) (once : IsOnce ases) (node a n : ℕ) (at : slice_get ases node ≡ Some a)
    (count : IsReachedCount (replicate net.nodes true) net node n) where
  -- each of the nodes is that of a member
  member-at : (k x : ℕ) → slice_get count.marked k ≡ Some x → (b : ℕ) × (slice_get ases x ≡ Some b) × InCone rel a b
  member-at k x at_x = reached-member rel ases net h a node at ((count.exact x).0 (Contains-from_has count.marked x (k, at_x))).0

  named-at : (k b : ℕ) → slice_get (map (slice_index ases) count.marked) k ≡ Some b → (x : ℕ) × (slice_get count.marked k ≡ Some x) × (slice_get ases x ≡ Some b) × InCone rel a b
  named-at k b at_b =
      let w = slice_get-unmap (slice_index ases) count.marked k b at_b in
      let m = member-at k w.0 w.1 in
      let is : m.0 ≡ b = sym (get_or_from_slice_get ases w.0 m.0 0 m.1) ∙ w.2 in
      (w.0, w.1, m.1 ∙ ap (λ z. Some z) is, subst (InCone rel a) is m.2)

  pub cone-size : IsConeSize rel a n
  cone-size = record {
    members = map (slice_index ases) count.marked;
    once = λ i j b at_i at_j.
        let u = named-at i b at_i in
        let v = named-at j b at_j in
        let same : u.0 ≡ v.0 = once u.0 v.0 b u.2 v.2 in
        count.once i j u.0 u.1 (v.1 ∙ ap (λ z. Some z) (sym same));
    exact = λ b. (
      λ c. (let w = has-from_Contains (map (slice_index ases) count.marked) b c in (named-at w.0 b w.1).3),
      λ m.
          let x = member-reached rel ases net h once a node at m in
          let lt = slice_get_within ases x.0 b x.1 in
          let aligned = h.aligned in
          let c = (count.exact x.0).1 (x.2, marked-true net.nodes x.0 (omega (arith, lt, aligned))) in
          let w = has-from_Contains count.marked x.0 c in
          Contains-from_has (map (slice_index ases) count.marked) b (
            w.0,
            slice_get-map (slice_index ases) count.marked w.0 x.0 w.1 ∙ ap (λ z. Some z) (get_or_from_slice_get ases x.0 b 0 x.1),
          ),
    );
    many = (let e : length (map (slice_index ases) count.marked) ≡ length count.marked = length-map count.marked (slice_index ases) in e ∙ count.many);
  }
