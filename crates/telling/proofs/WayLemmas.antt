-- No node stands twice on a way that a search of the nearest first has found: each is one arc farther from the start than the one before.
use Rattle.std.proofs.Common.{◌≡◌, ℕ, zero, suc, ◌+◌, ◌==◌, ◌⊎◌, inl, inr, Bool, true, false, List, [], map, Some, slice_get, refl, sym, ap, ◌∙◌, subst, arith}
use Rattle.std.proofs.Common.{Contains, eq-eqb, eqb-true, if◌then◌else◌}
use Rattle.std.proofs.lemmas.Option.{same_Some, slice_get_within}
use Rattle.tor_arena.proofs.Gets.{Contains-none, slice_get-map, slice_get-some, slice_get-unmap}
use Rattle.tor_digraph.specs.declared.way.Way.{Way}
use Rattle.tor_digraph.specs.Closing.{IsOnce}
use Rattle.tor_digraph.specs.Found.{IsRoot, HasTreeArcs, depth_of}
use Rattle.tor_digraph.specs.Reached.{Reach, IsFlooded, LeadsFromNear}
use Rattle.tor_digraph.specs.Walks.{Net, IsArc, IsWay}

module _ (net : Net ℕ) (r : Reach ℕ ℕ) (flooded : IsFlooded (λ n. n) (λ a. a) net.nodes net.arcs [] r) where
  -- how many arcs led to a node
  abbrev depth_at : ℕ → ℕ
  depth_at x = depth_of (slice_get r.found x)

  -- the arcs to nodes that are one deeper; the others lead nowhere from what is there
  abbrev goes_deeper : ℕ × ℕ → Bool
  goes_deeper e = depth_at e.0 + 1 == depth_at e.1

  abbrev only_deeper : ℕ × ℕ → ℕ × ℕ
  only_deeper e = if goes_deeper e then e else (net.nodes, net.nodes)

  abbrev deeper : List (ℕ × ℕ)
  deeper = map only_deeper net.arcs

  same_arc : (e f : ℕ × ℕ) → Some e ≡ Some f → e ≡ f
  same_arc e f h = cc

  -- one of these arcs from what is there is an arc, and leads one deeper
  record IsDeeper (k x y : ℕ) : Type 0 where
    is_arc : IsArc net.arcs k x y
    one_more : depth_at x + 1 ≡ depth_at y

  is_deeper : (k x y : ℕ) → Contains r.nodes x → IsArc deeper k x y → IsDeeper k x y
  is_deeper k x y there at =
      let w = slice_get-unmap {Y = ℕ × ℕ} only_deeper net.arcs k (x, y) at in
      by w.0 w.1 (goes_deeper w.0) refl w.2
    where
      by : (e : ℕ × ℕ) → slice_get net.arcs k ≡ Some e → (b : Bool) → goes_deeper e ≡ b → (if b then e else (net.nodes, net.nodes)) ≡ (x, y) → IsDeeper k x y
      by e own true goes is = record {
        is_arc = own ∙ ap (λ (f : ℕ × ℕ). Some f) is;
        one_more = eqb-true (depth_at x + 1) (depth_at y) (subst (λ (f : ℕ × ℕ). goes_deeper f ≡ true) is goes);
      }
      by e own false goes is =
          let out : net.nodes ≡ x = ap (λ (f : ℕ × ℕ). f.0) is in
          let lt = flooded.inside x there in
          absurd (omega (arith, out, lt))

  along : HasTreeArcs (λ n. n) (λ a. a) deeper r.found
  along x t a d at =
      let (own, (f, tail, seen, e)) = flooded.forest.along x t a d at in
      let from : depth_at t + 1 ≡ d = ap (λ o. depth_of o + 1) tail ∙ e in
      let to : depth_at x ≡ d = ap depth_of at in
      let goes : goes_deeper (t, x) ≡ true = eq-eqb (depth_at t + 1) (depth_at x) (from ∙ sym to) in (
        slice_get-map only_deeper net.arcs a (t, x) own ∙ ap (λ b. Some (if b then (t, x) else (net.nodes, net.nodes))) goes,
        (f, tail, seen, e),
      )

  flooded_so : IsFlooded (λ n. n) (λ a. a) net.nodes deeper [] r
  flooded_so = record {
    inside = flooded.inside;
    heads = λ x y there arc. flooded.heads x y there (arc.0, (is_deeper arc.0 x y there arc.1).is_arc);
    forest = record { many = flooded.forest.many; along = along };
    once = flooded.once;
    roots = flooded.roots;
    deep = flooded.deep;
    before = flooded.before;
  }

  module _ (end : ℕ) (way : Way ℕ ℕ) (leads : LeadsFromNear (λ n. n) (λ a. a) r end way) where
    near : (start : ℕ) × IsRoot (λ n. n) r.found start × IsWay (λ a. a) deeper start end way.nodes way.arcs
    near = leads net.nodes deeper [] flooded_so

    as_deep : (k x : ℕ) → slice_get way.nodes k ≡ Some x → Contains r.nodes x × (depth_at x ≡ k)
    as_deep zero x at =
        let same : near.0 ≡ x = same_Some near.0 x (sym near.2.first ∙ at) in
        (subst (Contains r.nodes) same (flooded.roots near.0 near.1), subst (λ n. depth_at n ≡ 0) same (ap depth_of near.1))
    as_deep (suc k) x at =
        let lt = slice_get_within way.nodes (suc k) x at in
        let many = near.2.one_more in
        let before = slice_get-some way.nodes k (omega (arith, lt)) in
        let arc = slice_get-some way.arcs k (omega (arith, lt, many)) in
        let n : suc k ≡ k + 1 = omega arith in
        let so_far = as_deep k before.0 before.1 in
        let is_arc = near.2.between k arc.0 before.0 x arc.1 before.1 (subst (λ i. slice_get way.nodes i ≡ Some x) n at) in
        let step = is_deeper arc.0 before.0 x so_far.0 is_arc in
        let own = step.is_arc in (
          reached (flooded.heads before.0 x so_far.0 (arc.0, own)),
          sym step.one_more ∙ ap (λ i. i + 1) so_far.1 ∙ sym n,
        )
      where
        reached : {y : ℕ} → Contains r.nodes y ⊎ Contains [] y → Contains r.nodes y
        reached (inl there) = there
        reached (inr none) = absurd (Contains-none _ none)

    pub way_once : IsOnce way.nodes
    way_once i j x at other = sym (as_deep i x at).1 ∙ (as_deep j x other).1
