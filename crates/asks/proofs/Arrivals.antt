-- The numbers of the nodes that reach a node, 64 nodes more.
use Rattle.std.proofs.Common.{◌≡◌, inl, inr, ℕ, ◌+◌, ◌-◌, ◌<◌, ◌≤◌, List, [], ◌∷◌, ◌++◌, Some, suc, length, sym, ap, ◌∙◌, subst, arith, length-append}
use Rattle.std.specs.Prelude.{slice_get, replicate}
use Rattle.std.specs.Int.{bit_at}
use Rattle.std.proofs.lemmas.Bool.{cases_lt}
use Rattle.std.proofs.lemmas.Option.{same_Some, slice_get_within}
use Rattle.tor_arena.proofs.Gets.{has-from_Contains, Contains-from_has, slice_get-append_cases, slice_get-push_old, slice_get-replicate}
use Rattle.tor_digraph.specs.Walks.{Net, Reaches}
use Rattle.tor_digraph.specs.Closing.{Has, IsOnce}
use Rattle.tor_digraph.proofs.Few.{few}
use Rattle.tor_solve.specs.Classes.{Classes, IsComponents}
use Rattle.reach_counts.specs.Condensing.{IsOfClass}
use Rattle.reach_counts.specs.Masks.{AreNodeBits}
use Rattle.asks.specs.Arriving.{IsArrivalCount, AreArrivals, IsRaised}
use Rattle.asks.proofs.Ones.{bits_from, bit_of, has_bit_of, bits_once, bits_length}

-- ---- two lists behind each other

behind : (xs ys : List ℕ) (x : ℕ) → Has ys x → Has (xs ++ ys) x
behind [] ys x h = h
behind (a ∷ xs) ys x h = let r = behind xs ys x h in (suc r.0, r.1)

join_once : (xs ys : List ℕ) → IsOnce xs → IsOnce ys → ((x : ℕ) → Has xs x → Has ys x → ⊥) → IsOnce (xs ++ ys)
join_once xs ys a b apart i j x at_i at_j =
    elim (slice_get-append_cases xs ys i x at_i) [
      | inl p ↦ elim (slice_get-append_cases xs ys j x at_j) [
        | inl q ↦ a i j x p q
        | inr q ↦ absurd (apart x (i, p) (q.0, q.2))
      ]
      | inr p ↦ elim (slice_get-append_cases xs ys j x at_j) [
        | inl q ↦ absurd (apart x (j, q) (p.0, p.2))
        | inr q ↦ (let e = b p.0 q.0 x p.2 q.2 in let m = p.1 in let n = q.1 in omega (arith, e, m, n))
      ]
    ]

-- ---- counts

pub none_arrive : (net : Net ℕ) (of : List ℕ) (count : ℕ) (counts : List ℕ) → counts ≡ replicate count 0 → AreArrivals net of 0 counts
none_arrive net of count counts is x k n h at =
    let zero_is : n ≡ 0 = slice_get-replicate count 0 k n (ap (λ l. slice_get l k) (sym is) ∙ at) in
    record {
      nodes = [];
      once = λ i j y a b. absurd (cc a);
      exact = λ y. (λ c. (let lt = c.1 in absurd (omega (arith, lt))), λ r. (let lt = r.0 in absurd (omega (arith, lt))));
      many = sym zero_is;
    }

-- there are no more of them than nodes among which they are
pub few_arrive : (net : Net ℕ) (below node n : ℕ) → IsArrivalCount net below node n → n ≤ below
few_arrive net below node n h =
    let le = few (λ x. x) h.nodes below
    (λ i j x y lt a b e. let same = h.once i j y (a ∙ ap Some e) b in omega (arith, lt, same))
    (λ k x at. ((h.exact x).0 (Contains-from_has h.nodes x (k, at))).0) in
    let many = h.many in omega (arith, le, many)

module _ (net : Net ℕ) (c : Classes) (base : ℕ) (masks : List ℕ) (bits : AreNodeBits net c.of base masks) (room : base + 64 ≤ net.nodes) where
  -- 64 nodes more
  one_class : (x k n : ℕ) (old : List ℕ) → IsOfClass c.of x k → IsRaised masks old k n → ((m : ℕ) → slice_get old k ≡ Some m → IsArrivalCount net base x m) →
      IsArrivalCount net (base + 64) x n
  one_class x k n old h r before =
      let b = before r.was r.at_old in
      let more = bits_from 64 base r.mask in
      record {
        nodes = b.nodes ++ more;
        once = join_once b.nodes more b.once (bits_once 64 base r.mask) (λ y p q.
            let lt = ((b.exact y).0 (Contains-from_has b.nodes y p)).0 in
            let m = bit_of 64 base r.mask y q in let is = m.2 in omega (arith, lt, is));
        exact = λ y. (
          λ c.
              let g = has-from_Contains (b.nodes ++ more) y c in
              elim (slice_get-append_cases b.nodes more g.0 y g.1) [
                | inl p ↦ (let w = (b.exact y).0 (Contains-from_has b.nodes y (g.0, p)) in let lt = w.0 in (omega (arith, lt), w.1))
                | inr p ↦ of_bit y (p.0, p.2)
              ],
          λ w. Contains-from_has (b.nodes ++ more) y (
              let lt = w.0 in
              elim (cases_lt y base) [
                | inl less ↦ (
                    let g = has-from_Contains b.nodes y ((b.exact y).1 (less, w.1)) in
                    (g.0, slice_get-push_old b.nodes more g.0 y g.1)
                    )
                | inr le ↦ behind b.nodes more y (to_bit y le lt w.1)
              ]
              ),
        );
        many = (let l = length-append b.nodes more in let s = bits_length 64 base r.mask r.small in let was = b.many in let sum = r.sum in omega (arith, l, s, was, sum));
      }
    where
      of_bit : (y : ℕ) → Has (bits_from 64 base r.mask) y → (y < base + 64) × Reaches net.arcs y x
      of_bit y q =
          let m = bit_of 64 base r.mask y q in
          let lt = m.1 in let is = m.2 in
          (omega (arith, lt, is), subst (λ z. Reaches net.arcs z x) (sym is) ((bits x k m.0 lt (omega (arith, lt, room)) h).0 (r.mask, r.at_mask, m.3)))

      to_bit : (y : ℕ) → base ≤ y → y < base + 64 → Reaches net.arcs y x → Has (bits_from 64 base r.mask) y
      to_bit y le lt reached =
          let j = y - base in
          let is : base + j ≡ y = omega (arith, le) in
          let small : j < 64 = omega (arith, le, lt) in
          let hb = (bits x k j small (omega (arith, small, room)) h).1 (subst (λ z. Reaches net.arcs z x) (sym is) reached) in
          let same : hb.0 ≡ r.mask = same_Some hb.0 r.mask (sym hb.1 ∙ r.at_mask) in
          subst (Has (bits_from 64 base r.mask)) is (has_bit_of 64 base r.mask j small (ap (λ m. bit_at m j) (sym same) ∙ hb.2))

  pub more_arrive : (old new : List ℕ) → AreArrivals net c.of base old → ((k n : ℕ) → slice_get new k ≡ Some n → IsRaised masks old k n) →
      AreArrivals net c.of (base + 64) new
  more_arrive old new before raised x k n h at = one_class x k n old h (raised k n at) (λ m was. before x k m h was)

-- no number is greater than the nodes
pub all_few : (net : Net ℕ) (c : Classes) (below : ℕ) (counts : List ℕ) → IsComponents (λ n. n) net c → length counts ≡ c.count → AreArrivals net c.of below counts →
    (k n : ℕ) → slice_get counts k ≡ Some n → n ≤ below
all_few net c below counts parts many arrive k n at =
    let lt = slice_get_within counts k n at in
    let x = parts.each k (omega (arith, lt, many)) in
    few_arrive net below x.0 n (arrive x.0 k n x.1 at)
