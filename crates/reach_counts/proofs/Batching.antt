-- The numbers of 64 classes.
use Rattle.std.proofs.Common.{◌≡◌, ◌&&◌, inl, inr, ℕ, ◌+◌, ◌<◌, Bool, true, false, get_or, List, ◌++◌, Some, length, refl, sym, ap, ◌∙◌, subst, arith, IfOk, Result, Ok, Err}
use Rattle.std.specs.Prelude.{slice_get, nat_eq, OnOk}
use Rattle.std.specs.Int.{bit_at}
use Rattle.std.specs.List.{count_by}
use Rattle.std.proofs.lemmas.Bool.{false≢true}
use Rattle.std.proofs.lemmas.Bool.Decides.{eqb_tells}
use Rattle.std.proofs.lemmas.Option.{slice_get_within, get_or_from_slice_get}
use Rattle.tor_arena.proofs.Gets.{slice_get-append_cases, slice_get-some}
use Rattle.tor_digraph.specs.Walks.{Net, IsInside}
use Rattle.tor_solve.specs.Classes.{Classes, IsComponents}
use Rattle.reach_counts.specs.Condensing.{IsOfClass, IsCondensed}
use Rattle.reach_counts.specs.Masks.{HasBit, AreReachBits, AreClassCounts, from_base, is_counted}
use Rattle.reach_counts.specs.Ranges.{upto}
use Rattle.reach_counts.specs.ReachCounts.{HasMark, is_marked, IsReachedCount, AreReachedCounts}
use Rattle.reach_counts.proofs.Condensations.{class-of, class-below, down, up}
use Rattle.reach_counts.proofs.Picking.{counted, marked-is, is-marked, at-upto, has-upto, once-upto}
use Rattle.reach_counts.proofs.Reaching.{reached-inside}

both : (a b : Bool) → a && b ≡ true → (a ≡ true) × (b ≡ true)
both true b e = (refl, e)
both false b e = absurd (false≢true e)

and-true : (a b : Bool) → a ≡ true → b ≡ true → a && b ≡ true
and-true true b e f = f
and-true false b e f = absurd (false≢true e)

pub is-one : (b : ℕ) → nat_eq b 1 ≡ true → b ≡ 1
is-one b e = elim (eqb_tells b 1) [ inl p ↦ p.1 | inr p ↦ absurd (false≢true (sym p.0 ∙ e)) ]

pub one-is : (b : ℕ) → b ≡ 1 → nat_eq b 1 ≡ true
one-is b e = elim (eqb_tells b 1) [ inl p ↦ p.0 | inr p ↦ absurd (p.1 e) ]

module _ (marks : List Bool) (net : Net ℕ) (c : Classes) (other : Net ℕ) (parts : IsComponents (λ n. n) net c) (cond : IsCondensed net c other)
    (inside : IsInside (λ n. n) net) (as_many : length marks ≡ net.nodes) (masks : List ℕ) (base : ℕ) (bits : AreReachBits other (from_base base) masks)
    (enough : length masks ≡ other.nodes) where
  -- a node is counted exactly if it is marked and its class has the bit
  bit-of : (j y k : ℕ) → IsOfClass c.of y k → is_counted marks c.of masks j y ≡ true → HasBit masks k j
  bit-of j y k h t =
      let two = both (is_marked marks y) (nat_eq (bit_at (get_or masks (get_or c.of y 0) 0) j) 1) t in
      let one_bit = is-one (bit_at (get_or masks (get_or c.of y 0) 0) j) two.1 in
      let class : get_or c.of y 0 ≡ k = get_or_from_slice_get c.of y k 0 h in
      let lt = class-below net c other parts cond y k h in
      let m = slice_get-some masks k (omega (arith, lt, enough)) in
      let word : get_or masks (get_or c.of y 0) 0 ≡ m.0 = ap (λ z. get_or masks z 0) class ∙ get_or_from_slice_get masks k m.0 0 m.1 in
      (m.0, m.1, ap (λ z. bit_at z j) (sym word) ∙ one_bit)

  of-bit : (j y k : ℕ) → IsOfClass c.of y k → HasMark marks y → HasBit masks k j → is_counted marks c.of masks j y ≡ true
  of-bit j y k h marked b =
      let class : get_or c.of y 0 ≡ k = get_or_from_slice_get c.of y k 0 h in
      let word : get_or masks (get_or c.of y 0) 0 ≡ b.0 = ap (λ z. get_or masks z 0) class ∙ get_or_from_slice_get masks k b.0 0 b.1 in
      and-true (is_marked marks y) (nat_eq (bit_at (get_or masks (get_or c.of y 0) 0) j) 1) (marked-is marks y marked)
      (one-is (bit_at (get_or masks (get_or c.of y 0) 0) j) (ap (λ z. bit_at z j) word ∙ b.2))

  pub batch-count : (j n x : ℕ) → j < 64 → IsOfClass c.of x (base + j) → n ≡ count_by (is_counted marks c.of masks j) (upto (length marks)) → IsReachedCount marks net x n
  batch-count j n x lane h is =
      let source = class-below net c other parts cond x (base + j) h in
      let at_x = slice_get_within c.of x (base + j) h in
      let many = parts.many in
      let there : x < net.nodes = omega (arith, at_x, many) in
      counted marks net x (is_counted marks c.of masks j) (upto (length marks)) n (once-upto (length marks))
      (λ y has t.
      let lt = (at-upto (length marks) has.0 y has.1).1 in
      let k = class-of net c other parts cond y (omega (arith, lt, as_many)) in
      let below = class-below net c other parts cond y k.0 k.1 in
      let two = both (is_marked marks y) (nat_eq (bit_at (get_or masks (get_or c.of y 0) 0) j) 1) t in
      let r = (bits k.0 j below lane source).0 (bit-of j y k.0 k.1 t) in
      (up net c other parts cond (base + j) k.0 r x y h k.1, is-marked marks y lt two.0))
      (λ y r m.
      let lt = reached-inside net x y inside there r in
      let k = class-of net c other parts cond y lt in
      let below = class-below net c other parts cond y k.0 k.1 in
      let on = down net c other parts cond inside x y (base + j) k.0 there r h k.1 in
      ((y, has-upto (length marks) y (omega (arith, lt, as_many))), of-bit j y k.0 k.1 m ((bits k.0 j below lane source).1 on)))
      is

  -- 64 classes more
  pub batch-next : (old columns new : List ℕ) → base ≡ length old → length columns ≡ 64 →
      ((j n : ℕ) → slice_get columns j ≡ Some n → n ≡ count_by (is_counted marks c.of masks j) (upto (length marks))) →
      AreClassCounts marks net c old → new ≡ old ++ columns → AreClassCounts marks net c new
  batch-next old columns new starts lanes each before is k n x at h =
      elim (slice_get-append_cases old columns k n (ap (λ l. slice_get l k) (sym is) ∙ at)) [
        | inl first ↦ before k n x first h
        | inr w ↦
            let lt = slice_get_within columns w.0 n w.2 in
            let e = w.1 in
            let same : k ≡ base + w.0 = omega (arith, e, starts) in
            batch-count w.0 n x (omega (arith, lt, lanes)) (subst (λ z. IsOfClass c.of x z) same h) (each w.0 n w.2)
      ]

-- each node has the number of its class
pub by-classes : (marks : List Bool) (net : Net ℕ) (c : Classes) (classes counts : List ℕ) → IsComponents (λ n. n) net c → AreClassCounts marks net c classes →
    length counts ≡ net.nodes → ((x n : ℕ) → slice_get counts x ≡ Some n → (k : ℕ) × IsOfClass c.of x k × (slice_get classes k ≡ Some n)) →
    AreReachedCounts marks net counts
by-classes marks net c classes counts parts class_counts many each = record {
  length_is = many;
  each = λ x n at. (let w = each x n at in class_counts w.0 n x w.2 w.1);
}

pub on_ok : {T E : Type 0} {P Q : Type 0} (r : Result T E) → (P → Q) → OnOk r P → OnOk r Q
on_ok (Ok x) f h = f h
on_ok (Err e) f h = h

pub by-classes_ok : {E : Type 0} (r : Result (List ℕ) E) (marks : List Bool) (net : Net ℕ) (c : Classes) (classes : List ℕ) (count : ℕ) → count ≡ net.nodes →
    IsComponents (λ n. n) net c → AreClassCounts marks net c classes → IfOk r (λ counts. length counts ≡ count) →
    IfOk r (λ counts. (x n : ℕ) → slice_get counts x ≡ Some n → (k : ℕ) × IsOfClass c.of x k × (slice_get classes k ≡ Some n)) →
    IfOk r (λ counts. AreReachedCounts marks net counts)
by-classes_ok (Ok counts) marks net c classes count is parts class_counts many each = by-classes marks net c classes counts parts class_counts (many ∙ is) each
by-classes_ok (Err e) marks net c classes count is parts class_counts many each = many
