-- The lines inside cycles are those of the classes of their ASes.
use Rattle.std.proofs.Common.{◌≡◌, ◌≢◌, ℕ, ◌+◌, ◌<◌, ◌≤◌, inl, inr, true, List, [], ◌∷◌, ◌++◌, length, take, get_or, Some, refl, sym, ap, ◌∙◌, subst, arith}
use Rattle.std.specs.Prelude.{slice_get, replicate, ◌&&◌}
use Rattle.std.proofs.lemmas.Bool.{cases_lt, false≢true}
use Rattle.std.proofs.lemmas.List.{length-replicate, length-append, take_more}
use Rattle.std.proofs.lemmas.Option.{same_Some, slice_get_within}
use Rattle.tor_arena.proofs.Gets.{slice_get-some, slice_get-replicate, slice_get-push_cases}
use Rattle.tor_digraph.specs.Walks.{Net}
use Rattle.tor_digraph.specs.Closing.{IsOnce}
use Rattle.tor_solve.specs.Classes.{Classes, IsComponents}
use Rattle.reach_counts.specs.Condensing.{IsOfClass}
use Rattle.reach_counts.specs.Cycles.{IsNextOfClass, AreClassLinks}
use Rattle.as_rel.specs.declared.line.RelKind.TheVariants.{Transit, Peering}
use Rattle.as_rel.specs.declared.line.RelLine.{RelLine}
use Rattle.as_rel.specs.Givens.{is_transit}
use Rattle.as_ranks.specs.Named.{IsNetOf}
use Rattle.as_ranks.specs.Cycles.{InConesOfEachOther, IsProviderCycle, is_member, is_inside}
use Rattle.as_ranks.specs.Linking.{IsNextInside, AreLinesLinked, HasClassOf, IsLineClass, AreLineClasses}
use Rattle.as_ranks.proofs.NetLemmas.{cone-reaches, member-reached}
use Rattle.as_ranks.proofs.Rising.{rising-at, rising-once}
use Rattle.as_ranks.proofs.LawLemmas.{in-has, has-in, decided, both-true, and-true}

-- ---- before the first link

pub linked-first : (of : List ℕ) (count : ℕ) (first next : List ℕ) → first ≡ replicate count (length of) → next ≡ replicate (length of) (length of) →
    AreClassLinks of (length first) (length of) first next
linked-first of count first next is_first is_next = record {
  classes = refl;
  nodes = ap length is_next ∙ length-replicate (length of) (length of);
  firsts = λ k r at.
      let e : r ≡ length of = slice_get-replicate count (length of) k r (ap (λ l. slice_get l k) (sym is_first) ∙ at) in record {
        there = λ lt. absurd (omega (arith, e, lt));
        none_before = λ z low lt c. absurd (omega (arith, e, low, lt));
        most = omega (arith, e);
      };
  nexts = λ y r k le at c. (let lt = slice_get_within of y k c in absurd (omega (arith, lt, le)));
}

-- ---- the class of a line

module _ (parts : Classes) (ases : List ℕ) (once : IsOnce ases) (l : RelLine) where
  pub peering-class : l.kind ≡ Peering → IsLineClass parts ases l parts.count
  peering-class peers c lt = (
    λ e. absurd (omega (arith, e, lt)),
    λ w. absurd (false≢true (sym (ap is_transit peers) ∙ w.0)),
  )

  module _ (transit : l.kind ≡ Transit) (x y j k : ℕ) (at_x : slice_get ases x ≡ Some l.first) (at_y : slice_get ases y ≡ Some l.second)
      (class_x : IsOfClass parts.of x j) (class_y : IsOfClass parts.of y k) where
    class-of-first : (c : ℕ) → HasClassOf parts ases l.first c → j ≡ c
    class-of-first c w = same_Some j c (sym class_x ∙ ap (slice_get parts.of) (once x w.0 l.first at_x w.1) ∙ w.2)

    class-of-second : (c : ℕ) → HasClassOf parts ases l.second c → k ≡ c
    class-of-second c w = same_Some k c (sym class_y ∙ ap (slice_get parts.of) (once y w.0 l.second at_y w.1) ∙ w.2)

    pub inside-class : j ≡ k → IsLineClass parts ases l j
    inside-class same c lt = (
      λ e. (ap is_transit transit, (x, at_x, class_x ∙ ap (λ z. Some z) e), (y, at_y, class_y ∙ ap (λ z. Some z) (sym same ∙ e))),
      λ w. class-of-first c w.1,
    )

    pub outside-class : j ≢ k → IsLineClass parts ases l parts.count
    outside-class differ c lt = (
      λ e. absurd (omega (arith, e, lt)),
      λ w. absurd (differ (class-of-first c w.1 ∙ sym (class-of-second c w.2))),
    )

-- one line more
pub classes-more : (parts : Classes) (ases : List ℕ) (lines : List RelLine) (k c : ℕ) (d : RelLine) (of new : List ℕ) → k < length lines → new ≡ of ++ c ∷ [] →
    IsLineClass parts ases (get_or lines k d) c → c < parts.count + 1 → AreLineClasses parts ases (take k lines) of → AreLineClasses parts ases (take (k + 1) lines) new
classes-more parts ases lines k c d of new lt is class small h =
    subst (λ ls. AreLineClasses parts ases ls new) (sym (take_more lines k d lt)) (subst (λ l. AreLineClasses parts ases (take k lines ++ get_or lines k d ∷ []) l) (sym is) (record {
      many = length-append of (c ∷ []) ∙ ap (λ n. n + 1) h.many ∙ sym (length-append (take k lines) (get_or lines k d ∷ []));
      below = λ y j at. elim (slice_get-push_cases of c y j at) [ inl old ↦ h.below y j old | inr last ↦ (let e = last.1 in omega (arith, e, small)) ];
      each = λ y j l at_line at. elim (slice_get-push_cases of c y j at) [
        | inl old ↦ (
            let within = slice_get_within of y j old in
            let many = h.many in
            elim (slice_get-push_cases (take k lines) (get_or lines k d) y l at_line) [
              | inl old_line ↦ h.each y j l old_line old
              | inr last ↦ (let e = last.0 in absurd (omega (arith, e, within, many)))
            ])
        | inr last ↦ (
            let many = h.many in
            elim (slice_get-push_cases (take k lines) (get_or lines k d) y l at_line) [
              | inl old_line ↦ (let within = slice_get_within (take k lines) y l old_line in let e = last.0 in absurd (omega (arith, e, within, many)))
              | inr last_line ↦ subst (λ z. IsLineClass parts ases z j) (sym last_line.1) (subst (IsLineClass parts ases (get_or lines k d)) (sym last.1) class)
            ])
      ];
    }))

-- ---- cycles and classes

module _ (rel : List RelLine) (ases : List ℕ) (net : Net ℕ) (parts : Classes) (h : IsNetOf rel ases net) (comps : IsComponents (λ n. n) net parts) where
  once : IsOnce ases
  once = rising-once ases (rising-at ases h.names.rising)

  mutual-same : (a b c : ℕ) → HasClassOf parts ases a c → HasClassOf parts ases b c → InConesOfEachOther rel a b
  mutual-same a b c u v =
      let r = (comps.same u.0 v.0 c c u.2 v.2).0 refl in
      ((cone-reaches rel ases net h.arcs once u.0 v.0 a b u.1 v.1).1 r.0, (cone-reaches rel ases net h.arcs once v.0 u.0 b a v.1 u.1).1 r.1)

  same-mutual : (a b c : ℕ) → HasClassOf parts ases a c → InConesOfEachOther rel a b → HasClassOf parts ases b c
  same-mutual a b c u m =
      let y = member-reached rel ases net h.arcs once a u.0 u.1 m.0 in
      let back = (cone-reaches rel ases net h.arcs once y.0 u.0 b a y.1 u.1).0 m.1 in
      let lt = slice_get_within ases y.0 b y.1 in
      let aligned = h.arcs.aligned in
      let many = comps.many in
      let k = slice_get-some parts.of y.0 (omega (arith, lt, aligned, many)) in
      let e = (comps.same u.0 y.0 c k.0 u.2 k.1).1 (y.2, back) in
      (y.0, y.1, k.1 ∙ ap (λ z. Some z) (sym e))

  module _ (row : List ℕ) (cycle : IsProviderCycle rel row) (a c : ℕ) (begins : slice_get row 0 ≡ Some a) (class : HasClassOf parts ases a c) where
    below : c < parts.count
    below = comps.below class.0 c class.2

    inside-is : (l : RelLine) (k : ℕ) → IsLineClass parts ases l k → is_inside row l ≡ true → k ≡ c
    inside-is l k is hit =
        let one_of = both-true (is_transit l.kind) (is_member row l.first && is_member row l.second) hit in
        let two = both-true (is_member row l.first) (is_member row l.second) one_of.1 in
        let first = (cycle.whole a l.first (0, begins)).0 (in-has row l.first two.0) in
        let second = (cycle.whole a l.second (0, begins)).0 (in-has row l.second two.1) in
        (is c below).1 (one_of.0, same-mutual a l.first c class first, same-mutual a l.second c class second)

    is-inside : (l : RelLine) (k : ℕ) → IsLineClass parts ases l k → k ≡ c → is_inside row l ≡ true
    is-inside l k is e =
        let w = (is c below).0 e in
        let first = (cycle.whole a l.first (0, begins)).1 (mutual-same a l.first c class w.1) in
        let second = (cycle.whole a l.second (0, begins)).1 (mutual-same a l.second c class w.2) in
        let f = has-in row first.0 l.first first.1 in
        let s = has-in row second.0 l.second second.1 in
        and-true (is_transit l.kind) (is_member row l.first && is_member row l.second) w.0 (and-true (is_member row l.first) (is_member row l.second) f s)

    module _ (of : List ℕ) (lines : AreLineClasses parts ases rel of) where
      pub next-inside : (low r : ℕ) → low ≤ length rel → IsNextOfClass of c low r → IsNextInside rel row low r
      next-inside low r fits n = record {
        later = (let many = lines.many in let most = n.most in elim (cases_lt r (length of)) [
          | inl lt ↦ (n.there lt).0
          | inr le ↦ omega (arith, le, fits, many)
        ]);
        most = (let many = lines.many in let most = n.most in omega (arith, most, many));
        none_before = λ k l le lt at. elim (decided (is_inside row l)) [
          | inr miss ↦ miss
          | inl hit ↦ (
              let within = slice_get_within rel k l at in
              let many = lines.many in
              let kk = slice_get-some of k (omega (arith, within, many)) in
              let e = inside-is l kk.0 (lines.each k kk.0 l at kk.1) hit in
              absurd (n.none_before k le lt (kk.1 ∙ ap (λ z. Some z) e)))
        ];
        inside = λ l at. (
            let within = slice_get_within rel r l at in
            let many = lines.many in
            let w = n.there (omega (arith, within, many)) in
            is-inside l c (lines.each r c l at w.1) refl);
      }

      pub next-behind : (first next : List ℕ) (k r : ℕ) (l : RelLine) → AreClassLinks of (parts.count + 1) 0 first next → slice_get rel k ≡ Some l → is_inside row l ≡ true →
          slice_get next k ≡ Some r → IsNextInside rel row (k + 1) r
      next-behind first next k r l linked at hit at_next =
          let within = slice_get_within rel k l at in
          let many = lines.many in
          let kk = slice_get-some of k (omega (arith, within, many)) in
          let e = inside-is l kk.0 (lines.each k kk.0 l at kk.1) hit in
          next-inside (k + 1) r (omega (arith, within)) (linked.nexts k r c (omega arith) at_next (kk.1 ∙ ap (λ z. Some z) e))

      -- the lines inside the cycle are linked
      pub cycle-linked : (first next : List ℕ) (r : ℕ) → AreClassLinks of (parts.count + 1) 0 first next → slice_get first c ≡ Some r → AreLinesLinked rel row r next
      cycle-linked first next r linked at = record {
        first = next-inside 0 r (omega arith) (linked.firsts c r at);
        nexts = λ k s l at_line hit at_next. next-behind first next k s l linked at_line hit at_next;
      }
