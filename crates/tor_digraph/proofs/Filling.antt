-- Arcs that are put into rows.
use Rattle.std.proofs.Common.{◌≡◌, ◌≢◌, ℕ, zero, suc, ◌+◌, ◌-◌, ◌<◌, ◌≤◌, inl, inr, List, [], ◌∷◌, Some, length, take, drop, set, refl, sym, ◌∙◌, ap, subst, arith, length-set}
use Rattle.std.specs.Prelude.{slice_get, replicate}
use Rattle.std.proofs.lemmas.Bool.{cases_eq, cases_order}
use Rattle.std.proofs.lemmas.List.{take_all, length-drop, length-take-le}
use Rattle.std.proofs.lemmas.Option.{slice_get_within}
use Rattle.tor_digraph.specs.Walks.{IsArc}
use Rattle.tor_digraph.specs.InRows.{count_at, count_before, IsFilled, IsRow}
use Rattle.tor_arena.proofs.Gets.{slice_get-set_cases, slice_get-set_same, slice_get-set_other, slice_get-replicate, slice_get-take, slice_get-take_back}
use Rattle.tor_digraph.proofs.Closings.{same_arc}
use Rattle.tor_digraph.proofs.Counts.{before-next, before-none, before-le, before-few, at-few, at-take, at-more, at-same}

-- ---- the ends of the rows

module _ {N : Type 0} (place : N → ℕ) (arcs : List (N × N)) where
  -- the first arcs are counted, so many
  pub record AreCounted (nodes upto : ℕ) (counts : List ℕ) : Type 0 where
    pub many : length counts ≡ nodes + 1
    pub counted : (u n : ℕ) → slice_get counts u ≡ Some n → n ≡ count_at place (take upto arcs) u

  pub counting-begins : (nodes : ℕ) (counts : List ℕ) → counts ≡ replicate (nodes + 1) 0 → length counts ≡ nodes + 1 → AreCounted nodes 0 counts
  counting-begins nodes counts e many = record {
    many = many;
    counted = λ u n at. slice_get-replicate (nodes + 1) 0 u n (subst (λ l. slice_get l u ≡ Some n) e at);
  }

  pub counting-next : (nodes upto : ℕ) (counts : List ℕ) (e : N × N) (n : ℕ) → AreCounted nodes upto counts → slice_get arcs upto ≡ Some e →
      slice_get counts (place e.0) ≡ Some n → AreCounted nodes (upto + 1) (set counts (place e.0) (n + 1))
  counting-next nodes upto counts e n so at at-n = record {
    many = length-set counts (place e.0) (n + 1) ∙ so.many;
    counted = λ u m at-m. elim (slice_get-set_cases counts (place e.0) (n + 1) u m at-m) [
      | inl p ↦ (let a = so.counted (place e.0) n at-n in let b = at-more place arcs upto e (place e.0) at refl in
          subst (λ v. m ≡ count_at place (take (upto + 1) arcs) v) (sym p.0) (let is = p.1 in omega (arith, is, a, b)))
      | inr p ↦ so.counted u m p.1 ∙ sym (at-same place arcs upto e u at (λ same. p.0 (sym same)))
    ];
  }

  -- no count is more than the number of arcs
  pub counting-few : (nodes upto : ℕ) (counts : List ℕ) (e : N × N) (n : ℕ) → AreCounted nodes upto counts → slice_get arcs upto ≡ Some e →
      slice_get counts (place e.0) ≡ Some n → n + 1 ≤ length arcs
  counting-few nodes upto counts e n so at at-n =
      let a = so.counted (place e.0) n at-n in
      let b = at-more place arcs upto e (place e.0) at refl in
      let c = at-take place arcs (upto + 1) (place e.0) in
      let d = at-few place arcs (place e.0) in
      omega (arith, a, b, c, d)

  -- the counts of the first places are summed up, so many
  pub record AreSummed (nodes upto sum : ℕ) (ends : List ℕ) : Type 0 where
    pub many : length ends ≡ nodes + 1
    pub total : sum ≡ count_before place arcs upto
    pub summed : (u n : ℕ) → u < upto → slice_get ends u ≡ Some n → n ≡ count_before place arcs (u + 1)
    pub counted : (u n : ℕ) → upto ≤ u → slice_get ends u ≡ Some n → n ≡ count_at place arcs u

  pub summing-begins : (nodes upto : ℕ) (counts : List ℕ) → AreCounted nodes upto counts → length arcs ≤ upto → AreSummed nodes 0 0 counts
  summing-begins nodes upto counts so le = record {
    many = so.many;
    total = sym (before-none place arcs);
    summed = λ u n lt. absurd (omega (arith, lt));
    counted = λ u n ge at. so.counted u n at ∙ ap (λ l. count_at place l u) (take_all upto arcs le);
  }

  pub summing-next : (nodes upto sum : ℕ) (ends : List ℕ) (n : ℕ) → AreSummed nodes upto sum ends → slice_get ends upto ≡ Some n →
      AreSummed nodes (upto + 1) (sum + n) (set ends upto (sum + n))
  summing-next nodes upto sum ends n so at =
      let total : sum + n ≡ count_before place arcs (upto + 1) =
      (let a = so.total in let b = so.counted upto n (omega arith) at in let c = before-next place arcs upto in omega (arith, a, b, c)) in
      record {
        many = length-set ends upto (sum + n) ∙ so.many;
        total = total;
        summed = λ u m lt at-m. elim (slice_get-set_cases ends upto (sum + n) u m at-m) [
          | inl p ↦ p.1 ∙ total ∙ ap (λ v. count_before place arcs (v + 1)) (sym p.0)
          | inr p ↦ (let ne = p.0 in so.summed u m (omega (arith, lt, ne)) p.1)
        ];
        counted = λ u m ge at-m. elim (slice_get-set_cases ends upto (sum + n) u m at-m) [
          | inl p ↦ absurd (let is = p.0 in omega (arith, ge, is))
          | inr p ↦ so.counted u m (omega (arith, ge)) p.1
        ];
      }

  -- no sum is more than the number of arcs
  pub summing-few : (nodes upto sum : ℕ) (ends : List ℕ) (n : ℕ) → AreSummed nodes upto sum ends → slice_get ends upto ≡ Some n → sum + n ≤ length arcs
  summing-few nodes upto sum ends n so at =
      let a = so.total in
      let b = so.counted upto n (omega arith) at in
      let c = before-next place arcs upto in
      let d = before-few place arcs (upto + 1) in
      omega (arith, a, b, c, d)

-- ---- filling

module _ {N A : Type 0} (place : N → ℕ) (spot : A → ℕ) (one : (u v : N) → place u ≡ place v → u ≡ v) (arcs : List (N × N)) where
  pub filling-begins : (left : ℕ) (ends : List ℕ) (rows : List (A × N)) → ((u end : ℕ) → slice_get ends u ≡ Some end → end ≡ count_before place arcs (u + 1)) →
      length rows ≡ length arcs → left ≡ length arcs → IsFilled place spot arcs left ends rows
  filling-begins left ends rows so many all =
      record {
        starts_at = λ u s at-s. so u s at-s ∙ full u;
        as_many = many;
        only = λ u p e ge lt. absurd (let is = full (place u) in omega (arith, ge, lt, is));
        each = λ k u v ge arc. absurd (let lt = slice_get_within arcs k (u, v) arc in omega (arith, ge, lt, all));
      }
    where
      full : (u : ℕ) → count_before place arcs (u + 1) ≡ count_before place arcs u + count_at place (take left arcs) u
      full u = before-next place arcs u ∙ ap (λ l. count_before place arcs u + count_at place l u) (sym (take_all left arcs (omega (arith, all))))

  module _ (left : ℕ) (starts : List ℕ) (rows : List (A × N)) (so : IsFilled place spot arcs (left + 1) starts rows) (tail head : N) (arc : IsArc arcs left tail head)
      (s : ℕ) (at-s : slice_get starts (place tail) ≡ Some s) where
    -- where the arc goes
    pub filling-room : s ≡ count_before place arcs (place tail) + count_at place (take left arcs) (place tail) + 1
    filling-room =
        let a = so.starts_at (place tail) s at-s in
        let b = at-more place arcs left (tail, head) (place tail) arc refl in
        omega (arith, a, b)

    filling-end : s ≤ count_before place arcs (place tail + 1)
    filling-end =
        let a = so.starts_at (place tail) s at-s in
        let b = at-take place arcs (left + 1) (place tail) in
        let c = before-next place arcs (place tail) in
        omega (arith, a, b, c)

    pub filling-few : s ≤ length rows
    filling-few = (let a = filling-end in let b = before-few place arcs (place tail + 1) in let c = so.as_many in omega (arith, a, b, c))

    -- no other row has that place
    filling-own : (u : N) (p : ℕ) → count_before place arcs (place u) ≤ p → p < count_before place arcs (place u + 1) → p ≡ s - 1 → place u ≡ place tail
    filling-own u p ge lt is = elim (cases_order (place u) (place tail)) [
      | inl same ↦ same
      | inr o ↦ elim o [
        | inl less ↦
            let a = before-le place arcs (place u + 1) (place tail) (omega (arith, less)) in
            let b = filling-room in
            absurd (omega (arith, a, b, lt, is))
        | inr more ↦
            let a = before-le place arcs (place tail + 1) (place u) (omega (arith, more)) in
            let b = filling-room in
            let c = filling-end in
            absurd (omega (arith, a, b, c, ge, is))
      ]
    ]

    pub filling-next : (a : A) → spot a ≡ left → IsFilled place spot arcs left (set starts (place tail) (s - 1)) (set rows (s - 1) (a, head))
    filling-next a is-spot = record {
      starts_at = λ u n at-n. elim (slice_get-set_cases starts (place tail) (s - 1) u n at-n) [
        | inl p ↦ (let room = filling-room in let is = p.1 in
            subst (λ v. n ≡ count_before place arcs v + count_at place (take left arcs) v) (sym p.0) (omega (arith, room, is)))
        | inr p ↦ so.starts_at u n p.1 ∙ ap (λ m. count_before place arcs u + m) (at-same place arcs left (tail, head) u arc (λ same. p.0 (sym same)))
      ];
      as_many = length-set rows (s - 1) (a, head) ∙ so.as_many;
      only = λ u p e ge lt at-p. elim (slice_get-set_cases rows (s - 1) (a, head) p e at-p) [
        | inl q ↦
            let mine = one u tail (filling-own u p (omega (arith, ge)) lt q.0) in
            subst (λ (d : A × N). IsArc arcs (spot d.0) u d.1) (sym q.1)
            (subst (λ v. IsArc arcs (spot a) v head) (sym mine) (subst (λ k. IsArc arcs k tail head) (sym is-spot) arc))
        | inr q ↦ elim (cases_eq (place tail) (place u)) [
          | inl same ↦
              let more = at-more place arcs left (tail, head) (place u) arc same in
              let room = subst (λ v. s ≡ count_before place arcs v + count_at place (take left arcs) v + 1) same filling-room in
              let ne = q.0 in
              so.only u p e (omega (arith, more, room, ge, ne)) lt q.1
          | inr other ↦ (let still = at-same place arcs left (tail, head) (place u) arc other in so.only u p e (omega (arith, still, ge)) lt q.1)
        ]
      ];
      each = λ k u v ge at-k. elim (cases_eq k left) [
        | inl same ↦
            let ends = same_arc arcs left u v tail head (subst (λ i. IsArc arcs i u v) same at-k) arc in
            let room = filling-room in
            let end = filling-end in
            let few = filling-few in
            let here : slice_get (set rows (s - 1) (a, head)) (s - 1) ≡ Some (a, head) = slice_get-set_same rows (s - 1) (a, head) (omega (arith, room, few)) in (
              s - 1,
              a,
              subst (λ w. count_before place arcs (place w) + count_at place (take left arcs) (place w) ≤ s - 1) (sym ends.0) (omega (arith, room)),
              subst (λ w. s - 1 < count_before place arcs (place w + 1)) (sym ends.0) (omega (arith, room, end)),
              subst (λ w. slice_get (set rows (s - 1) (a, head)) (s - 1) ≡ Some (a, w)) (sym ends.1) here,
              is-spot ∙ sym same,
            )
        | inr other ↦
            let w = so.each k u v (omega (arith, ge, other)) at-k in
            let low = w.2 in
            let lower : count_at place (take left arcs) (place u) ≤ count_at place (take (left + 1) arcs) (place u) = rises u in
            let apart : w.0 ≢ s - 1 = λ is. (
            let mine = filling-own u w.0 (omega (arith, low)) w.3 is in
            let a-lot = subst (λ v. count_before place arcs v + count_at place (take (left + 1) arcs) v ≤ w.0) mine w.2 in
            let full = so.starts_at (place tail) s at-s in
            let room = filling-room in
            omega (arith, a-lot, full, is, room)
            ) in
            (w.0, w.1, omega (arith, low, lower), w.3, slice_get-set_other rows (s - 1) (a, head) w.0 apart ∙ w.4, w.5)
      ];
    }
      where
        rises : (u : N) → count_at place (take left arcs) (place u) ≤ count_at place (take (left + 1) arcs) (place u)
        rises u = elim (cases_eq (place tail) (place u)) [
          | inl same ↦ (let more = at-more place arcs left (tail, head) (place u) arc same in omega (arith, more))
          | inr other ↦ (let still = at-same place arcs left (tail, head) (place u) arc other in omega (arith, still))
        ]

-- ---- reading a row

slice_get-drop : {X : Type 0} (n : ℕ) (xs : List X) (k : ℕ) → slice_get (drop n xs) k ≡ slice_get xs (n + k)
slice_get-drop zero xs k = ap (slice_get xs) (let same : k ≡ 0 + k = omega arith in same)
slice_get-drop (suc n) [] k = refl
slice_get-drop (suc n) (x ∷ xs) k = slice_get-drop n xs k ∙ ap (slice_get (x ∷ xs)) (let same : suc (n + k) ≡ suc n + k = omega arith in same)

module _ {N A : Type 0} (place : N → ℕ) (spot : A → ℕ) (arcs : List (N × N)) (starts : List ℕ) (rows : List (A × N)) (so : IsFilled place spot arcs 0 starts rows)
    (node : N) (s t : ℕ) (at-s : slice_get starts (place node) ≡ Some s) (at-t : slice_get starts (place node + 1) ≡ Some t) where
  pub start-is : s ≡ count_before place arcs (place node)
  start-is = (let a = so.starts_at (place node) s at-s in let none : count_at place (take 0 arcs) (place node) ≡ 0 = refl in omega (arith, a, none))

  pub end-is : t ≡ count_before place arcs (place node + 1)
  end-is = (let a = so.starts_at (place node + 1) t at-t in let none : count_at place (take 0 arcs) (place node + 1) ≡ 0 = refl in omega (arith, a, none))

  pub row-order : s ≤ t
  row-order = (let a = start-is in let b = end-is in let c = before-next place arcs (place node) in omega (arith, a, b, c))

  pub row-within : t ≤ length rows
  row-within = (let a = end-is in let b = before-few place arcs (place node + 1) in let c = so.as_many in omega (arith, a, b, c))

  pub row-many : length (take (t - s) (drop s rows)) ≡ count_at place arcs (place node)
  row-many =
      let order = row-order in
      let within = row-within in
      let a = start-is in
      let b = end-is in
      let c = before-next place arcs (place node) in
      let d = length-drop s rows in
      let e = length-take-le (t - s) (drop s rows) (omega (arith, order, within, d)) in
      omega (arith, order, a, b, c, e)

  pub row-is : IsRow spot arcs node (take (t - s) (drop s rows))
  row-is = record {
    only = λ j e at-j. (
        let w = slice_get-take (t - s) (drop s rows) j e at-j in
        let lt = w.0 in
        let a = start-is in
        let b = end-is in
        let none : count_at place (take 0 arcs) (place node) ≡ 0 = refl in
        so.only node (s + j) e (omega (arith, a, none)) (omega (arith, lt, b)) (sym (slice_get-drop s rows j) ∙ w.1)
        );
    each = λ k head arc. (
        let w = so.each k node head (omega arith) arc in
        let low = w.2 in
        let high = w.3 in
        let a = start-is in
        let b = end-is in
        let ge : s ≤ w.0 = omega (arith, low, a) in
        let back : s + (w.0 - s) ≡ w.0 = omega (arith, ge) in (
          w.0 - s,
          w.1,
          slice_get-take_back (t - s) (drop s rows) (w.0 - s) (w.1, head) (omega (arith, ge, high, b)) (slice_get-drop s rows (w.0 - s) ∙ ap (slice_get rows) back ∙ w.4),
          w.5,
        )
        );
  }
