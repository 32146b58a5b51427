-- The classes of ties are numbered from 1 to the greatest number of one.
use Rattle.std.proofs.Common.{◌≡◌, ◌↔◌, ◌⊎◌, inl, inr, ℕ, zero, suc, ◌+◌, ◌<◌, ◌≤◌, max, eqb, List, [], ◌∷◌, ◌++◌, map, Some, Contains, refl, sym, ap, ◌∙◌, subst, append_assoc, append-nil, arith}
use Rattle.std.specs.Prelude.{fold}
use Rattle.std.proofs.lemmas.Bool.{cases_Bool, cases_order, eqb-true}
use Rattle.std.proofs.lemmas.List.{length-map}
use Rattle.std.proofs.lemmas.List.Elements.{Contains-append_cases, Contains-append_left, Contains-append_right}
use Rattle.std.proofs.lemmas.List.Sums.{fold-append}
use Rattle.std.proofs.Math.ListN.{get_or-map}
use Rattle.relationships.specs.Graph.{Edge, edges}
use Rattle.relationships.specs.Evidence.{kept_from, paths_of}
use Rattle.relationships.specs.Givens.{returns}
use Rattle.ties.specs.declared.tie.Tie.{Tie}
use Rattle.ties.specs.Tied.{Begins, Joins, classes, first_in_class}
use Rattle.ties.specs.declared.table.TieLine.{TieLine}
use Rattle.ties.specs.Ties.{tie_line_of}
use Rattle.ties.specs.TiesText.{ClassCountLaw, class_count}

-- ---- ties

-- the numbers from 1 to the greatest are classes, and no others are
record AreNumbered (ts : List Tie) : Type 0 where
  all : (n : ℕ) → 1 ≤ n → n ≤ classes ts → (t : Tie) × Contains ts t × (t.class ≡ n)
  within : (t : Tie) → Contains ts t → (1 ≤ t.class) × (t.class ≤ classes ts)

none_numbered : AreNumbered []
none_numbered = record { all = λ n one le. absurd (omega (arith, one, le)); within = λ t c. absurd (omega (arith, c.1)) }

first_there : (number : ℕ) (ts : List Tie) (edge : ℕ) → first_in_class number ts ≡ Some edge → (t : Tie) × Contains ts t × (t.class ≡ number)
first_there number [] edge is = absurd (cc is)
first_there number (t ∷ ts) edge is =
    elim (cases_Bool (eqb t.class number)) [
      | inl same ↦ (t, (0, omega arith, refl), eqb-true t.class number same)
      | inr other ↦ let r = first_there number ts edge (rw other at is) in (r.0, (suc r.1.0, omega (arith, r.1.1), r.1.2), r.2)
    ]

only_one : (t u : Tie) → Contains (t ∷ []) u → t ≡ u
only_one t u (zero, lt, is) = is
only_one t u (suc k, lt, is) = absurd (omega (arith, lt))

module _ (kept : List (List ℕ)) (es : List Edge) where
  one_more : (before : List Tie) (t : Tie) → AreNumbered before → Begins kept es before t ⊎ Joins kept es before t → AreNumbered (before ++ t ∷ [])
  one_more before t so (inl begins) = record { all = every; within = inside }
    where
      most : classes (before ++ t ∷ []) ≡ max (classes before) t.class
      most = fold-append (λ n (u : Tie). max n u.class) 0 before (t ∷ [])

      every : (n : ℕ) → 1 ≤ n → n ≤ classes (before ++ t ∷ []) → (u : Tie) × Contains (before ++ t ∷ []) u × (u.class ≡ n)
      every n one le =
          elim (cases_order n (classes before + 1)) [
            | inl equal ↦ (t, Contains-append_right before (t ∷ []) t (0, omega arith, refl), begins.next ∙ sym equal)
            | inr o ↦ elim o [
              | inl lt ↦ let old = so.all n one (omega (arith, lt)) in (old.0, Contains-append_left before (t ∷ []) old.0 old.1, old.2)
              | inr gt ↦ let m = most in let next = begins.next in absurd (omega (arith, m, next, le, gt))
            ]
          ]

      inside : (u : Tie) → Contains (before ++ t ∷ []) u → (1 ≤ u.class) × (u.class ≤ classes (before ++ t ∷ []))
      inside u c =
          let m = most in
          elim (Contains-append_cases before (t ∷ []) u c) [
            | inl old ↦ let w = so.within u old in let a = w.0 in let b = w.1 in (a, omega (arith, m, b))
            | inr new ↦ let e : t.class ≡ u.class = ap (λ (v : Tie). v.class) (only_one t u new) in let next = begins.next in (omega (arith, e, next), omega (arith, e, m))
          ]
  one_more before t so (inr joins) = record { all = every; within = inside }
    where
      there : (u : Tie) × Contains before u × (u.class ≡ t.class)
      there = first_there t.class before joins.0 joins.1

      least : 1 ≤ t.class
      least = let e = there.2 in let a = (so.within there.0 there.1).0 in omega (arith, e, a)

      most : classes (before ++ t ∷ []) ≡ classes before
      most =
          let e = there.2 in let b = (so.within there.0 there.1).1 in
          let m : classes (before ++ t ∷ []) ≡ max (classes before) t.class = fold-append (λ n (u : Tie). max n u.class) 0 before (t ∷ []) in
          omega (arith, e, b, m)

      every : (n : ℕ) → 1 ≤ n → n ≤ classes (before ++ t ∷ []) → (u : Tie) × Contains (before ++ t ∷ []) u × (u.class ≡ n)
      every n one le =
          let m = most in
          let old = so.all n one (omega (arith, le, m)) in (old.0, Contains-append_left before (t ∷ []) old.0 old.1, old.2)

      inside : (u : Tie) → Contains (before ++ t ∷ []) u → (1 ≤ u.class) × (u.class ≤ classes (before ++ t ∷ []))
      inside u c =
          let m = most in
          elim (Contains-append_cases before (t ∷ []) u c) [
            | inl old ↦ let w = so.within u old in let a = w.0 in let b = w.1 in (a, omega (arith, m, b))
            | inr new ↦
                let e : t.class ≡ u.class = ap (λ (v : Tie). v.class) (only_one t u new) in
                let a = least in let b = (so.within there.0 there.1).1 in let f = there.2 in
                (omega (arith, e, a), omega (arith, e, m, b, f))
          ]

  all_numbered : (before after : List Tie) → ((b : List Tie) (t : Tie) (a : List Tie) → before ++ after ≡ b ++ (t ∷ a) → Begins kept es b t ⊎ Joins kept es b t) →
      AreNumbered before → AreNumbered (before ++ after)
  all_numbered before [] placed so = subst AreNumbered (sym (append-nil before)) so
  all_numbered before (t ∷ rest) placed so =
      subst AreNumbered (append_assoc before (t ∷ []) rest)
      (all_numbered (before ++ t ∷ []) rest (λ b u a e. placed b u a (sym (append_assoc before (t ∷ []) rest) ∙ e)) (one_more before t so (placed before t rest refl)))

-- ---- lines

same_count : (es : List Edge) (n : ℕ) (ts : List Tie) → fold (λ n (l : TieLine). max n l.class) n (map (tie_line_of es) ts) ≡ fold (λ n (t : Tie). max n t.class) n ts
same_count es n [] = refl
same_count es n (t ∷ ts) = same_count es (max n t.class) ts

mapped : (f : Tie → TieLine) (ts : List Tie) (t : Tie) → Contains ts t → Contains (map f ts) (f t)
mapped f ts t (k, lt, is) = (k, subst (λ n. k < n) (sym (length-map ts f)) lt, get_or-map f ts k t ∙ ap f is)

unmapped : (f : Tie → TieLine) (ts : List Tie) (line : TieLine) → Contains (map f ts) line → (t : Tie) × Contains ts t × (f t ≡ line)
unmapped f [] line (k, lt, is) = absurd (omega (arith, lt))
unmapped f (t ∷ ts) line (zero, lt, is) = (t, (0, omega arith, refl), is)
unmapped f (t ∷ ts) line (suc k, lt, is) = let r = unmapped f ts line (k, omega (arith, lt), is) in (r.0, (suc r.1.0, omega (arith, r.1.1), r.1.2), r.2)

pub class_count_law : ClassCountLaw
class_count_law givens paths lines number of =
    let (ts, are, is) = of in
    let f : Tie → TieLine = tie_line_of (edges paths) in
    let numbered = all_numbered (returns paths givens ++ paths_of (kept_from 1 paths are.keeps)) (edges paths) [] ts are.by.ties.placed none_numbered in
    let same = same_count (edges paths) 0 ts in
    subst (λ (ls : List TieLine). ((1 ≤ number) × (number ≤ class_count ls)) ↔ ((line : TieLine) × Contains ls line × (line.class ≡ number))) (sym is) (
      λ h. let r = numbered.all number h.0 (subst (λ n. number ≤ n) same h.1) in (f r.0, mapped f ts r.0 r.1, r.2),
      λ h.
          let r = unmapped f ts h.0 h.1 in
          let w = numbered.within r.0 r.1 in
          let c : r.0.class ≡ number = ap (λ (l : TieLine). l.class) r.2 ∙ h.2 in
          (subst (λ n. 1 ≤ n) c w.0, subst (λ n. number ≤ n) (sym same) (subst (λ n. n ≤ classes ts) c w.1)),
    )
