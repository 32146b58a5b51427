-- After any edges there is a picture.
use Rattle.std.proofs.Common.{◌≡◌, ℕ, zero, suc, ◌+◌, ◌-◌, ◌⊎◌, inl, inr, true, false, List, [], ◌∷◌, ◌++◌, length, get_or, map}
use Rattle.std.proofs.Common.{refl, sym, ap, ◌∙◌, subst, arith, All, Contains}
use Rattle.std.specs.List.{AllPairs}
use Rattle.std.specs.List.Sorted.{IsPermutation}
use Rattle.std.proofs.lemmas.Bool.{cases_eq, cases_order}
use Rattle.std.proofs.lemmas.List.Elements.{All-cons, All-nil}
use Rattle.std.proofs.lemmas.List.Sorted.{IsPermutation-refl, IsPermutation-cons, IsPermutation-swap, IsPermutation-trans, All-permutation}
use Rattle.tor_arena.proofs.Gets.{Contains-from_has, has-from_Contains, Contains-map, slice_get-unmap}
use Rattle.tor_numbers.specs.Slots.{IsInserted}
use Rattle.relationships.specs.declared.mark.Mark.TheVariants as mark
use Rattle.result_text.specs.declared.file.EdgeLine.{EdgeLine}
use Rattle.drawing.specs.declared.group.Group.{Group}
use Rattle.drawing.specs.declared.group.Neighbour.{Neighbour}
use Rattle.drawing.specs.Generations.{AreGenerations, IsGeneration, all_numbers, providers_above, topmost}
use Rattle.drawing.specs.Laws.{PictureLaw}
use Rattle.drawing.specs.Neighbours.{SortedNeighbours, IsNoLater, near_numbers, neighbours}
use Rattle.drawing.specs.Picture.{IsDrawn, drawing_by}
use Rattle.drawing.specs.Shifted.{HasNumbers}
use Rattle.drawing.proofs.Choosing.{AreChosen, none_chosen, one_chosen, one_left, all_chosen, choice_sorted}
use Rattle.drawing.proofs.Drawn.{drawn_of, drawn_tidy}
use Rattle.drawing.proofs.WellFormed.{picture_well_formed}
use Rattle.drawing.proofs.Leads.{picture_shows_links}
use Rattle.drawing.proofs.Marks.{picture_shows_marks}

-- ---- sorted neighbours

-- of two neighbours one doesn't come after the other
one_first : (n m : Neighbour) → IsNoLater n m ⊎ IsNoLater m n
one_first n m = elim (cases_order n.support m.support) [
  | inl e ↦ elim (cases_order n.number m.number) [
    | inl f ↦ inl (inr (sym e, omega (arith, f)))
    | inr o ↦ elim o [ inl lt ↦ inl (inr (sym e, omega (arith, lt))) | inr gt ↦ inr (inr (e, omega (arith, gt))) ]
  ]
  | inr o ↦ elim o [ inl lt ↦ inr (inl lt) | inr gt ↦ inl (inl gt) ]
]

after_both : (n m o : Neighbour) → IsNoLater n m → IsNoLater m o → IsNoLater n o
after_both n m o (inl lt) (inl lt') = inl (omega (arith, lt, lt'))
after_both n m o (inl lt) (inr (e, le)) = inl (omega (arith, lt, e))
after_both n m o (inr (e, le)) (inl lt) = inl (omega (arith, lt, e))
after_both n m o (inr (e, le)) (inr (e', le')) = inr (e' ∙ e, omega (arith, le, le'))

record Sorted (ns : List Neighbour) : Type 0 where
  all : List Neighbour
  same : IsPermutation ns all
  sorted : AllPairs IsNoLater all

-- the first comes after none, and the others are sorted
pairs_cons : (n : Neighbour) (ns : List Neighbour) → All (IsNoLater n) ns → AllPairs IsNoLater ns → AllPairs IsNoLater (n ∷ ns)
pairs_cons n ns first rest zero zero d less lt = absurd (omega (arith, less))
pairs_cons n ns first rest zero (suc j) d less lt = first j d (omega (arith, lt))
pairs_cons n ns first rest (suc i) zero d less lt = absurd (omega (arith, less))
pairs_cons n ns first rest (suc i) (suc j) d less lt = rest i j d (omega (arith, less)) (omega (arith, lt))

pairs_tail : (n : Neighbour) (ns : List Neighbour) → AllPairs IsNoLater (n ∷ ns) → AllPairs IsNoLater ns
pairs_tail n ns pairs i j d less lt = pairs (suc i) (suc j) d (omega (arith, less)) (omega (arith, lt))

pairs_head : (n : Neighbour) (ns : List Neighbour) → AllPairs IsNoLater (n ∷ ns) → All (IsNoLater n) ns
pairs_head n ns pairs i d lt = pairs zero (suc i) d (omega arith) (omega (arith, lt))

-- one more, in its place
inserted : (n : Neighbour) (ns : List Neighbour) → AllPairs IsNoLater ns → Sorted (n ∷ ns)
inserted n [] pairs = record { all = n ∷ []; same = IsPermutation-refl (n ∷ []); sorted = pairs_cons n [] (All-nil (IsNoLater n)) pairs }
inserted n (m ∷ ns) pairs = by (one_first n m) (inserted n ns (pairs_tail m ns pairs))
  where
    by : IsNoLater n m ⊎ IsNoLater m n → Sorted (n ∷ ns) → Sorted (n ∷ m ∷ ns)
    by (inl first) rest = record {
      all = n ∷ m ∷ ns;
      same = IsPermutation-refl (n ∷ m ∷ ns);
      sorted = pairs_cons n (m ∷ ns)
          (All-cons (IsNoLater n) m ns first (λ i d lt. after_both n m (get_or ns i d) first (pairs_head m ns pairs i d lt))) pairs;
    }
    by (inr later) rest = record {
      all = m ∷ rest.all;
      same = IsPermutation-trans (n ∷ m ∷ ns) (m ∷ n ∷ ns) (m ∷ rest.all)
          (IsPermutation-swap (n ∷ m ∷ ns) (m ∷ n ∷ ns) 0 1 (omega arith) (omega arith) refl)
          (IsPermutation-cons m (n ∷ ns) rest.all rest.same);
      sorted = pairs_cons m rest.all
          (All-permutation (IsNoLater m) (n ∷ ns) rest.all rest.same (All-cons (IsNoLater m) n ns later (pairs_head m ns pairs))) rest.sorted;
    }

sorted_of : (ns : List Neighbour) → Sorted ns
sorted_of [] = record { all = []; same = IsPermutation-refl []; sorted = λ i j d less lt. absurd (omega (arith, lt)) }
sorted_of (n ∷ ns) =
    let rest = sorted_of ns in
    let more = inserted n rest.all rest.sorted in
    record {
      all = more.all;
      same = IsPermutation-trans (n ∷ ns) (n ∷ rest.all) more.all (IsPermutation-cons n ns rest.all rest.same) more.same;
      sorted = more.sorted;
    }

in_order : (a : ℕ) (g : Group) (edges : List EdgeLine) → (ns : List Neighbour) × SortedNeighbours a g edges ns
in_order a g edges = let s = sorted_of (neighbours a g edges) in (s.all, record { same = s.same; sorted = s.sorted })

-- ---- the next generation

-- a number is there, or goes last
put : (n : ℕ) (set : List ℕ) → ((new : List ℕ) × IsInserted n set new true) ⊎ IsInserted n set set false
put n set = elim (contains_or_not set) [ inl there ↦ inr (there, refl) | inr not ↦ inl (set ++ n ∷ [], (not, refl)) ]
  where
    contains_or_not : (xs : List ℕ) → Contains xs n ⊎ (Contains xs n → ⊥)
    contains_or_not [] = inr (λ h. let (k, lt, e) = h in absurd (omega (arith, lt)))
    contains_or_not (x ∷ xs) = both (cases_eq x n) (contains_or_not xs)
      where
        both : (x ≡ n) ⊎ (x ≡ n → ⊥) → Contains xs n ⊎ (Contains xs n → ⊥) → Contains (x ∷ xs) n ⊎ (Contains (x ∷ xs) n → ⊥)
        both (inl e) rest = inl (0, omega arith, e)
        both (inr not) (inl (k, lt, e)) = inl (suc k, omega (arith, lt), e)
        both (inr not) (inr none) = inr out
          where
            out : Contains (x ∷ xs) n → ⊥
            out (zero, lt, e) = not e
            out (suc k, lt, e) = none (k, omega (arith, lt), e)

numbers_held : (near : List ℕ) → HasNumbers (map (λ n. n + 2) near) near
numbers_held near n = (back, Contains-map (λ m. m + 2) near n)
  where
    back : Contains (map (λ m. m + 2) near) (n + 2) → Contains near n
    back there =
        let k = has-from_Contains (map (λ m. m + 2) near) (n + 2) there in
        let w = slice_get-unmap (λ m. m + 2) near k.0 (n + 2) k.1 in
        let e : w.0 ≡ n = omega (arith, w.2) in
        subst (Contains near) e (Contains-from_has near w.0 (k.0, w.1))

module _ (near : List ℕ) (found : List Neighbour) (sorted : AllPairs IsNoLater found) where
  chosen_of : (left k : ℕ) → k + left ≡ length found → (chosen : List Neighbour) (set : List ℕ) → AreChosen near found k chosen set → (ns : List Neighbour) × IsGeneration near found ns
  chosen_of zero k many chosen set are = (chosen, (all_chosen near found k chosen set (omega (arith, many)) are).0)
  chosen_of (suc left) k many chosen set are =
      by (λ chosen set. chosen_of left (k + 1) (omega (arith, many)) chosen set) (put ((get_or found k d).number + 2) set)
    where
      d : Neighbour
      d = record { number = 0; mark = mark.Open; support = 0 }

      by : ((chosen : List Neighbour) (set : List ℕ) → AreChosen near found (k + 1) chosen set → (ns : List Neighbour) × IsGeneration near found ns) →
          ((new : List ℕ) × IsInserted ((get_or found k d).number + 2) set new true) ⊎ IsInserted ((get_or found k d).number + 2) set set false → (ns : List Neighbour) × IsGeneration near found ns
      by rest (inl (new, is)) = rest (chosen ++ get_or found k d ∷ []) new (one_chosen near found k d chosen set new (omega (arith, many)) sorted are is)
      by rest (inr is) = rest chosen set (one_left near found k d chosen set set (omega (arith, many)) sorted are is)

  some_choice : (ns : List Neighbour) × IsGeneration near found ns
  some_choice = chosen_of (length found) 0 (omega arith) [] (map (λ n. n + 2) near) (none_chosen near found (map (λ n. n + 2) near) (numbers_held near))

-- so many generations
generations : (edges : List EdgeLine) (most : ℕ) (first : List Neighbour) (near : List ℕ) (many : ℕ) →
    (gs : List (List Neighbour)) × AreGenerations edges most first near gs × (length gs ≡ many)
generations edges most first near zero = ([], tt, refl)
generations edges most first near (suc many) =
    let (gs, are, e) = generations edges most first near many in
    let nearer = all_numbers near gs in
    let found = providers_above (topmost most first gs) edges in
    let s = sorted_of found in
    let choice = some_choice nearer s.all s.sorted in
    (choice.0 ∷ gs, (are, choice_sorted nearer found s.all choice.0 s.same choice.1), ap suc e)

-- ---- the picture

pub picture_law : PictureLaw
picture_law edges a most depth =
    let (ps, providers) = in_order a Group.Providers edges in
    let (qs, peers) = in_order a Group.Peers edges in
    let (cs, customers) = in_order a Group.Customers edges in
    let (gs, are, deep) = generations edges most ps (near_numbers a ps qs cs) (depth - 1) in
    let d = drawing_by edges a most ps qs cs gs in
    let drawn : IsDrawn edges a most depth ps qs cs d = record { further = gs; are = are; deep = deep; is = refl } in
    (d, drawn_of edges a most depth ps qs cs providers peers customers d drawn, drawn_tidy edges a most depth ps qs cs d drawn, λ link can. (picture_well_formed link can d, picture_shows_marks link d, picture_shows_links link d))
