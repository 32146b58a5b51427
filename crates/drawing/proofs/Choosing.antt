-- The next generation, AS by AS.
use Rattle.std.proofs.Common.{◌≡◌, ℕ, ◌+◌, ◌<◌, ◌≤◌, ◌⊎◌, inl, inr, true, false, List, [], ◌∷◌, ◌++◌, length, get_or, take, map}
use Rattle.std.proofs.Common.{append_assoc, refl, sym, ap, ◌∙◌, subst, arith, All, length-append}
use Rattle.std.specs.Prelude.{◌≢◌, Contains, Option, Some, None, ◌^◌}
use Rattle.std.specs.List.{AllPairs, Any, cons_option}
use Rattle.std.proofs.lemmas.Option.{none-some, same_Some}
use Rattle.std.specs.List.Sorted.{IsPermutation}
use Rattle.std.proofs.lemmas.List.{take_more, take_all, map_push, get_or-map, get_or-take, length-map, append-nil, get_or_append_left, length-take, get_or_default}
use Rattle.std.proofs.lemmas.List.Elements.{All-push, All-nil, Contains-get_or, Contains-push, Contains-append_left, Contains-append_right, Contains-append_cases, filter_map-append}
use Rattle.std.proofs.lemmas.List.Quantifiers.{all_pairs_push, Any-push}
use Rattle.std.proofs.lemmas.List.Sorted.{Contains-permutation, All-permutation, IsPermutation-sym}
use Rattle.tor_numbers.specs.Slots.{IsInserted}
use Rattle.result_text.specs.declared.file.EdgeLine.{EdgeLine}
use Rattle.drawing.specs.declared.group.Neighbour.{Neighbour}
use Rattle.drawing.specs.declared.standings.Standing.{Standing}
use Rattle.drawing.specs.declared.generation.Ends.{Ends}
use Rattle.drawing.specs.Generations.{StandsFor, IsGeneration, upward, standing_of, provider_with, provider_above, providers_above}
use Rattle.drawing.specs.Neighbours.{IsNoLater}
use Rattle.drawing.specs.Order.{IsShort}
use Rattle.drawing.specs.Shifted.{HasNumbers}
use Rattle.drawing.proofs.Numbering.{has_more}

abbrev pub numbers_of : List Neighbour → List ℕ
numbers_of ns = map (λ n. n.number) ns

-- what was chosen of the first k that were found
pub record AreChosen (near : List ℕ) (found : List Neighbour) (k : ℕ) (chosen : List Neighbour) (set : List ℕ) : Type 0 where
  pub choice : IsGeneration near (take k found) chosen
  pub has : HasNumbers set (near ++ numbers_of chosen)

pub none_chosen : (near : List ℕ) (found : List Neighbour) (set : List ℕ) → HasNumbers set near → AreChosen near found 0 [] set
none_chosen near found set has = record {
  choice = record {
    from = All-nil _;
    fresh = All-nil _;
    all = All-nil _;
    once = λ i j d less lt. absurd (omega (arith, lt));
    sorted = λ i j d less lt. absurd (omega (arith, lt));
  };
  has = subst (HasNumbers set) (sym (append-nil near)) has;
}

number_in : (ns : List Neighbour) (k : ℕ) (d : Neighbour) → k < length ns → Contains (numbers_of ns) (get_or ns k d).number
number_in ns k d lt =
    subst (Contains (numbers_of ns)) (get_or-map (λ n. n.number) ns k d 0 lt)
    (Contains-get_or (numbers_of ns) k 0 (subst (λ m. k < m) (sym (length-map ns (λ n. n.number))) lt))

-- those before k come before the one at k
before : (found : List Neighbour) (k : ℕ) (y d : Neighbour) → k < length found → AllPairs IsNoLater found → Contains (take k found) y → IsNoLater y (get_or found k d)
before found k y d lt sorted (i, few, e) =
    let many = length-take k found in
    let less : i < k = omega (arith, few, many) in
    let is : get_or found i d ≡ y = get_or_default found i d y (omega (arith, less, lt)) ∙ sym (get_or-take k found i y less) ∙ e in
    subst (λ z. IsNoLater z (get_or found k d)) is (sorted i k d less lt)

any_more : (P : Neighbour → Type 0) (ns : List Neighbour) (x : Neighbour) → Any P ns → Any P (ns ++ x ∷ [])
any_more P ns x (k, y, lt, e, holds) =
    (k, y, subst (λ n. k < n) (sym (length-append ns (x ∷ []))) (omega (arith, lt)), get_or_append_left ns (x ∷ []) y k lt ∙ e, holds)

module _ (near : List ℕ) (found : List Neighbour) (k : ℕ) (d : Neighbour) (chosen : List Neighbour) (set new : List ℕ)
    (lt : k < length found) (sorted : AllPairs IsNoLater found) (so_far : AreChosen near found k chosen set) where
  abbrev one : Neighbour
  one = get_or found k d

  -- it is new
  pub one_chosen : IsInserted (one.number + 2) set new true → AreChosen near found (k + 1) (chosen ++ one ∷ []) new
  one_chosen is =
      let choice = so_far.choice in
      let not : Contains (near ++ numbers_of chosen) one.number → ⊥ = λ there. is.0 ((so_far.has one.number).1 there) in
      let more : take (k + 1) found ≡ take k found ++ one ∷ [] = take_more found k d lt in
      record {
        choice = record {
          from = subst (λ xs. All (Contains xs) (chosen ++ one ∷ [])) (sym more) (All-push (Contains (take k found ++ one ∷ [])) chosen one
              (λ j e few. Contains-append_left (take k found) (one ∷ []) (get_or chosen j e) (choice.from j e few)) (Contains-push (take k found) one));
          fresh = All-push (λ n. Contains near n.number → ⊥) chosen one choice.fresh (λ there. not (Contains-append_left near (numbers_of chosen) one.number there));
          all = subst (All (λ p. Contains near p.number ⊎ Any (StandsFor p) (chosen ++ one ∷ []))) (sym more)
              (All-push (λ p. Contains near p.number ⊎ Any (StandsFor p) (chosen ++ one ∷ [])) (take k found) one
              (λ j e few. elim (choice.all j e few) [ inl there ↦ inl there | inr by ↦ inr (any_more (StandsFor (get_or (take k found) j e)) chosen one by) ])
              (inr (Any-push (StandsFor one) chosen one (refl, omega arith))));
          once = all_pairs_push (λ n m. n.number ≢ m.number) chosen one choice.once (λ j e few same.
              not (Contains-append_right near (numbers_of chosen) one.number (subst (Contains (numbers_of chosen)) same (number_in chosen j e few))));
          sorted = all_pairs_push IsNoLater chosen one choice.sorted (λ j e few. before found k (get_or chosen j e) d lt sorted (choice.from j e few));
        };
        has = subst (HasNumbers new) (append_assoc near (numbers_of chosen) (one.number ∷ []) ∙ ap (λ xs. near ++ xs) (sym (map_push (λ n. n.number) chosen one)))
            (has_more set new (near ++ numbers_of chosen) one.number true so_far.has is);
      }

  stands_for : Contains (numbers_of chosen) one.number → Any (StandsFor one) chosen
  stands_for (j, few, e) =
      let less : j < length chosen = subst (λ n. j < n) (length-map chosen (λ n. n.number)) few in
      let m = get_or chosen j d in
      let same : m.number ≡ one.number = sym (get_or-map (λ n. n.number) chosen j d one.number less) ∙ e in
      let support : one.support ≤ m.support = no_less (before found k m d lt sorted (so_far.choice.from j d less)) in
      (j, m, less, get_or_default chosen j m d less, (same, support))
    where
      no_less : IsNoLater (get_or chosen j d) one → one.support ≤ (get_or chosen j d).support
      no_less (inl more) = omega (arith, more)
      no_less (inr (e, le)) = omega (arith, e)

  -- it stands nearer, or was chosen
  pub one_left : IsInserted (one.number + 2) set new false → AreChosen near found (k + 1) chosen new
  one_left is =
      let choice = so_far.choice in
      let more : take (k + 1) found ≡ take k found ++ one ∷ [] = take_more found k d lt in
      let there : Contains near one.number ⊎ Any (StandsFor one) chosen =
      elim (Contains-append_cases near (numbers_of chosen) one.number ((so_far.has one.number).0 is.0)) [ inl a ↦ inl a | inr b ↦ inr (stands_for b) ] in
      record {
        choice = record {
          from = subst (λ xs. All (Contains xs) chosen) (sym more)
              (λ j e few. Contains-append_left (take k found) (one ∷ []) (get_or chosen j e) (choice.from j e few));
          fresh = choice.fresh;
          all = subst (All (λ p. Contains near p.number ⊎ Any (StandsFor p) chosen)) (sym more)
              (All-push (λ p. Contains near p.number ⊎ Any (StandsFor p) chosen) (take k found) one choice.all there);
          once = choice.once;
          sorted = choice.sorted;
        };
        has = subst (λ xs. HasNumbers xs (near ++ numbers_of chosen)) (sym is.1) so_far.has;
      }

-- all of them
pub all_chosen : (near : List ℕ) (found : List Neighbour) (k : ℕ) (chosen : List Neighbour) (set : List ℕ) → length found ≤ k → AreChosen near found k chosen set →
    IsGeneration near found chosen × HasNumbers set (near ++ numbers_of chosen)
all_chosen near found k chosen set le x = (subst (λ xs. IsGeneration near xs chosen) (take_all k found le) x.choice, x.has)

-- in whatever order they were found
pub choice_sorted : (near : List ℕ) (found sorted ns : List Neighbour) → IsPermutation found sorted → IsGeneration near sorted ns → IsGeneration near found ns
choice_sorted near found sorted ns p x =
    let back = IsPermutation-sym found sorted p in
    record {
      from = λ k d lt. Contains-permutation sorted found (get_or ns k d) back (x.from k d lt);
      fresh = x.fresh;
      all = All-permutation (λ p. Contains near p.number ⊎ Any (StandsFor p) ns) sorted found back x.all;
      once = x.once;
      sorted = x.sorted;
    }

-- ---- one edge more

-- the providers of the first k edges, with what their type says of their support
pub record AreAbove (drawn : List Standing) (edges : List EdgeLine) (k : ℕ) (found : List Neighbour) : Type 0 where
  pub is : found ≡ providers_above drawn (take k edges)
  pub short : All IsShort found

short_with : (e : EdgeLine) (found : List Neighbour) (o : Option Neighbour) → ((n : Neighbour) → o ≡ Some n → IsShort n) → All IsShort found → All IsShort (found ++ cons_option o [])
short_with e found None each all = subst (All IsShort) (sym (append-nil found)) all
short_with e found (Some n) each all = All-push IsShort found n all (each n refl)

short_one : (drawn : List Standing) (e : EdgeLine) (n : Neighbour) (o : Option Ends) → e.support < 2 ^ 64 →
    elim o [ None ↦ None | Some u ↦ provider_with e u (standing_of u.customer drawn) ] ≡ Some n → IsShort n
short_one drawn e n None short is = absurd (none-some n is)
short_one drawn e n (Some u) short is = by (standing_of u.customer drawn) is
  where
    by : (s : Option Standing) → provider_with e u s ≡ Some n → IsShort n
    by None f = absurd (none-some n f)
    by (Some s) f = subst IsShort (same_Some _ n f) short

pub with_edge : (drawn : List Standing) (edges : List EdgeLine) (k : ℕ) (d : EdgeLine) (found new : List Neighbour) → k < length edges →
    new ≡ found ++ providers_above drawn (get_or edges k d ∷ []) → (get_or edges k d).support < 2 ^ 64 → AreAbove drawn edges k found → AreAbove drawn edges (k + 1) new
with_edge drawn edges k d found new lt is short so_far =
    let e = get_or edges k d in
    record {
      is = is ∙ ap (λ ns. ns ++ providers_above drawn (e ∷ [])) so_far.is
          ∙ sym (ap (providers_above drawn) (take_more edges k d lt) ∙ filter_map-append (provider_above drawn) (take k edges) (e ∷ []));
      short = subst (All IsShort) (sym is) (short_with e found (provider_above drawn e) (λ n f. short_one drawn e n (upward e) short f) so_far.short);
    }

-- ---- for all numbers that stood there at first

pub record IsChoosing (start : List ℕ) (found : List Neighbour) (k : ℕ) (chosen : List Neighbour) (set : List ℕ) : Type 0 where
  pub each : (near : List ℕ) → HasNumbers start near → AreChosen near found k chosen set

pub choosing_none : (start : List ℕ) (found chosen : List Neighbour) → chosen ≡ [] → IsChoosing start found 0 chosen start
choosing_none start found chosen e = record { each = λ near has. subst (λ xs. AreChosen near found 0 xs start) (sym e) (none_chosen near found start has) }

pub choosing_one : (start : List ℕ) (found : List Neighbour) (k : ℕ) (d : Neighbour) (chosen more : List Neighbour) (set new : List ℕ) → k < length found →
    AllPairs IsNoLater found → IsChoosing start found k chosen set → IsInserted ((get_or found k d).number + 2) set new true →
    more ≡ chosen ++ get_or found k d ∷ [] → IsChoosing start found (k + 1) more new
choosing_one start found k d chosen more set new lt sorted x is e = record {
  each = λ near has. subst (λ xs. AreChosen near found (k + 1) xs new) (sym e) (one_chosen near found k d chosen set new lt sorted (x.each near has) is);
}

pub choosing_left : (start : List ℕ) (found : List Neighbour) (k : ℕ) (d : Neighbour) (chosen : List Neighbour) (set new : List ℕ) → k < length found →
    AllPairs IsNoLater found → IsChoosing start found k chosen set → IsInserted ((get_or found k d).number + 2) set new false → IsChoosing start found (k + 1) chosen new
choosing_left start found k d chosen set new lt sorted x is = record {
  each = λ near has. one_left near found k d chosen set new lt sorted (x.each near has) is;
}

pub choosing_all : (start : List ℕ) (found : List Neighbour) (k : ℕ) (chosen : List Neighbour) (set : List ℕ) → length found ≤ k → IsChoosing start found k chosen set →
    (near : List ℕ) → HasNumbers start near → IsGeneration near found chosen × HasNumbers set (near ++ numbers_of chosen)
choosing_all start found k chosen set le x near has = all_chosen near found k chosen set le (x.each near has)
