-- A tower of generations grows by one.
use Rattle.std.proofs.Common.{◌≡◌, ℕ, ◌+◌, ◌<◌, List, [], ◌∷◌, ◌++◌, length, get_or, take, append_assoc, refl, sym, ap, ◌∙◌, subst, arith}
use Rattle.std.specs.Prelude.{Option, Some, None, filter_map, ◌==◌, Contains, Bool, ◌≤◌, max}
use Rattle.tor_numbers.specs.Slots.{IsInserted}
use Rattle.drawing.proofs.Numbering.{has_more}
use Rattle.std.specs.List.{find, cons_option}
use Rattle.std.specs.Option.{option_or}
use Rattle.std.proofs.lemmas.List.{take_more, map_more}
use Rattle.std.proofs.lemmas.List.Folds.{find-append}
use Rattle.std.proofs.lemmas.List.Elements.{filter_map-append}
use Rattle.result_text.specs.declared.file.EdgeLine.{EdgeLine}
use Rattle.drawing.specs.declared.group.Neighbour.{Neighbour}
use Rattle.drawing.specs.declared.standings.Standing.{Standing}
use Rattle.drawing.specs.declared.generation.Ends.{Ends}
use Rattle.drawing.specs.declared.tower.Tie.{Tie}
use Rattle.drawing.specs.declared.tower.Tower.{Tower}
use Rattle.drawing.specs.Generations.{upward, standing_of, provider_with, provider_above, providers_above, tie_with, tie_of, IsGeneration}
use Rattle.drawing.specs.Generations.{all_numbers, box_count, topmost, standings_at, perches_at, perches, rising_ties}
use Rattle.drawing.specs.Tower.{IsTower, IsStacked}
use Rattle.drawing.specs.Shifted.{HasNumbers}
use Rattle.drawing.proofs.Choosing.{numbers_of}

-- the ASes are found in two lists alike
abbrev pub FoundAlike : List Standing → List Standing → Type 0
FoundAlike xs ys = (n : ℕ) → standing_of n xs ≡ standing_of n ys

-- ---- what is looked up in them is the same

same_made : {X Y : Type 0} (f g : X → Option Y) (xs : List X) → ((x : X) → f x ≡ g x) → filter_map f xs ≡ filter_map g xs
same_made f g [] same = refl
same_made f g (x ∷ xs) same = ap (λ o. cons_option o (filter_map f xs)) (same x) ∙ ap (cons_option (g x)) (same_made f g xs same)

same_provider : (xs ys : List Standing) → FoundAlike xs ys → (e : EdgeLine) → provider_above xs e ≡ provider_above ys e
same_provider xs ys alike e = by (upward e)
  where
    by : (o : Option Ends) → ◌≡◌ {A = Option Neighbour} (elim o [ None ↦ None | Some u ↦ provider_with e u (standing_of u.customer xs) ])
        (elim o [ None ↦ None | Some u ↦ provider_with e u (standing_of u.customer ys) ])
    by None = refl
    by (Some u) = ap (provider_with e u) (alike u.customer)

pub same_providers : (xs ys : List Standing) (edges : List EdgeLine) → FoundAlike xs ys → providers_above xs edges ≡ providers_above ys edges
same_providers xs ys edges alike = same_made (provider_above xs) (provider_above ys) edges (same_provider xs ys alike)

same_tie : (xs ys us vs : List Standing) → FoundAlike xs ys → FoundAlike us vs → (e : EdgeLine) → tie_of xs us e ≡ tie_of ys vs e
same_tie xs ys us vs alike alike' e = by (upward e)
  where
    by : (o : Option Ends) → ◌≡◌ {A = Option Tie} (elim o [ None ↦ None | Some u ↦ tie_with e (standing_of u.customer xs) (standing_of u.provider us) ])
        (elim o [ None ↦ None | Some u ↦ tie_with e (standing_of u.customer ys) (standing_of u.provider vs) ])
    by None = refl
    by (Some u) = ap (λ a. tie_with e a (standing_of u.provider us)) (alike u.customer) ∙ ap (tie_with e (standing_of u.customer ys)) (alike' u.provider)

same_ties : (xs ys us vs : List Standing) (edges : List EdgeLine) → FoundAlike xs ys → FoundAlike us vs → filter_map (tie_of xs us) edges ≡ filter_map (tie_of ys vs) edges
same_ties xs ys us vs edges alike alike' = same_made (tie_of xs us) (tie_of ys vs) edges (same_tie xs ys us vs alike alike')

pub alike_push : (xs ys zs : List Standing) → FoundAlike xs ys → FoundAlike (xs ++ zs) (ys ++ zs)
alike_push xs ys zs alike n =
    find-append (λ s. s.number == n) xs zs ∙ ap (λ o. option_or o (find (λ s. s.number == n) zs)) (alike n) ∙ sym (find-append (λ s. s.number == n) ys zs)

-- ---- one generation more

pub raised : (edges : List EdgeLine) (most : ℕ) (first : List Neighbour) (near : List ℕ) (gs : List (List Neighbour)) (g : List Neighbour) (old middle new : Tower) →
    IsTower edges most first near gs old →
    IsGeneration (all_numbers near gs) (providers_above old.topmost edges) g → HasNumbers middle.nearer (all_numbers near gs ++ numbers_of g) →
    middle.topmost ≡ old.topmost → middle.rank ≡ old.rank → middle.widest ≡ old.widest → middle.sizes.items ≡ old.sizes.items →
    middle.perches.items ≡ old.perches.items → middle.ties.items ≡ old.ties.items →
    IsStacked edges most g middle new → IsTower edges most first near (g ∷ gs) new
raised edges most first near gs g old middle new tower choice has top rank wide many boxes lines stacked =
    let put = stacked.put in
    let alike : FoundAlike new.topmost (topmost most first (g ∷ gs)) =
    λ n. stacked.topmost_are n ∙ ap (λ r. standing_of n (standings_at most (r + 1) g)) (rank ∙ tower.rank_is) in
    let below : FoundAlike middle.topmost (topmost most first gs) = λ n. ap (standing_of n) top ∙ tower.topmost_are n in
    record {
      generations = (tower.generations, subst (λ ns. IsGeneration (all_numbers near gs) ns g) (same_providers old.topmost (topmost most first gs) edges tower.topmost_are) choice);
      nearer = subst (λ xs. HasNumbers xs (all_numbers near gs ++ numbers_of g)) (sym put.nearer) has;
      topmost_are = alike;
      rank_is = let r = put.rank_is in let e = rank ∙ tower.rank_is in omega (arith, r, e);
      widest_is = put.widest_is ∙ ap (λ w. max w (box_count most g)) (wide ∙ tower.widest_is);
      sizes_are = put.sizes_are ∙ ap (λ xs. xs ++ length g ∷ []) (many ∙ tower.sizes_are);
      perches_are = put.perches_are ∙ ap (λ xs. xs ++ perches_at most (middle.rank + 1) g) (boxes ∙ tower.perches_are)
          ∙ ap (λ r. perches most gs ++ perches_at most (r + 1) g) (rank ∙ tower.rank_is);
      ties_are = put.ties_are ∙ ap (λ xs. xs ++ filter_map (tie_of middle.topmost new.topmost) edges) (lines ∙ tower.ties_are)
          ∙ ap (λ xs. rising_ties edges most first gs ++ xs) (same_ties middle.topmost (topmost most first gs) new.topmost (topmost most first (g ∷ gs)) edges below alike);
    }

-- one edge more
pub ties_more : (lower upper : List Standing) (edges : List EdgeLine) (k : ℕ) (d : EdgeLine) (start old new : List Tie) → k < length edges →
    new ≡ old ++ filter_map (tie_of lower upper) (get_or edges k d ∷ []) → old ≡ start ++ filter_map (tie_of lower upper) (take k edges) →
    new ≡ start ++ filter_map (tie_of lower upper) (take (k + 1) edges)
ties_more lower upper edges k d start old new lt is so_far =
    is ∙ ap (λ xs. xs ++ filter_map (tie_of lower upper) (get_or edges k d ∷ [])) so_far
    ∙ append_assoc start (filter_map (tie_of lower upper) (take k edges)) (filter_map (tie_of lower upper) (get_or edges k d ∷ []))
    ∙ ap (λ xs. start ++ xs) (sym (ap (filter_map (tie_of lower upper)) (take_more edges k d lt)
    ∙ filter_map-append (tie_of lower upper) (take k edges) (get_or edges k d ∷ [])))

-- a tower with so many generations
pub record IsRaised (edges : List EdgeLine) (most : ℕ) (first : List Neighbour) (near : List ℕ) (turn : ℕ) (t : Tower) : Type 0 where
  pub gs : List (List Neighbour)
  pub many : length gs ≡ turn
  pub is : IsTower edges most first near gs t
  pub low : t.rank ≤ turn
  pub wide : t.widest ≤ 2001

pub raised_none : (edges : List EdgeLine) (most : ℕ) (first : List Neighbour) (near : List ℕ) (t : Tower) →
    IsTower edges most first near [] t → (t.rank ≡ 0) × (t.widest ≡ 0) → IsRaised edges most first near 0 t
raised_none edges most first near t is (low, wide) = record { gs = []; many = refl; is = is; low = omega (arith, low); wide = omega (arith, wide) }

pub raised_one : (edges : List EdgeLine) (most : ℕ) (first : List Neighbour) (near : List ℕ) (turn : ℕ) (old new : Tower) →
    IsRaised edges most first near turn old →
    ((first : List Neighbour) (near : List ℕ) (gs : List (List Neighbour)) → IsTower edges most first near gs old →
    (g : List Neighbour) × IsTower edges most first near (g ∷ gs) new) →
    (new.rank ≤ old.rank + 1) × (new.widest ≤ 2001) → IsRaised edges most first near (turn + 1) new
raised_one edges most first near turn old new x raise (more, wide) =
    let next = raise first near x.gs x.is in
    let many = x.many in
    let low = x.low in
    record { gs = next.0 ∷ x.gs; many = omega (arith, many); is = next.1; low = omega (arith, low, more); wide = wide }

-- ---- numbers

pub numbers_more : (ns : List Neighbour) (k : ℕ) (d : Neighbour) (near set new : List ℕ) (b : Bool) → k < length ns → HasNumbers set (near ++ numbers_of (take k ns)) →
    IsInserted ((get_or ns k d).number + 2) set new b → HasNumbers new (near ++ numbers_of (take (k + 1) ns))
numbers_more ns k d near set new b lt has is =
    subst (HasNumbers new)
    (append_assoc near (numbers_of (take k ns)) ((get_or ns k d).number ∷ []) ∙ ap (λ xs. near ++ xs) (sym (map_more (λ n. n.number) ns k d lt)))
    (has_more set new (near ++ numbers_of (take k ns)) (get_or ns k d).number b has is)

pub no_numbers : (set : List ℕ) → set ≡ [] → HasNumbers set []
no_numbers set e n = (λ there. absurd (gone (n + 2) (subst (λ xs. Contains xs (n + 2)) e there)), λ there. absurd (gone n there))
  where
    gone : (m : ℕ) → Contains [] m → ⊥
    gone m (k, lt, is) = omega (arith, lt)
