-- Walks and fates that are given by their parts.
use Rattle.std.proofs.Common.{◌≡◌, ◌≢◌, ◌∙◌, ◌+◌, ◌-◌, ◌<◌, ◌≤◌, ℕ, zero, suc, List, [], ◌∷◌, ◌++◌, length, slice_get, slice_index_or, Option, Some, None, IfSome, Bool, true, false, cond, nat_eq}
use Rattle.std.proofs.Common.{refl, sym, ap, ap₂, subst, arith, length-append}
use Rattle.std.specs.Prelude.{get_or, option_map}
use Rattle.std.proofs.lemmas.Option.{get_or_from_slice_get}
use Rattle.relationships.specs.Fates.{is_kept, walk_of}
use Rattle.std.proofs.lemmas.Bool.{ne_eqb}
use Rattle.std.proofs.lemmas.List.Elements.{All-head, All-tail, All-push}
use Rattle.relationships.specs.declared.walk.Link.{Link}
use Rattle.relationships.specs.declared.walk.Walk.{Walk}
use Rattle.relationships.specs.declared.fate.Fate.TheVariants as fate
use Rattle.relationships.specs.Flat.{walk_with, walks_by, fate_by, fates_by, place_by, places_by, IsWalkPlace, AreWalkPlaces}

-- ---- walks

pub length-walks_by : (rows : List (List ℕ)) (links : List (List Link)) → length rows ≡ length links → length (walks_by rows links) ≡ length rows
length-walks_by [] links same = refl
length-walks_by (r ∷ rs) [] same = absurd (omega (arith, same))
length-walks_by (r ∷ rs) (l ∷ ls) same = ap suc (length-walks_by rs ls (omega (arith, same)))

pub walks_by-push : (rows : List (List ℕ)) (links : List (List Link)) (r : List ℕ) (l : List Link) → length rows ≡ length links
    → walks_by (rows ++ r ∷ []) (links ++ l ∷ []) ≡ walks_by rows links ++ walk_with r l ∷ []
walks_by-push [] [] r l same = refl
walks_by-push [] (m ∷ ms) r l same = absurd (omega (arith, same))
walks_by-push (s ∷ ss) [] r l same = absurd (omega (arith, same))
walks_by-push (s ∷ ss) (m ∷ ms) r l same = ap (λ ws. walk_with s m ∷ ws) (walks_by-push ss ms r l (omega (arith, same)))

pub walk-at : (rows : List (List ℕ)) (links : List (List Link)) (k : ℕ) (r : List ℕ) (l : List Link) → slice_get rows k ≡ Some r → slice_get links k ≡ Some l
    → slice_get (walks_by rows links) k ≡ Some (walk_with r l)
walk-at [] links k r l at_r at_l = absurd cc
walk-at (s ∷ ss) [] k r l at_r at_l = absurd cc
walk-at (s ∷ ss) (m ∷ ms) zero r l at_r at_l = cc
walk-at (s ∷ ss) (m ∷ ms) (suc k) r l at_r at_l = walk-at ss ms k r l at_r at_l

-- ---- fates

index_or-push : (walks : List Walk) (w d : Walk) (k : ℕ) → k < length walks → slice_index_or (walks ++ w ∷ []) k d ≡ slice_index_or walks k d
index_or-push [] w d k lt = absurd (omega arith)
index_or-push (v ∷ vs) w d zero lt = refl
index_or-push (v ∷ vs) w d (suc k) lt = index_or-push vs w d k (omega arith)

index_or-last : (walks : List Walk) (w d : Walk) → slice_index_or (walks ++ w ∷ []) (length walks) d ≡ w
index_or-last [] w d = refl
index_or-last (v ∷ vs) w d = index_or-last vs w d

-- one walk more at the end changes no fate
pub fates_by-walk : (walks : List Walk) (w : Walk) (places : List (Option ℕ)) → AreWalkPlaces walks places → fates_by (walks ++ w ∷ []) places ≡ fates_by walks places
fates_by-walk walks w [] within = refl
fates_by-walk walks w (None ∷ places) within = ap (λ fs. fate.Kept ∷ fs) (fates_by-walk walks w places (All-tail (IsWalkPlace walks) None places within))
fates_by-walk walks w (Some k ∷ places) within =
    ap₂ (λ v fs. fate.Lost v ∷ fs) (index_or-push walks w (walk_with [] []) k (All-head (IsWalkPlace walks) (Some k) places within))
    (fates_by-walk walks w places (All-tail (IsWalkPlace walks) (Some k) places within))

pub fates_by-kept : (walks : List Walk) (places : List (Option ℕ)) → fates_by walks (places ++ None ∷ []) ≡ fates_by walks places ++ fate.Kept ∷ []
fates_by-kept walks [] = refl
fates_by-kept walks (p ∷ places) = ap (λ fs. fate_by walks p ∷ fs) (fates_by-kept walks places)

pub fates_by-lost : (walks : List Walk) (places : List (Option ℕ)) (k : ℕ)
    → fates_by walks (places ++ Some k ∷ []) ≡ fates_by walks places ++ fate.Lost (slice_index_or walks k (walk_with [] [])) ∷ []
fates_by-lost walks [] k = refl
fates_by-lost walks (p ∷ places) k = ap (λ fs. fate_by walks p ∷ fs) (fates_by-lost walks places k)

-- a path that is lost with one walk more
pub fates_by-push : (walks : List Walk) (w : Walk) (places : List (Option ℕ)) → AreWalkPlaces walks places
    → fates_by (walks ++ w ∷ []) (places ++ Some (length walks) ∷ []) ≡ fates_by walks places ++ fate.Lost w ∷ []
fates_by-push walks w places within =
    fates_by-lost (walks ++ w ∷ []) places (length walks)
    ∙ ap₂ (λ fs v. fs ++ fate.Lost v ∷ []) (fates_by-walk walks w places within) (index_or-last walks w (walk_with [] []))

pub AreWithin-kept : (walks : List Walk) (places : List (Option ℕ)) → AreWalkPlaces walks places → AreWalkPlaces walks (places ++ None ∷ [])
AreWithin-kept walks places within = All-push (IsWalkPlace walks) places None within tt

widen : (n m : ℕ) (p : Option ℕ) → n ≤ m → IfSome p (λ k. k < n) → IfSome p (λ k. k < m)
widen n m None le within = tt
widen n m (Some k) le within = omega (arith, le, within)

pub AreWithin-push : (walks : List Walk) (w : Walk) (places : List (Option ℕ)) → AreWalkPlaces walks places
    → AreWalkPlaces (walks ++ w ∷ []) (places ++ Some (length walks) ∷ [])
AreWithin-push walks w places within =
    let more = length-append walks (w ∷ []) in
    All-push (IsWalkPlace (walks ++ w ∷ [])) places (Some (length walks))
    (λ k d lt. widen (length walks) (length (walks ++ w ∷ [])) (get_or places k d) (omega (arith, more)) (within k d lt))
    (omega (arith, more))

pub length-fates_by : (walks : List Walk) (places : List (Option ℕ)) → length (fates_by walks places) ≡ length places
length-fates_by walks [] = refl
length-fates_by walks (p ∷ places) = ap suc (length-fates_by walks places)

-- what is known of the fate in a place
pub fate-at : (walks : List Walk) (places : List (Option ℕ)) (k : ℕ) (p : Option ℕ) → slice_get places k ≡ Some p → slice_get (fates_by walks places) k ≡ Some (fate_by walks p)
fate-at walks [] k p at = absurd cc
fate-at walks (q ∷ places) zero p at = cc
fate-at walks (q ∷ places) (suc k) p at = fate-at walks places k p at

pub index_or-at : (walks : List Walk) (k : ℕ) (w d : Walk) → slice_get walks k ≡ Some w → slice_index_or walks k d ≡ w
index_or-at [] k w d at = absurd cc
index_or-at (v ∷ vs) zero w d at = cc
index_or-at (v ∷ vs) (suc k) w d at = index_or-at vs k w d at

-- ---- places by numbers

pub places_by-push : (numbers : List ℕ) (n : ℕ) → places_by (numbers ++ n ∷ []) ≡ places_by numbers ++ place_by n ∷ []
places_by-push [] n = refl
places_by-push (m ∷ numbers) n = ap (λ ps. place_by m ∷ ps) (places_by-push numbers n)

pub length-places_by : (numbers : List ℕ) → length (places_by numbers) ≡ length numbers
length-places_by [] = refl
length-places_by (m ∷ numbers) = ap suc (length-places_by numbers)

pub place_by-some : (n : ℕ) → place_by (n + 1) ≡ Some n
place_by-some n = let more : n + 1 ≢ 0 = (λ e. absurd (omega (arith, e))) in let back : n + 1 - 1 ≡ n = omega arith in rw (ne_eqb (n + 1) 0 more, back) refl

pub place-at : (numbers : List ℕ) (k : ℕ) → k < length numbers → slice_get (places_by numbers) k ≡ Some (place_by (get_or numbers k 0))
place-at [] k lt = absurd (omega (arith, lt))
place-at (n ∷ numbers) zero lt = refl
place-at (n ∷ numbers) (suc k) lt = place-at numbers k (omega (arith, lt))

-- ---- what a number says of a path

kept-by : (walks : List Walk) (n : ℕ) → is_kept (fate_by walks (place_by n)) ≡ nat_eq n 0
kept-by walks n = by (nat_eq n 0)
  where
    by : (b : Bool) → is_kept (fate_by walks (cond b None (Some (n - 1)))) ≡ b
    by true = refl
    by false = refl

numbered : (n : ℕ) → n ≢ 0 → place_by n ≡ Some (n - 1)
numbered n some = rw (ne_eqb n 0 some) refl

module _ (walks : List Walk) (numbers : List ℕ) (k : ℕ) (lt : k < length numbers) (n : ℕ) (is : n ≡ get_or numbers k 0) where
  fate_there : slice_get (fates_by walks (places_by numbers)) k ≡ Some (fate_by walks (place_by n))
  fate_there = fate-at walks (places_by numbers) k (place_by n) (place-at numbers k lt ∙ ap (λ m. Some (place_by m)) (sym is))

  pub kept_there : option_map is_kept (slice_get (fates_by walks (places_by numbers)) k) ≡ Some (nat_eq n 0)
  kept_there = ap (option_map is_kept) fate_there ∙ ap (λ b. Some b) (kept-by walks n)

  pub no_walk_there : n ≡ 0 → option_map walk_of (slice_get (fates_by walks (places_by numbers)) k) ≡ Some None
  no_walk_there none = ap (option_map walk_of) fate_there ∙ ap (λ m. Some (walk_of (fate_by walks (place_by m)))) none

  pub walk_there : (w : Walk) → n ≢ 0 → slice_get walks (n - 1) ≡ Some w → option_map walk_of (slice_get (fates_by walks (places_by numbers)) k) ≡ Some (Some w)
  walk_there w some at =
      ap (option_map walk_of) fate_there ∙ ap (λ p. Some (walk_of (fate_by walks p))) (numbered n some)
      ∙ ap (λ v. Some (Some v)) (get_or_from_slice_get walks (n - 1) w (walk_with [] []) at)

  pub place_there : AreWalkPlaces walks (places_by numbers) → n ≢ 0 → n - 1 < length walks
  place_there within some =
      let long = length-places_by numbers in
      let place : get_or (places_by numbers) k None ≡ Some (n - 1) =
      get_or_from_slice_get (places_by numbers) k (place_by (get_or numbers k 0)) None (place-at numbers k lt) ∙ ap place_by (sym is) ∙ numbered n some in
      subst (IsWalkPlace walks) place (within k None (omega (arith, lt, long)))
