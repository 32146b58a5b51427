-- What is made of the items of a list and their places.
use Rattle.std.proofs.Common.{◌≡◌, ℕ, ◌+◌, ◌<◌, List, [], ◌∷◌, ◌++◌, length, get_or, take, map, suc, append_assoc, sym, ap, ◌∙◌, subst, arith, All}
use Rattle.std.specs.List.{AllPairs, enumerate_from}
use Rattle.std.proofs.Math.Seq.{take-length}
use Rattle.std.proofs.lemmas.List.{get_or-map, length-map, map_more}
use Rattle.std.proofs.lemmas.List.Elements.{All-append, All-map, All-tail}
use Rattle.std.proofs.lemmas.List.Kept.{AllPairs-cons}
use Rattle.std.proofs.lemmas.List.FromFn.{length-enumerate_from, get_or-enumerate_from}

numbered : {X : Type 0} (xs : List X) (k : ℕ) (x : X) → k < length xs → get_or (enumerate_from 0 xs) k (0, x) ≡ (k, get_or xs k x)
numbered xs k x lt = let zero_plus : 0 + k ≡ k = omega arith in get_or-enumerate_from 0 xs k (0, x) lt ∙ ap (λ n. (n, get_or xs k x)) zero_plus

as_many : {X : Type 0} (xs : List X) (k : ℕ) → k < length xs → k < length (enumerate_from 0 xs)
as_many xs k lt = subst (λ n. k < n) (sym (length-enumerate_from 0 xs)) lt

-- one item more
pub numbered_more : {X Y : Type 0} (f : ℕ × X → Y) (xs : List X) (k : ℕ) (x : X) → k < length xs →
    map f (take (k + 1) (enumerate_from 0 xs)) ≡ map f (take k (enumerate_from 0 xs)) ++ f (k, get_or xs k x) ∷ []
numbered_more f xs k x lt = map_more f (enumerate_from 0 xs) k (0, x) (as_many xs k lt) ∙ ap (λ y. map f (take k (enumerate_from 0 xs)) ++ f y ∷ []) (numbered xs k x lt)

-- the same behind others
pub numbered_behind : {X Y : Type 0} (f : ℕ × X → Y) (xs : List X) (k : ℕ) (x : X) (start old new : List Y) (y : Y) → k < length xs → new ≡ old ++ y ∷ [] →
    y ≡ f (k, get_or xs k x) → old ≡ start ++ map f (take k (enumerate_from 0 xs)) → new ≡ start ++ map f (take (k + 1) (enumerate_from 0 xs))
numbered_behind f xs k x start old new y lt is same so_far =
    is ∙ ap (λ ys. ys ++ y ∷ []) so_far ∙ append_assoc start (map f (take k (enumerate_from 0 xs))) (y ∷ [])
    ∙ ap (λ ys. start ++ ys) (ap (λ z. map f (take k (enumerate_from 0 xs)) ++ z ∷ []) same ∙ sym (numbered_more f xs k x lt))

-- one item more of those whose places don't count
pub map_behind : {X Y : Type 0} (f : X → Y) (xs : List X) (k : ℕ) (x : X) (start old new : List Y) → k < length xs → new ≡ old ++ f (get_or xs k x) ∷ [] →
    old ≡ start ++ map f (take k xs) → new ≡ start ++ map f (take (k + 1) xs)
map_behind f xs k x start old new lt is so_far =
    is ∙ ap (λ ys. ys ++ f (get_or xs k x) ∷ []) so_far ∙ append_assoc start (map f (take k xs)) (f (get_or xs k x) ∷ [])
    ∙ ap (λ ys. start ++ ys) (sym (map_more f xs k x lt))

-- all of them
pub numbered_all : {X Y : Type 0} (f : ℕ × X → Y) (xs : List X) (k : ℕ) → k ≡ length xs → map f (take k (enumerate_from 0 xs)) ≡ map f (enumerate_from 0 xs)
numbered_all f xs k e = ap (λ n. map f (take n (enumerate_from 0 xs))) (e ∙ sym (length-enumerate_from 0 xs)) ∙ ap (map f) (take-length (enumerate_from 0 xs))

pub length-numbered : {X Y : Type 0} (f : ℕ × X → Y) (xs : List X) → length (map f (enumerate_from 0 xs)) ≡ length xs
length-numbered f xs = length-map (enumerate_from 0 xs) f ∙ length-enumerate_from 0 xs

pub numbered_at : {X Y : Type 0} (f : ℕ × X → Y) (xs : List X) (k : ℕ) (x : X) (y : Y) → k < length xs → get_or (map f (enumerate_from 0 xs)) k y ≡ f (k, get_or xs k x)
numbered_at f xs k x y lt = get_or-map f (enumerate_from 0 xs) k (0, x) y (as_many xs k lt) ∙ ap f (numbered xs k x lt)

-- what is said of each, and of each two
pub numbered_each : {X Y : Type 0} (f : ℕ × X → Y) (xs : List X) (back : Y → X) (P : Y → Type 0) → ((k : ℕ) (x : X) → k < length xs → P (f (k, x))) → All P (map f (enumerate_from 0 xs))
numbered_each f xs back P holds k d lt =
    let few : k < length xs = subst (λ n. k < n) (length-numbered f xs) lt in
    subst P (sym (numbered_at f xs k (back d) d few)) (holds k (get_or xs k (back d)) few)

pub numbered_pairs : {X Y : Type 0} (f : ℕ × X → Y) (xs : List X) (back : Y → X) (R : Y → Y → Type 0) →
    ((k j : ℕ) (x z : X) → k < j → j < length xs → R (f (k, x)) (f (j, z))) → AllPairs R (map f (enumerate_from 0 xs))
numbered_pairs f xs back R holds k j d less lt =
    let few : j < length xs = subst (λ n. j < n) (length-numbered f xs) lt in
    let fewer : k < length xs = omega (arith, less, few) in
    let one = numbered_at f xs k (back d) d fewer in
    let other = numbered_at f xs j (back d) d few in
    subst (λ y. R y (get_or (map f (enumerate_from 0 xs)) j d)) (sym one) (subst (λ y. R (f (k, get_or xs k (back d))) y) (sym other)
    (holds k j (get_or xs k (back d)) (get_or xs j (back d)) less few))

-- ---- pairs of two lists

later : {X : Type 0} (R : X → X → Type 0) (x : X) (xs : List X) → AllPairs R (x ∷ xs) → All (R x) xs
later R x xs a k d lt = a 0 (suc k) d (omega arith) (omega (arith, lt))

behind : {X : Type 0} (R : X → X → Type 0) (x : X) (xs : List X) → AllPairs R (x ∷ xs) → AllPairs R xs
behind R x xs a i j d less lt = a (suc i) (suc j) d (omega (arith, less)) (omega (arith, lt))

pub pairs_append : {X : Type 0} (R : X → X → Type 0) (xs ys : List X) → AllPairs R xs → AllPairs R ys → All (λ x. All (R x) ys) xs → AllPairs R (xs ++ ys)
pairs_append R [] ys a b across = b
pairs_append R (x ∷ xs) ys a b across =
    AllPairs-cons R x (xs ++ ys) (All-append (R x) xs ys (later R x xs a) (across 0 x (omega arith)))
    (pairs_append R xs ys (behind R x xs a) b (All-tail (λ y. All (R y) ys) x xs across))

pub pairs_map : {X Y : Type 0} (R : Y → Y → Type 0) (f : X → Y) (xs : List X) → AllPairs (λ x z. R (f x) (f z)) xs → AllPairs R (map f xs)
pairs_map R f [] a = λ i j d less lt. absurd (omega (arith, lt))
pairs_map R f (x ∷ xs) a =
    AllPairs-cons R (f x) (map f xs) (All-map (R (f x)) f xs (later (λ y z. R (f y) (f z)) x xs a)) (pairs_map R f xs (behind (λ y z. R (f y) (f z)) x xs a))
