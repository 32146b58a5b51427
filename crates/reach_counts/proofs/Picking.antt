-- The items of a list that a test takes, each once, and how many they are.
use Rattle.std.proofs.Common.{◌≡◌, ℕ, zero, suc, ◌+◌, ◌<◌, ◌≤◌, ◌⊎◌, inl, inr, Bool, true, false, cond, List, [], ◌∷◌, ◌++◌, Some, length, get_or, refl, sym, ap, ◌∙◌, subst, arith}
use Rattle.std.specs.Prelude.{slice_get}
use Rattle.std.specs.List.{count_by}
use Rattle.std.proofs.lemmas.Bool.{false≢true}
use Rattle.std.proofs.lemmas.List.Sums.{count_by-le-length}
use Rattle.std.proofs.lemmas.Option.{same_Some, get_or_from_slice_get}
use Rattle.tor_arena.proofs.Counting.{one, count-cons, count-append}
use Rattle.tor_arena.proofs.Gets.{has-from_Contains, Contains-from_has, slice_get-push_cases}
use Rattle.tor_digraph.specs.Walks.{Net, Reaches}
use Rattle.tor_digraph.specs.Closing.{Has, IsOnce}
use Rattle.reach_counts.specs.Ranges.{upto}
use Rattle.reach_counts.specs.ReachCounts.{HasMark, IsReachedCount, is_marked}

-- ---- lists with one item more in front

has-uncons : (x : ℕ) (ys : List ℕ) (k y : ℕ) → slice_get (x ∷ ys) k ≡ Some y → (y ≡ x) ⊎ Has ys y
has-uncons x ys zero y at = inl (sym (same_Some x y at))
has-uncons x ys (suc k) y at = inr (k, at)

pub once-cons : (x : ℕ) (ys : List ℕ) → (Has ys x → ⊥) → IsOnce ys → IsOnce (x ∷ ys)
once-cons x ys none h zero zero y a b = refl
once-cons x ys none h zero (suc j) y a b = absurd (none (j, b ∙ sym a))
once-cons x ys none h (suc i) zero y a b = absurd (none (i, a ∙ sym b))
once-cons x ys none h (suc i) (suc j) y a b = ap suc (h i j y a b)

once-uncons : (x : ℕ) (ys : List ℕ) → IsOnce (x ∷ ys) → IsOnce ys
once-uncons x ys h i j y a b = let e = h (suc i) (suc j) y a b in omega (arith, e)

once-first : (x : ℕ) (ys : List ℕ) → IsOnce (x ∷ ys) → Has ys x → ⊥
once-first x ys h has = let e = h 0 (suc has.0) x refl has.1 in omega (arith, e)

-- ---- what a test takes

module _ (p : ℕ → Bool) where
  abbrev pub picked : List ℕ → List ℕ
  picked [] = []
  picked (x ∷ xs) = cond (p x) (x ∷ picked xs) (picked xs)

  length-cond : (b : Bool) (x : ℕ) (ys : List ℕ) → length (cond b (x ∷ ys) ys) ≡ one b + length ys
  length-cond true x ys = omega arith
  length-cond false x ys = omega arith

  pub length-picked : (xs : List ℕ) → length (picked xs) ≡ count_by p xs
  length-picked [] = refl
  length-picked (x ∷ xs) = length-cond (p x) x (picked xs) ∙ ap (λ n. one (p x) + n) (length-picked xs) ∙ sym (count-cons p x xs)

  has-cond : (b : Bool) (x : ℕ) (ys : List ℕ) (y : ℕ) → Has (cond b (x ∷ ys) ys) y → ((b ≡ true) × (y ≡ x)) ⊎ Has ys y
  has-cond true x ys y h = elim (has-uncons x ys h.0 y h.1) [ inl e ↦ inl (refl, e) | inr more ↦ inr more ]
  has-cond false x ys y h = inr h

  pub picked-old : (xs : List ℕ) (y : ℕ) → Has (picked xs) y → Has xs y × (p y ≡ true)
  picked-old [] y h = let at = h.1 in cc
  picked-old (x ∷ xs) y h =
      elim (has-cond (p x) x (picked xs) y h) [
        | inl e ↦ ((0, ap (λ z. Some z) (sym e.1)), ap p e.1 ∙ e.0)
        | inr more ↦ let r = picked-old xs y more in ((suc r.0.0, r.0.1), r.1)
      ]

  cond-first : (b : Bool) (x : ℕ) (ys : List ℕ) → b ≡ true → Has (cond b (x ∷ ys) ys) x
  cond-first true x ys e = (0, refl)
  cond-first false x ys e = absurd (false≢true e)

  cond-more : (b : Bool) (x : ℕ) (ys : List ℕ) (y : ℕ) → Has ys y → Has (cond b (x ∷ ys) ys) y
  cond-more true x ys y h = (suc h.0, h.1)
  cond-more false x ys y h = h

  pub picked-new : (xs : List ℕ) (k y : ℕ) → slice_get xs k ≡ Some y → p y ≡ true → Has (picked xs) y
  picked-new [] k y at t = cc
  picked-new (x ∷ xs) zero y at t =
      let e : x ≡ y = same_Some x y at in
      subst (λ z. Has (picked (x ∷ xs)) z) e (cond-first (p x) x (picked xs) (ap p e ∙ t))
  picked-new (x ∷ xs) (suc k) y at t = cond-more (p x) x (picked xs) y (picked-new xs k y at t)

  once-cond : (b : Bool) (x : ℕ) (ys : List ℕ) → (Has ys x → ⊥) → IsOnce ys → IsOnce (cond b (x ∷ ys) ys)
  once-cond true x ys none h = once-cons x ys none h
  once-cond false x ys none h = h

  pub once-picked : (xs : List ℕ) → IsOnce xs → IsOnce (picked xs)
  once-picked [] h = h
  once-picked (x ∷ xs) h =
      once-cond (p x) x (picked xs) (λ has. once-first x xs h (picked-old xs x has).0) (once-picked xs (once-uncons x xs h))

-- ---- the count

-- the items that a test takes are the marked nodes that are reached
pub counted : (marks : List Bool) (net : Net ℕ) (node : ℕ) (p : ℕ → Bool) (nodes : List ℕ) (n : ℕ) → IsOnce nodes →
    ((x : ℕ) → Has nodes x → p x ≡ true → Reaches net.arcs node x × HasMark marks x) →
    ((x : ℕ) → Reaches net.arcs node x → HasMark marks x → Has nodes x × (p x ≡ true)) →
    n ≡ count_by p nodes → IsReachedCount marks net node n
counted marks net node p nodes n once from back is = record {
  marked = picked p nodes;
  once = once-picked p nodes once;
  exact = λ x. (
    λ c. let h = picked-old p nodes x (has-from_Contains (picked p nodes) x c) in from x h.0 h.1,
    λ r. let h = back x r.0 r.1 in Contains-from_has (picked p nodes) x (picked-new p nodes h.0.0 x h.0.1 h.1),
  );
  many = length-picked p nodes ∙ sym is;
}

-- ---- marks

pub marked-is : (marks : List Bool) (x : ℕ) → HasMark marks x → is_marked marks x ≡ true
marked-is marks x m = get_or_from_slice_get marks x true false m

pub is-marked : (marks : List Bool) (x : ℕ) → x < length marks → is_marked marks x ≡ true → HasMark marks x
is-marked marks x lt is = slice_get-get marks x lt is
  where
    slice_get-get : (ms : List Bool) (k : ℕ) → k < length ms → get_or ms k false ≡ true → slice_get ms k ≡ Some true
    slice_get-get [] k l e = absurd (omega (arith, l))
    slice_get-get (b ∷ ms) zero l e = ap (λ z. Some z) e
    slice_get-get (b ∷ ms) (suc k) l e = slice_get-get ms k (omega (arith, l)) e

-- ---- the numbers below a number

pub length-upto : (n : ℕ) → length (upto n) ≡ n
length-upto zero = refl
length-upto (suc n) = let e = length-upto n in length-snoc (upto n) n ∙ ap suc e
  where
    length-snoc : (xs : List ℕ) (x : ℕ) → length (xs ++ x ∷ []) ≡ suc (length xs)
    length-snoc [] x = refl
    length-snoc (a ∷ xs) x = ap suc (length-snoc xs x)

pub at-upto : (n k x : ℕ) → slice_get (upto n) k ≡ Some x → (k ≡ x) × (x < n)
at-upto zero k x at = cc
at-upto (suc n) k x at =
    elim (slice_get-push_cases (upto n) n k x at) [
      | inl old ↦ let r = at-upto n k x old in (r.0, omega (arith, r.1))
      | inr new ↦ let many = length-upto n in let e = new.0 in let f = new.1 in (omega (arith, many, e, f), omega (arith, f))
    ]

pub has-upto : (n x : ℕ) → x < n → slice_get (upto n) x ≡ Some x
has-upto n x lt =
    let many = length-upto n in
    let within : x < length (upto n) = omega (arith, many, lt) in
    let r = some (upto n) x within in
    let same = (at-upto n x r.0 r.1).0 in r.1 ∙ ap (λ z. Some z) (sym same)
  where
    some : (xs : List ℕ) (k : ℕ) → k < length xs → (y : ℕ) × (slice_get xs k ≡ Some y)
    some [] k l = absurd (omega (arith, l))
    some (a ∷ xs) zero l = (a, refl)
    some (a ∷ xs) (suc k) l = some xs k (omega (arith, l))

pub once-upto : (n : ℕ) → IsOnce (upto n)
once-upto n i j x a b = (at-upto n i x a).0 ∙ sym (at-upto n j x b).0

pub count-upto : (p : ℕ → Bool) (n : ℕ) → count_by p (upto (suc n)) ≡ count_by p (upto n) + one (p n)
count-upto p n = let a = count-append p (upto n) (n ∷ []) in let b = count-cons p n [] in omega (arith, a, b)

pub count-next : (p : ℕ → Bool) (n : ℕ) → count_by p (upto (n + 1)) ≡ count_by p (upto n) + one (p n)
count-next p n = let e : suc n ≡ n + 1 = omega arith in subst (λ z. count_by p (upto z) ≡ count_by p (upto n) + one (p n)) e (count-upto p n)

pub count-few : (p : ℕ → Bool) (n : ℕ) → count_by p (upto n) ≤ n
count-few p n = let le = count_by-le-length p (upto n) in let many = length-upto n in omega (arith, le, many)
