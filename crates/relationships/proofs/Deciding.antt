-- Tests that compute, and that decide the facts of `specs/`; and facts at each triple or each split of a list.
use Rattle.std.proofs.Common.{◌≡◌, ◌↔◌, ℕ, inl, inr, Bool, true, false, not, ◌&&◌, ◌||◌, List, [], ◌∷◌, ◌++◌, refl, sym, ap, ◌∙◌, subst, arith, append_assoc, append-nil, All}
use Rattle.std.proofs.lemmas.List.Kept.{AllPairs-cons}
use Rattle.std.specs.List.{AllPairs, AllByRecursion}
use Rattle.std.proofs.lemmas.Bool.{false≢true, and_parts}
use Rattle.std.proofs.lemmas.List.Elements.{All-contains, All-from_recursion}
use Rattle.relationships.specs.Relationship.{Labelling, Slope, Up, Down, Flat, slopes, ValleyFree}
use Rattle.relationships.specs.Evidence.{StandAt, TripleAt, Closure, start, imply}
use Rattle.relationships.proofs.Slopes.{Falls, Free, Free-from_valley_free, ValleyFree-from_free}

-- ---- valley-free by a walk with a flag

abbrev pub only_down : List Slope → Bool
only_down [] = true
only_down (Up ∷ ss) = false
only_down (Down ∷ ss) = only_down ss
only_down (Flat ∷ ss) = false

abbrev pub no_valley : List Slope → Bool
no_valley [] = true
no_valley (Up ∷ ss) = no_valley ss
no_valley (Down ∷ ss) = only_down ss
no_valley (Flat ∷ ss) = only_down ss

only_down-falls : (ss : List Slope) → Falls ss → only_down ss ≡ true
only_down-falls [] h = refl
only_down-falls (Up ∷ ss) h = absurd (cc h.0)
only_down-falls (Down ∷ ss) h = only_down-falls ss h.1
only_down-falls (Flat ∷ ss) h = absurd (cc h.0)

Falls-from_only_down : (ss : List Slope) → only_down ss ≡ true → Falls ss
Falls-from_only_down [] h = tt
Falls-from_only_down (Up ∷ ss) h = absurd (false≢true h)
Falls-from_only_down (Down ∷ ss) h = (refl, Falls-from_only_down ss h)
Falls-from_only_down (Flat ∷ ss) h = absurd (false≢true h)

no_valley-falls : (ss : List Slope) → Falls ss → no_valley ss ≡ true
no_valley-falls [] h = refl
no_valley-falls (Up ∷ ss) h = absurd (cc h.0)
no_valley-falls (Down ∷ ss) h = only_down-falls ss h.1
no_valley-falls (Flat ∷ ss) h = absurd (cc h.0)

no_valley-free : (ss : List Slope) → Free ss → no_valley ss ≡ true
no_valley-free [] h = refl
no_valley-free (Up ∷ ss) (inl p) = no_valley-free ss p.1
no_valley-free (Up ∷ ss) (inr f) = no_valley-falls ss f
no_valley-free (Down ∷ ss) (inl p) = absurd (cc p.0)
no_valley-free (Down ∷ ss) (inr f) = only_down-falls ss f
no_valley-free (Flat ∷ ss) (inl p) = absurd (cc p.0)
no_valley-free (Flat ∷ ss) (inr f) = only_down-falls ss f

Free-from_no_valley : (ss : List Slope) → no_valley ss ≡ true → Free ss
Free-from_no_valley [] h = tt
Free-from_no_valley (Up ∷ ss) h = inl (refl, Free-from_no_valley ss h)
Free-from_no_valley (Down ∷ ss) h = inr (Falls-from_only_down ss h)
Free-from_no_valley (Flat ∷ ss) h = inr (Falls-from_only_down ss h)

pub no_valley_iff : (L : Labelling) (path : List ℕ) → (no_valley (slopes L path) ≡ true) ↔ ValleyFree L path
no_valley_iff L path =
    (λ h. ValleyFree-from_free L path (Free-from_no_valley (slopes L path) h), λ v. no_valley-free (slopes L path) (Free-from_valley_free L path v))

-- ---- a fact at each three consecutive ASes

abbrev pub EachTriple : (ℕ → ℕ → ℕ → Type 0) → List ℕ → Type 0
EachTriple P [] = Unit {0}
EachTriple P (x ∷ []) = Unit {0}
EachTriple P (x ∷ y ∷ []) = Unit {0}
EachTriple P (x ∷ y ∷ z ∷ path) = P x y z × EachTriple P (y ∷ z ∷ path)

EachTriple-tail : (P : ℕ → ℕ → ℕ → Type 0) (a : ℕ) (path : List ℕ) → EachTriple P (a ∷ path) → EachTriple P path
EachTriple-tail P a [] h = tt
EachTriple-tail P a (x ∷ []) h = tt
EachTriple-tail P a (x ∷ y ∷ path) h = h.1

each_triple_at : (P : ℕ → ℕ → ℕ → Type 0) (before : List ℕ) (x y z : ℕ) (after : List ℕ) → EachTriple P (before ++ (x ∷ y ∷ z ∷ after)) → P x y z
each_triple_at P [] x y z after h = h.0
each_triple_at P (b ∷ before) x y z after h = each_triple_at P before x y z after (EachTriple-tail P b (before ++ (x ∷ y ∷ z ∷ after)) h)

pub each_triple : (P : ℕ → ℕ → ℕ → Type 0) (path : List ℕ) (at x y z : ℕ) → EachTriple P path → StandAt path at x y z → P x y z
each_triple P path at x y z h s = each_triple_at P s.before x y z s.after (subst (EachTriple P) s.whole h)

-- the test goes on along the triple, in both directions
abbrev pub goes_on : (ℕ → ℕ → Bool) → ℕ → ℕ → ℕ → Bool
goes_on test x y z = (not (test x y) || test y z) && (not (test z y) || test y x)

-- a set that holds the start and is satisfied on holds the whole closure
pub Closure-within : (test : ℕ → ℕ → Bool) (paths : List (List ℕ)) (a b : ℕ) → test a b ≡ true →
    All (EachTriple (λ x y z. goes_on test x y z ≡ true)) paths → {y z : ℕ} → Closure paths a b y z → test y z ≡ true
Closure-within test paths a b h closed start = h
Closure-within test paths a b h closed (imply {x = x} {y = y} {z = z} c t) =
    let each = All-contains (EachTriple (λ x y z. goes_on test x y z ≡ true)) paths t.0 closed t.1 in
    let before = Closure-within test paths a b h closed c in
    go t.2.1 each before
  where
    on : (s u : Bool) → (not s || u) ≡ true → s ≡ true → u ≡ true
    on true u h e = h
    on false u h e = absurd (false≢true e)

    go : TripleAt t.0 t.2.0 x y z → EachTriple (λ x y z. goes_on test x y z ≡ true) t.0 → test x y ≡ true → test y z ≡ true
    go (inl s) each before =
        on (test x y) (test y z) (and_parts (not (test x y) || test y z) (not (test z y) || test y x) (each_triple (λ x y z. goes_on test x y z ≡ true) t.0 t.2.0 x y z each s)).0 before
    go (inr s) each before =
        on (test x y) (test y z) (and_parts (not (test z y) || test y x) (not (test x y) || test y z) (each_triple (λ x y z. goes_on test x y z ≡ true) t.0 t.2.0 z y x each s)).1 before

-- ---- a fact at each split of a list

abbrev pub EachSplit : {X : Type 0} → (List X → X → List X → Type 0) → List X → List X → Type 0
EachSplit P before [] = Unit {0}
EachSplit P before (x ∷ after) = P before x after × EachSplit P (before ++ x ∷ []) after

pub each_split : {X : Type 0} (P : List X → X → List X → Type 0) (seen rest before : List X) (x : X) (after : List X) → EachSplit P seen rest → rest ≡ before ++ (x ∷ after) →
    P (seen ++ before) x after
each_split P seen [] [] x after h e = absurd (cc e)
each_split P seen [] (b ∷ before) x after h e = absurd (cc e)
each_split P seen (y ∷ rest) [] x after h e =
    let e₁ : y ≡ x = cc in let e₂ : rest ≡ after = cc in
    subst (λ l. P l x after) (sym (append-nil seen)) (subst (λ w. P seen w after) e₁ (subst (λ l. P seen y l) e₂ h.0))
each_split P seen (y ∷ rest) (b ∷ before) x after h e =
    let e₁ : y ≡ b = cc in let e₂ : rest ≡ before ++ (x ∷ after) = cc in
    let r = each_split P (seen ++ y ∷ []) rest before x after h.1 e₂ in
    subst (λ l. P l x after) (append_assoc seen (y ∷ []) before ∙ ap (λ w. seen ++ (w ∷ before)) e₁) r

-- ---- each pair of a list

abbrev pub PairsByRecursion : {X : Type 0} → (X → X → Type 0) → List X → Type 0
PairsByRecursion R [] = Unit {0}
PairsByRecursion R (x ∷ xs) = AllByRecursion (R x) xs × PairsByRecursion R xs

pub AllPairs-from_recursion : {X : Type 0} (R : X → X → Type 0) (xs : List X) → PairsByRecursion R xs → AllPairs R xs
AllPairs-from_recursion R [] h = λ i j d lt within. absurd (omega arith)
AllPairs-from_recursion R (x ∷ xs) h = AllPairs-cons R x xs (All-from_recursion (R x) xs h.0) (AllPairs-from_recursion R xs h.1)
