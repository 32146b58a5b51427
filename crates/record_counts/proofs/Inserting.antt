-- What a look-up finds in a map's entries with one more, and that the keys stay in order.
use Rattle.std.proofs.Common.{◌≡◌, Bool, true, false, cond, List, [], ◌∷◌, Option, Some, None, Ordering, Less, Equal, Greater, is_eq, refl, sym, ap, ◌∙◌, true≢false}
use Rattle.std.specs.BTreeMap.{insert_entry, is_at}
use Rattle.std.specs.Cmp.{IsTotalOrder, alike_right, tied_itself, Equal-is}
use Rattle.std.specs.List.{AllByRecursion}
use Rattle.std.specs.List.Sorted.{IsStrictlySortedBy}
use Rattle.std.specs.Map.{keys_of, lookup, set_value}
use Rattle.std.specs.Ordering.{match_ordering, ordering_reverse}

hidden : {X : Type 0} (b : Bool) (v w u : Option X) → cond b v u ≡ cond b v (cond b w u)
hidden true v w u = refl
hidden false v w u = refl

swapped : {X : Type 0} (a b : Bool) (v w u : Option X) → (a ≡ true → b ≡ true → ⊥) → cond a v (cond b w u) ≡ cond b w (cond a v u)
swapped true true v w u apart = absurd (apart refl refl)
swapped true false v w u apart = refl
swapped false true v w u apart = refl
swapped false false v w u apart = refl

all_weaker : {K : Type 0} {P Q : K → Type 0} → ((k : K) → P k → Q k) → (ks : List K) → AllByRecursion P ks
    → AllByRecursion Q ks
all_weaker f [] a = tt
all_weaker f (k ∷ ks) a = (f k a.0, all_weaker f ks a.1)

module _ {K X : Type 0} {R : K → K → Ordering} (o : IsTotalOrder R) where
  abbrev found : K → List (K × X) → Option X
  found q es = lookup (is_at (R q)) es

  -- what `insert_entry` gives, by how k compares to the first key
  abbrev placed : Ordering → K → X → K × X → List (K × X) → List (K × X)
  placed r k v e es = match_ordering r ((k, v) ∷ e ∷ es) ((e.0, v) ∷ es) (e ∷ insert_entry R es k v)

  -- it finds the new value at the key, and at every other what it found before
  pub lookup-insert_entry : (q k : K) (v : X) (es : List (K × X))
      → found q (insert_entry R es k v) ≡ cond (is_at (R q) k) (Some v) (found q es)
  lookup-insert_entry q k v [] = refl
  lookup-insert_entry q k v (e ∷ es) = by (R k e.0) refl (lookup-insert_entry q k v es)
    where
      by : (r : Ordering) → R k e.0 ≡ r → found q (insert_entry R es k v) ≡ cond (is_at (R q) k) (Some v) (found q es)
          → found q (placed r k v e es) ≡ cond (is_at (R q) k) (Some v) (found q (e ∷ es))
      by Less p later = refl
      by Equal p later =
          hidden (is_at (R q) e.0) (Some v) (Some e.1) (found q es)
          ∙ ap (λ b. cond b (Some v) (found q (e ∷ es))) (sym (ap is_eq (alike_right o k e.0 q p)))
      by Greater p later =
          ap (cond (is_at (R q) e.0) (Some e.1)) later
          ∙ swapped (is_at (R q) e.0) (is_at (R q) k) (Some e.1) (Some v) (found q es)
          (λ at_first at_key. true≢false (sym at_first ∙ ap is_eq (o.congr q k e.0 ((Equal-is (R q k)).0 at_key) ∙ p)))

  keys_above : (x k : K) (v : X) (es : List (K × X)) → R x k ≡ Less → AllByRecursion (λ y. R x y ≡ Less) (keys_of es)
      → AllByRecursion (λ y. R x y ≡ Less) (keys_of (insert_entry R es k v))
  keys_above x k v [] less a = (less, tt)
  keys_above x k v (e ∷ es) less a = by (R k e.0) (keys_above x k v es less a.1)
    where
      by : (r : Ordering) → AllByRecursion (λ y. R x y ≡ Less) (keys_of (insert_entry R es k v))
          → AllByRecursion (λ y. R x y ≡ Less) (keys_of (placed r k v e es))
      by Less h = (less, a)
      by Equal h = a
      by Greater h = (a.0, h)

  sorted_by : (k : K) (v : X) (e : K × X) (es : List (K × X)) (r : Ordering) → R k e.0 ≡ r
      → IsStrictlySortedBy R (keys_of (e ∷ es)) → IsStrictlySortedBy R (keys_of (insert_entry R es k v))
      → IsStrictlySortedBy R (keys_of (placed r k v e es))
  unfolding IsStrictlySortedBy
  sorted_by k v e es Less p s h = ((p, all_weaker (λ y m. o.trans k e.0 y p m) (keys_of es) s.0), s)
  sorted_by k v e es Equal p s h = s
  sorted_by k v e es Greater p s h = (keys_above e.0 k v es (o.antisymm e.0 k ∙ ap ordering_reverse p) s.0, h)

  pub sorted-insert_entry : (k : K) (v : X) (es : List (K × X)) → IsStrictlySortedBy R (keys_of es)
      → IsStrictlySortedBy R (keys_of (insert_entry R es k v))
  unfolding IsStrictlySortedBy
  sorted-insert_entry k v [] s = (tt, tt)
  sorted-insert_entry k v (e ∷ es) s = sorted_by k v e es (R k e.0) refl s (sorted-insert_entry k v es s.1)

  none_some : {x : X} → None ≡ Some x → ⊥
  none_some e = cc

  none_below : (k : K) (es : List (K × X)) → AllByRecursion (λ y. R k y ≡ Less) (keys_of es) → found k es ≡ None
  none_below k [] a = refl
  none_below k (e ∷ es) a = ap (λ r. cond (is_eq r) (Some e.1) (found k es)) a.0 ∙ none_below k es a.1

  -- a value that is written over the one at its key is put in there
  pub set_value-insert_entry : (k : K) (v old : X) (es : List (K × X)) → IsStrictlySortedBy R (keys_of es) → found k es ≡ Some old
      → set_value (is_at (R k)) es v ≡ insert_entry R es k v
  unfolding IsStrictlySortedBy
  set_value-insert_entry k v old [] s f = absurd (none_some f)
  set_value-insert_entry k v old (e ∷ es) s f = by (R k e.0) refl f (set_value-insert_entry k v old es s.1)
    where
      by : (r : Ordering) → R k e.0 ≡ r → cond (is_eq r) (Some e.1) (found k es) ≡ Some old
          → (found k es ≡ Some old → set_value (is_at (R k)) es v ≡ insert_entry R es k v)
          → cond (is_eq r) ((e.0, v) ∷ es) (e ∷ set_value (is_at (R k)) es v) ≡ placed r k v e es
      by Less p g h = absurd (none_some (sym (none_below k es (all_weaker (λ y m. o.trans k e.0 y p m) (keys_of es) s.0)) ∙ g))
      by Equal p g h = refl
      by Greater p g h = ap (λ later. e ∷ later) (h g)

  -- of two values that are put in at one key the later one stays
  pub again-insert_entry : (k : K) (v w : X) (es : List (K × X)) → insert_entry R (insert_entry R es k v) k w ≡ insert_entry R es k w
  again-insert_entry k v w [] = ap (λ r. match_ordering r ((k, w) ∷ (k, v) ∷ []) ((k, w) ∷ []) ((k, v) ∷ (k, w) ∷ [])) (tied_itself o k)
  again-insert_entry k v w (e ∷ es) = by (R k e.0) refl (again-insert_entry k v w es)
    where
      by : (r : Ordering) → R k e.0 ≡ r → insert_entry R (insert_entry R es k v) k w ≡ insert_entry R es k w
          → insert_entry R (placed r k v e es) k w ≡ placed r k w e es
      by Less p h = ap (λ r. placed r k w (k, v) (e ∷ es)) (tied_itself o k)
      by Equal p h = ap (λ r. placed r k w (e.0, v) es) p
      by Greater p h = ap (λ r. placed r k w e (insert_entry R es k v)) p ∙ ap (λ later. e ∷ later) h
