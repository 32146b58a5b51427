-- Keys with one more at the end, and what a search by them finds.
use Rattle.std.proofs.Common.{◌≡◌, ◌≢◌, ◌∙◌, ◌<◌, ◌≤◌, ◌+◌, ◌%◌, ◌^◌, ◌||◌, ◌⊎◌, ℕ, zero, suc, Bool, true, false, not, cond, nat_eq, nat_lt, List, [], ◌∷◌, ◌++◌, length, Option, Some, None, is_some}
use Rattle.std.proofs.Common.{refl, sym, ap, subst, arith, inl, inr, true≢false, length-append, eq-eqb, lt-ltb}
use Rattle.std.specs.Prelude.{slice_get}
use Rattle.std.specs.List.{list_any, position_or_len}
use Rattle.std.proofs.lemmas.Bool.{cases_lt, ltb-true}
use Rattle.std.proofs.lemmas.List.Folds.{list_any-append}
use Rattle.std.proofs.lemmas.Option.{cond_some, slice_get-get_or, unwrap_or-slice_get, same_Some}
use Rattle.tor_arena.specs.Limits.{max_paths}
use Rattle.path_table.specs.Chains.{row_at}
use Rattle.path_table.specs.RowKeys.{short_hash, number_after, is_key, place_of_key, IsKeyOf, AreKeysOf, TakesKey, IsIndexed}

pub get-row : (rows : List (List ℕ)) (k : ℕ) → k < length rows → slice_get rows k ≡ Some (row_at rows k)
get-row rows k lt = slice_get-get_or rows k [] lt ∙ ap (λ (r : List ℕ). Some r) (sym (unwrap_or-slice_get rows k []))

-- ---- one key more

module _ (n : ℕ) where
  -- a key keeps its place
  or_len-old : (keys : List ℕ) (x : ℕ) → position_or_len (nat_eq n) keys < length keys → position_or_len (nat_eq n) (keys ++ x ∷ []) ≡ position_or_len (nat_eq n) keys
  or_len-old [] x lt = absurd (omega arith)
  or_len-old (k ∷ keys) x lt = by (nat_eq n k) lt (or_len-old keys x)
    where
      by : (b : Bool) → cond (not b) (1 + position_or_len (nat_eq n) keys) 0 < length (k ∷ keys)
          → (position_or_len (nat_eq n) keys < length keys → position_or_len (nat_eq n) (keys ++ x ∷ []) ≡ position_or_len (nat_eq n) keys)
          → cond (not b) (1 + position_or_len (nat_eq n) (keys ++ x ∷ [])) 0 ≡ cond (not b) (1 + position_or_len (nat_eq n) keys) 0
      by true lt same = refl
      by false lt same = ap (λ m. 1 + m) (same (omega (arith, lt)))

  -- a number that is no key goes last
  or_len-last : (keys : List ℕ) → list_any (nat_eq n) keys ≡ false → position_or_len (nat_eq n) (keys ++ n ∷ []) ≡ length keys
  or_len-last [] none = ap (λ b. cond (not b) 1 0) (eq-eqb n n refl)
  or_len-last (k ∷ keys) none = by (nat_eq n k) none (or_len-last keys)
    where
      by : (b : Bool) → (b || list_any (nat_eq n) keys) ≡ false → (list_any (nat_eq n) keys ≡ false → position_or_len (nat_eq n) (keys ++ n ∷ []) ≡ length keys)
          → cond (not b) (1 + position_or_len (nat_eq n) (keys ++ n ∷ [])) 0 ≡ suc (length keys)
      by true none last = absurd (true≢false none)
      by false none last = ap (λ m. 1 + m) (last none) ∙ omega arith

place-old : (keys : List ℕ) (x n k : ℕ) → place_of_key keys n ≡ Some k → place_of_key (keys ++ x ∷ []) n ≡ Some k
place-old keys x n k is =
    let was = cond_some (nat_lt (position_or_len (nat_eq n) keys) (length keys)) (position_or_len (nat_eq n) keys) k is in
    let within = ltb-true (position_or_len (nat_eq n) keys) (length keys) was.0 in
    let long = length-append keys (x ∷ []) in
    let same = or_len-old n keys x within ∙ was.1 in
    let lt : position_or_len (nat_eq n) (keys ++ x ∷ []) < length (keys ++ x ∷ []) = omega (arith, was.1, within, long, same) in
    ap (λ b. cond b (Some (position_or_len (nat_eq n) (keys ++ x ∷ []))) None) (lt-ltb _ _ lt) ∙ ap (λ (m : ℕ). Some m) same

place-last : (keys : List ℕ) (n : ℕ) → is_key keys n ≡ false → place_of_key (keys ++ n ∷ []) n ≡ Some (length keys)
place-last keys n none =
    let long = length-append keys (n ∷ []) in
    let same = or_len-last n keys none in
    let lt : position_or_len (nat_eq n) (keys ++ n ∷ []) < length (keys ++ n ∷ []) = omega (arith, long, same) in
    ap (λ b. cond b (Some (position_or_len (nat_eq n) (keys ++ n ∷ []))) None) (lt-ltb _ _ lt) ∙ ap (λ (m : ℕ). Some m) same

-- a number that has a place is a key
or_len-any : (keys : List ℕ) (n : ℕ) → position_or_len (nat_eq n) keys < length keys → is_key keys n ≡ true
or_len-any [] n lt = absurd (omega arith)
or_len-any (k ∷ keys) n lt = by (nat_eq n k) lt (or_len-any keys n)
  where
    by : (b : Bool) → cond (not b) (1 + position_or_len (nat_eq n) keys) 0 < length (k ∷ keys) → (position_or_len (nat_eq n) keys < length keys → is_key keys n ≡ true)
        → (b || is_key keys n) ≡ true
    by true lt rest = refl
    by false lt rest = rest (omega (arith, lt))

place-key : (keys : List ℕ) (n k : ℕ) → place_of_key keys n ≡ Some k → is_key keys n ≡ true
place-key keys n k is =
    or_len-any keys n (ltb-true (position_or_len (nat_eq n) keys) (length keys)
    (cond_some (nat_lt (position_or_len (nat_eq n) keys) (length keys)) (position_or_len (nat_eq n) keys) k is).0)

key-old : (keys : List ℕ) (x n : ℕ) → is_key keys n ≡ true → is_key (keys ++ x ∷ []) n ≡ true
key-old keys x n is = list_any-append (nat_eq n) keys (x ∷ []) ∙ ap (λ b. b || list_any (nat_eq n) (x ∷ [])) is

IsKeyOf-old : (keys : List ℕ) (x hash place : ℕ) → IsKeyOf keys hash place → IsKeyOf (keys ++ x ∷ []) hash place
IsKeyOf-old keys x hash place key = record {
  steps = key.steps;
  few = key.few;
  taken = (λ before lt. key-old keys x (number_after hash before) (key.taken before lt));
  at = place-old keys x (number_after hash key.steps) place key.at;
}

IsKeyOf-last : (old new : List ℕ) (hash : ℕ) → TakesKey hash old new → IsKeyOf new hash (length old)
IsKeyOf-last old new hash takes = subst (λ keys. IsKeyOf keys hash (length old)) (sym takes.last) (record {
  steps = takes.steps;
  few = takes.few;
  taken = (λ before lt. key-old old (number_after hash takes.steps) (number_after hash before) (takes.taken before lt));
  at = place-last old (number_after hash takes.steps) takes.free;
})

-- the key of the next row goes last
keyed-more : (seed : ℕ) (rows : List (List ℕ)) (old new : List ℕ) → AreKeysOf seed rows old → TakesKey (short_hash seed (row_at rows (length old))) old new → AreKeysOf seed rows new
keyed-more seed rows old new keyed takes place lt = elim (cases_lt place (length old)) [
  | inl below ↦ subst (λ keys. IsKeyOf keys (short_hash seed (row_at rows place)) place) (sym takes.last)
      (IsKeyOf-old old (number_after (short_hash seed (row_at rows (length old))) takes.steps) (short_hash seed (row_at rows place)) place (keyed place below))
  | inr above ↦
      let long = ap length takes.last ∙ length-append old (number_after (short_hash seed (row_at rows (length old))) takes.steps ∷ []) in
      let is : length old ≡ place = omega (arith, above, lt, long) in
      subst (λ k. IsKeyOf new (short_hash seed (row_at rows k)) k) is (IsKeyOf-last old new (short_hash seed (row_at rows (length old))) takes)
]

-- the same of the row in a place
pub keyed-next : (seed : ℕ) (rows : List (List ℕ)) (old new : List ℕ) (place hash : ℕ) → AreKeysOf seed rows old → length old ≡ place → hash ≡ short_hash seed (row_at rows place)
    → TakesKey hash old new → AreKeysOf seed rows new × (length new ≡ place + 1)
keyed-next seed rows old new place hash keyed many is takes = (
  keyed-more seed rows old new keyed (subst (λ h. TakesKey h old new) (is ∙ ap (λ k. short_hash seed (row_at rows k)) (sym many)) takes),
  ap length takes.last ∙ length-append old (number_after hash takes.steps ∷ []) ∙ ap (λ n. n + 1) many,
)

row-old : (rows : List (List ℕ)) (path : List ℕ) (k : ℕ) → k < length rows → row_at (rows ++ path ∷ []) k ≡ row_at rows k
row-old [] path k lt = absurd (omega arith)
row-old (row ∷ rows) path zero lt = refl
row-old (row ∷ rows) path (suc k) lt = row-old rows path k (omega arith)

row-last : (rows : List (List ℕ)) (path : List ℕ) → row_at (rows ++ path ∷ []) (length rows) ≡ path
row-last [] path = refl
row-last (row ∷ rows) path = row-last rows path

-- a row more, and its key
pub indexed-more : (seed : ℕ) (rows : List (List ℕ)) (old new : List ℕ) (path : List ℕ) → IsIndexed seed rows old → TakesKey (short_hash seed path) old new
    → length rows < max_paths → IsIndexed seed (rows ++ path ∷ []) new
indexed-more seed rows old new path index takes room =
    let more = length-append rows (path ∷ []) in
    let long = ap length takes.last ∙ length-append old (number_after (short_hash seed path) takes.steps ∷ []) in
    let many = index.many in
    let last : row_at (rows ++ path ∷ []) (length old) ≡ path = ap (row_at (rows ++ path ∷ [])) many ∙ row-last rows path in
    record {
      each = keyed-more seed (rows ++ path ∷ []) old new
          (λ place lt. subst (λ row. IsKeyOf old (short_hash seed row) place) (sym (row-old rows path place (omega (arith, lt, many)))) (index.each place lt))
          (subst (λ row. TakesKey (short_hash seed row) old new) (sym last) takes);
      many = omega (arith, more, long, many);
      few = omega (arith, more, room);
    }

-- ---- a search

-- the next number
pub number-next : (hash steps number : ℕ) → number ≡ number_after hash steps → (number + 1) % 2 ^ 32 ≡ number_after hash (steps + 1)
number-next hash steps number is = omega (arith, is)

-- the keys that a search has passed are those of other rows
abbrev pub HasPassed : (rows : List (List ℕ)) (keys : List ℕ) (hash : ℕ) (path : List ℕ) (steps : ℕ) → Type 0
HasPassed rows keys hash path steps =
    (before k : ℕ) → before < steps → place_of_key keys (number_after hash before) ≡ Some k → row_at rows k ≢ path

pub passes-more : (rows : List (List ℕ)) (keys : List ℕ) (hash : ℕ) (path : List ℕ) (steps place : ℕ) → HasPassed rows keys hash path steps
    → place_of_key keys (number_after hash steps) ≡ Some place → row_at rows place ≢ path → HasPassed rows keys hash path (steps + 1)
passes-more rows keys hash path steps place passed at other before k lt is = elim (cases_lt before steps) [
  | inl below ↦ passed before k below is
  | inr above ↦
      let here : before ≡ steps = omega (arith, above, lt) in
      let same : k ≡ place = same_Some k place (sym is ∙ ap (λ n. place_of_key keys (number_after hash n)) here ∙ at) in
      λ e. other (ap (row_at rows) (sym same) ∙ e)
]

pub no_key : (o : Option ℕ) (b : Bool) → is_some o ≡ b → ((k : ℕ) → o ≡ Some k → ⊥) → b ≡ false
no_key None b is none = sym is
no_key (Some k) b is none = absurd (none k refl)

-- where it comes to a number that is no key, or has passed as many as there are, no row is the path
pub absent-by : (seed : ℕ) (rows : List (List ℕ)) (keys path : List ℕ) (hash steps : ℕ) → AreKeysOf seed rows keys → hash ≡ short_hash seed path → HasPassed rows keys hash path steps
    → (is_key keys (number_after hash steps) ≡ false) ⊎ (length keys ≤ steps) → (k : ℕ) → k < length keys → row_at rows k ≢ path
absent-by seed rows keys path hash steps keyed is passed ends k lt same =
    let key : IsKeyOf keys hash k = subst (λ h. IsKeyOf keys h k) (ap (short_hash seed) same ∙ sym is) (keyed k lt) in
    elim (cases_lt key.steps steps) [
      | inl before ↦ passed key.steps k before key.at same
      | inr behind ↦ elim ends [
        | inl free ↦ elim (cases_lt steps key.steps) [
          | inl taken ↦ true≢false (sym (key.taken steps taken) ∙ free)
          | inr here ↦
              let it : key.steps ≡ steps = omega (arith, here, behind) in
              true≢false (sym (place-key keys (number_after hash steps) k (ap (λ n. place_of_key keys (number_after hash n)) (sym it) ∙ key.at)) ∙ free)
        ]
        | inr all ↦ let few = key.few in absurd (omega (arith, few, lt, all, behind))
      ]
    ]
