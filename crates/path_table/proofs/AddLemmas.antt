-- What an answer of a table says where a path is refused, or was there.
use Rattle.std.proofs.Common.{◌≡◌, ◌∙◌, ℕ, List, [], ◌∷◌, ◌++◌, Option, Some, None, Err, Ok, OnOk, IsSome, refl, sym, ap, subst}
use Rattle.std.specs.declared.result.Result.{Result}
use Rattle.path_table.specs.declared.table.AddRefused.{AddRefused}
use Rattle.path_table.specs.declared.table.AddRefused.TheVariants.{TooManyPaths, TooManyNumbers, NoMemory}
use Rattle.path_table.specs.Rows.{Counted}
use Rattle.path_table.specs.Table.{place_of, with_path}
use Rattle.path_table.proofs.TableLemmas.{with_path-new}

-- what isn't there has no place
pub no_some : {X : Type 0} (o : Option ℕ) → o ≡ None → IsSome o → X
no_some None e h = absurd cc
no_some (Some x) e h = absurd cc

-- a place and none
pub some-none : {X : Type 0} (o : Option ℕ) (k : ℕ) → o ≡ Some k → o ≡ None → X
some-none o k is none = absurd (let e : Some k ≡ None = sym is ∙ none in cc)

-- an answer that is no error, and two errors
pub ok-err : {A E X : Type 0} (x : A) (e : E) → ◌≡◌ {A = Result A E} (Ok x) (Err e) → X
ok-err x e h = absurd cc

pub not-paths : {A X : Type 0} → ◌≡◌ {A = Result A AddRefused} (Err NoMemory) (Err TooManyPaths) → X
not-paths h = absurd cc

pub not-numbers : {A X : Type 0} → ◌≡◌ {A = Result A AddRefused} (Err NoMemory) (Err TooManyNumbers) → X
not-numbers h = absurd cc

pub paths-not-numbers : {A X : Type 0} → ◌≡◌ {A = Result A AddRefused} (Err TooManyPaths) (Err TooManyNumbers) → X
paths-not-numbers h = absurd cc

pub numbers-not-paths : {A X : Type 0} → ◌≡◌ {A = Result A AddRefused} (Err TooManyNumbers) (Err TooManyPaths) → X
numbers-not-paths h = absurd cc

err-same : {A E : Type 0} (e f : E) → ◌≡◌ {A = Result A E} (Err e) (Err f) → e ≡ f
err-same e f h = cc

-- the same two errors in answers of another kind
pub err-moved : {A B E : Type 0} (e f : E) → ◌≡◌ {A = Result A E} (Err e) (Err f) → ◌≡◌ {A = Result B E} (Err e) (Err f)
err-moved e f h = ap (λ x. Err x) (err-same e f h)

-- an answer that is no error
pub ok-of : {A E P : Type 0} (r : Result A E) → OnOk r P → ((e : E) → r ≡ Err e → ⊥) → P
ok-of (Ok x) h other = h
ok-of (Err e) h other = absurd (other e refl)

-- a path that is there is counted once more, and another goes last with times 1: then it counts as one that was added
pub added-once : {A E : Type 0} (r : Result A E) (old new : List Counted) (path : List ℕ) → (IsSome (place_of old path) → new ≡ with_path old path)
    → OnOk r (place_of old path ≡ None → new ≡ old ++ record { path = path; times = 1 } ∷ []) → OnOk r (new ≡ with_path old path)
added-once (Err e) old new path counted added = tt
added-once (Ok x) old new path counted added = by (place_of old path) refl
  where
    by : (o : Option ℕ) → place_of old path ≡ o → new ≡ with_path old path
    by None is = added is ∙ sym (with_path-new old path is)
    by (Some k) is = counted (subst (λ o. IsSome o) (sym is) refl)
