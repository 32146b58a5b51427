-- What is known of a file that was opened, and of one that was not.
use Rattle.std.proofs.Common.{◌≡◌, List, ℕ, Option, Some, None, Result, Ok, Err, sym, subst, ◌∙◌}
use Rattle.std.specs.Prelude.{IfSome, IfErr, OnOk, IsSomeAnd}
use Rattle.tor_io.specs.Contents.{Files, Opens}
use Rattle.dump_read.specs.declared.error.DumpError.{DumpError}
use Rattle.dump_read.specs.declared.error.DumpError.TheVariants as error
use Rattle.dump_read.specs.declared.error.LimitKind.TheVariants.{Bytes}

no_file : (bytes : List ℕ) → ◌≡◌ {A = Option (List ℕ)} (Some bytes) None → ⊥
no_file bytes e = cc

-- what holds of the octets that are unread holds of the file
pub file_read : (known : Option Files) (name : List ℕ) (left : Option (List ℕ)) (Q : Option (List ℕ) → Type 0) → Opens known name left → IfSome left (λ octets. Q (Some octets))
    → IfSome known (λ files. Q (files name))
file_read None name left Q opens h = tt
file_read (Some files) name left Q opens h = subst Q (sym opens.1) (subst (λ l. IfSome l (λ octets. Q (Some octets))) opens.2 h)

pub file_and : (known : Option Files) (name : List ℕ) (left : Option (List ℕ)) (Q : Option (List ℕ) → Type 0) → Opens known name left → Q left
    → IfSome known (λ files. IsSomeAnd (files name) (λ octets. Q (Some octets)))
file_and None name left Q opens q = tt
file_and (Some files) name left Q opens q = subst (λ o. IsSomeAnd o (λ octets. Q (Some octets))) (sym opens.1) (subst Q opens.2 q)

-- it is there
pub not_absent : (known : Option Files) (name : List ℕ) (left : Option (List ℕ)) (X : Type 0) → Opens known name left → IfSome known (λ files. files name ≡ None → X)
not_absent None name left X opens = tt
not_absent (Some files) name left X opens = λ none. absurd (no_file opens.0 (sym opens.1 ∙ none))

-- what holds whatever is known

pub any_some : {A : Type 0} (o : Option A) (P : A → Type 0) → ((x : A) → P x) → IfSome o P
any_some None P h = tt
any_some (Some x) P h = h x

module _ {T E : Type 0} where
  pub any_ok : (r : Result T E) (P : Type 0) → P → OnOk r P
  any_ok (Ok x) P p = p
  any_ok (Err e) P p = tt

  pub any_err : (r : Result T E) (P : E → Type 0) → ((e : E) → P e) → IfErr r P
  any_err (Ok x) P h = tt
  any_err (Err e) P h = h e

  pub err_then : (r : Result T E) (P Q : E → Type 0) → ((e : E) → P e → Q e) → IfErr r P → IfErr r Q
  err_then (Ok x) P Q h p = tt
  err_then (Err e) P Q h p = h e p

pub some_then : {A : Type 0} (o : Option A) (P Q : A → Type 0) → ((x : A) → P x → Q x) → IfSome o P → IfSome o Q
some_then None P Q h p = tt
some_then (Some x) P Q h p = h x p

-- errors that differ
pub no_limit : {T : Type 0} → ◌≡◌ {A = Result T DumpError} (Err error.ReadFault) (Err (error.Limit Bytes)) → ⊥
no_limit e = cc

pub no_limit_memory : {T : Type 0} → ◌≡◌ {A = Result T DumpError} (Err error.NoMemory) (Err (error.Limit Bytes)) → ⊥
no_limit_memory e = cc

pub no_fault : {T : Type 0} → ◌≡◌ {A = Result T DumpError} (Err error.NoMemory) (Err error.ReadFault) → ⊥
no_fault e = cc
