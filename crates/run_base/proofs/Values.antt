-- A value that is there is one, and a result is a value or an error.
use Rattle.std.proofs.Common.{◌≡◌, ◌<◌, ◌≤◌, ℕ, List, length, Option, Some, None, Result, Ok, Err, sym, subst, ◌∙◌, arith}
use Rattle.std.proofs.lemmas.Option.{same_Some}
use Rattle.run_base.specs.WholeFile.{IsLongFile}

pub some_is : {X : Type 0} (o : Option X) (x y : X) → o ≡ Some x → o ≡ Some y → x ≡ y
some_is o x y p q = same_Some x y (sym p ∙ q)

pub ok_is : {X Y : Type 0} (r : Result X Y) (x y : X) → r ≡ Ok x → r ≡ Ok y → x ≡ y
ok_is {X = X} {Y = Y} r x y p q = by (sym p ∙ q)
  where
    by : ◌≡◌ {A = Result X Y} (Ok x) (Ok y) → x ≡ y
    by e = cc

pub err_is : {X Y : Type 0} (r : Result X Y) (x y : Y) → r ≡ Err x → r ≡ Err y → x ≡ y
err_is {X = X} {Y = Y} r x y p q = by (sym p ∙ q)
  where
    by : ◌≡◌ {A = Result X Y} (Err x) (Err y) → x ≡ y
    by e = cc

pub ok_not_err : {X Y Z : Type 0} (r : Result X Y) (x : X) (y : Y) → r ≡ Ok x → r ≡ Err y → Z
ok_not_err {X = X} {Y = Y} r x y p q = absurd (by (sym p ∙ q))
  where
    by : ◌≡◌ {A = Result X Y} (Ok x) (Err y) → ⊥
    by e = absurd cc

pub some_not_none : {X Z : Type 0} (o : Option X) (x : X) → o ≡ Some x → o ≡ None → Z
some_not_none {X = X} o x p q = absurd (by (sym p ∙ q))
  where
    by : ◌≡◌ {A = Option X} (Some x) None → ⊥
    by e = absurd cc

-- a file that is there and short isn't too long, and neither is one that isn't there
pub not_long : {Z : Type 0} (most : ℕ) (file : Option (List ℕ)) (bytes : List ℕ) → file ≡ Some bytes → length bytes ≤ most → IsLongFile most file → Z
not_long most file bytes there short long =
    let more : most < length bytes = subst (IsLongFile most) there long in
    absurd (omega (arith, more, short))

pub none_long : {Z : Type 0} (most : ℕ) (file : Option (List ℕ)) → file ≡ None → IsLongFile most file → Z
none_long most file is long =
    let none : ⊥ = subst (IsLongFile most) is long in
    absurd none
