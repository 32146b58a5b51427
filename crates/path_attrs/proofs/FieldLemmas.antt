-- Fields one behind the other: what was read stands so, and what stands so is read.
use Rattle.std.proofs.Common.{◌≡◌, ℕ, ◌==◌, ◌∷◌, ◌++◌, Bool, true, false, List, [], length, take, drop, Result, Ok, Err, refl, sym, ap, subst, ◌∙◌}
use Rattle.std.proofs.lemmas.List.{take-append-drop, length-take-le, append_assoc, append-nil}
use Rattle.std.proofs.Math.Dec.{eqb-suc-zero}
use Rattle.byteorder.specs.Endian.{big_number}
use Rattle.path_attrs.specs.Fields.{◌>>=◌, octets, number, fault_unless, or_fault}
use Rattle.path_attrs.proofs.Encodings.{big_number-take}
use Rattle.path_attrs.proofs.Reading.{apart, octets_encoded, octets_then, number_encoded, number_then}

-- ---- what was read stands so

-- the octets begin with a field of n, and reading went on with it
pub record BeginsOctets {B E : Type 0} (n : ℕ) (bytes : List ℕ) (f : List ℕ × List ℕ → Result B E) (y : B) : Type 0 where
  pub field : List ℕ
  pub rest : List ℕ
  pub size : length field ≡ n
  pub parts : bytes ≡ field ++ rest
  pub next : f (field, rest) ≡ Ok y

pub record BeginsNumber {B E : Type 0} (n : ℕ) (bytes : List ℕ) (f : ℕ × List ℕ → Result B E) (y : B) : Type 0 where
  pub field : List ℕ
  pub rest : List ℕ
  pub size : length field ≡ n
  pub parts : bytes ≡ field ++ rest
  pub next : f (big_number n field, rest) ≡ Ok y

-- reading went on with what was read
pub record WentOn {A B E F : Type 0} (read : Result A F) (f : A → Result B E) (y : B) : Type 0 where
  pub value : A
  pub is : read ≡ Ok value
  pub next : f value ≡ Ok y

pub octets_back : {B E : Type 0} (fault : E) (n : ℕ) (bytes : List ℕ) (f : List ℕ × List ℕ → Result B E) (y : B) → (octets fault n bytes >>= f) ≡ Ok y → BeginsOctets n bytes f y
octets_back fault n bytes f y is =
    let t = octets_then fault n bytes f y is in
    record {
      field = take n bytes;
      rest = drop n bytes;
      size = length-take-le n bytes t.0;
      parts = sym (take-append-drop n bytes);
      next = t.1;
    }

pub number_back : {B E : Type 0} (fault : E) (n : ℕ) (bytes : List ℕ) (f : ℕ × List ℕ → Result B E) (y : B) → (number fault n bytes >>= f) ≡ Ok y → BeginsNumber n bytes f y
number_back fault n bytes f y is =
    let t = number_then fault n bytes f y is in
    record {
      field = take n bytes;
      rest = drop n bytes;
      size = length-take-le n bytes t.0;
      parts = sym (take-append-drop n bytes);
      next = ap (λ k. f (k, drop n bytes)) (big_number-take n bytes t.0) ∙ t.1;
    }

pub check_back : {B E : Type 0} (fault : E) (b : Bool) (f : Unit {0} → Result B E) (y : B) → (fault_unless fault b >>= f) ≡ Ok y → (b ≡ true) × (f tt ≡ Ok y)
check_back fault true f y is = (refl, is)
check_back fault false f y is = absurd (apart fault y is)

pub or_fault_back : {A B E F : Type 0} (fault : E) (read : Result A F) (f : A → Result B E) (y : B) → (or_fault fault read >>= f) ≡ Ok y → WentOn read f y
or_fault_back fault (Ok x) f y is = record { value = x; is = refl; next = is }
or_fault_back fault (Err e) f y is = absurd (apart fault y is)

pub then_back : {A B E : Type 0} (read : Result A E) (f : A → Result B E) (y : B) → (read >>= f) ≡ Ok y → WentOn read f y
then_back (Ok x) f y is = record { value = x; is = refl; next = is }
then_back (Err e) f y is = absurd (apart e y is)

-- ---- what stands so is read

pub octets_on : {B E : Type 0} (fault : E) (n : ℕ) (field rest : List ℕ) (f : List ℕ × List ℕ → Result B E) (y : Result B E) → length field ≡ n → f (field, rest) ≡ y
    → (octets fault n (field ++ rest) >>= f) ≡ y
octets_on {E = E} fault n field rest f y size next =
    ap (λ (r : Result (List ℕ × List ℕ) E). r >>= f) (subst (λ k. octets fault k (field ++ rest) ≡ Ok (field, rest)) size (octets_encoded fault field rest)) ∙ next

pub number_on : {B E : Type 0} (fault : E) (n : ℕ) (field rest : List ℕ) (x : ℕ) (f : ℕ × List ℕ → Result B E) (y : Result B E) → length field ≡ n → big_number n field ≡ x → f (x, rest) ≡ y
    → (number fault n (field ++ rest) >>= f) ≡ y
number_on {E = E} fault n field rest x f y size is next =
    ap (λ (r : Result (ℕ × List ℕ) E). r >>= f) (number_encoded fault n field rest x size is) ∙ next

pub check_on : {B E : Type 0} (fault : E) (b : Bool) (f : Unit {0} → Result B E) (y : Result B E) → b ≡ true → f tt ≡ y → (fault_unless fault b >>= f) ≡ y
check_on fault b f y holds next = ap (λ c. fault_unless fault c >>= f) holds ∙ next

pub or_fault_on : {A B E F : Type 0} (fault : E) (read : Result A F) (x : A) (f : A → Result B E) (y : Result B E) → read ≡ Ok x → f x ≡ y → (or_fault fault read >>= f) ≡ y
or_fault_on fault read x f y is next = ap (λ r. or_fault fault r >>= f) is ∙ next

pub then_on : {A B E : Type 0} (read : Result A E) (x : A) (f : A → Result B E) (y : Result B E) → read ≡ Ok x → f x ≡ y → (read >>= f) ≡ y
then_on {A = A} {E = E} read x f y is next = ap (λ (r : Result A E). r >>= f) is ∙ next

-- ---- octets made of fields

-- a field more
pub onto : (bytes before rest field more : List ℕ) → bytes ≡ before ++ rest → rest ≡ field ++ more → bytes ≡ before ++ field ++ more
onto bytes before rest field more first next = first ∙ ap (λ t. before ++ t) next ∙ sym (append_assoc before field more)

-- the last
pub ended : (bytes before rest field : List ℕ) → bytes ≡ before ++ rest → rest ≡ field → bytes ≡ before ++ field
ended bytes before rest field first next = first ∙ ap (λ t. before ++ t) next

-- where nothing is left
pub none_behind : (bytes field rest : List ℕ) → bytes ≡ field ++ rest → (length rest == 0) ≡ true → bytes ≡ field
none_behind bytes field [] is none = is ∙ append-nil field
none_behind bytes field (x ∷ xs) is none = absurd (let e = eqb-suc-zero (length xs) in cc)
