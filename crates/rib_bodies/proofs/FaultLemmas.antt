-- Readings field by field: what more octets change in their answers.
use Rattle.std.proofs.Common.{◌≡◌, ◌≢◌, ℕ, ◌+◌, ◌-◌, ◌<◌, ◌==◌, ◌⊎◌, inl, inr, Bool, true, false, cond, ltb, List, [], ◌∷◌, ◌++◌, length, take, drop, replicate, Result, Ok, Err, refl, sym, ap, ◌∙◌, arith}
use Rattle.std.proofs.lemmas.Bool.{lt-ltb, ltb-false, cases_lt}
use Rattle.std.proofs.lemmas.List.{take-append-drop, length-take-le, length-append, append_assoc, replicate-append-replicate, length-replicate}
use Rattle.std.proofs.Math.Dec.{eqb-suc-zero}
use Rattle.byteorder.specs.Endian.{big_number}
use Rattle.path_attrs.specs.declared.fault.RibFault.{RibFault}
use Rattle.path_attrs.specs.declared.fault.RibFault.TheVariants.{Cut, Tail}
use Rattle.path_attrs.specs.Fields.{◌>>=◌, octets, number, fault_unless, or_fault}
use Rattle.path_attrs.proofs.Encodings.{big_number-take}
use Rattle.path_attrs.proofs.FieldLemmas.{octets_back, octets_on}

-- a proper prefix is read
pub record Parted {A : Type 0} (f : List ℕ → Result A RibFault) (bytes : List ℕ) : Type 0 where
  pub first : List ℕ
  pub behind : List ℕ
  pub value : A
  pub is_read : f first ≡ Ok value
  pub more : 0 < length behind
  pub parts : bytes ≡ first ++ behind

-- what more octets change
pub record IsReading {A : Type 0} (f : List ℕ → Result A RibFault) : Type 0 where
  pub goes_on : (bytes : List ℕ) → (zeros : ℕ) × (f (bytes ++ replicate zeros 0) ≢ Err Cut)
  pub stays : (bytes more : List ℕ) (fault : RibFault) → f bytes ≡ Err fault → fault ≢ Cut → f (bytes ++ more) ≡ Err fault
  pub parted : (bytes : List ℕ) → f bytes ≡ Err Tail → Parted f bytes
  pub tail : (first behind : List ℕ) (x : A) → f first ≡ Ok x → 0 < length behind → f (first ++ behind) ≡ Err Tail

abbrev pub Read : Type 0 → Type 0
Read A = List ℕ → Result A RibFault

fault_same : {A : Type 0} (e f : RibFault) → ◌≡◌ {A = Result A RibFault} (Err e) (Err f) → e ≡ f
fault_same e f h = cc

no_fault : {A : Type 0} (x : A) (e : RibFault) → ◌≡◌ {A = Result A RibFault} (Ok x) (Err e) → ⊥
no_fault x e h = cc

-- readings with the same answers
pub same_reading : {A : Type 0} (f g : Read A) → ((bytes : List ℕ) → g bytes ≡ f bytes) → IsReading f → IsReading g
same_reading f g same is = record {
  goes_on = λ bytes. let w = is.goes_on bytes in (w.0, λ e. w.1 (sym (same (bytes ++ replicate w.0 0)) ∙ e));
  stays = λ bytes more fault e ne. same (bytes ++ more) ∙ is.stays bytes more fault (sym (same bytes) ∙ e) ne;
  parted = λ bytes e. let p = is.parted bytes (sym (same bytes) ∙ e) in record {
    first = p.first;
    behind = p.behind;
    value = p.value;
    is_read = same p.first ∙ p.is_read;
    more = p.more;
    parts = p.parts;
  };
  tail = λ first behind x e some. same (first ++ behind) ∙ is.tail first behind x (sym (same first) ∙ e) some;
}

-- a fault whatever is read
pub only_fault : {A : Type 0} (fault : RibFault) → fault ≢ Cut → fault ≢ Tail → IsReading {A = A} (λ bytes. Err fault)
only_fault fault no_cut no_tail = record {
  goes_on = λ bytes. (0, λ e. no_cut (fault_same fault Cut e));
  stays = λ bytes more other e ne. e;
  parted = λ bytes e. absurd (no_tail (fault_same fault Tail e));
  tail = λ first behind x e some. absurd (no_fault x fault (sym e));
}

-- the end
abbrev at_end : {A : Type 0} (x : A) → Read A
at_end x bytes = fault_unless Tail (length bytes == 0) >>= λ end. Ok x

pub end_reading : {A : Type 0} (x : A) → IsReading (λ bytes. fault_unless Tail (length bytes == 0) >>= λ end. Ok x)
end_reading {A = A} x = record {
  goes_on = λ bytes. (0, not_cut (length (bytes ++ replicate 0 0) == 0));
  stays = stays;
  parted = parted;
  tail = tail;
}
  where
    by : Bool → Result A RibFault
    by b = fault_unless Tail b >>= λ end. Ok x

    not_cut : (b : Bool) → by b ≢ Err Cut
    not_cut true e = no_fault x Cut e
    not_cut false e = absurd (let n = fault_same Tail Cut e in cc)

    stays : (bytes more : List ℕ) (fault : RibFault) → by (length bytes == 0) ≡ Err fault → fault ≢ Cut → by (length (bytes ++ more) == 0) ≡ Err fault
    stays [] more fault e ne = absurd (no_fault x fault e)
    stays (b ∷ bytes) more fault e ne = ap by (eqb-suc-zero (length (bytes ++ more)) ∙ sym (eqb-suc-zero (length bytes))) ∙ e

    parted : (bytes : List ℕ) → by (length bytes == 0) ≡ Err Tail → Parted (at_end x) bytes
    parted [] e = absurd (no_fault x Tail e)
    parted (b ∷ bytes) e = record { first = []; behind = b ∷ bytes; value = x; is_read = refl; more = omega arith; parts = refl }

    tail : (first behind : List ℕ) (y : A) → by (length first == 0) ≡ Ok y → 0 < length behind → by (length (first ++ behind) == 0) ≡ Err Tail
    tail [] [] y e some = absurd (omega (arith, some))
    tail [] (b ∷ behind) y e some = ap by (eqb-suc-zero (length behind))
    tail (b ∷ first) behind y e some = absurd (no_fault y Tail (sym e ∙ ap by (eqb-suc-zero (length first))))

-- a field, and what goes on with it
module _ {A : Type 0} (k : ℕ) (g : List ℕ × List ℕ → Result A RibFault) (on : (field : List ℕ) → length field ≡ k → IsReading (λ rest. g (field, rest))) where
  abbrev pub first_field : Read A
  first_field bytes = octets Cut k bytes >>= g

  too_short : (bytes : List ℕ) → length bytes < k → first_field bytes ≡ Err Cut
  too_short bytes lt = ap (λ b. cond b (Err Cut) (Ok (take k bytes, drop k bytes)) >>= g) (lt-ltb (length bytes) k lt)

  whole : (field rest : List ℕ) → length field ≡ k → first_field (field ++ rest) ≡ g (field, rest)
  whole field rest size = octets_on Cut k field rest g (g (field, rest)) size refl

  more_zeros : (bytes : List ℕ) (m n : ℕ) → (bytes ++ replicate m 0) ++ replicate n 0 ≡ bytes ++ replicate (m + n) 0
  more_zeros bytes m n = append_assoc bytes (replicate m 0) (replicate n 0) ∙ ap (λ z. bytes ++ z) (replicate-append-replicate m n 0)

  -- the field, or what is there of it
  record Field (bytes : List ℕ) : Type 0 where
    field : List ℕ
    rest : List ℕ
    size : length field ≡ k
    parts : bytes ≡ field ++ rest

  field_of : (bytes : List ℕ) → (length bytes < k) ⊎ Field bytes
  field_of bytes = elim (cases_lt (length bytes) k) [
    | inl lt ↦ inl lt
    | inr le ↦ inr (record { field = take k bytes; rest = drop k bytes; size = length-take-le k bytes le; parts = sym (take-append-drop k bytes) })
  ]

  pub field_reading : IsReading first_field
  field_reading = record { goes_on = goes_on; stays = stays; parted = parted; tail = tail }
    where
      goes_on : (bytes : List ℕ) → (zeros : ℕ) × (first_field (bytes ++ replicate zeros 0) ≢ Err Cut)
      goes_on bytes = elim (field_of bytes) [
        | inl lt ↦ (
            let m = k - length bytes in
            let field = bytes ++ replicate m 0 in
            let size : length field ≡ k = omega (arith, lt, length-append bytes (replicate m 0), length-replicate {A = ℕ} m 0) in
            let w = (on field size).goes_on [] in
            (m + w.0, λ e. w.1 (sym (whole field (replicate w.0 0) size) ∙ ap first_field (more_zeros bytes m w.0) ∙ e))
            )
        | inr f ↦ (
            let w = (on f.field f.size).goes_on f.rest in (
              w.0,
              λ e. w.1 (sym (whole f.field (f.rest ++ replicate w.0 0) f.size)
                  ∙ ap first_field (sym (append_assoc f.field f.rest (replicate w.0 0)) ∙ ap (λ b. b ++ replicate w.0 0) (sym f.parts)) ∙ e),
            )
            )
      ]

      stays : (bytes more : List ℕ) (fault : RibFault) → first_field bytes ≡ Err fault → fault ≢ Cut → first_field (bytes ++ more) ≡ Err fault
      stays bytes more fault e ne = elim (field_of bytes) [
        | inl lt ↦ absurd (ne (fault_same fault Cut (sym e ∙ too_short bytes lt)))
        | inr f ↦ (
            let read : g (f.field, f.rest) ≡ Err fault = sym (whole f.field f.rest f.size) ∙ ap first_field (sym f.parts) ∙ e in
            ap first_field (ap (λ b. b ++ more) f.parts ∙ append_assoc f.field f.rest more) ∙ whole f.field (f.rest ++ more) f.size
            ∙ (on f.field f.size).stays f.rest more fault read ne
            )
      ]

      parted : (bytes : List ℕ) → first_field bytes ≡ Err Tail → Parted first_field bytes
      parted bytes e = elim (field_of bytes) [
        | inl lt ↦ absurd (let n = fault_same Tail Cut (sym e ∙ too_short bytes lt) in cc)
        | inr f ↦ (
            let p = (on f.field f.size).parted f.rest (sym (whole f.field f.rest f.size) ∙ ap first_field (sym f.parts) ∙ e) in
            record {
              first = f.field ++ p.first;
              behind = p.behind;
              value = p.value;
              is_read = whole f.field p.first f.size ∙ p.is_read;
              more = p.more;
              parts = f.parts ∙ ap (λ r. f.field ++ r) p.parts ∙ sym (append_assoc f.field p.first p.behind);
            }
            )
      ]

      tail : (first behind : List ℕ) (x : A) → first_field first ≡ Ok x → 0 < length behind → first_field (first ++ behind) ≡ Err Tail
      tail first behind x e some =
          let b = octets_back Cut k first g x e in
          ap first_field (ap (λ l. l ++ behind) b.parts ∙ append_assoc b.field b.rest behind) ∙ whole b.field (b.rest ++ behind) b.size
          ∙ (on b.field b.size).tail b.rest behind x b.next some

-- ---- what is read first, and what goes on behind it

pub then_same : {A Y Z : Type 0} (read : Result Z RibFault) (f : Z → Result Y RibFault) (K : Y → Result A RibFault) → ((read >>= f) >>= K) ≡ (read >>= λ z. f z >>= K)
then_same (Ok z) f K = refl
then_same (Err e) f K = refl

pub octets_first : {A Y : Type 0} (k : ℕ) (f : List ℕ × List ℕ → Result Y RibFault) (K : Y → Result A RibFault) →
    ((field : List ℕ) → length field ≡ k → IsReading (λ rest. f (field, rest) >>= K)) → IsReading (λ bytes. (octets Cut k bytes >>= f) >>= K)
octets_first k f K on =
    same_reading (λ bytes. octets Cut k bytes >>= λ x. f x >>= K) (λ bytes. (octets Cut k bytes >>= f) >>= K) (λ bytes. then_same (octets Cut k bytes) f K)
    (field_reading k (λ x. f x >>= K) on)

-- the number of a field
abbrev number_if : Bool → ℕ → List ℕ → Result (ℕ × List ℕ) RibFault
number_if short n rest = cond short (Err Cut) (Ok (n, rest))

abbrev octets_if : Bool → List ℕ → List ℕ → Result (List ℕ × List ℕ) RibFault
octets_if short field rest = cond short (Err Cut) (Ok (field, rest))

as_number : {A : Type 0} (k : ℕ) (g : ℕ × List ℕ → Result A RibFault) (bytes : List ℕ) →
    (number Cut k bytes >>= g) ≡ (octets Cut k bytes >>= λ x. g (big_number k x.0, x.1))
as_number {A = A} k g bytes = by (ltb (length bytes) k) refl
  where
    by : (b : Bool) → ltb (length bytes) k ≡ b →
        (number_if b (big_number k bytes) (drop k bytes) >>= g) ≡ (octets_if b (take k bytes) (drop k bytes) >>= λ x. g (big_number k x.0, x.1))
    by true t = refl
    by false t = ap (λ n. g (n, drop k bytes)) (sym (big_number-take k bytes (ltb-false (length bytes) k t)))

pub number_reading : {A : Type 0} (k : ℕ) (g : ℕ × List ℕ → Result A RibFault) → ((n : ℕ) → IsReading (λ rest. g (n, rest))) → IsReading (λ bytes. number Cut k bytes >>= g)
number_reading k g on =
    same_reading (λ bytes. octets Cut k bytes >>= λ x. g (big_number k x.0, x.1)) (λ bytes. number Cut k bytes >>= g) (as_number k g)
    (field_reading k (λ x. g (big_number k x.0, x.1)) (λ field size. on (big_number k field)))

pub number_first : {A Y : Type 0} (k : ℕ) (f : ℕ × List ℕ → Result Y RibFault) (K : Y → Result A RibFault) →
    ((n : ℕ) → IsReading (λ rest. f (n, rest) >>= K)) → IsReading (λ bytes. (number Cut k bytes >>= f) >>= K)
number_first k f K on =
    same_reading (λ bytes. number Cut k bytes >>= λ x. f x >>= K) (λ bytes. (number Cut k bytes >>= f) >>= K) (λ bytes. then_same (number Cut k bytes) f K)
    (number_reading k (λ x. f x >>= K) on)

-- a test of what was read before
pub tested : {A Y : Type 0} (fault : RibFault) (b : Bool) (f : Unit {0} → List ℕ → Result Y RibFault) (K : Y → Result A RibFault) → fault ≢ Cut → fault ≢ Tail →
    IsReading (λ rest. f tt rest >>= K) → IsReading (λ rest. (fault_unless fault b >>= λ u. f u rest) >>= K)
tested fault true f K no_cut no_tail on = on
tested fault false f K no_cut no_tail on = only_fault fault no_cut no_tail

pub read_or : {A X F : Type 0} (fault : RibFault) (read : Result X F) (f : X → List ℕ → Result A RibFault) → fault ≢ Cut → fault ≢ Tail →
    ((x : X) → IsReading (f x)) → IsReading (λ rest. or_fault fault read >>= λ x. f x rest)
read_or fault (Ok x) f no_cut no_tail on = on x
read_or fault (Err e) f no_cut no_tail on = only_fault fault no_cut no_tail

-- a value that is made of what is read
pub mapped : {A B : Type 0} (f : Read A) (h : A → B) → IsReading f → IsReading (λ bytes. f bytes >>= λ x. Ok (h x))
mapped {A = A} {B = B} f h is = record {
  goes_on = λ bytes. let w = is.goes_on bytes in (w.0, λ e. w.1 (back (f (bytes ++ replicate w.0 0)) Cut e));
  stays = λ bytes more fault e ne. on (is.stays bytes more fault (back (f bytes) fault e) ne);
  parted = λ bytes e. let p = is.parted bytes (back (f bytes) Tail e) in record {
    first = p.first;
    behind = p.behind;
    value = h p.value;
    is_read = ap (λ (r : Result A RibFault). r >>= λ x. Ok (h x)) p.is_read;
    more = p.more;
    parts = p.parts;
  };
  tail = λ first behind y e some. on (by_value (f first) refl first behind y e some);
}
  where
    back : (r : Result A RibFault) (fault : RibFault) → (r >>= λ x. Ok (h x)) ≡ Err fault → r ≡ Err fault
    back (Ok x) fault e = absurd (no_fault (h x) fault e)
    back (Err other) fault e = ap (λ n. Err n) (fault_same other fault e)

    on : {r : Result A RibFault} {fault : RibFault} → r ≡ Err fault → (r >>= λ x. Ok (h x)) ≡ Err fault
    on e = ap (λ (r : Result A RibFault). r >>= λ x. Ok (h x)) e

    by_value : (r : Result A RibFault) → r ≡ r → (first behind : List ℕ) (y : B) → (f first >>= λ x. Ok (h x)) ≡ Ok y → 0 < length behind → f (first ++ behind) ≡ Err Tail
    by_value r same first behind y e some = value_of (f first) refl
      where
        value_of : (s : Result A RibFault) → f first ≡ s → f (first ++ behind) ≡ Err Tail
        value_of (Ok x) at = is.tail first behind x at some
        value_of (Err fault) at = absurd (no_fault y fault (sym e ∙ ap (λ (r : Result A RibFault). r >>= λ x. Ok (h x)) at))
