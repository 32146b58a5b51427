-- A value that is read is encoded as it was written, and what was written is read again.
use Rattle.std.proofs.Common.{◌≡◌, ℕ, zero, suc, ◌+◌, ◌-◌, ◌*◌, ◌/◌, ◌%◌, ◌^◌, ◌<◌, ◌≤◌, Bool, true, false, cond, ltb, leb, eqb, List, [], ◌∷◌, ◌++◌, length, Option, Some, None, refl, sym, ap, subst}
use Rattle.std.proofs.Common.{◌∙◌, append_assoc, arith, inl, inr}
use Rattle.std.specs.Prelude.{◌⊎◌}
use Rattle.std.specs.Fmt.{decimal}
use Rattle.std.proofs.lemmas.Bool.{ltb-true, leb-true, lt-ltb, le-leb, eqb-true, eqb-false, eq-eqb, ne_eqb, and_parts, and_from}
use Rattle.std.proofs.lemmas.Fmt.{decimal_digit, decimal_step, decimal_by_steps}
use Rattle.std.proofs.lemmas.List.{length-append}
use Rattle.text_fields.specs.Fields.{IsU32, IsU64}
use Rattle.text_fields.specs.Reading.{◌>>=◌, word_at, on_word, is_digit, with_digit, digit_at, digits_at, u64_at, u32_at, below, before, both, mapped}

-- ---- steps

-- the value of a step that did not fail
pub bind_some : {A B : Type 0} (r : Option A) (f : A → Option B) (y : B) → (r >>= f) ≡ Some y → (x : A) × (r ≡ Some x) × (f x ≡ Some y)
bind_some (Some x) f y e = (x, refl, e)
bind_some None f y e = absurd cc

pub some_is : {A : Type 0} (x y : A) → (let s : Option A = Some x in s) ≡ Some y → x ≡ y
some_is x y e = cc

-- a test that let a value pass
pub if_some : {A : Type 0} (b : Bool) (o : Option A) (y : A) → cond b o None ≡ Some y → (b ≡ true) × (o ≡ Some y)
if_some true o y e = (refl, e)
if_some false o y e = absurd cc

pub word_takes : (word bytes rest : List ℕ) → word_at word bytes ≡ Some rest → bytes ≡ word ++ rest
word_takes [] bytes rest e = some_is bytes rest e
word_takes (c ∷ cs) [] rest e = absurd cc
word_takes (c ∷ cs) (b ∷ bytes) rest e =
    let t = if_some (eqb b c) (word_at cs bytes) rest e in
    let same : b ≡ c = eqb-true b c t.0 in
    let more : bytes ≡ cs ++ rest = word_takes cs bytes rest t.1 in
    cc

pub word_again : (word rest : List ℕ) → word_at word (word ++ rest) ≡ Some rest
word_again [] rest = refl
word_again (c ∷ cs) rest = rw (eq-eqb c c refl) (word_again cs rest)

pub on_word_takes : {X : Type 0} (word : List ℕ) (f g : List ℕ → Option X) (bytes : List ℕ) (y : X) → on_word word f g bytes ≡ Some y
    → ((rest : List ℕ) × (bytes ≡ word ++ rest) × (f rest ≡ Some y)) ⊎ (g bytes ≡ Some y)
on_word_takes {X} word f g bytes y e = by_word (word_at word bytes) refl e
  where
    by_word : (o : Option (List ℕ)) → word_at word bytes ≡ o → elim o as (λ _. Option X) [ Some rest ↦ f rest | None ↦ g bytes ] ≡ Some y
        → ((rest : List ℕ) × (bytes ≡ word ++ rest) × (f rest ≡ Some y)) ⊎ (g bytes ≡ Some y)
    by_word (Some rest) is e = inl (rest, word_takes word bytes rest is, e)
    by_word None is e = inr e

pub on_word_some : {X : Type 0} (word : List ℕ) (f g : List ℕ → Option X) (bytes rest : List ℕ) → word_at word bytes ≡ Some rest → on_word word f g bytes ≡ f rest
on_word_some {X} word f g bytes rest e = ap (λ (o : Option (List ℕ)). elim o as (λ _. Option X) [ Some r ↦ f r | None ↦ g bytes ]) e

pub on_word_none : {X : Type 0} (word : List ℕ) (f g : List ℕ → Option X) (bytes : List ℕ) → word_at word bytes ≡ None → on_word word f g bytes ≡ g bytes
on_word_none {X} word f g bytes e = ap (λ (o : Option (List ℕ)). elim o as (λ _. Option X) [ Some r ↦ f r | None ↦ g bytes ]) e

-- ---- readers

-- It reads just what is encoded so, whatever follows.
pub record Reads (X : Type 0) (Fits : X → Type 0) (encode : X → List ℕ) (read : List ℕ → Option (X × List ℕ)) : Type 0 where
  pub takes : (bytes : List ℕ) (x : X × List ℕ) → read bytes ≡ Some x → Fits x.0 × (bytes ≡ encode x.0 ++ x.1)
  pub again : (x : X) (rest : List ℕ) → Fits x → read (encode x ++ rest) ≡ Some (x, rest)

-- The same, where what follows ends the value.
pub record ReadsOpen (X : Type 0) (Fits : X → Type 0) (encode : X → List ℕ) (Ends : List ℕ → Type 0) (read : List ℕ → Option (X × List ℕ)) : Type 0 where
  pub takes : (bytes : List ℕ) (x : X × List ℕ) → read bytes ≡ Some x → Fits x.0 × (bytes ≡ encode x.0 ++ x.1)
  pub again : (x : X) (rest : List ℕ) → Fits x → Ends rest → read (encode x ++ rest) ≡ Some (x, rest)

-- The same, where the reader gives f of the value.
pub record ReadsAs (X Y : Type 0) (f : X → Y) (Fits : X → Type 0) (encode : X → List ℕ) (read : List ℕ → Option (Y × List ℕ)) : Type 0 where
  pub takes : (bytes : List ℕ) (y : Y × List ℕ) → read bytes ≡ Some y → (x : X) × (y.0 ≡ f x) × Fits x × (bytes ≡ encode x ++ y.1)
  pub again : (x : X) (rest : List ℕ) → Fits x → read (encode x ++ rest) ≡ Some (f x, rest)

pub before_reads : (X : Type 0) (Fits : X → Type 0) (encode : X → List ℕ) (Ends : List ℕ → Type 0) (read : List ℕ → Option (X × List ℕ)) (c : ℕ)
    → ReadsOpen X Fits encode Ends read → ((rest : List ℕ) → Ends (c ∷ rest)) → Reads X Fits (λ x. encode x ++ c ∷ []) (before c read)
before_reads X Fits encode Ends read c r ends = record {
  takes = λ bytes x e.
      let a = bind_some (read bytes) (λ y. word_at (c ∷ []) y.1 >>= λ rest. Some (y.0, rest)) x e in
      let b = bind_some (word_at (c ∷ []) a.0.1) (λ rest. Some (a.0.0, rest)) x a.2 in
      let t = r.takes bytes a.0 a.1 in
      let w : a.0.1 ≡ c ∷ b.0 = word_takes (c ∷ []) a.0.1 b.0 b.1 in
      let made : X × List ℕ = (a.0.0, b.0) in
      let parts : bytes ≡ (encode a.0.0 ++ c ∷ []) ++ b.0 = t.1 ∙ ap (λ (y : List ℕ). encode a.0.0 ++ y) w ∙ sym (append_assoc (encode a.0.0) (c ∷ []) b.0) in
      subst (λ (y : X × List ℕ). Fits y.0 × (bytes ≡ (encode y.0 ++ c ∷ []) ++ y.1)) (some_is made x b.2) (t.0, parts);
  again = λ x rest fits.
      let one : read ((encode x ++ c ∷ []) ++ rest) ≡ Some (x, c ∷ rest) = ap read (append_assoc (encode x) (c ∷ []) rest) ∙ r.again x (c ∷ rest) fits (ends rest) in
      rw (one, word_again (c ∷ []) rest) refl;
}

-- one after the other, where what follows ends the second
pub both_open : (X Y : Type 0) (F : X → Type 0) (G : Y → Type 0) (s : X → List ℕ) (t : Y → List ℕ) (Ends : List ℕ → Type 0) (p : List ℕ → Option (X × List ℕ)) (q : List ℕ → Option (Y × List ℕ))
    → Reads X F s p → ReadsOpen Y G t Ends q → ReadsOpen (X × Y) (λ z. F z.0 × G z.1) (λ z. s z.0 ++ t z.1) Ends (both p q)
both_open X Y F G s t Ends p q r u = record {
  takes = λ bytes z e.
      let a = bind_some (p bytes) (λ x. q x.1 >>= λ y. Some ((x.0, y.0), y.1)) z e in
      let b = bind_some (q a.0.1) (λ y. Some ((a.0.0, y.0), y.1)) z a.2 in
      let first = r.takes bytes a.0 a.1 in
      let second = u.takes a.0.1 b.0 b.1 in
      let made : (X × Y) × List ℕ = ((a.0.0, b.0.0), b.0.1) in
      let parts : bytes ≡ (s a.0.0 ++ t b.0.0) ++ b.0.1 = first.1 ∙ ap (λ (y : List ℕ). s a.0.0 ++ y) second.1 ∙ sym (append_assoc (s a.0.0) (t b.0.0) b.0.1) in
      subst (λ (y : (X × Y) × List ℕ). (F y.0.0 × G y.0.1) × (bytes ≡ (s y.0.0 ++ t y.0.1) ++ y.1)) (some_is made z b.2) ((first.0, second.0), parts);
  again = λ z rest fits ends.
      let one : p ((s z.0 ++ t z.1) ++ rest) ≡ Some (z.0, t z.1 ++ rest) = ap p (append_assoc (s z.0) (t z.1) rest) ∙ r.again z.0 (t z.1 ++ rest) fits.0 in
      rw (one, u.again z.1 rest fits.1 ends) refl;
}

abbrev pub Anything : List ℕ → Type 0
Anything rest = Unit {0}

pub both_reads : (X Y : Type 0) (F : X → Type 0) (G : Y → Type 0) (s : X → List ℕ) (t : Y → List ℕ) (p : List ℕ → Option (X × List ℕ)) (q : List ℕ → Option (Y × List ℕ))
    → Reads X F s p → Reads Y G t q → Reads (X × Y) (λ z. F z.0 × G z.1) (λ z. s z.0 ++ t z.1) (both p q)
both_reads X Y F G s t p q r u =
    let open_u : ReadsOpen Y G t Anything q = record { takes = u.takes; again = λ y rest fits ends. u.again y rest fits } in
    let open_both = both_open X Y F G s t Anything p q r open_u in
    record { takes = open_both.takes; again = λ z rest fits. open_both.again z rest fits tt }

pub mapped_reads : (X Y : Type 0) (F : X → Type 0) (s : X → List ℕ) (p : List ℕ → Option (X × List ℕ)) (f : X → Y) → Reads X F s p → ReadsAs X Y f F s (mapped f p)
mapped_reads X Y F s p f r = record {
  takes = λ bytes y e.
      let a = bind_some (p bytes) (λ x. Some (f x.0, x.1)) y e in
      let t = r.takes bytes a.0 a.1 in
      let made : Y × List ℕ = (f a.0.0, a.0.1) in
      subst (λ (z : Y × List ℕ). (x : X) × (z.0 ≡ f x) × F x × (bytes ≡ s x ++ z.1)) (some_is made y a.2) (a.0.0, refl, t.0, t.1);
  again = λ x rest fits. rw (r.again x rest fits) refl;
}

-- ---- numbers

abbrev pub starts_with_digit : List ℕ → Bool
starts_with_digit [] = false
starts_with_digit (b ∷ bytes) = is_digit b

abbrev pub NoDigit : List ℕ → Type 0
NoDigit rest = starts_with_digit rest ≡ false

pub digit_range : (b : ℕ) → is_digit b ≡ true → (48 ≤ b) × (b ≤ 57)
digit_range b e =
    let t = and_parts (leb 48 b) (leb b 57) e in
    (leb-true 48 b t.0, leb-true b 57 t.1)

digit_from : (b : ℕ) → 48 ≤ b → b ≤ 57 → is_digit b ≡ true
digit_from b low high = and_from (leb 48 b) (leb b 57) (le-leb 48 b low) (le-leb b 57 high)

-- a number with one more digit
decimal_more : (n b : ℕ) → 0 < n → 48 ≤ b → b ≤ 57 → n * 10 + (b - 48) < 2 ^ 64 → decimal (n * 10 + (b - 48)) ≡ decimal n ++ b ∷ []
decimal_more n b pos low high fits =
    let quotient : (n * 10 + (b - 48)) / 10 ≡ n = omega arith in
    let digit : 48 + (n * 10 + (b - 48)) % 10 ≡ b = omega arith in
    let step : decimal (n * 10 + (b - 48)) ≡ decimal ((n * 10 + (b - 48)) / 10) ++ (48 + (n * 10 + (b - 48)) % 10) ∷ [] = decimal_step (n * 10 + (b - 48)) (omega arith) fits in
    step ∙ ap (λ (q : ℕ). decimal q ++ (48 + (n * 10 + (b - 48)) % 10) ∷ []) quotient ∙ ap (λ (d : ℕ). decimal n ++ d ∷ []) digit

-- which way a test went
pub chosen : {A : Type 0} (b : Bool) (x y z : A) → cond b x y ≡ z → ((b ≡ true) × (x ≡ z)) ⊎ ((b ≡ false) × (y ≡ z))
chosen true x y z e = inl (refl, e)
chosen false x y z e = inr (refl, e)

digits_take : (bytes : List ℕ) (n : ℕ) (x : ℕ × List ℕ) → 0 < n → n < 2 ^ 64 → digits_at n bytes ≡ Some x → (x.0 < 2 ^ 64) × (decimal n ++ bytes ≡ decimal x.0 ++ x.1)
unfolding digits_at
digits_take [] n x pos fits e =
    subst (λ (y : ℕ × List ℕ). (y.0 < 2 ^ 64) × (decimal n ++ [] ≡ decimal y.0 ++ y.1)) (some_is (n, []) x e) (fits, refl)
digits_take (b ∷ bytes) n x pos fits e =
    elim (chosen (is_digit b) (with_digit n (b - 48) >>= λ m. digits_at m bytes) (Some (n, b ∷ bytes)) (Some x) e) [
      | inl t ↦
          let range = digit_range b t.0 in
          let m = bind_some (with_digit n (b - 48)) (λ m. digits_at m bytes) x t.1 in
          let g = if_some (ltb (n * 10 + (b - 48)) (2 ^ 64)) (Some (n * 10 + (b - 48))) m.0 m.1 in
          let small : n * 10 + (b - 48) < 2 ^ 64 = ltb-true (n * 10 + (b - 48)) (2 ^ 64) g.0 in
          let m-is : n * 10 + (b - 48) ≡ m.0 = some_is (n * 10 + (b - 48)) m.0 g.1 in
          let rest : digits_at (n * 10 + (b - 48)) bytes ≡ Some x = ap (λ (k : ℕ). digits_at k bytes) m-is ∙ m.2 in
          let more = digits_take bytes (n * 10 + (b - 48)) x (omega arith) small rest in
          let wider = decimal_more n b pos range.0 range.1 small in
          (more.0, sym (append_assoc (decimal n) (b ∷ []) bytes) ∙ ap (λ (d : List ℕ). d ++ bytes) (sym wider) ∙ more.1)
      | inr t ↦
          subst (λ (y : ℕ × List ℕ). (y.0 < 2 ^ 64) × (decimal n ++ b ∷ bytes ≡ decimal y.0 ++ y.1)) (some_is (n, b ∷ bytes) x t.1) (fits, refl)
    ]

digit_takes : (bytes : List ℕ) (x : ℕ × List ℕ) → digit_at bytes ≡ Some x → (x.0 < 10) × (bytes ≡ (48 + x.0) ∷ x.1)
unfolding digit_at
digit_takes [] x e = absurd cc
digit_takes (b ∷ bytes) x e =
    let g = if_some (is_digit b) (Some (b - 48, bytes)) x e in
    let range = digit_range b g.0 in
    let back : b ≡ 48 + (b - 48) = omega arith in
    subst (λ (y : ℕ × List ℕ). (y.0 < 10) × (b ∷ bytes ≡ (48 + y.0) ∷ y.1)) (some_is (b - 48, bytes) x g.1) (omega arith, ap (λ (c : ℕ). c ∷ bytes) back)

pub u64_take : (bytes : List ℕ) (x : ℕ × List ℕ) → u64_at bytes ≡ Some x → (x.0 < 2 ^ 64) × (bytes ≡ decimal x.0 ++ x.1)
unfolding u64_at
u64_take bytes x e =
    let a = bind_some (digit_at bytes) (λ d. cond (eqb d.0 0) (Some (0, d.1)) (digits_at d.0 d.1)) x e in
    let first = digit_takes bytes a.0 a.1 in
    let text : bytes ≡ decimal a.0.0 ++ a.0.1 = first.1 ∙ ap (λ (d : List ℕ). d ++ a.0.1) (sym (decimal_digit a.0.0 first.0)) in
    elim (chosen (eqb a.0.0 0) (Some (0, a.0.1)) (digits_at a.0.0 a.0.1) (Some x) a.2) [
      | inl t ↦
          let zero-is : a.0.0 ≡ 0 = eqb-true a.0.0 0 t.0 in
          subst (λ (y : ℕ × List ℕ). (y.0 < 2 ^ 64) × (bytes ≡ decimal y.0 ++ y.1)) (some_is (0, a.0.1) x t.1) (omega arith, text ∙ ap (λ (d : ℕ). decimal d ++ a.0.1) zero-is)
      | inr t ↦
          let apart : a.0.0 ≡ 0 → ⊥ = eqb-false a.0.0 0 t.0 in
          let pos : 0 < a.0.0 = omega arith in
          let more = digits_take a.0.1 a.0.0 x pos (omega (arith, first.0)) t.1 in
          (more.0, text ∙ more.1)
    ]

-- reading the digits of n comes to where the reader goes on behind them
abbrev ComesTo : ℕ → List ℕ → Type 0
ComesTo n ds = 0 < n → n < 2 ^ 64 → (rest : List ℕ) → u64_at (ds ++ rest) ≡ digits_at n rest

comes_to_one : (n : ℕ) → n < 10 → ComesTo n ((48 + n) ∷ [])
unfolding u64_at digit_at
comes_to_one n small pos fits rest =
    let not_zero : eqb n 0 ≡ false = ne_eqb n 0 (omega arith) in
    let digit : is_digit (48 + n) ≡ true = digit_from (48 + n) (omega arith) (omega arith) in
    let back : 48 + n - 48 ≡ n = omega arith in
    rw (digit, back, not_zero) refl

comes_to_more : (n : ℕ) (ds : List ℕ) → 10 ≤ n → ComesTo (n / 10) ds → ComesTo n (ds ++ ((48 + n % 10) ∷ []))
unfolding digits_at
comes_to_more n ds large prefix pos fits rest =
    let digit : is_digit (48 + n % 10) ≡ true = digit_from (48 + n % 10) (omega arith) (omega arith) in
    let back : n / 10 * 10 + (48 + n % 10 - 48) ≡ n = omega arith in
    let small : ltb n (2 ^ 64) ≡ true = lt-ltb n (2 ^ 64) fits in
    let one : u64_at ((ds ++ ((48 + n % 10) ∷ [])) ++ rest) ≡ digits_at (n / 10) ((48 + n % 10) ∷ rest) = ap u64_at (append_assoc ds ((48 + n % 10) ∷ []) rest)
    ∙ prefix (omega arith) (omega arith) ((48 + n % 10) ∷ rest) in
    one ∙ rw (digit, back, small) refl

digits_end : (n : ℕ) (rest : List ℕ) → NoDigit rest → digits_at n rest ≡ Some (n, rest)
unfolding digits_at
digits_end n [] e = refl
digits_end n (b ∷ rest) e = rw e refl

pub u64_again : (n : ℕ) (rest : List ℕ) → n < 2 ^ 64 → NoDigit rest → u64_at (decimal n ++ rest) ≡ Some (n, rest)
unfolding u64_at digit_at
u64_again zero rest fits e = rw (decimal_digit 0 (omega arith)) refl
u64_again (suc n) rest fits e =
    decimal_by_steps ComesTo comes_to_one comes_to_more (suc n) fits (omega arith) fits rest ∙ digits_end (suc n) rest e

pub u64_reads : ReadsOpen ℕ IsU64 decimal NoDigit u64_at
u64_reads = record { takes = u64_take; again = u64_again }

pub u32_reads : ReadsOpen ℕ IsU32 decimal NoDigit u32_at
unfolding u32_at
u32_reads = record {
  takes = λ bytes x e.
      let a = bind_some (u64_at bytes) (below (2 ^ 32)) x e in
      let g = if_some (ltb a.0.0 (2 ^ 32)) (Some a.0) x a.2 in
      let t = u64_take bytes a.0 a.1 in
      subst (λ (y : ℕ × List ℕ). (y.0 < 2 ^ 32) × (bytes ≡ decimal y.0 ++ y.1)) (some_is a.0 x g.1) (ltb-true a.0.0 (2 ^ 32) g.0, t.1);
  again = λ n rest fits e. rw (u64_again n rest (omega arith) e, lt-ltb n (2 ^ 32) fits) refl;
}

-- what follows the first digit doesn't matter
pub first_digit : (n : ℕ) (rest : List ℕ) → n < 2 ^ 64 → starts_with_digit (decimal n ++ rest) ≡ true
first_digit n rest fits = decimal_by_steps (λ n ds. (rest : List ℕ) → starts_with_digit (ds ++ rest) ≡ true) (λ n small rest. digit_from (48 + n) (omega arith) (omega arith))
    (λ n ds large prefix rest. ap starts_with_digit (append_assoc ds ((48 + n % 10) ∷ []) rest) ∙ prefix ((48 + n % 10) ∷ rest)) n fits rest

-- a reader takes nothing from behind
pub shorter : {X : Type 0} (F : X → Type 0) (s : X → List ℕ) (p : List ℕ → Option (X × List ℕ)) → ReadsOpen X F s NoDigit p → (bytes : List ℕ) (x : X) (rest : List ℕ)
    → p bytes ≡ Some (x, rest) → length rest ≤ length bytes
shorter F s p r bytes x rest e = omega (arith, ap length (r.takes bytes (x, rest) e).1, length-append (s x) rest)
