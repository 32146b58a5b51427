-- What lists of AS numbers are, and how they are read from left to right.
use Rattle.std.proofs.Common.{◌≡◌, ◌≢◌, ℕ, ◌+◌, ◌<◌, ◌≤◌, ◌^◌, ◌%◌, ◌⊎◌, inl, inr, ◌==◌, List, [], ◌∷◌, ◌++◌, length, map, All, Option, Some, None, refl, sym, ap, ap₂, ◌∙◌, subst, arith, append_assoc, append-nil}
use Rattle.std.proofs.lemmas.Bool.{cases_Bool, eqb-true, ne_eqb}
use Rattle.std.proofs.lemmas.List.{nil_from_length}
use Rattle.std.proofs.lemmas.Fmt.{decimal_by_steps}
use Rattle.std.specs.Fmt.{decimal}
use Rattle.std.proofs.lemmas.Option.{none-some, same_Some}
use Rattle.std.proofs.lemmas.List.Elements.{All-nil, All-cons, All-head, All-tail}
use Rattle.std.specs.List.{AllByRecursion, join_with_byte}
use Rattle.clap.specs.Words.{Text}
use Rattle.text_fields.specs.Fields.{IsU32}
use Rattle.text_fields.specs.Reading.{◌>>=◌, u32_at, word_at}
use Rattle.text_fields.proofs.Readers.{u32_reads, bind_some, some_is, word_takes, shorter}
use Rattle.tor_words.specs.AsLists.{onto_part, comma_parts, whole_number, as_number, numbers_listed, as_list, AsListLaw}

-- ---- parts

-- no octet is a comma
abbrev NoComma : Text → Type 0
NoComma text = AllByRecursion (λ b. b ≢ 44) text

parts_comma : (p more : Text) → NoComma p → comma_parts (p ++ 44 ∷ more) ≡ p ∷ comma_parts more
parts_comma [] more h = refl
parts_comma (b ∷ p) more h = rw (ne_eqb b 44 h.0) (ap (onto_part b) (parts_comma p more h.1))

parts_end : (p : Text) → NoComma p → comma_parts p ≡ p ∷ []
parts_end [] h = refl
parts_end (b ∷ p) h = rw (ne_eqb b 44 h.0) (ap (onto_part b) (parts_end p h.1))

-- the first part, and what stands behind it
pub record FirstPart (text : Text) : Type 0 where
  pub part : Text
  pub parts : List Text
  pub are : comma_parts text ≡ part ∷ parts
  pub whole : (text ≡ part) ⊎ ((behind : Text) × (text ≡ part ++ 44 ∷ behind))

first_part : (text : Text) → FirstPart text
first_part [] = record { part = []; parts = []; are = refl; whole = inl refl }
first_part (b ∷ text) =
    elim (cases_Bool (b == 44)) [
      | inl t ↦ (let same = eqb-true b 44 t in record { part = []; parts = comma_parts text; are = rw t refl; whole = inr (text, ap (λ c. c ∷ text) same) })
      | inr f ↦
          let rest = first_part text in
          record {
            part = b ∷ rest.part;
            parts = rest.parts;
            are = rw f (ap (onto_part b) rest.are);
            whole = elim rest.whole [ inl e ↦ inl (ap (λ (t : Text). b ∷ t) e) | inr e ↦ inr (e.0, ap (λ (t : Text). b ∷ t) e.1) ];
          }
    ]

-- ---- numbers

no_comma_joined : (p q : Text) → NoComma p → NoComma q → NoComma (p ++ q)
no_comma_joined [] q h k = k
no_comma_joined (b ∷ p) q h k = (h.0, no_comma_joined p q h.1 k)

digits_alone : (n : ℕ) → n < 2 ^ 64 → NoComma (decimal n)
digits_alone n fits =
    decimal_by_steps (λ n ds. NoComma ds) (λ n small. ((λ e. absurd (omega (arith, e))), tt))
    (λ n ds large prefix. no_comma_joined ds ((48 + n % 10) ∷ []) prefix ((λ e. absurd (omega (arith, e))), tt)) n fits

-- a text that is a number
is_number : (text : Text) (n : ℕ) → as_number text ≡ Some n → IsU32 n × (text ≡ decimal n)
is_number text n e =
    let a = bind_some (u32_at text) whole_number n e in
    let takes = u32_reads.takes text a.0 a.1 in
    by a.0 takes a.2
  where
    by : (x : ℕ × Text) → IsU32 x.0 × (text ≡ decimal x.0 ++ x.1) → whole_number x ≡ Some n → IsU32 n × (text ≡ decimal n)
    by (m, []) t e = let same = some_is m n e in subst (λ k. IsU32 k × (text ≡ decimal k)) same (t.0, t.1 ∙ append-nil (decimal m))
    by (m, b ∷ rest) t e = absurd (cc e)

number_again : (n : ℕ) → IsU32 n → as_number (decimal n) ≡ Some n
number_again n fits =
    ap (λ o. o >>= whole_number) (ap u32_at (sym (append-nil (decimal n))) ∙ u32_reads.again n [] fits refl)

-- ---- step by step

pub list_end : (text : Text) (n : ℕ) → u32_at text ≡ Some (n, []) → as_list text ≡ Some (n ∷ [])
list_end text n is =
    let takes = u32_reads.takes text (n, []) is in
    let fits = takes.0 in
    let same : text ≡ decimal n = takes.1 ∙ append-nil (decimal n) in
    ap numbers_listed (ap comma_parts same ∙ parts_end (decimal n) (digits_alone n (omega (arith, fits)))) ∙ rw (number_again n fits) refl

pub list_more : (text more : Text) (n : ℕ) → u32_at text ≡ Some (n, 44 ∷ more) → as_list text ≡ (as_list more >>= λ ases. Some (n ∷ ases))
list_more text more n is =
    let takes = u32_reads.takes text (n, 44 ∷ more) is in
    let fits = takes.0 in
    ap numbers_listed (ap comma_parts takes.1 ∙ parts_comma (decimal n) more (digits_alone n (omega (arith, fits)))) ∙ rw (number_again n fits) refl

-- a list begins with a number, and behind this stands nothing or a comma
begins : (text : Text) → (as_list text ≡ None) ⊎ ((n : ℕ) × ((u32_at text ≡ Some (n, [])) ⊎ ((more : Text) × (u32_at text ≡ Some (n, 44 ∷ more)))))
begins text =
    let first = first_part text in by first (as_number first.part) refl
  where
    by : (f : FirstPart text) (o : Option ℕ) → as_number f.part ≡ o →
        (as_list text ≡ None) ⊎ ((n : ℕ) × ((u32_at text ≡ Some (n, [])) ⊎ ((more : Text) × (u32_at text ≡ Some (n, 44 ∷ more)))))
    by f None e = inl (ap numbers_listed f.are ∙ rw e refl)
    by f (Some n) e =
        let is = is_number f.part n e in
        inr (
          n,
          elim f.whole [
            | inl same ↦ inl (ap u32_at (same ∙ is.1 ∙ sym (append-nil (decimal n))) ∙ u32_reads.again n [] is.0 refl)
            | inr w ↦ inr (w.0, ap u32_at (w.1 ∙ ap (λ (p : Text). p ++ 44 ∷ w.0) is.1) ∙ u32_reads.again n (44 ∷ w.0) is.0 refl)
          ],
        )

pub list_none : (text : Text) → u32_at text ≡ None → as_list text ≡ None
list_none text none = elim (begins text) [
  | inl is ↦ is
  | inr n ↦ elim n.1 [ inl e ↦ absurd (none-some (n.0, []) (sym none ∙ e)) | inr m ↦ absurd (none-some (n.0, 44 ∷ m.0) (sym none ∙ m.1)) ]
]

pub list_other : (text behind : Text) (n : ℕ) → u32_at text ≡ Some (n, behind) → behind ≢ [] → word_at (44 ∷ []) behind ≡ None → as_list text ≡ None
list_other text behind n is some other = elim (begins text) [
  | inl is ↦ is
  | inr m ↦ elim m.1 [
    | inl e ↦ (let same : behind ≡ [] = tail (sym is ∙ e) in absurd (some same))
    | inr w ↦ (let same : behind ≡ 44 ∷ w.0 = tail (sym is ∙ w.1) in absurd (taken w.0 (ap (word_at (44 ∷ [])) (sym same) ∙ other)))
  ]
]
  where
    tail : {a b : ℕ} {s t : Text} → ◌≡◌ {A = Option (ℕ × Text)} (Some (a, s)) (Some (b, t)) → s ≡ t
    tail {a} {b} {s} {t} e = ap (λ (q : ℕ × Text). q.1) (same_Some (a, s) (b, t) e)

    taken : (rest : Text) → word_at (44 ∷ []) (44 ∷ rest) ≡ None → ⊥
    taken rest e = cc

-- ---- what a text that lists numbers is

joined : (text : Text) → join_with_byte 44 (comma_parts text) ≡ text
joined [] = refl
joined (b ∷ text) =
    elim (cases_Bool (b == 44)) [
      | inl t ↦ (let first = first_part text in rw t (ap (λ ps. join_with_byte 44 ([] ∷ ps)) first.are ∙ ap (λ ps. 44 ∷ join_with_byte 44 ps) (sym first.are) ∙
          ap₂ (λ c (u : Text). c ∷ u) (sym (eqb-true b 44 t)) (joined text)))
      | inr f ↦ rw f (put (comma_parts text) ∙ ap (λ (u : Text). b ∷ u) (joined text))
    ]
  where
    put : (ps : List Text) → join_with_byte 44 (onto_part b ps) ≡ b ∷ join_with_byte 44 ps
    put [] = refl
    put (p ∷ []) = refl
    put (p ∷ q ∷ ps) = refl

are_numbers : (parts : List Text) (ases : List ℕ) → numbers_listed parts ≡ Some ases → All IsU32 ases × (parts ≡ map decimal ases)
are_numbers [] ases e = let same = some_is [] ases e in subst (λ ns. All IsU32 ns × ([] ≡ map decimal ns)) same (All-nil IsU32, refl)
are_numbers (part ∷ parts) ases e =
    let a = bind_some (as_number part) (λ n. numbers_listed parts >>= λ more. Some (n ∷ more)) ases e in
    let b = bind_some (numbers_listed parts) (λ more. Some (a.0 ∷ more)) ases a.2 in
    let first = is_number part a.0 a.1 in
    let rest = are_numbers parts b.0 b.1 in
    subst (λ ns. All IsU32 ns × (part ∷ parts ≡ map decimal ns)) (some_is (a.0 ∷ b.0) ases b.2)
    (All-cons IsU32 a.0 b.0 first.0 rest.0, ap₂ (λ (p : Text) ps. p ∷ ps) first.1 rest.1)

numbers_again : (ases : List ℕ) → All IsU32 ases → numbers_listed (map decimal ases) ≡ Some ases
numbers_again [] h = refl
numbers_again (n ∷ ases) h = rw (number_again n (All-head IsU32 n ases h), numbers_again ases (All-tail IsU32 n ases h)) refl

parts_again : (n : ℕ) (ases : List ℕ) → All IsU32 (n ∷ ases) → comma_parts (join_with_byte 44 (map decimal (n ∷ ases))) ≡ map decimal (n ∷ ases)
parts_again n [] h = let fits = All-head IsU32 n [] h in parts_end (decimal n) (digits_alone n (omega (arith, fits)))
parts_again n (m ∷ ases) h =
    let fits = All-head IsU32 n (m ∷ ases) h in
    parts_comma (decimal n) (join_with_byte 44 (map decimal (m ∷ ases))) (digits_alone n (omega (arith, fits))) ∙
    ap (λ (ps : List Text). decimal n ∷ ps) (parts_again m ases (All-tail IsU32 n (m ∷ ases) h))

pub as_list_law : AsListLaw
as_list_law text ases = (
  λ e.
      let are = are_numbers (comma_parts text) ases e in
      (some ases (first_part text) are.1, are.0, sym (joined text) ∙ ap (join_with_byte 44) are.1),
  λ h. again ases h,
)
  where
    some : (ases : List ℕ) → FirstPart text → comma_parts text ≡ map decimal ases → 1 ≤ length ases
    some [] f e = let none : f.part ∷ f.parts ≡ [] = sym f.are ∙ e in absurd (cc none)
    some (n ∷ ases) f e = omega arith

    again : (ases : List ℕ) → (1 ≤ length ases) × All IsU32 ases × (text ≡ join_with_byte 44 (map decimal ases)) → as_list text ≡ Some ases
    again [] h = absurd (omega (arith, h.0))
    again (n ∷ ases) h = ap numbers_listed (ap comma_parts h.2 ∙ parts_again n ases h.1) ∙ numbers_again (n ∷ ases) h.1

-- ---- what was read so far, and what is left

abbrev pub IsLeft : (whole rest : Text) → List ℕ → Type 0
IsLeft whole rest so_far = as_list whole ≡ (as_list rest >>= λ more. Some (so_far ++ more))

module _ (whole rest : Text) (so_far : List ℕ) (left : IsLeft whole rest so_far) where
  goes_on : {o : Option (List ℕ)} → as_list rest ≡ o → as_list whole ≡ (o >>= λ more. Some (so_far ++ more))
  goes_on e = left ∙ ap (λ o. o >>= λ more. Some (so_far ++ more)) e

  pub left_more : (behind more : Text) (n : ℕ) (pushed : List ℕ) → Some (n, behind) ≡ u32_at rest → Some more ≡ word_at (44 ∷ []) behind → pushed ≡ so_far ++ n ∷ [] → IsLeft whole more pushed
  left_more behind more n pushed number comma is =
      let at : u32_at rest ≡ Some (n, 44 ∷ more) = sym number ∙ ap (λ (b : Text). Some (n, b)) (word_takes (44 ∷ []) behind more (sym comma)) in
      goes_on (list_more rest more n at) ∙ by (as_list more) ∙ ap (λ ns. as_list more >>= λ more. Some (ns ++ more)) (sym is)
    where
      by : (o : Option (List ℕ)) → ((o >>= λ ases. Some (n ∷ ases)) >>= λ more. Some (so_far ++ more)) ≡ (o >>= λ more. Some ((so_far ++ n ∷ []) ++ more))
      by None = refl
      by (Some ases) = ap (λ (ns : List ℕ). Some ns) (sym (append_assoc so_far (n ∷ []) ases))

  pub left_shorter : (behind more : Text) (n : ℕ) → Some (n, behind) ≡ u32_at rest → Some more ≡ word_at (44 ∷ []) behind → length more < length rest
  left_shorter behind more n number comma =
      let le = shorter IsU32 decimal u32_at u32_reads rest n behind (sym number) in
      let same = ap length (word_takes (44 ∷ []) behind more (sym comma)) in
      omega (arith, le, same)

  pub left_end : (behind : Text) (n : ℕ) (pushed : List ℕ) → Some (n, behind) ≡ u32_at rest → length behind ≡ 0 → pushed ≡ so_far ++ n ∷ [] → Some pushed ≡ as_list whole
  left_end behind n pushed number none is =
      let at : u32_at rest ≡ Some (n, []) = sym number ∙ ap (λ (b : Text). Some (n, b)) (nil_from_length behind none) in
      ap (λ (ns : List ℕ). Some ns) is ∙ sym (goes_on (list_end rest n at))

  pub left_other : (behind : Text) (n : ℕ) → Some (n, behind) ≡ u32_at rest → (length behind ≡ 0 → ⊥) → None ≡ word_at (44 ∷ []) behind → None ≡ as_list whole
  left_other behind n number some other = sym (goes_on (list_other rest behind n (sym number) (λ e. some (ap length e)) (sym other)))

  pub left_none : None ≡ u32_at rest → None ≡ as_list whole
  left_none none = sym (goes_on (list_none rest (sym none)))
