-- A list that is read is encoded as it was written, and what was written is read again.
use Rattle.std.proofs.Common.{◌≡◌, ℕ, zero, suc, ◌≤◌, Bool, true, false, cond, eqb, List, [], ◌∷◌, ◌++◌, length, Option, Some, None, refl, sym, ap, subst, ◌∙◌, append_assoc, arith, inl, inr}
use Rattle.std.specs.Prelude.{codes}
use Rattle.std.specs.Fmt.{decimal}
use Rattle.std.specs.List.{AllByRecursion}
use Rattle.std.proofs.lemmas.Bool.{ne_eqb, eqb-false}
use Rattle.std.proofs.lemmas.List.{length-append}
use Rattle.relationships.specs.declared.walk.Link.{Link}
use Rattle.result_text.specs.Ranges.{LinkFits}
use Rattle.text_fields.specs.Fields.{IsU32}
use Rattle.result_text.specs.declared.line.Version.{Version}
use Rattle.result_text.specs.declared.line.Version.TheVariants as version
use Rattle.result_text.specs.Text.{numbers_text, path_name, link, links, spaced, others}
use Rattle.result_text.specs.Reading.{others_at, with_prefix, field_ends, list_at, link_from, positive_at, path_name_at, link_at}
use Rattle.text_fields.specs.Reading.{◌>>=◌, word_at, u32_at, before, both, mapped}
use Rattle.text_fields.proofs.Readers.{bind_some, some_is, on_word_takes, on_word_none, ReadsOpen, before_reads, both_open, starts_with_digit, NoDigit, digit_range, chosen, u32_reads, first_digit}

-- ---- lists

abbrev pub starts_with_space : List ℕ → Bool
starts_with_space [] = false
starts_with_space (b ∷ rest) = eqb b 32

-- what ends a list
abbrev pub EndsList : List ℕ → Type 0
EndsList rest = (starts_with_digit rest ≡ false) × (starts_with_space rest ≡ false) × (field_ends rest ≡ true)

-- a member ends where no digit stands, and begins with something that doesn't end the field
pub record IsMember (X : Type 0) (Fits : X → Type 0) (encode : X → List ℕ) (read : List ℕ → Option (X × List ℕ)) : Type 0 where
  pub reads : ReadsOpen X Fits encode NoDigit read
  pub first : (x : X) (rest : List ℕ) → Fits x → field_ends (encode x ++ rest) ≡ false

others_take : (X : Type 0) (F : X → Type 0) (s : X → List ℕ) (p : List ℕ → Option (X × List ℕ)) → ReadsOpen X F s NoDigit p → (k : ℕ) (bytes : List ℕ) (z : List X × List ℕ)
    → others_at p k bytes ≡ Some z → AllByRecursion F z.0 × (bytes ≡ others s z.0 ++ z.1)
unfolding others_at
others_take X F s p r zero bytes z e =
    subst (λ (y : List X × List ℕ). AllByRecursion F y.0 × (bytes ≡ others s y.0 ++ y.1)) (some_is ([], bytes) z e) (tt, refl)
others_take X F s p r (suc k) bytes z e =
    elim (on_word_takes (32 ∷ []) (λ rest. p rest >>= λ x. others_at p k x.1 >>= λ xs. Some (x.0 ∷ xs.0, xs.1)) (λ rest. Some ([], rest)) bytes z e) [
      | inl t ↦
          let a = bind_some (p t.0) (λ x. others_at p k x.1 >>= λ xs. Some (x.0 ∷ xs.0, xs.1)) z t.2 in
          let c = bind_some (others_at p k a.0.1) (λ xs. Some (a.0.0 ∷ xs.0, xs.1)) z a.2 in
          let one = r.takes t.0 a.0 a.1 in
          let more = others_take X F s p r k a.0.1 c.0 c.1 in
          let made : List X × List ℕ = (a.0.0 ∷ c.0.0, c.0.1) in
          let rest : t.0 ≡ (s a.0.0 ++ others s c.0.0) ++ c.0.1 = one.1 ∙ ap (λ (y : List ℕ). s a.0.0 ++ y) more.1 ∙ sym (append_assoc (s a.0.0) (others s c.0.0) c.0.1) in
          let parts : bytes ≡ others s (a.0.0 ∷ c.0.0) ++ c.0.1 = t.1 ∙ ap (λ (y : List ℕ). 32 ∷ y) rest in
          subst (λ (y : List X × List ℕ). AllByRecursion F y.0 × (bytes ≡ others s y.0 ++ y.1)) (some_is made z c.2) ((one.0, more.0), parts)
      | inr t ↦
          subst (λ (y : List X × List ℕ). AllByRecursion F y.0 × (bytes ≡ others s y.0 ++ y.1)) (some_is ([], bytes) z t) (tt, refl)
    ]

others_end : {X : Type 0} (s : X → List ℕ) (xs : List X) (rest : List ℕ) → NoDigit rest → NoDigit (others s xs ++ rest)
others_end s [] rest e = e
others_end s (x ∷ xs) rest e = refl

others_again : (X : Type 0) (F : X → Type 0) (s : X → List ℕ) (p : List ℕ → Option (X × List ℕ)) → ReadsOpen X F s NoDigit p → (xs : List X) (k : ℕ) (rest : List ℕ)
    → length xs ≤ k → AllByRecursion F xs → EndsList rest → others_at p k (others s xs ++ rest) ≡ Some (xs, rest)
unfolding others_at
others_again X F s p r [] zero rest long fits ends = refl
others_again X F s p r [] (suc k) [] long fits ends = refl
others_again X F s p r [] (suc k) (b ∷ rest) long fits ends =
    let none : word_at (32 ∷ []) (b ∷ rest) ≡ None = rw ends.1 refl in
    on_word_none (32 ∷ []) (λ rest. p rest >>= λ x. others_at p k x.1 >>= λ xs. Some (x.0 ∷ xs.0, xs.1)) (λ rest. Some ([], rest)) (b ∷ rest) none
others_again X F s p r (x ∷ xs) zero rest long fits ends = absurd (omega arith)
others_again X F s p r (x ∷ xs) (suc k) rest long fits ends =
    let one : p ((s x ++ others s xs) ++ rest) ≡ Some (x, others s xs ++ rest) = ap p (append_assoc (s x) (others s xs) rest) ∙ r.again x (others s xs ++ rest) fits.0 (others_end s xs rest ends.0) in
    let more : others_at p k (others s xs ++ rest) ≡ Some (xs, rest) = others_again X F s p r xs k rest (omega arith) fits.1 ends in
    rw (one, more) refl

length_others : {X : Type 0} (s : X → List ℕ) (xs : List X) → length xs ≤ length (others s xs)
length_others s [] = omega arith
length_others s (x ∷ xs) = omega (arith, length_others s xs, length-append (s x) (others s xs))

list_again : (X : Type 0) (F : X → Type 0) (s : X → List ℕ) (p : List ℕ → Option (X × List ℕ)) → IsMember X F s p → (xs : List X) (rest : List ℕ) → AllByRecursion F xs → EndsList rest
    → list_at p (spaced s xs ++ rest) ≡ Some (xs, rest)
unfolding list_at
list_again X F s p m [] rest fits ends = rw ends.2 refl
list_again X F s p m (x ∷ xs) rest fits ends =
    let more_is : field_ends ((s x ++ others s xs) ++ rest) ≡ false = ap field_ends (append_assoc (s x) (others s xs) rest) ∙ m.first x (others s xs ++ rest) fits.0 in
    let one : p ((s x ++ others s xs) ++ rest) ≡ Some (x, others s xs ++ rest) = ap p (append_assoc (s x) (others s xs) rest)
    ∙ m.reads.again x (others s xs ++ rest) fits.0 (others_end s xs rest ends.0) in
    let long : length xs ≤ length (others s xs ++ rest) = omega (arith, length_others s xs, length-append (others s xs) rest) in
    let more : others_at p (length (others s xs ++ rest)) (others s xs ++ rest) ≡ Some (xs, rest) = others_again X F s p m.reads xs (length (others s xs ++ rest)) rest long fits.1 ends in
    rw (more_is, one, more) refl

pub list_reads : (X : Type 0) (F : X → Type 0) (s : X → List ℕ) (p : List ℕ → Option (X × List ℕ)) → IsMember X F s p → ReadsOpen (List X) (AllByRecursion F) (spaced s) EndsList (list_at p)
unfolding list_at
list_reads X F s p m = record {
  takes = λ bytes z e.
      elim (chosen (field_ends bytes) (Some ([], bytes)) (p bytes >>= λ x. with_prefix (x.0 ∷ []) (others_at p (length x.1) x.1)) (Some z) e) [
        | inl t ↦
            subst (λ (y : List X × List ℕ). AllByRecursion F y.0 × (bytes ≡ spaced s y.0 ++ y.1)) (some_is ([], bytes) z t.1) (tt, refl)
        | inr t ↦
            let a = bind_some (p bytes) (λ x. with_prefix (x.0 ∷ []) (others_at p (length x.1) x.1)) z t.1 in
            let c = bind_some (others_at p (length a.0.1) a.0.1) (λ xs. Some (a.0.0 ∷ xs.0, xs.1)) z a.2 in
            let one = m.reads.takes bytes a.0 a.1 in
            let more = others_take X F s p m.reads (length a.0.1) a.0.1 c.0 c.1 in
            let made : List X × List ℕ = (a.0.0 ∷ c.0.0, c.0.1) in
            let parts : bytes ≡ (s a.0.0 ++ others s c.0.0) ++ c.0.1 = one.1 ∙ ap (λ (y : List ℕ). s a.0.0 ++ y) more.1 ∙ sym (append_assoc (s a.0.0) (others s c.0.0) c.0.1) in
            subst (λ (y : List X × List ℕ). AllByRecursion F y.0 × (bytes ≡ spaced s y.0 ++ y.1)) (some_is made z c.2) ((one.0, more.0), parts)
      ];
  again = list_again X F s p m;
}

-- ---- links

-- a digit doesn't end a field
digit_goes_on : (bytes : List ℕ) → starts_with_digit bytes ≡ true → field_ends bytes ≡ false
digit_goes_on [] e = absurd cc
digit_goes_on (b ∷ bytes) e =
    let range = digit_range b e in
    rw (ne_eqb b 124 (omega (arith, range.1)), ne_eqb b 10 (omega (arith, range.0))) refl

pub u32_member : IsMember ℕ IsU32 decimal u32_at
u32_member = record { reads = u32_reads; first = λ n rest fits. digit_goes_on (decimal n ++ rest) (first_digit n rest (omega arith)) }

-- the name of a path that isn't 0 is its number
named : (n : ℕ) → (n ≡ 0 → ⊥) → path_name version.Two n ≡ decimal n
named zero h = absurd (h refl)
named (suc n) h = refl

-- no digit is the letter g
no_letter : (bytes : List ℕ) → starts_with_digit bytes ≡ true → word_at (codes "g") bytes ≡ None
no_letter [] e = absurd cc
no_letter (b ∷ bytes) e = rw (ne_eqb b 103 (omega (arith, (digit_range b e).1))) refl

positive_takes : (bytes : List ℕ) (x : ℕ × List ℕ) → positive_at bytes ≡ Some x → IsU32 x.0 × (bytes ≡ path_name version.Two x.0 ++ x.1)
unfolding positive_at
positive_takes bytes x e =
    let a = bind_some (u32_at bytes) (λ y. cond (eqb y.0 0) None (Some y)) x e in
    let t = u32_reads.takes bytes a.0 a.1 in
    elim (chosen (eqb a.0.0 0) None (Some a.0) (Some x) a.2) [
      | inl none ↦ absurd (none_is none.1)
      | inr some ↦
          let text : bytes ≡ path_name version.Two a.0.0 ++ a.0.1 = t.1 ∙ ap (λ (y : List ℕ). y ++ a.0.1) (sym (named a.0.0 (eqb-false a.0.0 0 some.0))) in
          subst (λ (y : ℕ × List ℕ). IsU32 y.0 × (bytes ≡ path_name version.Two y.0 ++ y.1)) (some_is a.0 x some.1) (t.0, text)
    ]
  where
    none_is : (let none : Option (ℕ × List ℕ) = None in none) ≡ Some x → ⊥
    none_is e = absurd cc

name_takes : (v : Version) (bytes : List ℕ) (x : ℕ × List ℕ) → path_name_at v bytes ≡ Some x → IsU32 x.0 × (bytes ≡ path_name v x.0 ++ x.1)
unfolding path_name_at
name_takes version.One bytes x e = u32_reads.takes bytes x e
name_takes version.Two bytes x e =
    elim (on_word_takes (codes "g") (λ rest. Some (0, rest)) positive_at bytes x e) [
      | inl t ↦
          subst (λ (y : ℕ × List ℕ). IsU32 y.0 × (bytes ≡ path_name version.Two y.0 ++ y.1)) (some_is (0, t.0) x t.2) (omega arith, t.1)
      | inr t ↦ positive_takes bytes x t
    ]

name_again : (v : Version) (n : ℕ) (rest : List ℕ) → IsU32 n → NoDigit rest → path_name_at v (path_name v n ++ rest) ≡ Some (n, rest)
unfolding path_name_at positive_at
name_again version.One n rest fits ends = u32_reads.again n rest fits ends
name_again version.Two zero rest fits ends = refl
name_again version.Two (suc n) rest fits ends =
    let bytes = decimal (suc n) ++ rest in
    let number : word_at (codes "g") bytes ≡ None = no_letter bytes (first_digit (suc n) rest (omega arith)) in
    let read : u32_at bytes ≡ Some (suc n, rest) = u32_reads.again (suc n) rest fits ends in
    on_word_none (codes "g") (λ rest. Some (0, rest)) positive_at bytes number ∙ rw (read, ne_eqb (suc n) 0 (omega arith)) refl

name_reads : (v : Version) → ReadsOpen ℕ IsU32 (path_name v) NoDigit (path_name_at v)
name_reads v = record { takes = name_takes v; again = name_again v }

-- a path's name doesn't end a field
name_goes_on : (v : Version) (n : ℕ) (rest : List ℕ) → IsU32 n → field_ends (path_name v n ++ rest) ≡ false
name_goes_on version.One n rest fits = digit_goes_on (decimal n ++ rest) (first_digit n rest (omega arith))
name_goes_on version.Two zero rest fits = refl
name_goes_on version.Two (suc n) rest fits = digit_goes_on (decimal (suc n) ++ rest) (first_digit (suc n) rest (omega arith))

link_reads : (v : Version) → ReadsOpen Link LinkFits (link v) NoDigit (link_at v)
unfolding link_at
link_reads v =
    let path = before_reads ℕ IsU32 (path_name v) NoDigit (path_name_at v) 58 (name_reads v) (λ rest. refl) in
    let parts = both_open ℕ ℕ IsU32 IsU32 (λ n. path_name v n ++ 58 ∷ []) decimal NoDigit (before 58 (path_name_at v)) u32_at path u32_reads in
    record {
      takes = λ bytes z e.
          let a = bind_some (both (before 58 (path_name_at v)) u32_at bytes) (λ x. Some (link_from x.0, x.1)) z e in
          let t = parts.takes bytes a.0 a.1 in
          let made : Link × List ℕ = (link_from a.0.0, a.0.1) in
          let encoded : bytes ≡ link v made.0 ++ made.1 = t.1 ∙ ap (λ (y : List ℕ). y ++ a.0.1) (append_assoc (path_name v a.0.0.0) (58 ∷ []) (decimal a.0.0.1)) in
          subst (λ (y : Link × List ℕ). LinkFits y.0 × (bytes ≡ link v y.0 ++ y.1)) (some_is made z a.2) (t.0, encoded);
      again = λ l rest fits ends.
          let regrouped : link v l ++ rest ≡ ((path_name v l.path ++ 58 ∷ []) ++ decimal l.at) ++ rest =
          ap (λ (y : List ℕ). y ++ rest) (sym (append_assoc (path_name v l.path) (58 ∷ []) (decimal l.at))) in
          ap (λ (y : List ℕ). mapped link_from (both (before 58 (path_name_at v)) u32_at) y) regrouped ∙ rw (parts.again (l.path, l.at) rest fits ends) refl;
    }

pub link_member : (v : Version) → IsMember Link LinkFits (link v) (link_at v)
link_member v = record {
  reads = link_reads v;
  first = λ l rest fits. ap field_ends (append_assoc (path_name v l.path) (58 ∷ decimal l.at) rest)
      ∙ name_goes_on v l.path (58 ∷ decimal l.at ++ rest) fits.0;
}

pub numbers_reads : ReadsOpen (List ℕ) (AllByRecursion IsU32) numbers_text EndsList (list_at u32_at)
numbers_reads = list_reads ℕ IsU32 decimal u32_at u32_member

pub links_reads : (v : Version) → ReadsOpen (List Link) (AllByRecursion LinkFits) (links v) EndsList (list_at (link_at v))
links_reads v = list_reads Link LinkFits (link v) (link_at v) (link_member v)
